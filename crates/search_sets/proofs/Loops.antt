-- Loops over the members of a set, the lowest first.
use Prim.Native.Nat.{ℕ, zero, suc, ◌+◌, ◌-◌, ◌≤◌, ◌<◌}
use native.Mathlib.Omega.{arith}
use native.Mathlib.Nat.{eq-or-lt_of_le}
use native.Mathlib.Numerals.{add-one}
use mathlib.Core.Path.{◌≡◌, refl, sym, ap, ap₂, ◌∙◌}
use mathlib.Core.Bool.{Bool, true, false, not, cond, ◌&&◌, ◌||◌, and-true, or-false, or-true, or_assoc, false≢true, and-false, and_comm}
use mathlib.Core.Logic.{⊎_elim}
use lib.Dec.{eqb, ltb}
use borrow.Author.Tests.{eq-eqb, ne_eqb, eqb-true, eqb-false}
use Rattle.base.specs.Below.{any_below}
use Rattle.base.specs.Bits.{bit}
use Rattle.base.proofs.Bools.{agree, and_parts, and_both, split, is_false}
use Rattle.base.proofs.Tests.{any_passes, some_at}
use Rattle.std.specs.Prelude.{Option, Some, None}
use Rattle.std.specs.Option.{unwrap_or}
use Rattle.search_sets.specs.Set.{FirstFrom, holds, LowestMember, TakenOut, passing}
use Rattle.search_sets.proofs.Laws.{zero_has}

-- the empty set
pub holds_none : (k : ℕ) → holds 0 0 k ≡ false
unfolding holds
holds_none k = go (ltb k 64)
  where
    go : (b : Bool) → cond b (bit 0 k) (bit 0 (k - 64)) ≡ false
    go true = zero_has k
    go false = zero_has (k - 64)

-- numbers that fail change nothing
pub any_skips : (q : ℕ → Bool) (a b : ℕ) → a ≤ b → ((i : ℕ) → a ≤ i → i < b → q i ≡ false) → any_below b q ≡ any_below a q
unfolding any_below
any_skips q a zero l none = ap (λ (k : ℕ). any_below k q) (let z : 0 ≡ a = omega arith in z)
any_skips q a (suc b) l none =
    ⊎_elim (λ (e : a ≡ suc b). ap (λ (k : ℕ). any_below k q) (sym e))
    (λ (h : a < suc b). ap₂ ◌||◌ (any_skips q a b (omega arith) (λ i f g. none i f (omega arith))) (none b (omega arith) (omega arith)) ∙ or-false (any_below a q))
    (eq-or-lt_of_le l)

-- the lowest member, or 128 where there is none
pub first_or : (p : ℕ → Bool) (from : ℕ) (r : Option ℕ) → FirstFrom p from r → LowestMember p from 128 (unwrap_or r 128)
first_or p from (Some m) f = f.1
first_or p from None f = f

-- a set that has no lowest member has none
module _ (lo hi : ℕ) (empty : LowestMember (holds lo hi) 0 128 128) where
  pub none_left : (k : ℕ) → k < 128 → holds lo hi k ≡ false
  none_left k l = empty.none k (omega arith) l

  pub none_passes : (p : ℕ → Bool) → any_below 128 (λ k. holds lo hi k && p k) ≡ false
  none_passes p = is_false _ (λ t. let (k, l, h) = some_at (λ k. holds lo hi k && p k) 128 t in false≢true (sym (none_left k l) ∙ (and_parts (holds lo hi k) (p k) h).0))

  pub member_all : (k : ℕ) (passes : Bool) {so_far : Bool} → k < 128 → so_far ≡ (so_far || (holds lo hi k && passes))
  member_all k passes {so_far} l = sym (ap (λ (b : Bool). so_far || (b && passes)) (none_left k l) ∙ or-false so_far)

  -- nothing is added any more
  pub passes_all : (p : ℕ → Bool) {so_far : Bool} → so_far ≡ (so_far || any_below 128 (λ k. holds lo hi k && p k))
  passes_all p {so_far} = sym (ap (λ (b : Bool). so_far || b) (none_passes p) ∙ or-false so_far)

-- a member is taken out
module _ {lo hi m lo' hi' : ℕ} (t : TakenOut lo hi m lo' hi') where
  -- what is left, and it
  pub left_or : (k : ℕ) → holds lo hi k ≡ (holds lo' hi' k || eqb k m)
  left_or k = split (eqb k m)
      (λ e. ap (holds lo hi) (eqb-true k m e) ∙ t.lowest.here t.few ∙ sym (ap (λ (b : Bool). holds lo' hi' k || b) e ∙ or-true (holds lo' hi' k)))
      (λ n. sym (ap (λ (b : Bool). holds lo' hi' k || b) n ∙ or-false (holds lo' hi' k) ∙ t.left k ∙ ap (λ (b : Bool). holds lo hi k && not b) n ∙ and-true (holds lo hi k)))

  -- it passes, or one of those left does
  pub one_passes : (p : ℕ → Bool) → any_below 128 (λ k. holds lo hi k && p k) ≡ (p m || any_below 128 (λ k. holds lo' hi' k && p k))
  one_passes p = agree _ _
      (λ h. let (k, l, both) = some_at (λ k. holds lo hi k && p k) 128 h in
      let (a, b) = and_parts (holds lo hi k) (p k) both in
      split (eqb k m)
      (λ e. ap (λ (x : Bool). x || any_below 128 (λ k. holds lo' hi' k && p k)) (ap p (sym (eqb-true k m e)) ∙ b))
      (λ n. ap (λ (x : Bool). p m || x) (any_passes (λ k. holds lo' hi' k && p k) 128 k l (and_both (sym (or-false _) ∙ sym (ap (λ (x : Bool). holds lo' hi' k || x) n) ∙ sym (left_or k) ∙ a) b)) ∙ or-true (p m)))
      (λ h. split (p m)
      (λ e. any_passes (λ k. holds lo hi k && p k) 128 m t.few (and_both (t.lowest.here t.few) e))
      (λ n. let (k, l, both) = some_at (λ k. holds lo' hi' k && p k) 128 (sym (ap (λ (x : Bool). x || any_below 128 (λ k. holds lo' hi' k && p k)) n) ∙ h) in
      let (a, b) = and_parts (holds lo' hi' k) (p k) both in
      any_passes (λ k. holds lo hi k && p k) 128 k l (and_both (left_or k ∙ ap (λ (x : Bool). x || eqb k m) a) b)))

  -- what it adds, and what those left add
  pub passes_more : (p : ℕ → Bool) (so_far : Bool) {more all : Bool} → all ≡ (so_far || more) → more ≡ p m
      → (all || any_below 128 (λ k. holds lo' hi' k && p k)) ≡ (so_far || any_below 128 (λ k. holds lo hi k && p k))
  passes_more p so_far {more} {all} e f =
      ap (λ (b : Bool). b || any_below 128 (λ k. holds lo' hi' k && p k)) (e ∙ ap (λ (b : Bool). so_far || b) f)
      ∙ or_assoc so_far (p m) (any_below 128 (λ k. holds lo' hi' k && p k)) ∙ ap (λ (b : Bool). so_far || b) (sym (one_passes p))

  -- a number is in, or is one of those left and passes
  pub member_more : (k : ℕ) (passes so_far : Bool) {all : Bool} → all ≡ (so_far || (eqb k m && passes))
      → (all || (holds lo' hi' k && passes)) ≡ (so_far || (holds lo hi k && passes))
  member_more k passes so_far {all} e =
      ap (λ (b : Bool). b || (holds lo' hi' k && passes)) e ∙ go so_far (eqb k m) (holds lo' hi' k) passes ∙ ap (λ (b : Bool). so_far || (b && passes)) (sym (left_or k))
    where
      go : (s e h p : Bool) → ((s || (e && p)) || (h && p)) ≡ (s || ((h || e) && p))
      go true e h p = refl
      go false true true true = refl
      go false true true false = refl
      go false true false true = refl
      go false true false false = refl
      go false false h p = ap (λ (b : Bool). b && p) (sym (or-false h))

  -- the same, of the number's own test
  pub member_once : (k : ℕ) (p : ℕ → Bool) (so_far : Bool) {passes all : Bool} → passes ≡ p m → all ≡ (so_far || (passes && eqb k m))
      → (all || (holds lo' hi' k && p k)) ≡ (so_far || (holds lo hi k && p k))
  member_once k p so_far {passes} f e = member_more k (p k) so_far (e ∙ ap (λ (b : Bool). so_far || b)
      (split (eqb k m)
      (λ t. ap (λ (b : Bool). b && eqb k m) (f ∙ ap p (sym (eqb-true k m t))) ∙ and_comm (p k) (eqb k m))
      (λ n. ap (λ (b : Bool). passes && b) n ∙ and-false passes ∙ ap (λ (b : Bool). b && p k) (sym n))))

-- fewer are left
passing_same : (p q : ℕ → Bool) (n : ℕ) → ((k : ℕ) → k < n → p k ≡ q k) → passing n p ≡ passing n q
unfolding passing
passing_same p q zero h = refl
passing_same p q (suc n) h = ap₂ (λ (b : Bool) (c : ℕ). cond b 1 0 + c) (h n (omega arith)) (passing_same p q n (λ k l. h k (omega arith)))

passing_less : (p q : ℕ → Bool) (m n : ℕ) → m < n → p m ≡ true → ((k : ℕ) → q k ≡ (p k && not (eqb k m))) → passing n q < passing n p
unfolding passing
passing_less p q m zero l h less = absurd (omega arith)
passing_less p q m (suc n) l h less = split (eqb n m)
    (λ e. let same = eqb-true n m e in
    rw (less n, e, ap p same ∙ h) (let z : passing n q ≡ passing n p = passing_same q p n (λ k j. less k ∙ ap (λ (b : Bool). p k && not b) (ne_eqb k m (λ d. omega arith)) ∙ and-true (p k)) in omega (arith, z)))
    (λ e. rw (less n, e, and-true (p n)) (let z : passing n q < passing n p = passing_less p q m n (let y = eqb-false n m e in omega arith) h less in omega (arith, z)))

pub takes_fewer : {lo hi m lo' hi' : ℕ} → TakenOut lo hi m lo' hi' → passing 128 (holds lo' hi') < passing 128 (holds lo hi)
takes_fewer {lo} {hi} {m} {lo'} {hi'} t = passing_less (holds lo hi) (holds lo' hi') m 128 t.few (t.lowest.here t.few) t.left

-- The invariant of a loop over numbers: what held at the start still holds, and what the numbers below i add.
pub record Grown (start : ℕ → Bool) (adds : ℕ → ℕ → Bool) (now : ℕ → Bool) (i : ℕ) : Type 0 where
  pub has : (k : ℕ) → k < 128 → now k ≡ (start k || any_below i (λ v. adds v k))

pub grown_starts : (start : ℕ → Bool) (adds : ℕ → ℕ → Bool) → Grown start adds start 0
unfolding any_below
grown_starts start adds = record { has = λ k l. sym (or-false (start k)) }

module _ {start : ℕ → Bool} {adds : ℕ → ℕ → Bool} {now : ℕ → Bool} {i : ℕ} (g : Grown start adds now i) where
  -- what i adds taken in
  pub grown_more : (now' : ℕ → Bool) → ((k : ℕ) → k < 128 → now' k ≡ (now k || adds i k)) → Grown start adds now' (i + 1)
  unfolding any_below
  grown_more now' f = record {
    has = λ k l. f k l ∙ ap (λ (b : Bool). b || adds i k) (g.has k l) ∙ or_assoc (start k) (any_below i (λ v. adds v k)) (adds i k)
        ∙ sym (ap (λ (n : ℕ). start k || any_below n (λ v. adds v k)) (add-one i));
  }

-- all that the numbers below n add to the empty set
pub grown_all : {adds : ℕ → ℕ → Bool} {now : ℕ → Bool} {n i : ℕ} → Grown (holds 0 0) adds now i → i ≤ n → n ≤ i → (k : ℕ) → k < 128 → now k ≡ any_below n (λ v. adds v k)
grown_all {adds} {n = n} {i} g few all k l =
    g.has k l ∙ ap₂ (λ (b : Bool) (j : ℕ). b || any_below j (λ v. adds v k)) (holds_none k) (let z : i ≡ n = omega arith in z)

-- The same where each number that passes a test adds itself
pub record Taken (start test now : ℕ → Bool) (i : ℕ) : Type 0 where
  pub grown : Grown start (λ v k. test v && eqb k v) now i

pub taken_starts : (start test : ℕ → Bool) → Taken start test start 0
taken_starts start test = record { grown = grown_starts start (λ v k. test v && eqb k v) }

any_itself : (test : ℕ → Bool) (k i : ℕ) → k < i → any_below i (λ v. test v && eqb k v) ≡ test k
any_itself test k i l =
    agree (any_below i (λ v. test v && eqb k v)) (test k)
    (λ t. let (v, h, p) = some_at (λ v. test v && eqb k v) i t in let (a, b) = and_parts (test v) (eqb k v) p in ap test (eqb-true k v b) ∙ a)
    (λ t. any_passes (λ v. test v && eqb k v) i k l (and_both t (eq-eqb k k refl)))

module _ {start test now : ℕ → Bool} {i : ℕ} (g : Taken start test now i) where
  pub taken_on : (now' : ℕ → Bool) {r : Bool} → r ≡ test i → ((k : ℕ) → k < 128 → now' k ≡ (now k || (r && eqb k i))) → Taken start test now' (i + 1)
  taken_on now' h f = record { grown = grown_more g.grown now' (λ k l. f k l ∙ ap (λ (b : Bool). now k || (b && eqb k i)) h) }

  -- all are passed
  pub taken_ends : (k : ℕ) → k < 128 → k < i → now k ≡ (start k || test k)
  taken_ends k s l = g.grown.has k s ∙ ap (λ (b : Bool). start k || b) (any_itself test k i l)
