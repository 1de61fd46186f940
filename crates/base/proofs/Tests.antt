-- Loops that test the numbers below a bound, one after the other, and leave at the first that decides.
use Prim.Native.Nat.{ℕ, zero, suc, ◌+◌, ◌<◌, ◌≤◌}
use native.Mathlib.Nat.{le_antisymm, not-suc-le-zero, le_of_suc-le-suc, eq-or-lt_of_le}
use native.Mathlib.Numerals.{add-one}
use native.Mathlib.Omega.{arith}
use mathlib.Core.Path.{◌≡◌, refl, sym, ap, ap₂, ◌∙◌}
use mathlib.Core.Bool.{Bool, true, false, not, ◌&&◌, ◌||◌, and-false, and_assoc, and-true, or-true, or-false}
use mathlib.Core.List.{List, [], ◌∷◌, map}
use mathlib.Core.Logic.{⊎_elim}
use lib.ListN.{length, get_or}
use borrow.Author.Tests.{not-true, not-false}
use Rattle.base.specs.Lists.{all, any, count, below}
use Rattle.base.specs.Below.{all_below, any_below}
use Rattle.base.proofs.Bools.{and_parts, split, clash, is_false}
use Rattle.base.proofs.Lists.{any_append, any_map, any_and, any_and_after, below_more}

module _ (p : ℕ → Bool) where
  -- one test that fails decides
  pub all_fails : (n k : ℕ) → k < n → p k ≡ false → all_below n p ≡ false
  unfolding all_below
  all_fails zero k h e = absurd (not-suc-le-zero h)
  all_fails (suc n) k h e =
      ⊎_elim (λ q. rw (← q) (rw e (and-false (all_below k p)))) (λ l. rw (all_fails n k l e) refl)
      (eq-or-lt_of_le (le_of_suc-le-suc h))

  pub all_at : (n : ℕ) → all_below n p ≡ true → (k : ℕ) → k < n → p k ≡ true
  unfolding all_below
  all_at zero t k h = absurd (not-suc-le-zero h)
  all_at (suc n) t k h =
      let parts = and_parts (all_below n p) (p n) t in
      ⊎_elim (λ q. ap p q ∙ parts.1) (λ l. all_at n parts.0 k l) (eq-or-lt_of_le (le_of_suc-le-suc h))

  pub all_below_lem : (n : ℕ) → ((k : ℕ) → k < n → p k ≡ true) → all_below n p ≡ true
  unfolding all_below
  all_below_lem zero f = refl
  all_below_lem (suc n) f = rw (all_below_lem n (λ k l. f k (omega arith))) (f n (omega arith))

  -- the same test by another name
  pub all_same : (q : ℕ → Bool) (n : ℕ) → ((k : ℕ) → k < n → p k ≡ q k) → all_below n p ≡ all_below n q
  unfolding all_below
  all_same q zero e = refl
  all_same q (suc n) e = cc (all_same q n (λ k l. e k (omega arith)), e n (omega arith))

  -- the first test first
  pub all_first : (n : ℕ) → all_below (suc n) p ≡ (p 0 && all_below n (λ k. p (suc k)))
  unfolding all_below
  all_first zero = sym (and-true (p 0))
  all_first (suc n) = ap (λ (t : Bool). t && p (suc n)) (all_first n) ∙ and_assoc (p 0) (all_below n (λ k. p (suc k))) (p (suc n))

-- a test of every element of a list, by index
pub all_elements : {A : Type 0} (p : A → Bool) (d : A) (l : List A) → all_below (length l) (λ k. p (get_or l k d)) ≡ all p l
unfolding all_below all
all_elements p d [] = refl
all_elements p d (x ∷ l) = all_first (λ k. p (get_or (x ∷ l) k d)) (length l) ∙ ap (λ (t : Bool). p x && t) (all_elements p d l)

-- a test of the numbers of `count`
pub all_count : (p : ℕ → Bool) (from n : ℕ) → all_below n (λ i. p (from + i)) ≡ all p (count from n)
unfolding all_below all count
all_count p from zero = refl
all_count p from (suc n) =
    all_first (λ i. p (from + i)) n
    ∙ ap₂ (λ (s t : Bool). s && t) (ap p (omega arith))
    (all_same (λ i. p (from + suc i)) (λ i. p (suc from + i)) n (λ i l. ap p (omega arith)) ∙ all_count p (suc from) n)

-- The invariant: the tests below i have passed.
pub record Passed (n : ℕ) (p : ℕ → Bool) (i : ℕ) : Type 0 where
  pub within : i ≤ n
  pub passed : all_below i p ≡ true

pub starts : {n : ℕ} {p : ℕ → Bool} → Passed n p 0
unfolding all_below
starts {n} {p} = record { within = omega arith; passed = refl }

module _ {n i : ℕ} {p : ℕ → Bool} (inv : Passed n p i) where
  -- a turn whose test r holds
  pub turns : {r : Bool} → i < n → r ≡ p i → not r ≡ false → Passed n p (i + 1)
  unfolding all_below
  turns {r} l e t = record { within = omega arith; passed = rw add-one (rw inv.passed (sym e ∙ not-false r t)) }

  -- a turn whose test r fails
  pub stops : {r : Bool} → i < n → r ≡ p i → not r ≡ true → false ≡ all_below n p
  stops {r} l e t = sym (all_fails p n i l (sym e ∙ not-true r t))

  -- the end of the loop
  pub ends : n ≤ i → true ≡ all_below n p
  ends b = sym (ap (λ (k : ℕ). all_below k p) (le_antisymm b inv.within) ∙ inv.passed)

-- Some number passes

module _ (p : ℕ → Bool) where
  -- one test that passes decides
  pub any_passes : (n k : ℕ) → k < n → p k ≡ true → any_below n p ≡ true
  unfolding any_below
  any_passes zero k h e = absurd (not-suc-le-zero h)
  any_passes (suc n) k h e =
      ⊎_elim (λ q. rw (← q) (rw e (or-true (any_below k p)))) (λ l. rw (any_passes n k l e) refl)
      (eq-or-lt_of_le (le_of_suc-le-suc h))

  -- the same test by another name
  pub any_below_same : (q : ℕ → Bool) (n : ℕ) → ((k : ℕ) → k < n → p k ≡ q k) → any_below n p ≡ any_below n q
  unfolding any_below
  any_below_same q zero e = refl
  any_below_same q (suc n) e = cc (any_below_same q n (λ k l. e k (omega arith)), e n (omega arith))

  -- no test passes, or some does
  pub none_at : (n : ℕ) → any_below n p ≡ false → (k : ℕ) → k < n → p k ≡ false
  none_at n h k l = is_false (p k) (λ t. clash (any_passes n k l t) h)

  pub some_at : (n : ℕ) → any_below n p ≡ true → (k : ℕ) × (k < n) × (p k ≡ true)
  unfolding any_below
  some_at zero h = clash h refl
  some_at (suc n) h = split (any_below n p) (λ t. let (k, l, q) = some_at n t in (k, omega arith, q)) (λ f. (n, omega arith, sym (ap (λ (b : Bool). b || p n) f) ∙ h))

  -- a test of the numbers of `below`
  pub any_below_lem : (n : ℕ) → any p (below n) ≡ any_below n p
  unfolding any below count any_below
  any_below_lem zero = refl
  any_below_lem (suc n) =
      ap (any p) (below_more n) ∙ any_append p (below n) (n ∷ []) ∙ ap₂ (λ (s t : Bool). s || t) (any_below_lem n) (or-false (p n))

-- a test of the elements of a list that is made number by number
pub any_numbered : {A : Type 0} (p : A → Bool) (f : ℕ → A) (n : ℕ) → any p (map f (below n)) ≡ any_below n (λ k. p (f k))
any_numbered p f n = any_map p f (below n) ∙ any_below_lem (λ k. p (f k)) n

-- a test that does not depend on the number stands before or after
pub any_below_and : (b : Bool) (p : ℕ → Bool) (n : ℕ) → any_below n (λ k. b && p k) ≡ (b && any_below n p)
any_below_and b p n = sym (any_below_lem (λ k. b && p k) n) ∙ any_and b p (below n) ∙ ap (λ (t : Bool). b && t) (any_below_lem p n)

pub any_below_and_after : (p : ℕ → Bool) (b : Bool) (n : ℕ) → any_below n (λ k. p k && b) ≡ (any_below n p && b)
any_below_and_after p b n = sym (any_below_lem (λ k. p k && b) n) ∙ any_and_after p b (below n) ∙ ap (λ (t : Bool). t && b) (any_below_lem p n)

-- The invariant: no test below i has passed.
pub record NoneYet (n : ℕ) (p : ℕ → Bool) (i : ℕ) : Type 0 where
  pub within : i ≤ n
  pub failed : any_below i p ≡ false

pub seeks : {n : ℕ} {p : ℕ → Bool} → NoneYet n p 0
unfolding any_below
seeks {n} {p} = record { within = omega arith; failed = refl }

module _ {n i : ℕ} {p : ℕ → Bool} (inv : NoneYet n p i) where
  -- a turn whose test r fails
  pub passes_by : {r : Bool} → i < n → r ≡ p i → r ≡ false → NoneYet n p (i + 1)
  unfolding any_below
  passes_by {r} l e t = record { within = omega arith; failed = rw add-one (rw inv.failed (sym e ∙ t)) }

  -- a turn whose test r holds
  pub meets : {r : Bool} → i < n → r ≡ p i → r ≡ true → true ≡ any_below n p
  meets {r} l e t = sym (any_passes p n i l (sym e ∙ t))

  -- the end of the loop
  pub finds_none : n ≤ i → false ≡ any_below n p
  finds_none b = sym (ap (λ (k : ℕ). any_below k p) (le_antisymm b inv.within) ∙ inv.failed)
