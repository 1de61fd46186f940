-- What the sets of enabled operations come to.
use Prim.Native.Nat.{ℕ, ◌+◌, ◌%◌, ◌<◌}
use native.Mathlib.Omega.{arith}
use native.Mathlib.Decide.{ℕ_discrete}
use native.Mathlib.Numerals.{add-one}
use mathlib.Core.Path.{◌≡◌, refl, sym, ap, ap₂, ◌∙◌}
use mathlib.Core.Bool.{Bool, true, false, not, cond, ◌&&◌, ◌||◌, and-true, and-false, or-false, or_assoc, false≢true}
use mathlib.Core.List.{List}
use lib.ListN.{length, set, replicate, get_or-replicate}
use lib.Dec.{eqb, ltb}
use borrow.Author.Tests.{eq-eqb, ne_eqb, ltb-true, lt-ltb, le-ltb}
use Rattle.base.specs.Below.{all_below, any_below}
use Rattle.base.proofs.Bools.{agree}
use Rattle.base.proofs.Tests.{all_at, all_below_lem}
use Rattle.search_sets.specs.Set.{holds}
use Rattle.search_sets.specs.Tables.{none, set_at}
use Rattle.search_sets.specs.declared.Set.{Set}
use Rattle.search_sets.proofs.Loops.{holds_none}
use Rattle.search_sets.proofs.Tables.{put_here, put_other}
use Rattle.search_admit.specs.Rows.{field, precedes, partner_by, bypasses, written_bits, written_word, visible_word, words_read, local_of}
use Rattle.search_admit.specs.Fits.{enabled, due_after}
use Rattle.search_admit.proofs.TestLaws.{writes_one, writes_two}
use Rattle.search_enabled.specs.Affects.{writes_at, writes_word_of, local_to, affects, enabled_after}

-- those that x does not affect, and those that are asked anew
pub after_is : (rows : List ℕ) (affected : List Set) (words : List ℕ) (elo ehi lo hi x y alo ahi klo khi wlo whi : ℕ)
    → holds alo ahi y ≡ (set_at affected x y && not (holds lo hi y)) → holds klo khi y ≡ (holds elo ehi y && not (set_at affected x y))
    → holds wlo whi y ≡ (holds klo khi y && not (holds lo hi y))
    → (holds wlo whi y || (holds alo ahi y && enabled rows lo hi words y)) ≡ enabled_after rows affected words elo ehi lo hi x y
after_is rows affected words elo ehi lo hi x y alo ahi klo khi wlo whi again kept all =
    ap₂ (λ (p q : Bool). p || (q && enabled rows lo hi words y)) (all ∙ ap (λ (p : Bool). p && not (holds lo hi y)) kept) again
    ∙ go (holds elo ehi y) (set_at affected x y) (holds lo hi y) (enabled rows lo hi words y)
  where
    go : (e t s n : Bool) → (((e && not t) && not s) || ((t && not s) && n)) ≡ (not s && cond t n e)
    go true true true n = refl
    go true true false n = refl
    go true false true n = refl
    go true false false n = refl
    go false true true n = refl
    go false true false n = refl
    go false false true n = refl
    go false false false n = refl

-- all that x affects stand already
pub after_none : (rows : List ℕ) (affected : List Set) (words : List ℕ) (elo ehi lo hi x y klo khi wlo whi : ℕ) {r : Bool} → y < 128
    → holds klo khi y ≡ (holds elo ehi y && not (set_at affected x y)) → holds wlo whi y ≡ (holds klo khi y && not (holds lo hi y))
    → r ≡ all_below 128 (λ k. not (set_at affected x k) || holds lo hi k) → r ≡ true → holds wlo whi y ≡ enabled_after rows affected words elo ehi lo hi x y
after_none rows affected words elo ehi lo hi x y klo khi wlo whi l kept all stand h =
    all ∙ ap (λ (p : Bool). p && not (holds lo hi y)) kept
    ∙ go (holds elo ehi y) (set_at affected x y) (holds lo hi y) (enabled rows lo hi words y) (all_at (λ k. not (set_at affected x k) || holds lo hi k) 128 (sym stand ∙ h) y l)
  where
    go : (e t s n : Bool) → (not t || s) ≡ true → ((e && not t) && not s) ≡ (not s && cond t n e)
    go true true true n q = refl
    go true true false n q = absurd (false≢true q)
    go true false true n q = refl
    go true false false n q = refl
    go false true true n q = refl
    go false true false n q = absurd (false≢true q)
    go false false true n q = refl
    go false false false n q = refl

-- all partners of x stand, or some do not
module _ (rows : List ℕ) (x lo hi plo phi : ℕ) (low : plo ≡ field rows 2 x) (high : phi ≡ field rows 3 x) {r : Bool}
    (stand : r ≡ all_below 128 (λ a. not (holds plo phi a) || holds lo hi a)) where
  closed : r ≡ all_below 128 (λ a. not (partner_by rows x a) || holds lo hi a)
  closed = stand ∙ ap₂ (λ (u v : ℕ). all_below 128 (λ a. not (holds u v a) || holds lo hi a)) low high

  pub open_all : r ≡ true → (y : ℕ) (e : Bool) → e ≡ (due_after rows x lo hi y && e)
  open_all h y e = ap (λ (b : Bool). (b || partner_by rows x y) && e) (sym h ∙ closed)

  pub open_some : r ≡ false → (y : ℕ) (e : Bool) {s : Bool} → s ≡ (holds plo phi y && e) → s ≡ (due_after rows x lo hi y && e)
  open_some h y e is =
      is ∙ ap₂ (λ (u v : ℕ). holds u v y && e) low high ∙ ap (λ (b : Bool). (b || partner_by rows x y) && e) (sym h ∙ closed)

-- x has no partners: so all of them stand
pub no_partners : (plo phi lo hi : ℕ) {r : Bool} → r ≡ all_below 128 (λ a. not (holds plo phi a) || holds 0 0 a) → r ≡ true
    → true ≡ all_below 128 (λ a. not (holds plo phi a) || holds lo hi a)
no_partners plo phi lo hi e t =
    sym (all_below_lem (λ a. not (holds plo phi a) || holds lo hi a) 128 (λ a l.
    go (holds plo phi a) (holds lo hi a) (holds 0 0 a) (holds_none a) (all_at (λ b. not (holds plo phi b) || holds 0 0 b) 128 (sym e ∙ t) a l)))
  where
    go : (p s z : Bool) → z ≡ false → (not p || z) ≡ true → (not p || s) ≡ true
    go true s z n h = absurd (false≢true (sym n ∙ h))
    go false s z n h = refl

-- a table of sets, one of them with one member more
pub set_more : (t : List Set) (a y : ℕ) (s : Set) (k : ℕ) → a < length t → ((i : ℕ) → holds s.lo s.hi i ≡ (set_at t a i || eqb i y))
    → (b : ℕ) → set_at (set t a s) b k ≡ (set_at t b k || (eqb k y && eqb b a))
set_more t a y s k long more b = go (ℕ_discrete b a)
  where
    go : Dec (b ≡ a) → set_at (set t a s) b k ≡ (set_at t b k || (eqb k y && eqb b a))
    go (yes e) =
        rw e
        (put_here t a s long k ∙ more k
        ∙ ap (λ (d : Bool). set_at t a k || d) (sym (ap (λ (d : Bool). eqb k y && d) (eq-eqb a a refl) ∙ and-true (eqb k y))))
    go (no e) =
        put_other t a s b e k
        ∙ sym (ap (λ (d : Bool). set_at t b k || d) (ap (λ (d : Bool). eqb k y && d) (ne_eqb b a e) ∙ and-false (eqb k y)) ∙ or-false (set_at t b k))

-- what affects y, by the sets that it is made of
module _ (rows : List ℕ) (a y : ℕ) {count : ℕ} (is : count ≡ words_read rows y) where
  pub affects_none : (plo phi : ℕ) → plo ≡ field rows 9 y → phi ≡ field rows 10 y → count ≡ 0 → holds plo phi a ≡ affects rows a y
  unfolding affects
  affects_none plo phi low high none =
      ap₂ (λ (u v : ℕ). holds u v a) low high
      ∙ sym (ap (λ (b : Bool). precedes rows y a || not b && ((bypasses rows y a || local_to rows a y) || writes_word_of rows a y)) (eq-eqb (words_read rows y) 0 (sym is ∙ none)) ∙ or-false (precedes rows y a))

  pub affects_some : (plo phi slo shi llo lhi wlo whi : ℕ) {r : Bool} → plo ≡ field rows 9 y → phi ≡ field rows 10 y → slo ≡ field rows 11 y → shi ≡ field rows 12 y
      → (count ≡ 0 → ⊥) → holds llo lhi a ≡ (holds slo shi a || any_below 128 (λ m. holds slo shi m && eqb (local_of rows m) a))
      → holds wlo whi a ≡ (holds llo lhi a || any_below count (λ h. writes_at rows a (visible_word rows h y % 64))) → r ≡ (holds plo phi a || holds wlo whi a) → r ≡ affects rows a y
  unfolding affects local_to writes_word_of
  affects_some plo phi slo shi llo lhi wlo whi low high low' high' some locals writers all =
      all
      ∙ ap₂ (λ (b d : Bool). b || d) (ap₂ (λ (u v : ℕ). holds u v a) low high)
      (writers ∙ ap₂ (λ (b : Bool) (n : ℕ). b || any_below n (λ h. writes_at rows a (visible_word rows h y % 64))) (locals ∙ ap₂ (λ (u v : ℕ). holds u v a || any_below 128 (λ m. holds u v m && eqb (local_of rows m) a)) low' high') is)
      ∙ ap (λ (b : Bool). precedes rows y a || not b && ((bypasses rows y a || local_to rows a y) || writes_word_of rows a y)) (sym (ne_eqb (words_read rows y) 0 (λ e. some (is ∙ e))))

-- the sets of the words that an operation writes, by their number
module _ (rows : List ℕ) (a p k : ℕ) (s : Bool) {first : ℕ} (is : first ≡ written_word rows 0 a) {next : ℕ} (next_is : next ≡ written_bits rows 1 a) {t : Bool}
    (once : t ≡ (s || (eqb p (first % 64) && eqb k a))) where
  pub written_one : next ≡ 0 → t ≡ (s || (writes_at rows a p && eqb k a))
  unfolding writes_at any_below
  written_one z =
      once ∙ ap (λ (w : ℕ). s || (eqb p (w % 64) && eqb k a)) is
      ∙ sym (ap (λ (n : ℕ). s || (any_below n (λ g. eqb p (written_word rows g a % 64)) && eqb k a)) (writes_one rows a next_is z))

  pub written_two : (next ≡ 0 → ⊥) → {second : ℕ} → second ≡ written_word rows 1 a → {r : Bool} → r ≡ (t || (eqb p (second % 64) && eqb k a)) → r ≡ (s || (writes_at rows a p && eqb k a))
  unfolding writes_at any_below
  written_two z {second} e twice =
      twice ∙ ap (λ (b : Bool). b || (eqb p (second % 64) && eqb k a)) once
      ∙ both s (eqb p (first % 64)) (eqb p (second % 64)) (eqb k a)
      ∙ ap₂ (λ (u v : ℕ). s || ((eqb p (u % 64) || eqb p (v % 64)) && eqb k a)) is e
      ∙ sym (ap (λ (n : ℕ). s || (any_below n (λ g. eqb p (written_word rows g a % 64)) && eqb k a)) (writes_two rows a next_is z))
    where
      both : (s u v e : Bool) → ((s || (u && e)) || (v && e)) ≡ (s || ((u || v) && e))
      both true u v e = refl
      both false true true true = refl
      both false true true false = refl
      both false true false e = or-false e
      both false false v e = refl

-- tables of empty sets
pub empty_at : (n p k : ℕ) → p < n → set_at (replicate n none) p k ≡ false
empty_at n p k l = ap (λ (s : Set). holds s.lo s.hi k) (get_or-replicate n p none none l) ∙ holds_none k

-- those that write one word more
pub writers_none : (p : ℕ → Bool) (s : Bool) → s ≡ (s || any_below 0 p)
unfolding any_below
writers_none p s = sym (or-false s)

pub writers_more : (p : ℕ → Bool) (h : ℕ) (s : Bool) {all w r : Bool} → all ≡ (s || any_below h p) → w ≡ p h → r ≡ (all || w) → r ≡ (s || any_below (h + 1) p)
unfolding any_below
writers_more p h s {all} {w} {r} e f g =
    g ∙ ap₂ ◌||◌ e f ∙ or_assoc s (any_below h p) (p h) ∙ ap (λ (n : ℕ). s || any_below n p) (sym (add-one h))

-- those below y that pass, and y
pub below_more : (p : ℕ → Bool) (y k : ℕ) (s r : Bool) → s ≡ (ltb k y && p k) → (k ≡ y → r ≡ p y) → (s || (r && eqb k y)) ≡ (ltb k (y + 1) && p k)
below_more p y k s r is here = go (ℕ_discrete k y)
  where
    go : Dec (k ≡ y) → (s || (r && eqb k y)) ≡ (ltb k (y + 1) && p k)
    go (yes e) =
        ap₂ (λ (b d : Bool). b || (r && d)) (is ∙ ap (λ (b : Bool). b && p k) (le-ltb k y (omega arith))) (eq-eqb k y e)
        ∙ and-true r ∙ here e ∙ ap p (sym e) ∙ sym (ap (λ (b : Bool). b && p k) (lt-ltb k (y + 1) (omega arith)))
    go (no e) =
        ap₂ (λ (b d : Bool). b || (r && d)) is (ne_eqb k y e) ∙ ap (λ (b : Bool). (ltb k y && p k) || b) (and-false r) ∙ or-false (ltb k y && p k)
        ∙ ap (λ (b : Bool). b && p k) (agree (ltb k y) (ltb k (y + 1)) (λ t. lt-ltb k (y + 1) (omega (arith, ltb-true k y t))) (λ t. lt-ltb k y (omega (arith, ltb-true k (y + 1) t))))
