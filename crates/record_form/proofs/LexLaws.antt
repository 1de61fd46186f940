-- Bytes compared from the front: the first place where they differ decides, else the length; what the comparison answers, by its cases.
use Prim.Native.Nat.{ℕ, suc, ◌+◌, ◌≤◌, ◌<◌}
use native.Mathlib.Numerals.{add-one}
use native.Mathlib.Omega.{arith}
use mathlib.Core.Path.{◌≡◌, refl, sym, ap, ap₂, ◌∙◌, subst}
use mathlib.Core.Bool.{true, false}
use mathlib.Core.List.{List, [], ◌∷◌, ◌++◌}
use lib.ListN.{length, get_or, take, drop}
use lib.Seq.{take-suc, split_at, take_all}
use Rattle.std.specs.Ordering.{nat_cmp, ordering_then, is_lt}
use Rattle.std.specs.Cmp.{nat_cmp_is}
use Rattle.std.specs.Cmp.Lexicographic.{slice_cmp}
use lib.Dec.{eqb, ltb}
use borrow.Author.Tests.{lt-ltb, ltb-true, ltb-false, eq-eqb, eqb-true, eqb-false, le-ltb}
use Rattle.base.specs.Lists as lists
use Rattle.base.specs.Lex.{lex_less, Less}
use Rattle.base.proofs.Bools.{is_false, split}
use Rattle.base.proofs.Lists.{same_true}
use Rattle.base.proofs.Lex.{less_fork, less_extension, less_irreflexive, less_asymmetric}
use Rattle.std.specs.declared.cmp.Ordering.{Ordering}
use Rattle.std.specs.declared.cmp.Ordering.TheVariants as cases
use Rattle.record_form.specs.Lexical.{LexOrdered}

-- std's comparison of two lists of numbers
module _ (x y : ℕ) (xs ys : List ℕ) where
  abbrev After : Ordering → Type 0
  After o = LexOrdered o (x ∷ xs) (y ∷ ys)

  by_heads : {o : Ordering} (r : Ordering) → o ≡ nat_cmp x y → After (ordering_then o r) → After (ordering_then (nat_cmp x y) r)
  by_heads r e h = subst (λ (o : Ordering). After (ordering_then o r)) e h

  same_heads : x ≡ y → (r : Ordering) → LexOrdered r xs ys → After r
  unfolding lex_less
  same_heads e cases.Less h = rw (e, le-ltb y y (omega arith), eq-eqb y y refl) h
  same_heads e cases.Equal h = ap₂ (λ (a : ℕ) (l : List ℕ). a ∷ l) e h
  same_heads e cases.Greater h = rw (e, le-ltb y y (omega arith), eq-eqb y y refl) h

  after_first : (r : Ordering) → LexOrdered r xs ys → After (ordering_then (nat_cmp x y) r)
  unfolding lex_less
  after_first r h =
      split (ltb x y)
      (λ l. by_heads r (nat_cmp_is x y cases.Less (ltb-true x y l)) (rw l refl))
      (λ l.
      split (eqb x y)
      (λ e. by_heads r (nat_cmp_is x y cases.Equal (eqb-true x y e)) (same_heads (eqb-true x y e) r h))
      (λ e.
      let more : y < x = omega (arith, ltb-false x y l, eqb-false x y e) in
      by_heads r (nat_cmp_is x y cases.Greater more) (rw (lt-ltb y x more) refl)))

pub slice_ordered : (xs ys : List ℕ) → LexOrdered (slice_cmp nat_cmp xs ys) xs ys
unfolding lex_less
slice_ordered [] [] = refl
slice_ordered [] (y ∷ ys) = refl
slice_ordered (x ∷ xs) [] = refl
slice_ordered (x ∷ xs) (y ∷ ys) = after_first x y xs ys (slice_cmp nat_cmp xs ys) (slice_ordered xs ys)

-- What the comparison of two byte strings answers, by its cases
module _ (r : Ordering) (a b : List ℕ) {s t : List ℕ} (h : LexOrdered r a b) (ea : a ≡ s) (eb : b ≡ t) where
  compares : LexOrdered r s t
  compares = subst (LexOrdered r s) eb (subst (λ (l : List ℕ). LexOrdered r l b) ea h)

  pub less_when : r ≡ cases.Less → true ≡ lex_less s t
  less_when e = sym (subst (λ (k : Ordering). LexOrdered k s t) e compares)

  pub same_when : r ≡ cases.Equal → s ≡ t
  same_when e = subst (λ (k : Ordering). LexOrdered k s t) e compares

  pub same_not_less : r ≡ cases.Equal → false ≡ lex_less s t
  same_not_less e = sym (is_false (lex_less s t) (λ l. less_irreflexive t (subst (λ (k : List ℕ). Less k t) (same_when e) l)))

  pub greater_when : r ≡ cases.Greater → Less t s
  greater_when e = subst (λ (k : Ordering). LexOrdered k s t) e compares

  pub greater_other : r ≡ cases.Greater → lists.same s t ≡ false
  greater_other e = is_false (lists.same s t) (λ h. less_irreflexive t (subst (Less t) (same_true s t h) (greater_when e)))

  pub greater_not_less : r ≡ cases.Greater → false ≡ lex_less s t
  greater_not_less e = sym (is_false (lex_less s t) (λ l. less_asymmetric s t l (greater_when e)))

  -- the first is less exactly where the comparison says so
  pub less_only : is_lt r ≡ lex_less s t
  less_only = go r refl
    where
      go : (o : Ordering) → r ≡ o → is_lt r ≡ lex_less s t
      go cases.Less e = ap is_lt e ∙ less_when e
      go cases.Equal e = ap is_lt e ∙ same_not_less e
      go cases.Greater e = ap is_lt e ∙ greater_not_less e
