-- For any test of prefixes that passes with a prefix each shorter one: the enumeration is strictly ascending and has exactly the prefixes that pass.
use Prim.Native.Nat.{ℕ, zero, suc, ◌<◌}
use native.Mathlib.Omega.{arith}
use mathlib.Core.Path.{◌≡◌, refl, sym, ap, ◌∙◌, subst}
use mathlib.Core.Bool.{Bool, true, false, not, cond, ◌&&◌}
use mathlib.Core.List.Memᴰ
use mathlib.Core.List.{List, [], ◌∷◌, ◌++◌, append-nil, Memᴰ}
use mathlib.Core.Logic.{◌⊎◌, inl, inr, ◌↔◌}
use lib.ListN.{length}
use lib.Seq.{append_snoc}
use lib.Dec.{ltb}
use borrow.Author.Tests.{lt-ltb, ltb-true}
use Rattle.base.specs.Lists.{keep, for, count, below, member, distinct}
use Rattle.base.specs.Lex.{Less}
use Rattle.base.proofs.Bools.{and_parts, and_both}
use Rattle.base.proofs.Lists.{in_keep, of_keep, in_for, of_for, of_count, in_below, of_below, distinct_length}
use Rattle.base.proofs.Lex.{nil_less, less_extension, less_fork}
use Rattle.model.specs.Search.{absent, extensions, prefixes}
use Rattle.model.specs.Claims.{Ascending}
use Rattle.model.proofs.Before.{then}

ascending_append : (l m : List (List ℕ)) → Ascending l → Ascending m
    → ((a b : List ℕ) → Memᴰ a l → Memᴰ b m → Less a b) → Ascending (l ++ m)
ascending_append [] m h k c = k
ascending_append (x ∷ l) m h k c = (
  (λ z mz. go z (Memᴰ.append_cases l mz)),
  ascending_append l m h.1 k (λ a b ma mb. c a b (Memᴰ.tail ma) mb),
)
  where
    go : (z : List ℕ) → Memᴰ z l ⊎ Memᴰ z m → Less x z
    go z (inl mz) = h.0 z mz
    go z (inr mz) = c x z (Memᴰ.head refl) mz

-- ascending lists for ascending numbers, each below the lists of the later ones
module _ (f : ℕ → List (List ℕ)) (each : (o : ℕ) → Ascending (f o))
    (across : (o p : ℕ) (a b : List ℕ) → o < p → Memᴰ a (f o) → Memᴰ b (f p) → Less a b) where
  ascending_for : (t : ℕ → Bool) (from k : ℕ) → Ascending (for (keep t (count from k)) f)
  unfolding count keep for
  ascending_for t from zero = tt
  ascending_for t from (suc k) = go (t from) (ascending_for t (suc from) k)
    where
      later : List ℕ
      later = keep t (count (suc from) k)

      go : (b : Bool) → Ascending (for later f) → Ascending (for (cond b (from ∷ later) later) f)
      go true h = ascending_append (f from) (for later f) (each from) h (λ a b ma mb.
          let (p, mp, m) = of_for f later mb in
          let (ge, lt) = of_count (suc from) k (of_keep t (count (suc from) k) mp).0 in
          across from p a b ge ma m)
      go false h = h

module _ (n : ℕ) (c : List ℕ → Bool) where
  -- the part of the enumeration that extends xs by o
  abbrev branch : ℕ → List ℕ → ℕ → List (List ℕ)
  branch more xs o = cond (c (then xs o)) (then xs o ∷ extensions n c more (then xs o)) []

  -- z extends xs, first by o
  abbrev Through : List ℕ → ℕ → List ℕ → Type 0
  Through xs o z = (w : List ℕ) × (z ≡ xs ++ o ∷ w) × (distinct n (then xs o) w ≡ true) × (c z ≡ true)

  abbrev Extends : List ℕ → List ℕ → Type 0
  Extends xs z = (o : ℕ) × (w : List ℕ) × (z ≡ xs ++ o ∷ w) × (distinct n xs (o ∷ w) ≡ true) × (c z ≡ true)

  branch_through : (more : ℕ) (xs : List ℕ) (o : ℕ) (z : List ℕ)
      → (Memᴰ z (extensions n c more (then xs o)) → Extends (then xs o) z)
      → Memᴰ z (branch more xs o) → Through xs o z
  unfolding distinct
  branch_through more xs o z ih m = go (c (then xs o)) refl m
    where
      go : (b : Bool) → c (then xs o) ≡ b → Memᴰ z (cond b (then xs o ∷ extensions n c more (then xs o)) []) → Through xs o z
      go true e (Memᴰ.head h) = ([], h, refl, ap c h ∙ e)
      go true e (Memᴰ.tail h) = let (p, w, q, d, k) = ih h in (p ∷ w, q ∙ append_snoc xs o (p ∷ w), d, k)
      go false e h = absurd (Memᴰ.not-nil h)

  -- only consistent prefixes of different operations
  pub extensions_extend : (more : ℕ) (xs z : List ℕ) → Memᴰ z (extensions n c more xs) → Extends xs z
  unfolding extensions absent distinct
  extensions_extend zero xs z m = absurd (Memᴰ.not-nil m)
  extensions_extend (suc more) xs z m =
      let (o, mo, mz) = of_for (branch more xs) (absent n xs) m in
      let (h, k) = of_keep (λ o. not (member xs o)) (below n) mo in
      let (w, e, d, q) = branch_through more xs o z (extensions_extend more (then xs o) z) mz in
      (o, w, e, and_both (and_both (lt-ltb o n (of_below n h)) k) d, q)

  -- strictly ascending
  pub extensions_ascend : (more : ℕ) (xs : List ℕ) → Ascending (extensions n c more xs)
  unfolding extensions absent below
  extensions_ascend zero xs = tt
  extensions_ascend (suc more) xs =
      ascending_for (branch more xs) (λ o. one_branch o (extensions_ascend more (then xs o))) across (λ o. not (member xs o)) 0 n
    where
      one_branch : (o : ℕ) → Ascending (extensions n c more (then xs o)) → Ascending (branch more xs o)
      one_branch o h = go (c (then xs o))
        where
          go : (b : Bool) → Ascending (cond b (then xs o ∷ extensions n c more (then xs o)) [])
          go true = (
            (λ z m. let (p, w, e, d, q) = extensions_extend more (then xs o) z m in subst (Less (then xs o)) (sym e) (less_extension (then xs o) p w)),
            h,
          )
          go false = tt

      across : (o p : ℕ) (a b : List ℕ) → o < p → Memᴰ a (branch more xs o) → Memᴰ b (branch more xs p) → Less a b
      across o p a b l ma mb =
          let (v, ea, da, qa) = branch_through more xs o a (extensions_extend more (then xs o) a) ma in
          let (w, eb, db, qb) = branch_through more xs p b (extensions_extend more (then xs p) b) mb in
          rw (ea, eb) (less_fork xs o p v w l)

  module _ (shorter : (xs : List ℕ) (x : ℕ) → c (then xs x) ≡ true → c xs ≡ true) where
    pub closed : (xs ys : List ℕ) → c (xs ++ ys) ≡ true → c xs ≡ true
    closed xs [] h = rw append-nil at h
    closed xs (y ∷ ys) h = shorter xs y (closed (then xs y) ys (rw append_snoc h))

    -- all consistent prefixes of different operations
    in_branch : (more : ℕ) (xs : List ℕ) (o : ℕ) (z : List ℕ) → (ltb o n && not (member xs o)) ≡ true → c (then xs o) ≡ true
        → Memᴰ z (then xs o ∷ extensions n c more (then xs o)) → Memᴰ z (extensions n c (suc more) xs)
    unfolding extensions absent
    in_branch more xs o z d k m =
        let (h, free) = and_parts (ltb o n) (not (member xs o)) d in
        in_for (branch more xs) (in_keep (λ p. not (member xs p)) (in_below n o (ltb-true o n h)) free) (rw k m)

    pub extensions_complete : (more : ℕ) (xs : List ℕ) (o : ℕ) (w : List ℕ) → length w < more
        → distinct n xs (o ∷ w) ≡ true → c (xs ++ o ∷ w) ≡ true → Memᴰ (xs ++ o ∷ w) (extensions n c more xs)
    unfolding distinct
    extensions_complete zero xs o w l d k = absurd (omega arith)
    extensions_complete (suc more) xs o [] l d k =
        in_branch more xs o (then xs o) (and_parts (ltb o n && not (member xs o)) true d).0 k (Memᴰ.head refl)
    extensions_complete (suc more) xs o (p ∷ w) l d k =
        let (d1, d2) = and_parts (ltb o n && not (member xs o)) (distinct n (then xs o) (p ∷ w)) d in
        let e : then xs o ++ p ∷ w ≡ xs ++ o ∷ p ∷ w = append_snoc xs o (p ∷ w) in
        let k' : c (then xs o ++ p ∷ w) ≡ true = rw e k in
        in_branch more xs o (xs ++ o ∷ p ∷ w) d1 (closed (then xs o) (p ∷ w) k')
        (Memᴰ.tail (Memᴰ.cast (sym e) (extensions_complete more (then xs o) p w (omega arith) d2 k')))

    module _ (empty : c [] ≡ true) where
      pub prefixes_ascend : Ascending (prefixes n c)
      unfolding prefixes
      prefixes_ascend = (
        (λ z m. let (o, w, e, d, q) = extensions_extend n [] z m in subst (Less []) (sym e) (nil_less o w)),
        extensions_ascend n [],
      )

      -- exactly the consistent prefixes of different operations
      pub prefixes_are : (z : List ℕ) → Memᴰ z (prefixes n c) ↔ ((distinct n [] z ≡ true) × (c z ≡ true))
      unfolding prefixes distinct
      prefixes_are z = (sound, complete z)
        where
          sound : Memᴰ z ([] ∷ extensions n c n []) → (distinct n [] z ≡ true) × (c z ≡ true)
          sound (Memᴰ.head e) = (ap (distinct n []) e, ap c e ∙ empty)
          sound (Memᴰ.tail m) = let (o, w, e, d, q) = extensions_extend n [] z m in (ap (distinct n []) e ∙ d, q)

          complete : (z : List ℕ) → (distinct n [] z ≡ true) × (c z ≡ true) → Memᴰ z ([] ∷ extensions n c n [])
          complete [] h = Memᴰ.head refl
          complete (o ∷ w) h = Memᴰ.tail (extensions_complete n [] o w (distinct_length n (o ∷ w) h.0) h.0 h.1)
