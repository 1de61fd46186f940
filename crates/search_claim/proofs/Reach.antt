-- A search from the position that s steps from the empty one reach, for n operations and a test of prefixes whose enumeration is ascending.
use Prim.Native.Nat.{ℕ, zero, suc, ◌+◌, ◌-◌, ◌≤◌}
use native.Mathlib.Nat.{sub_self}
use native.Mathlib.Omega.{arith}
use mathlib.Core.Path.{◌≡◌, refl, sym, ap, ◌∙◌, subst}
use mathlib.Core.Bool.{Bool, true, false, cond}
use mathlib.Core.List.Memᴰ
use mathlib.Core.List.{List, [], ◌∷◌, Memᴰ}
use mathlib.Core.Logic.{◌⊎◌}
use lib.ListN.{length, get_or, drop, length-drop}
use lib.Seq.{drop-cons, get_or-drop}
use lib.Dec.{eqb, ltb, eqb-zero-suc}
use borrow.Author.Tests.{lt-ltb, le-ltb, ltb-true}
use Rattle.base.specs.Lex.{Less}
use Rattle.base.proofs.Bools.{split, clash, agree}
use Rattle.base.proofs.Lists.{getD_member}
use Rattle.model.specs.Search.{allowed, forbidden, unfinished, Outcome, extensions, prefixes, up_to_full, after, full, reached, search_from}
use Rattle.model.specs.Claims.{Ascending}
use Rattle.search_claim.proofs.Cut.{keep_behind, At, cut_at, Ends, cut_ends}

module _ (n : ℕ) (c : List ℕ → Bool) where
  -- there is no extension by no operation
  extensions_none : (k : ℕ) → eqb 0 k ≡ true → extensions n c k [] ≡ []
  unfolding extensions
  extensions_none zero e = refl
  extensions_none (suc k) e = clash e (eqb-zero-suc k)

  -- the number of prefixes after the empty one, up to and with the first full one
  abbrev pub total_of : ℕ
  total_of = length (after n c [])

  -- the position that s steps from the empty one reach
  abbrev pub reach : ℕ → List ℕ
  reach = reached n c []

  -- what a search from there comes to, by whether it stops before the last position and whether that one is full
  abbrev pub outcome : Bool → Bool → ℕ → ℕ → Outcome
  outcome stops ends s allowance =
      cond stops (record { verdict = unfinished; steps = allowance; position = reach (s + allowance) })
      (cond ends (record { verdict = allowed; steps = total_of - s; position = reach total_of })
      (record { verdict = forbidden; steps = total_of - s; position = reach s }))

  -- that, by the allowance
  abbrev pub outcome_at : ℕ → ℕ → Outcome
  outcome_at s allowance = outcome (ltb (s + allowance) total_of) (full n c (reach total_of)) s allowance

  module _ (ascends : Ascending (prefixes n c)) where
    -- the empty position and those after it are the enumeration, cut after its first full one
    cut_prefixes : up_to_full n (prefixes n c) ≡ [] ∷ after n c []
    unfolding prefixes after up_to_full
    cut_prefixes = rw (keep_behind (prefixes n c) 0 ascends (omega arith)) (go (eqb 0 n) refl)
      where
        go : (b : Bool) → eqb 0 n ≡ b → cond b ([] ∷ []) ([] ∷ up_to_full n (extensions n c n [])) ≡ [] ∷ up_to_full n (extensions n c n [])
        go true e = rw (extensions_none n e)
        go false e = refl

    -- element s of the cut enumeration
    reach_cut : (s : ℕ) → s ≤ total_of → At n (prefixes n c) s
    reach_cut s h = cut_at n (prefixes n c) s (rw cut_prefixes (omega arith))

    -- that position by its number in the enumeration
    pub reach_number : (s : ℕ) → s ≤ total_of → reach s ≡ get_or (prefixes n c) s []
    unfolding reached
    reach_number s h = ap (λ (l : List (List ℕ)). get_or l s []) (sym cut_prefixes) ∙ (reach_cut s h).element

    pub reach_member : (s : ℕ) → s ≤ total_of → Memᴰ (reach s) (prefixes n c)
    reach_member s h = Memᴰ.cast (reach_number s h) (getD_member (prefixes n c) s [] (reach_cut s h).within)

    -- what stands behind it: nothing where it is full
    reach_after : (s : ℕ) → s ≤ total_of → drop s (after n c []) ≡ cond (full n c (reach s)) [] (after n c (reach s))
    unfolding after
    reach_after s h =
        rw (reach_number s h, keep_behind (prefixes n c) s ascends (reach_cut s h).within)
        (ap (drop (suc s)) (sym cut_prefixes) ∙ (reach_cut s h).behind)

    module _ (s : ℕ) (h : s ≤ total_of) where
      -- where it is not full: the positions after it, and where further steps lead
      open_after : full n c (reach s) ≡ false → after n c (reach s) ≡ drop s (after n c [])
      open_after f = sym (reach_after s h ∙ rw f)

      open_further : full n c (reach s) ≡ false → (k : ℕ) → reached n c (reach s) k ≡ reach (s + k)
      unfolding reached
      open_further f k =
          ap (λ (l : List (List ℕ)). get_or (reach s ∷ l) k []) (open_after f)
          ∙ ap (λ (l : List (List ℕ)). get_or l k []) (sym (drop-cons ([] ∷ after n c []) s [] (omega arith)))
          ∙ get_or-drop s ([] ∷ after n c []) k []

      -- calls compose: a search from there stops where one from the empty position with both allowances does
      pub search_reach : (allowance : ℕ) → search_from n c (reach s) allowance ≡ outcome_at s allowance
      unfolding search_from
      search_reach allowance = split (full n c (reach s)) ended more
        where
          ended : full n c (reach s) ≡ true → search_from n c (reach s) allowance ≡ outcome_at s allowance
          ended f =
              let d : drop s (after n c []) ≡ [] = reach_after s h ∙ rw f in
              let e : total_of ≡ s = omega (arith, length-drop s (after n c []), ap length d) in
              rw (f, le-ltb (s + allowance) total_of (omega arith), e, f, sub_self)

          more : full n c (reach s) ≡ false → search_from n c (reach s) allowance ≡ outcome_at s allowance
          more f =
              let m = length (after n c (reach s)) in
              let e : m ≡ total_of - s = ap length (open_after f) ∙ length-drop s (after n c []) in
              let t : ltb allowance m ≡ ltb (s + allowance) total_of = agree (ltb allowance m) (ltb (s + allowance) total_of)
              (λ q. lt-ltb (s + allowance) total_of (omega (arith, ltb-true allowance m q)))
              (λ q. lt-ltb allowance m (omega (arith, ltb-true (s + allowance) total_of q))) in
              let far : s + m ≡ total_of = omega arith in
              rw (f, t, open_further f allowance, open_further f m, far, e)

    -- with a full prefix in the enumeration, the last position is full and the first such
    pub last_first : (z : List ℕ) → Memᴰ z (prefixes n c) → full n c z ≡ true
        → (full n c (reach total_of) ≡ true) × ((z ≡ reach total_of) ⊎ Less (reach total_of) z)
    unfolding reached
    last_first z m f =
        let ends = subst (λ (l : List (List ℕ)). Ends n l z) cut_prefixes (cut_ends n (prefixes n c) z ascends m f) in
        let e : ends.last ≡ total_of = omega (arith, ends.long) in
        (rw e at ends.last_full, rw e at ends.first)
