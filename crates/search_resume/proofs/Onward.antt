-- A search goes on from the next consistent prefix as from where it began.
use Prim.Native.Nat.{ℕ, suc, ◌<◌}
use native.Mathlib.Omega.{arith}
use mathlib.Core.Path.{◌≡◌, refl, ap, ◌∙◌}
use mathlib.Core.Bool.{Bool, true, false, cond}
use mathlib.Core.List.{List, [], ◌∷◌, Memᴰ}
use lib.ListN.{length, get_or}
use lib.Dec.{eqb, ltb}
use borrow.Author.Tests.{eq-eqb, ne_eqb, le-ltb, lt-ltb, ltb-true}
use Rattle.base.specs.Lex.{lex_less}
use Rattle.base.proofs.Bools.{agree}
use Rattle.model.specs.Search.{Verdict, Outcome, allowed, forbidden, unfinished, prefixes, up_to_full, after, reached, search_from}
use Rattle.model.proofs.Prefixes as enumeration
use Rattle.search_walk.specs.Walks.{Closed, Passes, IsNext, IsLast}
use Rattle.search_resume.specs.Replies.{onward}
use Rattle.search_resume.proofs.Greater.{keep_none, keep_next}

-- a shorter list is not full
not_full : (n : ℕ) (xs : List ℕ) → length xs < n → eqb (length xs) n ≡ false
not_full n xs h = ne_eqb (length xs) n (λ e. omega arith)

-- the order of successors
ltb_suc : (a m : ℕ) → ltb (suc a) (suc m) ≡ ltb a m
ltb_suc a m =
    agree (ltb (suc a) (suc m)) (ltb a m)
    (λ h. lt-ltb a m (omega (arith, ltb-true (suc a) (suc m) h)))
    (λ h. lt-ltb (suc a) (suc m) (omega (arith, ltb-true a m h)))

-- an outcome, by its parts
abbrev outcome : Verdict → ℕ → List ℕ → Outcome
outcome v k xs = record { verdict = v; steps = k; position = xs }

-- a search from an xs that is not full, by whether it stops before the last position after xs and whether that one is full
abbrev stopped : Bool → Bool → ℕ → List ℕ → ℕ → List ℕ → List ℕ → Outcome
stopped early ends a there m last xs =
    cond early (outcome unfinished a there) (cond ends (outcome allowed m last) (outcome forbidden m xs))

-- no steps made add nothing
stopped_starts : (early ends : Bool) (a : ℕ) (there : List ℕ) (m : ℕ) (last xs : List ℕ)
    → stopped early ends a there m last xs ≡ onward 0 xs (stopped early ends a there m last xs)
unfolding onward
stopped_starts true ends a there m last xs = ap (λ (k : ℕ). outcome unfinished k there) (omega arith)
stopped_starts false true a there m last xs = ap (λ (k : ℕ). outcome allowed k last) (omega arith)
stopped_starts false false a there m last xs = ap (λ (k : ℕ). outcome forbidden k xs) (omega arith)

-- a step is counted as made, or as one of the search
stopped_more : (made : ℕ) (given : List ℕ) (early ends : Bool) (a : ℕ) (there : List ℕ) (m : ℕ) (last xs ys : List ℕ)
    → onward made given (stopped early ends (suc a) there (suc m) last xs) ≡ onward (suc made) given (stopped early ends a there m last ys)
unfolding onward
stopped_more made given true ends a there m last xs ys = ap (λ (k : ℕ). outcome unfinished k there) (omega arith)
stopped_more made given false true a there m last xs ys = ap (λ (k : ℕ). outcome allowed k last) (omega arith)
stopped_more made given false false a there m last xs ys = ap (λ (k : ℕ). outcome forbidden k given) (omega arith)

module _ (n : ℕ) (c : List ℕ → Bool) where
  -- what a search from xs comes to, with the positions l after xs
  abbrev along : List ℕ → List (List ℕ) → ℕ → Outcome
  along xs l a =
      let last = get_or (xs ∷ l) (length l) [] in
      stopped (ltb a (length l)) (eqb (length last) n) a (get_or (xs ∷ l) a []) (length l) last xs

  -- a search from a position that is not full
  search_along : (xs : List ℕ) (l : List (List ℕ)) (a : ℕ) → length xs < n → after n c xs ≡ l → search_from n c xs a ≡ along xs l a
  unfolding search_from reached
  search_along xs l a short e = rw (not_full n xs short, e)

module _ (n : ℕ) (c : List ℕ → Bool) (closed : Closed c) where
  -- no step is made yet
  pub onward_starts : (given : List ℕ) (a : ℕ) → search_from n c given a ≡ onward 0 given (search_from n c given a)
  unfolding search_from reached onward
  onward_starts given a = go (eqb (length given) n)
    where
      l : List (List ℕ)
      l = after n c given

      last : List ℕ
      last = get_or (given ∷ l) (length l) []

      go : (b : Bool) → cond b (outcome allowed 0 given) (along n c given l a) ≡ onward 0 given (cond b (outcome allowed 0 given) (along n c given l a))
      go true = refl
      go false = stopped_starts (ltb a (length l)) (eqb (length last) n) a (get_or (given ∷ l) a []) (length l) last given

  module _ (given xs : List ℕ) (passes : Passes c n xs) (short : length xs < n) where
    -- the empty prefix passes
    empty : c [] ≡ true
    empty = enumeration.closed n c closed [] xs passes.0

    -- the enumeration has only prefixes that pass
    member_passes : (z : List ℕ) → Memᴰ z (prefixes n c) → Passes c n z
    member_passes z m = let (d, k) = (enumeration.prefixes_are n c closed empty z).0 m in (k, d)

    -- the positions after xs are the next one and, where that is not full, those after it
    after_next : (ys : List ℕ) → IsNext c n xs ys → after n c xs ≡ ys ∷ cond (eqb (length ys) n) [] (after n c ys)
    unfolding after up_to_full
    after_next ys next =
        let m = (enumeration.prefixes_are n c closed empty ys).1 (next.passes.1, next.passes.0) in
        let up = enumeration.prefixes_ascend n c closed empty in
        ap (up_to_full n) (keep_next xs ys next.after (prefixes n c) up m (λ z mz. next.first z (member_passes z mz)))
        ∙ cut (eqb (length ys) n) (after n c ys)
      where
        cut : (b : Bool) (l : List (List ℕ)) → cond b (ys ∷ []) (ys ∷ l) ≡ ys ∷ cond b [] l
        cut true l = refl
        cut false l = refl

    -- after the last one there is nothing
    after_last : IsLast c n xs → after n c xs ≡ []
    unfolding after up_to_full
    after_last last = ap (up_to_full n) (keep_none (lex_less xs) (prefixes n c) (λ z m. last z (member_passes z m)))

    -- the next prefix is full: it is the order
    pub onward_full : (ys : List ℕ) (made a : ℕ) → IsNext c n xs ys → length ys ≡ n
        → onward made given (search_from n c xs (suc a)) ≡ record { verdict = allowed; steps = suc made; position = ys }
    unfolding onward
    onward_full ys made a next full =
        let e : after n c xs ≡ ys ∷ [] = after_next ys next ∙ rw (eq-eqb (length ys) n full) in
        rw (search_along n c xs (ys ∷ []) (suc a) short e, le-ltb (suc a) 1 (omega arith), eq-eqb (length ys) n full)
        (ap (λ (k : ℕ). outcome allowed k ys) (omega arith))

    -- it is not: one step more
    pub onward_more : (ys : List ℕ) (made a : ℕ) → IsNext c n xs ys → length ys < n
        → onward made given (search_from n c xs (suc a)) ≡ onward (suc made) given (search_from n c ys a)
    onward_more ys made a next more =
        let l = after n c ys in
        let e : after n c xs ≡ ys ∷ l = after_next ys next ∙ rw (not_full n ys more) in
        let last = get_or (ys ∷ l) (length l) [] in
        rw (search_along n c xs (ys ∷ l) (suc a) short e, search_along n c ys l a more refl, ltb_suc a (length l))
        (stopped_more made given (ltb a (length l)) (eqb (length last) n) a (get_or (ys ∷ l) a []) (length l) last xs ys)

    -- there is one, and no allowance is left
    pub onward_spent : (ys : List ℕ) (made : ℕ) → IsNext c n xs ys
        → onward made given (search_from n c xs 0) ≡ record { verdict = unfinished; steps = made; position = xs }
    unfolding onward
    onward_spent ys made next =
        let l = cond (eqb (length ys) n) [] (after n c ys) in
        rw (search_along n c xs (ys ∷ l) 0 short (after_next ys next), lt-ltb 0 (suc (length l)) (omega arith))
        (ap (λ (k : ℕ). outcome unfinished k xs) (omega arith))

    -- there is none
    pub onward_none : (made a : ℕ) → IsLast c n xs → onward made given (search_from n c xs a) ≡ record { verdict = forbidden; steps = made; position = given }
    unfolding onward
    onward_none made a last =
        rw (search_along n c xs [] a short (after_last last), le-ltb a 0 (omega arith), not_full n xs short)
        (ap (λ (k : ℕ). outcome forbidden k given) (omega arith))

  -- a full position is the order
  pub onward_done : (given : List ℕ) (a : ℕ) → length given ≡ n → search_from n c given a ≡ record { verdict = allowed; steps = 0; position = given }
  unfolding search_from
  onward_done given a full = rw (eq-eqb (length given) n full)
