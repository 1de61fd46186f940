-- A prefix breaks no rule exactly when it is consistent; so an order of all operations is judged legal exactly when it is consistent.
use Prim.Native.Nat.{ℕ, suc}
use native.Mathlib.Omega.{arith}
use mathlib.Core.Path.{◌≡◌, refl, sym, ap, ◌∙◌}
use mathlib.Core.Bool.{Bool, true, false, not, cond, ◌||◌}
use mathlib.Core.List.{List, [], ◌∷◌, Memᴰ}
use mathlib.Core.Logic.{◌↔◌}
use mathlib.Core.Option.{some}
use lib.ListN.{length}
use lib.Dec.{eqb}
use borrow.Author.Tests.{eq-eqb, eqb-true}
use Rattle.base.specs.Lists.{any, distinct}
use Rattle.base.specs.Orders.{OrderOf}
use Rattle.base.proofs.Bools.{split}
use Rattle.model.specs.Execution.{Execution, operations}
use Rattle.model.specs.Questions.{found, read_record}
use Rattle.model.specs.Rules.{Claim, broken, lowest_from, lowest_broken, rules, keeps, consistent}
use Rattle.model.specs.Search.{prefixes}
use Rattle.model.specs.Claims.{Ascending}
use Rattle.model.specs.Calls.{Judgement, Answer, says, refuses, Legal, and_then, asks, answer_of, read_all, legal, judgement_of, judge_order, judge_call}
use Rattle.model.proofs.Asking.{after_says, asked_yes}
use Rattle.model.proofs.Consistent.{keeps_shorter, keeps_empty}
use Rattle.model.proofs.Prefixes.{prefixes_ascend, prefixes_are}

-- the judgement of a prefix by whether it breaks no rule, where no rule has number 0
lowest_keeps : (k : ℕ) (rs : List (List Claim)) (xs : List ℕ) → (judgement_of (lowest_from k rs xs) ≡ legal) ↔ (keeps rs xs ≡ true)
unfolding lowest_from keeps any
lowest_keeps k [] xs = (λ h. refl, λ h. refl)
lowest_keeps k (r ∷ rs) xs = go (any (broken xs) r) (lowest_keeps (suc k) rs xs)
  where
    go : (b : Bool) → (judgement_of (lowest_from (suc k) rs xs) ≡ legal) ↔ (not (any (any (broken xs)) rs) ≡ true)
        → (judgement_of (cond b (some k) (lowest_from (suc k) rs xs)) ≡ legal) ↔ (not (b || any (any (broken xs)) rs) ≡ true)
    go true ih = (λ h. cc, λ h. cc)
    go false ih = ih

-- what is found is said
pub found_says : (bytes : List ℕ) (e : Execution) (rest : List ℕ) → read_record bytes ≡ found e rest → read_all bytes ≡ says e
unfolding read_all answer_of
found_says bytes e rest h = rw h

-- a refusal is not 'legal'
refusal : {C : Type 0} {q : ℕ} → ◌≡◌ {A = Answer Judgement} (refuses q) (says legal) → C
refusal h = let z : ◌≡◌ {A = ℕ} 0 1 = cc in absurd (omega arith)

module _ (bytes : List ℕ) (e : Execution) (rest : List ℕ) (read : read_record bytes ≡ found e rest) where
  -- the judge of an offered order that passes questions 16 and 17
  pub judge_order_lem : (order : List ℕ) → OrderOf (operations e) order
      → judge_call bytes order ≡ says (judgement_of (lowest_broken e order))
  unfolding judge_call judge_order
  judge_order_lem order (l, d) =
      sym (asked_yes 17 (says (judgement_of (lowest_broken e order))) d ∙ asked_yes 16 _ (eq-eqb (length order) (operations e) l) ∙ after_says (λ k. judge_order k order) (found_says bytes e rest read))

  -- an order that the judge calls legal passes questions 16 and 17
  pub legal_passes : (order : List ℕ) → Legal bytes order → OrderOf (operations e) order
  unfolding judge_call read_all judge_order answer_of and_then asks
  legal_passes order h =
      split (eqb (length order) (operations e))
      (λ p. split (distinct (operations e) [] order) (λ q. (eqb-true (length order) (operations e) p, q)) (λ q. refusal (rw (read, p, q) at h)))
      (λ p. refusal (rw (read, p) at h))

  -- full and consistent is legal
  pub legal_consistent : (order : List ℕ) → OrderOf (operations e) order
      → (judge_call bytes order ≡ says legal) ↔ (consistent e order ≡ true)
  unfolding lowest_broken consistent
  legal_consistent order o =
      let j = judge_order_lem order o in
      let both : (judgement_of (lowest_broken e order) ≡ legal) ↔ (consistent e order ≡ true) = lowest_keeps _ (rules e) order in
      (λ h. both.0 (cc), λ h. j ∙ ap says (both.1 h))

-- the enumeration of an execution's consistent prefixes
module _ (e : Execution) where
  pub consistent_ascend : Ascending (prefixes (operations e) (keeps (rules e)))
  consistent_ascend = prefixes_ascend (operations e) (keeps (rules e)) (λ xs x. keeps_shorter xs x (rules e)) (keeps_empty (rules e))

  pub consistent_are : (z : List ℕ)
      → Memᴰ z (prefixes (operations e) (keeps (rules e))) ↔ ((distinct (operations e) [] z ≡ true) × (consistent e z ≡ true))
  unfolding consistent
  consistent_are z = prefixes_are (operations e) (keeps (rules e)) (λ xs x. keeps_shorter xs x (rules e)) (keeps_empty (rules e)) z
