-- The rules as tests of tables. `places` says where each operation stands, `marks` what two instructions are to each other.
use Rattle.std.specs.Prelude.{ℕ, Bool, false, not, cond, ◌&&◌, List, get_or, eqb}
use Rattle.base.specs.Below.{any_below}
use Rattle.model.specs.Execution.{Instruction, R, LV, RV, number_of}
use Rattle.model.specs.Rules.{RV_own}
use Rattle.record_decoded.specs.Kinds.{role_numbered}
use Rattle.record_decoded.specs.Decoded.{instruction_at}
use Rattle.record_decoded.specs.declared.types.Instructions.{Instructions}
use Rattle.relation_places.specs.Places.{before_by}
use Rattle.relation_marks.specs.Marks.{has_mark, conflict_mark, bypass_mark, atomic_mark, semaphore_mark, mark_at}
use Rattle.relation_links.specs.Links.{link_by}

module _ (places : List ℕ) where
  -- Two instructions, with N operations and P processors

  -- 9: of one processor, LV before LV, and not the own RVs
  unfoldable pub own_turned : Instruction → Instruction → Bool
  own_turned v w =
      eqb v.processor w.processor
      && (before_by places (number_of v LV) (number_of w LV) && before_by places (RV_own w) (RV_own v))

  -- some RV of v is before that of w to the same processor
  unfoldable pub remote_before : ℕ → Instruction → Instruction → Bool
  remote_before P v w = any_below P (λ q. before_by places (number_of v (RV q)) (number_of w (RV q)))

  -- 10: some RV before the other's, and some after
  unfoldable pub remote_turned : ℕ → Instruction → Instruction → Bool
  remote_turned P v w = remote_before P v w && remote_before P w v

  -- 12: operation o is none of the RVs of v, and stands after one of them and before another
  unfoldable pub release_split_by : ℕ → Instruction → ℕ → Bool
  release_split_by P v o =
      not (any_below P (λ q. eqb (number_of v (RV q)) o))
      && (any_below P (λ q. before_by places (number_of v (RV q)) o) && any_below P (λ q. before_by places o (number_of v (RV q))))

  -- some operation does
  unfoldable pub release_split : ℕ → ℕ → Instruction → Bool
  release_split N P v = any_below N (release_split_by P v)

  -- 14: LV, then R, then the own RV
  unfoldable pub bypassed : Instruction → Instruction → Bool
  bypassed v w = before_by places (number_of v LV) (number_of w R) && before_by places (number_of w R) (RV_own v)

  -- 16: R of v, then the RV of w to its processor, then its own RV
  unfoldable pub semaphore_split : Instruction → Instruction → Bool
  semaphore_split v w =
      before_by places (number_of v R) (number_of w (RV v.processor)) && before_by places (number_of w (RV v.processor)) (RV_own v)

  -- the two break the rule, by their marks m
  unfoldable pub pair_broken : ℕ → ℕ → ℕ → ℕ → Instruction → Instruction → Bool
  pair_broken rule m N P v w =
      cond (eqb rule 9) (has_mark m conflict_mark && own_turned v w)
      (cond (eqb rule 10) (has_mark m conflict_mark && remote_turned P v w)
      (cond (eqb rule 12) (has_mark m atomic_mark && release_split N P v)
      (cond (eqb rule 14) (has_mark m bypass_mark && bypassed v w)
      (cond (eqb rule 16) (has_mark m semaphore_mark && semaphore_split v w) false))))

  -- some two instructions break rule 9, 10, 12, 14 or 16
  unfoldable pub pairs_broken : ℕ → Instructions → List (List ℕ) → ℕ → ℕ → Bool
  pairs_broken rule is marks N P =
      any_below is.count (λ i. any_below is.count (λ j. pair_broken rule (mark_at marks i j) N P (instruction_at is i) (instruction_at is j)))

  -- operation a, of instruction i, stands against a link of rule 1 to 8, 13 or 15 to operation b
  unfoldable pub stands_against : ℕ → List ℕ → List ℕ → List ℕ → List (List ℕ) → ℕ → ℕ → ℕ → Bool
  stands_against rule owners roles processors marks i a b =
      before_by places b a
      && link_by rule (mark_at marks i (get_or owners b 0)) (get_or processors i 0) (role_numbered (get_or roles a 0)) (role_numbered (get_or roles b 0))

  -- some two operations, of n, do
  unfoldable pub links_broken : ℕ → ℕ → List ℕ → List ℕ → List ℕ → List (List ℕ) → Bool
  links_broken rule n owners roles processors marks =
      any_below n (λ a. any_below n (stands_against rule owners roles processors marks (get_or owners a 0) a))
