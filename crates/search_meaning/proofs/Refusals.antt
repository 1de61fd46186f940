-- Rules 9, 10, 14 and 16 by instruction: which instructions refuse an operation.
use Prim.Native.Nat.{ℕ, ◌-◌}
use mathlib.Core.Bool.{Bool, false, not, cond, ◌&&◌, ◌||◌}
use mathlib.Core.List.{List}
use lib.ListN.{get_or}
use lib.Dec.{eqb, leb, ltb}
use Rattle.base.specs.Below.{any_below}
use Rattle.model.specs.Execution.{is_semaphore, Instruction, R, LV, RV, number_of}
use Rattle.model.specs.Rules.{RV_own}
use Rattle.record_decoded.specs.declared.types.Instructions.{Instructions}
use Rattle.record_decoded.specs.Decoded.{instruction_at}
use Rattle.relation_places.specs.Places.{placed, before_by}
use Rattle.relation_marks.specs.Marks.{has_mark, mark_at}
use Rattle.relation_links.specs.declared.operations.Operations.{Operations}

module _ (places : List ℕ) where
  -- a does not stand
  abbrev pub missing_by : ℕ → Bool
  missing_by a = not (ltb (placed places a) 255)

  -- Rule 9 for the own RV of store w and rule 10 for its RV to q: where store v comes first, its RV must stand.
  unfoldable pub store_lost : ℕ → Instruction → Instruction → Bool
  store_lost q v w =
      before_by places (RV_own v) (RV_own w) && missing_by (number_of v (RV q))
      || eqb q w.processor && (eqb v.processor w.processor && (before_by places (number_of v LV) (number_of w LV) && missing_by (RV_own v)))

  -- rule 16 for the RV to q of a store: semaphore v is of processor q, and its R stands, its own RV does not
  unfoldable pub semaphore_lost : ℕ → Instruction → Bool
  semaphore_lost q v = eqb q v.processor && (is_semaphore v.kind && (ltb (placed places (number_of v R)) 255 && missing_by (RV_own v)))

  -- rule 14 for a load: the LV of v stands, its own RV does not
  unfoldable pub load_lost : Instruction → Bool
  load_lost v = ltb (placed places (number_of v LV)) 255 && missing_by (RV_own v)

  -- instruction v refuses an operation, with a role, of instruction w
  unfoldable pub refuses_by : Instructions → List (List ℕ) → ℕ → ℕ → ℕ → Bool
  refuses_by is marks role w v =
      cond (eqb role 0) (has_mark (mark_at marks v w) 256 && load_lost (instruction_at is v))
      (cond (leb 3 role) (has_mark (mark_at marks v w) 128 && (store_lost (role - 3) (instruction_at is v) (instruction_at is w) || semaphore_lost (role - 3) (instruction_at is v))) false)

  -- some instruction refuses operation x
  unfoldable pub refused_by : Instructions → Operations → List (List ℕ) → ℕ → Bool
  refused_by is t marks x = any_below is.count (refuses_by is marks (get_or t.roles x 0) (get_or t.owners x 0))
