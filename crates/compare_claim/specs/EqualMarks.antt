-- Document 02, P9: equal records have the same mark, allowed or forbidden. Their orders and steps may differ.
use Rattle.std.specs.Prelude.{ℕ, ◌<◌, ◌≤◌, ◌≡◌, true, ◌↔◌, length}
use mathlib.Core.List.{List, map, Memᴰ}
use Rattle.model.specs.Execution.{Execution, Operation, operations, all_operations}
use Rattle.model.specs.Calls.{says, read_all, Legal, NoneLegal}
use Rattle.model.specs.Courses.{Call, start, ended, course}
use Rattle.model.specs.Renumbering.{equal, compare_call}
use Rattle.renumbered_marks.specs.Roles.{role_to}

-- Of equal records both have a legal order, or neither.
abbrev pub EqualOneMark : Type 0
EqualOneMark = (left right : List ℕ) → compare_call left right ≡ says equal → NoneLegal left ↔ NoneLegal right

-- What it rests on: a legal order of the one record is, its operations renumbered, a legal order of the other.

-- Operation a of the one is operation b of the other, under new numbers of processors and operations. It is the same but for its number and its instruction's
-- processor; an RV_q goes with its q.
pub record Becomes (new_processor new_operation : ℕ → ℕ) (a b : Operation) : Type 0 where
  pub number_is : b.number ≡ new_operation a.number
  pub role_is : b.role ≡ role_to new_processor a.role
  pub processor_is : b.instruction.processor ≡ new_processor a.instruction.processor
  pub kind_is : b.instruction.kind ≡ a.instruction.kind
  pub address_is : b.instruction.address ≡ a.instruction.address
  pub size_is : b.instruction.size ≡ a.instruction.size
  pub seen_is : b.instruction.seen ≡ a.instruction.seen
  pub wrote_is : b.instruction.wrote ≡ a.instruction.wrote

-- A renumbering of the processors and operations of e, which the left record holds, to those of f, which the right one holds.
pub record CarriedOver (left right : List ℕ) (e f : Execution) : Type 0 where
  pub new_processor : ℕ → ℕ
  pub new_operation : ℕ → ℕ
  -- Processors are renumbered: as many, each has a number below P, and no two have one.
  pub processors_same : e.processors ≡ f.processors
  pub processor_below : (p : ℕ) → p < e.processors → new_processor p < f.processors
  pub processor_one : (p q : ℕ) → p < e.processors → q < e.processors → new_processor p ≡ new_processor q → p ≡ q
  -- Operations are: as many, no two have one number, and each becomes one of the other record.
  pub operations_same : operations e ≡ operations f
  pub operation_one : (a b : ℕ) → a < operations e → b < operations e → new_operation a ≡ new_operation b → a ≡ b
  pub becomes : (a : Operation) → Memᴰ a (all_operations e) → (b : Operation) × Memᴰ b (all_operations f) × Becomes new_processor new_operation a b
  -- Each legal order, renumbered, is legal.
  pub legal_too : (order : List ℕ) → Legal left order → Legal right (map new_operation order)

abbrev pub OrdersCarriedOver : Type 0
OrdersCarriedOver =
    (left right : List ℕ) (e f : Execution) → read_all left ≡ says e → read_all right ≡ says f → compare_call left right ≡ says equal
    → CarriedOver left right e f

-- So the searches of equal records agree: by any lists of calls whose other calls are refused, over any buffers with room, whenever both have come to 'allowed' or
-- 'forbidden' they have come to the same.
abbrev pub EqualSearchesAgree : Type 0
EqualSearchesAgree =
    (left right : List ℕ) (e f : Execution) → read_all left ≡ says e → read_all right ≡ says f → compare_call left right ≡ says equal
    → (b c : List ℕ) → operations e ≤ length b → operations f ≤ length c
    → (calls others : List Call) → (course left calls (start b)).refused ≡ true → (course right others (start c)).refused ≡ true
    → ended (course left calls (start b)).answer ≡ true → ended (course right others (start c)).answer ≡ true
    → (course left calls (start b)).answer ≡ (course right others (start c)).answer
