-- What the tables hold of an execution.
use Rattle.std.specs.Prelude.{ℕ, ◌<◌, ◌≡◌, List}
use Rattle.model.specs.Execution.{operations, all_operations}
use Rattle.record_decoded.specs.declared.types.Execution.{Execution}
use Rattle.record_decoded.specs.Decoded.{instruction_at, execution_of}
use Rattle.relation_marks.specs.Marks.{marks_between, mark_at}
use Rattle.relation_links.specs.declared.operations.Operations.{Operations}
use Rattle.relation_links.specs.Operations.{Tabled}

-- the table of operations, and the marks of every two instructions, of the execution with the initial bytes of this record
pub record CompiledIn (bytes : List ℕ) (x : Execution) (t : Operations) (marks : List (List ℕ)) : Type 0 where
  pub tabled : Tabled x.instructions t (all_operations (execution_of bytes x)) (operations (execution_of bytes x))
  pub marked : (i j : ℕ) → i < x.instructions.count → j < x.instructions.count
      → mark_at marks i j ≡ marks_between (execution_of bytes x) (instruction_at x.instructions i) (instruction_at x.instructions j)

-- The tables do not depend on the initial bytes: they hold this whatever these are.
abbrev pub Compiled : Execution → Operations → List (List ℕ) → Type 0
Compiled x t marks = (bytes : List ℕ) → CompiledIn bytes x t marks
