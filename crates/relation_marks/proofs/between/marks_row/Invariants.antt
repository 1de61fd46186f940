-- Each turn enters the marks with one instruction more.
use Prim.Native.Nat.{ℕ}
use mathlib.Core.Path.{◌≡◌}
use mathlib.Core.List.{List}
use Rattle.base.proofs.Entries.{Entered}
use Rattle.record_decoded.specs.Decoded.{instruction_at, execution_of}
use Rattle.relation_marks.specs.Marks.{marks_between}
use Rattle.relation_marks.proofs.between.marks_row.Given as goal

abbrev pub invariant-loop-k : goal.invariant-loop-k
invariant-loop-k l =
    Entered 40 0 (λ j r. (bytes : List ℕ) → r ≡ marks_between (execution_of bytes l.x) (instruction_at l.x.instructions l.i) (instruction_at l.x.instructions j)) l.k l.row
