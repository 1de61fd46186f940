-- Each turn enters the row of one instruction more.
use Prim.Native.Nat.{ℕ, ◌<◌}
use mathlib.Core.Path.{◌≡◌}
use mathlib.Core.List.{List, []}
use lib.ListN.{get_or}
use Rattle.base.proofs.Entries.{Entered}
use Rattle.record_decoded.specs.Decoded.{instruction_at, execution_of}
use Rattle.relation_marks.specs.Marks.{marks_between}
use Rattle.relation_marks.proofs.between.all_marks.Given as goal

abbrev pub invariant-loop-m : goal.invariant-loop-m
invariant-loop-m l = Entered 40 [] (λ i row. (bytes : List ℕ) (k : ℕ) → k < l.x.instructions.count → get_or row k 0 ≡ marks_between (execution_of bytes l.x) (instruction_at l.x.instructions i) (instruction_at l.x.instructions k)) l.m l.marks
