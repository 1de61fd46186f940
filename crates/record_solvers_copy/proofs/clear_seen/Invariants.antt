-- Each turn clears what one instruction saw and goes on to the place of the next; after the last, all is cleared.
use Rattle.record_solvers_copy.proofs.SeenLaws.{SeenCleared}
use Rattle.record_solvers_copy.proofs.clear_seen.Given as goal

abbrev pub invariant-loop-i : goal.invariant-loop-i
invariant-loop-i l = SeenCleared l.initial.bytes l.lines l.is l.i l.bytes l.place
