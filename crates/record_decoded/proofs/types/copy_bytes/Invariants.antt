-- The loop pastes the first j of the bytes; after n turns, all of them.
use lib.ListN.{drop}
use Rattle.base.proofs.Copies.{Pasted}
use Rattle.record_decoded.proofs.types.copy_bytes.Given as goal

abbrev pub invariant-loop-j : goal.invariant-loop-j
invariant-loop-j l = Pasted l.initial.to l.at (drop l.start l.from) l.j l.to
