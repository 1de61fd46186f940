-- Each turn puts one processor more among the sorted ones.
use Rattle.record_decoded.specs.Decoded.{instructions_of, pairs_of}
use Rattle.record_renumbering.specs.Keys.{key_less}
use Rattle.record_form.proofs.SortLaws.{SortedSoFar}
use Rattle.record_form.proofs.sort.sorted_processors.Given as goal

abbrev pub invariant-loop-n : goal.invariant-loop-n
invariant-loop-n l = SortedSoFar (key_less (instructions_of l.x.instructions) (pairs_of l.x.pairs)) l.x.processors l.n l.order.processors
