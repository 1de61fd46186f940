-- Each turn puts the pairs of one processor, raised by the instructions of those before it.
use lib.ListN.{take}
use Rattle.record_decoded.specs.Decoded.{instructions_of, pairs_of}
use Rattle.record_form.proofs.PairLaws.{PairsPut}
use Rattle.record_form.proofs.form.put_pairs.Given as goal

abbrev pub invariant-loop-k : goal.invariant-loop-k
invariant-loop-k l = PairsPut (instructions_of l.x.instructions) (pairs_of l.x.pairs) (take l.x.processors l.order.processors) l.initial.out l.at l.out l.next l.raise l.k
