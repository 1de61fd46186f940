-- Each turn puts one pair behind those before it, if it is of the processor.
use Rattle.record_decoded.specs.Decoded.{instructions_of}
use Rattle.record_form.proofs.OwnLaws.{OwnPut}
use Rattle.record_form.proofs.processors.own_pairs.Given as goal

abbrev pub invariant-loop-j : goal.invariant-loop-j
invariant-loop-j l = OwnPut (instructions_of l.is) l.pairs l.p l.j l.bytes l.at
