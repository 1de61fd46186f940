-- Each turn counts one instruction, if its processor is a lower one.
use Rattle.record_form.proofs.ProcessorLaws.{LowerCounted}
use Rattle.record_form.proofs.processors.count_lower.Given as goal

abbrev pub invariant-loop-i : goal.invariant-loop-i
invariant-loop-i l = LowerCounted l.is l.p l.i l.count l.bytes
