-- Each turn puts one program behind its count, or the count that is too large; what is put and what is left make the whole.
use Rattle.record_writer.proofs.RecordLaws.{Programs}
use Rattle.record_writer.proofs.compose.put_programs.Given as goal

abbrev pub invariant-loop-p : goal.invariant-loop-p
invariant-loop-p l = Programs l.initial.out l.at l.instructions l.pairs l.processors l.out l.next l.count l.p
