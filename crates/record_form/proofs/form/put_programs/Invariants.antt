-- Each turn copies one program from where it stands in the record.
use Rattle.record_form.proofs.PieceLaws.{ProgramsPut}
use Rattle.record_form.proofs.form.put_programs.Given as goal

abbrev pub invariant-loop-k : goal.invariant-loop-k
invariant-loop-k l = ProgramsPut l.bytes l.places l.order.processors l.k-end l.initial.out l.at l.out l.next l.k
