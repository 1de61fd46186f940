-- Each turn puts one byte of the processor's own pairs, raised; their end is left out.
use Rattle.record_form.proofs.PairLaws.{Raised}
use Rattle.record_form.proofs.form.put_own.Given as goal

abbrev pub invariant-loop-j : goal.invariant-loop-j
invariant-loop-j l = Raised l.initial.out l.at l.raise l.own.bytes l.n l.out l.j
