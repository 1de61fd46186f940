-- Behind the two counts each turn puts one line.
use Rattle.record_form.proofs.HeadLaws.{LinesPut}
use Rattle.record_form.proofs.form.put_head.Given as goal

abbrev pub invariant-loop-k : goal.invariant-loop-k
invariant-loop-k l = LinesPut l.bytes l.x l.initial.out l.out l.next l.k
