-- Each turn stores the last digit of what is left.
use Rattle.verdict.proofs.DigitLaws.{Spelled}
use Rattle.verdict.proofs.text.digits_of.Given as goal

abbrev pub invariant-loop-rest : goal.invariant-loop-rest
invariant-loop-rest l = Spelled l.n l.first l.rest l.bytes

abbrev pub decreases-loop-rest : goal.decreases-loop-rest
decreases-loop-rest l = l.rest
