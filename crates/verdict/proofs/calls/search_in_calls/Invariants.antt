-- Each turn is one call of the definition.
use Rattle.verdict.proofs.CallLaws.{Calling}
use Rattle.verdict.proofs.calls.search_in_calls.Given as goal

abbrev pub invariant-loop : goal.invariant-loop
invariant-loop l = Calling l.bytes l.counter l.steps l.length l.buffer
