-- Each turn enters one processor's place and first number.
use Rattle.record_decoded.specs.Decoded.{instructions_of}
use Rattle.record_form.proofs.ProcessorLaws.{StartsEntered}
use Rattle.record_form.proofs.processors.starts_of.Given as goal

abbrev pub invariant-loop-p : goal.invariant-loop-p
invariant-loop-p l = StartsEntered l.lines (instructions_of l.is) l.p l.places l.firsts
