-- Each turn fills one operation; after all, the table holds the instruction's operations behind those before it.
use Rattle.record_decoded.specs.Kinds.{meant}
use Rattle.relation_links.proofs.OperationLaws.{Filled}
use Rattle.relation_links.proofs.operations.with_operations.Given as goal

abbrev pub invariant-loop-place : goal.invariant-loop-place
invariant-loop-place l = Filled l.initial.owners l.initial.roles l.t.count l.number (meant l.kind) l.place l.owners l.roles
