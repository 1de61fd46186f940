-- Each turn takes in one RV more.
use Prim.Native.Nat.{◌≤◌}
use lib.Dec.{eqb}
use Rattle.model.specs.Execution.{RV, number_from}
use Rattle.search_sets.specs.Set.{holds}
use Rattle.search_sets.proofs.Loops.{Grown}
use Rattle.record_decoded.specs.Kinds.{meant}
use Rattle.search_constraints.proofs.with_every_remote.Given as goal

abbrev pub invariant-loop-to : goal.invariant-loop-to
invariant-loop-to l =
    (l.to ≤ l.processors) × Grown (holds l.initial.more.lo l.initial.more.hi) (λ q a. eqb a (number_from l.first.0 (meant l.kind) (RV q))) (holds l.more.lo l.more.hi) l.to
