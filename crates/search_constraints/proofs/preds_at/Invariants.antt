-- Each turn takes in the operations of one instruction more.
use Prim.Native.Nat.{◌≤◌}
use Rattle.search_sets.specs.Set.{holds}
use Rattle.search_sets.proofs.Loops.{Grown}
use Rattle.search_constraints.specs.Rows.{linked_of}
use Rattle.search_constraints.proofs.preds_at.Given as goal

abbrev pub invariant-loop-v : goal.invariant-loop-v
invariant-loop-v l =
    (l.v ≤ l.n) × Grown (holds 0 0) (λ u a. linked_of l.every l.kinds l.firsts l.processors l.marks l.to l.role u a) (holds l.set.lo l.set.hi) l.v
