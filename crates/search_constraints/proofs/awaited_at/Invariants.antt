-- Each turn takes in what one instruction adds.
use Prim.Native.Nat.{◌≤◌}
use lib.ListN.{get_or}
use Rattle.relation_marks.specs.Marks.{mark_at}
use Rattle.search_sets.specs.Set.{holds}
use Rattle.search_sets.proofs.Loops.{Grown}
use Rattle.search_admit.specs.Rows.{awaited_by}
use Rattle.model.specs.Execution.{kind_of}
use Rattle.search_constraints.proofs.awaited_at.Given as goal

abbrev pub invariant-loop-v : goal.invariant-loop-v
invariant-loop-v l =
    (l.v ≤ l.n) × Grown (holds 0 0) (λ u a. awaited_by (mark_at l.marks u l.to) l.role (kind_of (get_or l.kinds u 0)) (get_or l.firsts u 0) (get_or l.processors u 0) a) (holds l.set.lo l.set.hi) l.v
