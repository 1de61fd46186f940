-- Each turn takes in one operation more.
use Prim.Native.Nat.{◌+◌, ◌≤◌}
use mathlib.Core.Bool.{◌&&◌}
use lib.ListN.{get_or}
use lib.Dec.{eqb}
use Rattle.model.specs.Execution.{F, kind_row}
use Rattle.record_decoded.specs.Kinds.{meant, role_numbered}
use Rattle.relation_links.specs.Linked.{linked_by}
use Rattle.search_sets.specs.Set.{holds}
use Rattle.search_sets.proofs.Loops.{Grown}
use Rattle.search_constraints.proofs.with_local.Given as goal

abbrev pub invariant-loop-place : goal.invariant-loop-place
invariant-loop-place l =
    (l.place ≤ l.n)
    × Grown (holds l.initial.more.lo l.initial.more.hi) (λ j a. linked_by l.marks l.processor (get_or (kind_row (meant l.kind)).before_remotes j F) (role_numbered l.role) && eqb a (l.from + j)) (holds l.more.lo l.more.hi) l.place
