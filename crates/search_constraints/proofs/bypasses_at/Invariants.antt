-- Not an R; else each turn takes in the own RV of one store.
use Prim.Native.Nat.{◌≤◌}
use mathlib.Core.Bool.{◌&&◌}
use lib.ListN.{length, get_or}
use lib.Dec.{eqb, ltb}
use Rattle.model.specs.Execution.{kind_of, is_store, RV, number_from}
use Rattle.relation_marks.specs.Marks.{shared_by}
use Rattle.search_sets.specs.Set.{holds}
use Rattle.search_sets.proofs.Loops.{Grown}
use Rattle.search_constraints.proofs.bypasses_at.Given as goal

abbrev pub invariant-loop-v : goal.invariant-loop-v
invariant-loop-v l =
    (l.v ≤ l.n)
    × Grown (holds 0 0)
    (λ u a. is_store (kind_of (get_or l.kinds u 0)) && (eqb (get_or l.processors u 0) l.own && ltb 0 (length (shared_by (get_or l.addresses u 0) (get_or l.sizes u 0) l.address l.size))) && eqb a (number_from (get_or l.firsts u 0) (kind_of (get_or l.kinds u 0)) (RV (get_or l.processors u 0))))
    (holds l.set.lo l.set.hi) l.v
