-- Those that are missing, one after the other: one of those left must be waited for exactly where one of all must.
use Rattle.search_admit.specs.Fits.{waits_for}
use Rattle.search_sets.specs.Set.{holds}
use Rattle.base.specs.Below.{any_below}
use mathlib.Core.Bool.{◌&&◌}
use mathlib.Core.Path.{◌≡◌}
use Rattle.search_admit.proofs.waits_for_any.Given as goal

abbrev pub invariant-loop-m : goal.invariant-loop-m
invariant-loop-m l =
    goal.iterator-loop-m.can_next l.m-iterator × goal.iterator-loop-m.is_finite l.m-iterator
    × (any_below 128 (λ k. holds l.m-iterator.left.lo l.m-iterator.left.hi k && waits_for l.rows l.places l.x.0 k)
    ≡ any_below 128 (λ k. holds l.fn.missing.lo l.fn.missing.hi k && waits_for l.rows l.places l.x.0 k))
