-- Those that do not stand and that x affects, one after the other: what is in the set, with those left that are enabled, is as it was.
use Prim.Native.Nat.{ℕ, ◌<◌}
use mathlib.Core.Path.{◌≡◌}
use mathlib.Core.Bool.{◌&&◌, ◌||◌}
use Rattle.search_admit.specs.Fits.{enabled}
use Rattle.search_sets.specs.Set.{holds}
use Rattle.search_enabled.proofs.enabled_after.Given as goal

abbrev pub invariant-loop-y : goal.invariant-loop-y
invariant-loop-y l =
    goal.iterator-loop-y.can_next l.y-iterator × goal.iterator-loop-y.is_finite l.y-iterator
    × ((y : ℕ) → y < 128 → (holds l.all.lo l.all.hi y || (holds l.y-iterator.left.lo l.y-iterator.left.hi y && enabled l.rows l.stand.lo l.stand.hi l.words y))
    ≡ (holds l.initial.all.lo l.initial.all.hi y || (holds l.initial.y-iterator.left.lo l.initial.y-iterator.left.hi y && enabled l.rows l.stand.lo l.stand.hi l.words y)))
