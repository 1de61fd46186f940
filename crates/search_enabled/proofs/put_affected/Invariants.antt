-- One of those that affect y after the other: the sets, with y where those left have it put, are as they were.
use Prim.Native.Nat.{ℕ, ◌<◌}
use mathlib.Core.Path.{◌≡◌}
use mathlib.Core.Bool.{◌&&◌, ◌||◌}
use lib.Dec.{eqb}
use lib.ListN.{length}
use Rattle.search_sets.specs.Set.{holds}
use Rattle.search_sets.specs.Tables.{set_at}
use Rattle.search_enabled.proofs.put_affected.Given as goal

abbrev pub invariant-loop-a : goal.invariant-loop-a
invariant-loop-a l =
    goal.iterator-loop-a.can_next l.a-iterator × goal.iterator-loop-a.is_finite l.a-iterator × (length l.affected ≡ 128)
    × ((a k : ℕ) → a < 128 → (set_at l.affected a k || (holds l.a-iterator.left.lo l.a-iterator.left.hi a && eqb k l.y.0))
    ≡ (set_at l.initial.affected a k || (holds l.fn.affecting.lo l.fn.affecting.hi a && eqb k l.y.0)))
