-- One store after the other: what is in the set, with what those left add, is as it was.
use Prim.Native.Nat.{ℕ, ◌<◌}
use mathlib.Core.Path.{◌≡◌}
use mathlib.Core.Bool.{◌&&◌, ◌||◌}
use lib.Dec.{eqb}
use Rattle.base.specs.Below.{any_below}
use Rattle.search_sets.specs.Set.{holds}
use Rattle.search_admit.specs.Rows.{local_of}
use Rattle.search_enabled.proofs.with_locals.Given as goal

abbrev pub invariant-loop-m : goal.invariant-loop-m
invariant-loop-m l =
    goal.iterator-loop-m.can_next l.m-iterator × goal.iterator-loop-m.is_finite l.m-iterator
    × ((a : ℕ) → a < 128 → (holds l.all.lo l.all.hi a || any_below 128 (λ m. holds l.m-iterator.left.lo l.m-iterator.left.hi m && eqb (local_of l.rows m) a))
    ≡ (holds l.fn.set.lo l.fn.set.hi a || any_below 128 (λ m. holds l.fn.stores.lo l.fn.stores.hi m && eqb (local_of l.rows m) a)))
