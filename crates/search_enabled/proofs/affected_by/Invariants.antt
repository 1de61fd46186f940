-- One operation after the other.
use Rattle.search_enabled.specs.Affects.{affects}
use Rattle.search_sets.specs.Tables.{set_at}
use lib.Dec.{ltb}
use mathlib.Core.Bool.{◌&&◌}
use mathlib.Core.Path.{◌≡◌}
use Prim.Native.Nat.{ℕ, ◌≤◌, ◌<◌}
use Rattle.search_enabled.proofs.affected_by.Given as goal

abbrev pub invariant-loop-y : goal.invariant-loop-y
invariant-loop-y l = (l.y ≤ l.n) × ((a k : ℕ) → a < l.n → set_at l.affected a k ≡ (ltb k l.y && affects l.rows a k))
