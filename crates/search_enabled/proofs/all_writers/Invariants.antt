-- One operation after the other.
use Prim.Native.Nat.{ℕ, ◌≤◌, ◌<◌}
use mathlib.Core.Path.{◌≡◌}
use mathlib.Core.Bool.{◌&&◌}
use lib.Dec.{ltb}
use Rattle.search_sets.specs.Tables.{set_at}
use Rattle.search_enabled.specs.Affects.{writes_at}
use Rattle.search_enabled.proofs.all_writers.Given as goal

abbrev pub invariant-loop-a : goal.invariant-loop-a
invariant-loop-a l = (l.a ≤ l.n) × ((p k : ℕ) → p < 64 → set_at l.writers p k ≡ (ltb k l.a && writes_at l.rows k p))
