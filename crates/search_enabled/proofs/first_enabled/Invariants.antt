-- One operation after the other.
use Rattle.search_admit.specs.Rows.{first_words}
use Rattle.search_admit.specs.Fits.{enabled}
use Rattle.search_sets.proofs.Loops.{Taken}
use Rattle.search_sets.specs.Set.{holds}
use Prim.Native.Nat.{◌≤◌}
use Rattle.search_enabled.proofs.first_enabled.Given as goal

abbrev pub invariant-loop-y : goal.invariant-loop-y
invariant-loop-y l = (l.y ≤ l.n) × Taken (holds 0 0) (enabled l.rows 0 0 first_words) (holds l.all.lo l.all.hi) l.y
