-- One word that is read after the other.
use Prim.Native.Nat.{ℕ, ◌%◌, ◌≤◌}
use mathlib.Core.Path.{◌≡◌}
use mathlib.Core.Bool.{◌||◌}
use Rattle.base.specs.Below.{any_below}
use Rattle.search_sets.specs.Set.{holds}
use Rattle.search_sets.specs.Tables.{set_at}
use Rattle.search_admit.specs.Rows.{visible_word}
use Rattle.search_enabled.proofs.with_writers.Given as goal

abbrev pub invariant-loop-h : goal.invariant-loop-h
invariant-loop-h l =
    (l.count ≤ 2) × (l.h ≤ l.count) × ((a : ℕ) → holds l.all.lo l.all.hi a ≡ (holds l.initial.all.lo l.initial.all.hi a || any_below l.h (λ j. set_at l.writers (visible_word l.rows j l.y.0 % 64) a)))
