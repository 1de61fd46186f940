-- The missing stores, one after the other: a bit is set, or one of those left writes it, exactly where one of all does.
use Rattle.search_admit.proofs.TestLaws.{stands_local}
use Rattle.search_admit.specs.Rows.{writes_bit}
use Rattle.search_sets.specs.Set.{holds}
use Rattle.base.specs.Bits.{bit}
use Rattle.base.specs.Below.{any_below}
use mathlib.Core.Bool.{◌&&◌, ◌||◌}
use mathlib.Core.Path.{◌≡◌}
use Prim.Native.Nat.{ℕ}
use Rattle.search_admit.proofs.pending_bits.Given as goal

abbrev pub invariant-loop-m : goal.invariant-loop-m
invariant-loop-m l =
    goal.iterator-loop-m.can_next l.m-iterator × goal.iterator-loop-m.is_finite l.m-iterator
    × ((i : ℕ) → (bit l.bits i || any_below 128 (λ k. holds l.m-iterator.left.lo l.m-iterator.left.hi k && (stands_local l.rows l.stand.lo l.stand.hi k && writes_bit l.rows l.word k i)))
    ≡ any_below 128 (λ k. holds l.fn.missing.lo l.fn.missing.hi k && (stands_local l.rows l.stand.lo l.stand.hi k && writes_bit l.rows l.word k i)))
