-- One operation after the other.
use Rattle.search_admit.specs.Rows.{first_words}
use Rattle.search_admit.specs.Fits.{enabled}
use Rattle.search_sets.proofs.Loops.{taken_starts, taken_on, taken_ends, holds_none}
use mathlib.Core.Bool.{Bool, ◌||◌}
use mathlib.Core.Path.{ap, ◌∙◌}
use native.Mathlib.Omega.{arith}
use Rattle.search_enabled.proofs.first_enabled.Goals as goal

pub loop-y-init : goal.loop-y-init
loop-y-init c =
    (omega arith, taken_starts _ _)

pub loop-y-smaller : goal.loop-y-smaller
loop-y-smaller c =
    omega (arith, c.loop-y-test.true)

pub loop-y-preserved : goal.loop-y-preserved
loop-y-preserved c =
    let inv = c.loop-y.invariant in
    (omega (arith, c.loop-y-test.true), taken_on inv.1 _ c.is_enabled_first-now.ensures c.insert_if-all.ensures)

pub returns : goal.returns
returns c =
    λ y l.
    taken_ends c.loop-y.invariant.1 y (omega (arith, c.requires)) (omega (arith, c.loop-y-test.false))
    ∙ ap (λ (b : Bool). b || enabled c.args.rows.now 0 0 first_words y) (holds_none y)
