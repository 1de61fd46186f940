-- The predecessors first, then what is read.
use mathlib.Core.Path.{sym, ap, ◌∙◌}
use mathlib.Core.Bool.{Bool, ◌&&◌}
use Rattle.base.proofs.Bools.{kept}
use Rattle.search_admit.specs.Fits.{reads_recorded, enabled}
use Rattle.search_admit.proofs.TestLaws.{ready_by}
use Rattle.search_admit.proofs.is_enabled.Goals as goal

pub returns-then-not-is_subset : goal.returns-then-not-is_subset
unfolding enabled
returns-then-not-is_subset c =
    let a = c.args in
    ap (λ (b : Bool). b && reads_recorded a.rows.now a.stand.lo a.stand.hi a.words.now a.x.0)
    (sym (c.if-not-is_subset.true) ∙ ready_by a.rows.now a.stand.lo a.stand.hi a.x.0 c.set_of.ensures.0 c.set_of.ensures.1 c.is_subset.ensures)

pub returns : goal.returns
unfolding enabled
returns c =
    let a = c.args in
    kept (ready_by a.rows.now a.stand.lo a.stand.hi a.x.0 c.set_of.ensures.0 c.set_of.ensures.1 c.is_subset.ensures) (c.if-not-is_subset.false) c.reads_right.ensures
