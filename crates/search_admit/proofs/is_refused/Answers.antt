-- None is missing, or one of those that are must be waited for.
use Rattle.search_admit.proofs.TestLaws.{missing_is, any_missing, refused_by_lem}
use Rattle.search_admit.specs.Fits.{waits_for, refused}
use mathlib.Core.Path.{sym, ◌∙◌}
use Rattle.search_admit.proofs.is_refused.Goals as goal

pub returns-then-is_subset : goal.returns-then-is_subset
unfolding refused
returns-then-is_subset c =
    let a = c.args in
    sym (any_missing a.rows.now 0 a.x.0 a.stand.lo a.stand.hi c.set_of-awaited.ensures.0 c.set_of-awaited.ensures.1 c.is_subset.ensures c.if-is_subset.true (waits_for a.rows.now a.places.now a.x.0))

pub returns : goal.returns
returns c =
    let a = c.args in
    let s = c.sub.result in
    c.waits_for_any.ensures
    ∙ refused_by_lem a.rows.now a.places.now a.stand.lo a.stand.hi a.x.0 s.lo s.hi
    (missing_is a.rows.now 0 a.x.0 a.stand.lo a.stand.hi c.set_of-awaited.result.lo c.set_of-awaited.result.hi s.lo s.hi c.set_of-awaited.ensures.0 c.set_of-awaited.ensures.1 c.sub.ensures)
