-- All that x affects stand; or those that do not, one after the other.
use Rattle.search_enabled.proofs.AffectLaws.{after_none, after_is}
use Rattle.search_admit.specs.Fits.{enabled}
use Rattle.search_sets.proofs.Loops.{member_once, member_all}
use mathlib.Core.Path.{◌≡◌, ap, ◌∙◌}
use mathlib.Core.Bool.{◌&&◌, ◌||◌}
use Rattle.search_sets.specs.Set.{holds}
use Rattle.search_sets.specs.declared.Set.{Set}
use Rattle.search_enabled.proofs.enabled_after.Goals as goal

pub returns-then-is_subset : goal.returns-then-is_subset
returns-then-is_subset c =
    λ y l.
    let a = c.args in
    after_none a.rows.now a.affected.now a.words.now a.before.lo a.before.hi a.stand.lo a.stand.hi a.x.0 y c.sub.result.lo c.sub.result.hi c.sub-kept.result.lo c.sub-kept.result.hi l (c.sub.ensures y) (c.sub-kept.ensures y) c.is_subset.ensures c.if-is_subset.true

pub loop-y-preserved : goal.loop-y-preserved
loop-y-preserved c =
    let a = c.args in
    (tt, tt, λ y l. member_once c.in-Some.ensures.steps y (enabled a.rows.now a.stand.lo a.stand.hi a.words.now) _ c.is_enabled-now.ensures (c.insert_if-all.ensures y l) ∙ c.loop-y.invariant.2 y l)

pub returns : goal.returns
returns c =
    λ y l.
    let a = c.args in
    let same : c.into_iter-y-iterator.result.left ≡ c.sub-again.result = cc in
    member_all _ _ c.in-None.ensures.steps y (enabled a.rows.now a.stand.lo a.stand.hi a.words.now y) l ∙ c.loop-y.invariant.2 y l
    ∙ ap (λ (s : Set). holds c.sub-kept.result.lo c.sub-kept.result.hi y || (holds s.lo s.hi y && enabled a.rows.now a.stand.lo a.stand.hi a.words.now y)) same
    ∙ after_is a.rows.now a.affected.now a.words.now a.before.lo a.before.hi a.stand.lo a.stand.hi a.x.0 y c.sub-again.result.lo c.sub-again.result.hi c.sub.result.lo c.sub.result.hi c.sub-kept.result.lo c.sub-kept.result.hi (c.sub-again.ensures y) (c.sub.ensures y) (c.sub-kept.ensures y)
