-- Those that are missing, one after the other; the first that must be waited for decides.
use Rattle.search_admit.specs.Fits.{waits_for}
use Rattle.search_sets.specs.Set.{holds}
use Rattle.search_sets.proofs.Loops.{one_passes, none_passes}
use Rattle.base.specs.Below.{any_below}
use mathlib.Core.Bool.{Bool, ◌&&◌, ◌||◌}
use mathlib.Core.Path.{sym, ap, ◌∙◌}
use Rattle.search_admit.proofs.waits_for_any.Goals as goal

pub returns-then-waits_for : goal.returns-then-waits_for
returns-then-waits_for c =
    let a = c.args in
    sym (sym c.loop-m.invariant.2 ∙ one_passes c.in-Some.ensures.steps (waits_for a.rows.now a.places.now a.x.0)
    ∙ ap (λ (b : Bool). b || any_below 128 (λ k. holds c.next.new.self.left.lo c.next.new.self.left.hi k && waits_for a.rows.now a.places.now a.x.0 k)) (sym c.waits_for.ensures ∙ c.if-waits_for.true))

pub returns : goal.returns
returns c =
    let a = c.args in
    sym (sym c.loop-m.invariant.2 ∙ none_passes _ _ c.in-None.ensures.steps (waits_for a.rows.now a.places.now a.x.0))
