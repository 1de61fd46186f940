-- Nothing is read, or the sets of what has to do with it.
use Rattle.search_enabled.proofs.AffectLaws.{affects_none, affects_some}
use native.Mathlib.Omega.{arith}
use mathlib.Core.Path.{ap, ◌∙◌}
use mathlib.Core.Bool.{Bool, not, ◌||◌}
use borrow.Author.Tests.{ne_eqb}
use Rattle.base.proofs.Tests.{any_below_same}
use Rattle.search_sets.specs.Set.{holds}
use Rattle.search_enabled.proofs.all_affecting.Goals as goal

pub returns-then-count-eq0 : goal.returns-then-count-eq0
returns-then-count-eq0 c =
    λ n a few l writing. let g = c.args in
    let s = c.set_of-preds in
    affects_none g.rows.now a g.y.0 c.words_read-count.ensures.0 s.result.lo s.result.hi s.ensures.0 s.ensures.1 c.if-count-eq0.true

pub returns : goal.returns
returns c =
    λ n a few l writing. let g = c.args in
    let preds = c.set_of-preds in
    let stores = c.set_of-stores in
    let locals = c.with_locals-read in
    let all = c.with_writers in
    let written = writing (ap not (ne_eqb _ 0 (λ e. c.if-count-eq0.false (c.words_read-count.ensures.0 ∙ e)))) in
    affects_some g.rows.now a g.y.0 c.words_read-count.ensures.0 preds.result.lo preds.result.hi stores.result.lo stores.result.hi locals.result.lo locals.result.hi all.result.lo all.result.hi
    preds.ensures.0 preds.ensures.1 stores.ensures.0 stores.ensures.1 c.if-count-eq0.false
    (locals.ensures a (omega arith)) (all.ensures a ∙ ap (λ (b : Bool). holds locals.result.lo locals.result.hi a || b) (any_below_same _ _ _ (λ h m. written _ a (omega arith) l))) (c.bitor.ensures a)
