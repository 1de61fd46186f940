-- x has no partners; all of them stand; or some do not.
use mathlib.Core.Path.{refl}
use Rattle.search_enabled.proofs.AffectLaws.{no_partners, open_all, open_some}
use Rattle.search_enabled.proofs.open_after.Goals as goal

pub returns-then-is_subset : goal.returns-then-is_subset
returns-then-is_subset c =
    λ y. let a = c.args in
    let partners = c.set_of-partners in
    open_all a.rows.now a.x.0 a.stand.lo a.stand.hi partners.result.lo partners.result.hi partners.ensures.0 partners.ensures.1
    (no_partners partners.result.lo partners.result.hi a.stand.lo a.stand.hi c.is_subset.ensures c.if-is_subset.true) refl y _

pub returns-then-is_subset-2 : goal.returns-then-is_subset-2
returns-then-is_subset-2 c =
    λ y. let a = c.args in
    let partners = c.set_of-partners in
    open_all a.rows.now a.x.0 a.stand.lo a.stand.hi partners.result.lo partners.result.hi partners.ensures.0 partners.ensures.1 c.is_subset-2.ensures c.if-is_subset-2.true y _

pub returns-else-is_subset-2 : goal.returns-else-is_subset-2
returns-else-is_subset-2 c =
    λ y. let a = c.args in
    let partners = c.set_of-partners in
    open_some a.rows.now a.x.0 a.stand.lo a.stand.hi partners.result.lo partners.result.hi partners.ensures.0 partners.ensures.1 c.is_subset-2.ensures c.if-is_subset-2.false y _ (c.bitand.ensures y)
