-- The bits of the stores that are missing.
use Rattle.search_admit.proofs.TestLaws.{missing_is, local_by_lem}
use mathlib.Core.Path.{◌∙◌}
use Rattle.search_admit.proofs.local_bits.Goals as goal

pub returns : goal.returns
returns c =
    let a = c.args in
    let s = c.sub.result in
    let left = missing_is a.rows.now 11 a.x.0 a.stand.lo a.stand.hi c.set_of-stores.result.lo c.set_of-stores.result.hi s.lo s.hi c.set_of-stores.ensures.0 c.set_of-stores.ensures.1 c.sub.ensures in
    λ i. c.pending_bits.ensures i ∙ local_by_lem a.rows.now a.stand.lo a.stand.hi a.h a.x.0 c.requires.1 s.lo s.hi i left
