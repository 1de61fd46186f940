-- No LV, an LV that does not stand, and one that does.
use mathlib.Core.Path.{ap}
use mathlib.Core.Bool.{not}
use Rattle.search_admit.proofs.TestLaws.{bits_none, bits_absent, bits_there}
use Rattle.search_admit.specs.Rows.{writes_bit}
use Rattle.search_admit.proofs.bits_of.Goals as goal

pub returns-then-local-ge-LIMIT : goal.returns-then-local-ge-LIMIT
returns-then-local-ge-LIMIT c =
    let a = c.args in
    λ i. bits_none a.rows.now a.stand.lo a.stand.hi a.m.0 i (writes_bit a.rows.now a.word a.m.0 i) c.field_of-local.ensures c.if-local-ge-LIMIT.true

pub returns-then-not-has : goal.returns-then-not-has
returns-then-not-has c =
    let a = c.args in
    λ i. bits_absent a.rows.now a.stand.lo a.stand.hi a.m.0 i (writes_bit a.rows.now a.word a.m.0 i) c.field_of-local.ensures c.has.ensures (ap not c.if-not-has.true)

pub returns : goal.returns
returns c =
    let a = c.args in
    λ i. bits_there a.rows.now a.stand.lo a.stand.hi a.m.0 i (writes_bit a.rows.now a.word a.m.0 i) c.field_of-local.ensures c.if-local-ge-LIMIT.false c.has.ensures (ap not c.if-not-has.false) (c.bits_at.ensures i)
