-- One word, or both, the last first.
use Rattle.search_admit.proofs.TestLaws.{writes_one, writes_two, back_one, back_two}
use Rattle.search_admit.proofs.unwrite.Goals as goal

pub returns-then-field_of-eq0 : goal.returns-then-field_of-eq0
returns-then-field_of-eq0 c =
    let a = c.args in
    back_one a.rows.now a.words.now a.replaced.now a.k a.x.0
    (writes_one a.rows.now a.x.0 c.field_of.ensures c.if-field_of-eq0.true) c.put_back.ensures

pub returns-else-field_of-eq0 : goal.returns-else-field_of-eq0
returns-else-field_of-eq0 c =
    let a = c.args in
    back_two a.rows.now a.words.now a.replaced.now a.k a.x.0
    (writes_two a.rows.now a.x.0 c.field_of.ensures c.if-field_of-eq0.false) _
    c.put_back-else-field_of-eq0.ensures c.put_back-else-field_of-eq0-2.ensures
