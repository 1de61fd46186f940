-- By the bits of its two words.
use native.Mathlib.Omega.{arith}
use Rattle.search_admit.proofs.TestLaws.{reads_none, reads_one, reads_two}
use Rattle.search_admit.proofs.words_read.Goals as goal

pub returns-then-field_of-eq0 : goal.returns-then-field_of-eq0
returns-then-field_of-eq0 c = let a = c.args in (reads_none a.rows.now a.x.0 c.field_of.ensures c.if-field_of-eq0.true, omega arith)

pub returns-then-field_of-eq0-2 : goal.returns-then-field_of-eq0-2
returns-then-field_of-eq0-2 c =
    let a = c.args in
    (reads_one a.rows.now a.x.0 c.field_of.ensures c.if-field_of-eq0.false c.field_of-2.ensures c.if-field_of-eq0-2.true, omega arith)

pub returns : goal.returns
returns c =
    let a = c.args in
    (reads_two a.rows.now a.x.0 c.field_of.ensures c.if-field_of-eq0.false c.field_of-2.ensures c.if-field_of-eq0-2.false, omega arith)
