-- Its first word, its next, or neither.
use Rattle.search_admit.proofs.TestLaws.{bits_first, bits_second, bits_neither}
use Rattle.search_admit.proofs.bits_at.Goals as goal

pub returns-then-word_of-word : goal.returns-then-word_of-word
returns-then-word_of-word c =
    λ i.
    let a = c.args in
    bits_first a.rows.now a.word a.m.0 i c.word_of.ensures.0 c.if-word_of-word.true c.field_of.ensures

pub returns-then-word_of-word-2 : goal.returns-then-word_of-word-2
returns-then-word_of-word-2 c =
    λ i.
    let a = c.args in
    bits_second a.rows.now a.word a.m.0 i c.word_of.ensures.0 c.if-word_of-word.false c.word_of-2.ensures.0 c.if-word_of-word-2.true c.field_of-then-word_of-word-2.ensures

pub returns : goal.returns
returns c =
    λ i.
    let a = c.args in
    bits_neither a.rows.now a.word a.m.0 i c.word_of.ensures.0 c.if-word_of-word.false c.word_of-2.ensures.0 c.if-word_of-word-2.false
