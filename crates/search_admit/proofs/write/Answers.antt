-- One word, or both.
use native.Mathlib.Omega.{arith}
use Prim.Native.Nat.{◌*◌}
use lib.ListN.{length-set}
use Rattle.search_admit.proofs.TestLaws.{writes_one, writes_two, write_one, write_two}
use Rattle.search_admit.proofs.write.Goals as goal

pub bounds-replaced-k-then-field_of-ne0 : goal.bounds-replaced-k-then-field_of-ne0
bounds-replaced-k-then-field_of-ne0 c =
    omega (arith, length-set c.args.replaced.now (2 * c.args.k) c.write_word.result, c.requires.1, c.requires.3)

pub returns-then-field_of-ne0 : goal.returns-then-field_of-ne0
returns-then-field_of-ne0 c =
    let a = c.args in
    write_two a.rows.now a.words.now a.replaced.now a.k a.x.0
    (writes_two a.rows.now a.x.0 c.field_of.ensures c.if-field_of-ne0.true) _ c.write_word.ensures.1 c.write_word-then-field_of-ne0.ensures.1 _ _ c.write_word.ensures.0 c.write_word-then-field_of-ne0.ensures.0

pub returns-else-field_of-ne0 : goal.returns-else-field_of-ne0
returns-else-field_of-ne0 c =
    let a = c.args in
    write_one a.rows.now a.words.now a.replaced.now a.k a.x.0
    (writes_one a.rows.now a.x.0 c.field_of.ensures c.if-field_of-ne0.false) c.write_word.ensures.1 _ c.write_word.ensures.0
