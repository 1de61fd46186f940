-- Nothing is read; one word, and no store is missing; or each word decides.
use mathlib.Core.Bool.{◌&&◌}
use mathlib.Core.Path.{refl, sym, ◌∙◌}
use Rattle.search_sets.proofs.Laws.{zero_has}
use Rattle.search_admit.specs.Rows.{writes_bit}
use Rattle.search_admit.proofs.TestLaws.{stands_local, any_missing, local_is, word_is, reads_none, reads_one, reads_nothing, reads_only}
use Rattle.search_admit.proofs.reads_right.Goals as goal

pub returns-then-field_of-eq0 : goal.returns-then-field_of-eq0
returns-then-field_of-eq0 c =
    let a = c.args in
    reads_nothing a.rows.now a.words.now a.stand.lo a.stand.hi a.x.0 (sym (reads_none a.rows.now a.x.0 c.field_of.ensures c.if-field_of-eq0.true))

pub returns-then-is_subset : goal.returns-then-is_subset
returns-then-is_subset c =
    let a = c.args in
    let stores = c.set_of.ensures in
    let none = any_missing a.rows.now 11 a.x.0 a.stand.lo a.stand.hi stores.0 stores.1 c.is_subset.ensures c.if-is_subset.true in
    reads_only a.rows.now a.words.now a.stand.lo a.stand.hi a.x.0
    (word_is a.rows.now a.words.now a.stand.lo a.stand.hi a.x.0 0 0 c.reads_word.ensures
    (λ i. zero_has i ∙ sym (none (λ m. stands_local a.rows.now a.stand.lo a.stand.hi m && writes_bit a.rows.now _ m i)) ∙ local_is a.rows.now a.stand.lo a.stand.hi 0 a.x.0 refl i))
    (sym (reads_one a.rows.now a.x.0 c.field_of.ensures c.if-field_of-eq0.false c.field_of-2.ensures c.if-field_of-eq0-2.true))
