-- Each word of the row, one after the other.
use Prim.Native.Nat.{ℕ, ◌+◌, ◌*◌, ◌/◌}
use native.Mathlib.Omega.{arith}
use mathlib.Core.Path.{ap, ◌∙◌}
use mathlib.Core.List.{List, []}
use lib.ListN.{get_or}
use lib.Dec.{eqb}
use Rattle.record_decoded.specs.Kinds.{meant}
use Rattle.relation_links.proofs.CompiledLaws.{few_processors, few_instructions}
use Rattle.search_rows.proofs.RowLaws.{wanted_first, wanted_next, owner_few, row_is}
use Rattle.search_rows.proofs.row.row_of.Goals as goal

pub bounds-owners-number : goal.bounds-owners-number
bounds-owners-number c = omega (arith, c.requires.2, (c.requires.0 []).tabled.counts, (c.requires.1 []).operations_few)

pub bounds-roles-number : goal.bounds-roles-number
bounds-roles-number c = omega (arith, c.requires.2, (c.requires.0 []).tabled.counts, (c.requires.1 []).operations_few)

pub bounds-kinds-w : goal.bounds-kinds-w
bounds-kinds-w c =
    (owner_few (c.requires.0 []) (c.requires.1 []) c.args.o.0 c.requires.2 c.requires.3 c.wide-w.result c.wide-w.ensures.0).0

pub bounds-firsts-w : goal.bounds-firsts-w
bounds-firsts-w c =
    (owner_few (c.requires.0 []) (c.requires.1 []) c.args.o.0 c.requires.2 c.requires.3 c.wide-w.result c.wide-w.ensures.0).0

pub bounds-processors-w : goal.bounds-processors-w
bounds-processors-w c =
    (owner_few (c.requires.0 []) (c.requires.1 []) c.args.o.0 c.requires.2 c.requires.3 c.wide-w.result c.wide-w.ensures.0).0

pub bounds-addresses-w : goal.bounds-addresses-w
bounds-addresses-w c =
    (owner_few (c.requires.0 []) (c.requires.1 []) c.args.o.0 c.requires.2 c.requires.3 c.wide-w.result c.wide-w.ensures.0).0

pub preds_at-preds-requires : goal.preds_at-preds-requires
preds_at-preds-requires c =
    (few_instructions [] c.args.x (c.requires.1 []), few_processors [] c.args.x (c.requires.1 []), (owner_few (c.requires.0 []) (c.requires.1 []) c.args.o.0 c.requires.2 c.requires.3 c.wide-w.result c.wide-w.ensures.0).0)

pub bounds-marks-w : goal.bounds-marks-w
bounds-marks-w c =
    (owner_few (c.requires.0 []) (c.requires.1 []) c.args.o.0 c.requires.2 c.requires.3 c.wide-w.result c.wide-w.ensures.0).0

pub bounds-marks-w-2 : goal.bounds-marks-w-2
bounds-marks-w-2 c =
    (owner_few (c.requires.0 []) (c.requires.1 []) c.args.o.0 c.requires.2 c.requires.3 c.wide-w.result c.wide-w.ensures.0).0

pub partners_at-partners-requires : goal.partners_at-partners-requires
partners_at-partners-requires c =
    (c.wide16-first.ensures.1, few_processors [] c.args.x (c.requires.1 []))

pub awaited_at-awaited-requires : goal.awaited_at-awaited-requires
awaited_at-awaited-requires c =
    (few_instructions [] c.args.x (c.requires.1 []), (owner_few (c.requires.0 []) (c.requires.1 []) c.args.o.0 c.requires.2 c.requires.3 c.wide-w.result c.wide-w.ensures.0).0)

pub bypasses_at-bypasses-requires : goal.bypasses_at-bypasses-requires
bypasses_at-bypasses-requires c =
    (few_instructions [] c.args.x (c.requires.1 []), (owner_few (c.requires.0 []) (c.requires.1 []) c.args.o.0 c.requires.2 c.requires.3 c.wide-w.result c.wide-w.ensures.0).0)

pub words_at-covered-requires : goal.words_at-covered-requires
words_at-covered-requires c =
    (owner_few (c.requires.0 []) (c.requires.1 []) c.args.o.0 c.requires.2 c.requires.3 c.wide-w.result c.wide-w.ensures.0).0

pub words_at-saw-requires : goal.words_at-saw-requires
words_at-saw-requires c =
    (owner_few (c.requires.0 []) (c.requires.1 []) c.args.o.0 c.requires.2 c.requires.3 c.wide-w.result c.wide-w.ensures.0).0

pub words_at-wrote-requires : goal.words_at-wrote-requires
words_at-wrote-requires c =
    (owner_few (c.requires.0 []) (c.requires.1 []) c.args.o.0 c.requires.2 c.requires.3 c.wide-w.result c.wide-w.ensures.0).0

pub word_of-written_word-requires : goal.word_of-written_word-requires
word_of-written_word-requires c = (c.wide-processor.ensures.1, omega (arith, c.wide-address.ensures.1))

pub visible_at-visible_word-requires : goal.visible_at-visible_word-requires
visible_at-visible_word-requires c = (c.wide-processor.ensures.1, omega (arith, c.wide-address.ensures.1))

pub number_of-own_rv-requires : goal.number_of-own_rv-requires
number_of-own_rv-requires c = (c.wide16-first.ensures.1, omega (arith, c.wide-processor.ensures.1))

pub number_of-lv-requires : goal.number_of-lv-requires
number_of-lv-requires c = (c.wide16-first.ensures.1, omega arith)

pub read_or_own-read-requires : goal.read_or_own-read-requires
read_or_own-read-requires c = c.wide16-first.ensures.1

pub returns : goal.returns
returns c =
    let g = c.args in
    let pre = c.requires in
    let lent = pre.3 in
    let w = c.wide-w.result in
    let few = (owner_few (pre.0 []) (pre.1 []) g.o.0 pre.2 lent w c.wide-w.ensures.0).1 in
    let writing = c.is_writing-writing.result in
    let reading = eqb (get_or g.roles.now g.o.0 0) 0 in
    λ bytes words. row_is (pre.0 bytes) (pre.1 bytes) g.o.0 pre.2 lent _ w c.wide16-first.result c.wide-processor.result (c.wide-address.result / 8) (meant c.kind_of-kind.result)
    (c.wide-w.ensures.0 ∙ ap (λ (own : List ℕ). get_or own g.o.0 0) lent.owners_are) c.wide16-first.ensures.0 c.kind_of-kind.ensures c.wide-processor.ensures.0
    (ap (λ (a : ℕ). a / 8) c.wide-address.ensures.0)
    c.preds_at-preds.ensures c.partners_at-partners.ensures c.awaited_at-awaited.ensures c.bypasses_at-bypasses.ensures
    (λ j. get_or g.bits.now (2 * w + j) 0) (λ j. get_or g.seen.now (2 * w + j) 0) (λ j. get_or g.written.now (2 * w + j) 0) (λ j i m l. pre.4 w j i few m l) (λ j i m l. words.seen_is w j i few m l) (λ j i m l. words.written_is w j i few m l)
    c.is_writing-writing.result c.is_writing-writing.ensures
    (wanted_first writing c.words_at-covered.ensures c.wanted-written_bits.ensures) (wanted_next writing c.words_at-covered.ensures c.wanted-written_bits.ensures) (wanted_first writing c.words_at-wrote.ensures c.wanted-written_data.ensures) (wanted_next writing c.words_at-wrote.ensures c.wanted-written_data.ensures) c.word_of-written_word.ensures
    (wanted_first reading c.words_at-covered.ensures c.wanted-read_bits.ensures) (wanted_next reading c.words_at-covered.ensures c.wanted-read_bits.ensures) (wanted_first reading c.words_at-saw.ensures c.wanted-read_data.ensures) (wanted_next reading c.words_at-saw.ensures c.wanted-read_data.ensures) c.visible_at-visible_word.ensures.0
    c.number_of-own_rv.result.0 c.number_of-lv.result.0 c.number_of-own_rv.ensures c.number_of-lv.ensures
    c.number_or_own-own.ensures c.number_or_own-local.ensures c.read_or_own-read.ensures
