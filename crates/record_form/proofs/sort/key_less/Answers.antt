-- The programs are compared as parts of the record; where they are the same, the pairs are.
use Prim.Native.Nat.{◌+◌}
use native.Mathlib.Omega.{arith}
use mathlib.Core.Path.{◌∙◌}
use Rattle.record_form.proofs.LocatedLaws.{few, place_next, place_within, program_part, key_by_less, key_by_pairs, key_by_greater}
use Rattle.record_form.proofs.sort.key_less.Goals as goal

pub offset_bounds-places-a : goal.offset_bounds-places-a
offset_bounds-places-a c =
    let a = c.args in
    omega (arith, c.requires.2, c.requires.3, (few a.bytes.now a.x c.requires.0).processors_few)

pub bounds-places-a : goal.bounds-places-a
bounds-places-a c =
    let a = c.args in
    omega (arith, c.requires.2, c.requires.3, (few a.bytes.now a.x c.requires.0).processors_few)

pub overflow_add-left_end : goal.overflow_add-left_end
overflow_add-left_end c =
    let a = c.args in
    omega (arith, c.requires.2, c.requires.3, (few a.bytes.now a.x c.requires.0).processors_few)

pub offset_bounds-places-a-2 : goal.offset_bounds-places-a-2
offset_bounds-places-a-2 c =
    let a = c.args in
    omega (arith, c.requires.2, c.requires.3, (few a.bytes.now a.x c.requires.0).processors_few)

pub bounds-places-a-2 : goal.bounds-places-a-2
bounds-places-a-2 c =
    let a = c.args in
    omega (arith, c.requires.2, c.requires.3, (few a.bytes.now a.x c.requires.0).processors_few)

pub offset_bounds-places-b : goal.offset_bounds-places-b
offset_bounds-places-b c =
    let a = c.args in
    omega (arith, c.requires.2, c.requires.3, (few a.bytes.now a.x c.requires.0).processors_few)

pub bounds-places-b : goal.bounds-places-b
bounds-places-b c =
    let a = c.args in
    omega (arith, c.requires.2, c.requires.3, (few a.bytes.now a.x c.requires.0).processors_few)

pub overflow_add-right_end : goal.overflow_add-right_end
overflow_add-right_end c =
    let a = c.args in
    omega (arith, c.requires.2, c.requires.3, (few a.bytes.now a.x c.requires.0).processors_few)

pub offset_bounds-places-b-2 : goal.offset_bounds-places-b-2
offset_bounds-places-b-2 c =
    let a = c.args in
    omega (arith, c.requires.2, c.requires.3, (few a.bytes.now a.x c.requires.0).processors_few)

pub bounds-places-b-2 : goal.bounds-places-b-2
bounds-places-b-2 c =
    let a = c.args in
    omega (arith, c.requires.2, c.requires.3, (few a.bytes.now a.x c.requires.0).processors_few)

pub slice_bounds-lex_order-count : goal.slice_bounds-lex_order-count
slice_bounds-lex_order-count c =
    let a = c.args in
    let pre = c.requires in
    omega (arith, place_next a.bytes.now a.x a.starts pre.0 pre.1 a.a pre.2)

pub slice_bounds-lex_order-start : goal.slice_bounds-lex_order-start
slice_bounds-lex_order-start c =
    let a = c.args in
    let pre = c.requires in
    omega (arith, place_next a.bytes.now a.x a.starts pre.0 pre.1 a.a pre.2)

pub slice_bounds-lex_order-end : goal.slice_bounds-lex_order-end
slice_bounds-lex_order-end c =
    let a = c.args in
    let pre = c.requires in
    place_within a.bytes.now a.x a.starts pre.0 pre.1 (a.a + 1) (omega (arith, pre.2))

pub slice_bounds-lex_order-count-2 : goal.slice_bounds-lex_order-count-2
slice_bounds-lex_order-count-2 c =
    let a = c.args in
    let pre = c.requires in
    omega (arith, place_next a.bytes.now a.x a.starts pre.0 pre.1 a.b pre.3)

pub slice_bounds-lex_order-start-2 : goal.slice_bounds-lex_order-start-2
slice_bounds-lex_order-start-2 c =
    let a = c.args in
    let pre = c.requires in
    omega (arith, place_next a.bytes.now a.x a.starts pre.0 pre.1 a.b pre.3)

pub slice_bounds-lex_order-end-2 : goal.slice_bounds-lex_order-end-2
slice_bounds-lex_order-end-2 c =
    let a = c.args in
    let pre = c.requires in
    place_within a.bytes.now a.x a.starts pre.0 pre.1 (a.b + 1) (omega (arith, pre.3))

pub pairs_less-requires : goal.pairs_less-requires
pairs_less-requires c =
    let a = c.args in
    let pre = c.requires in
    let f = few a.bytes.now a.x pre.0 in
    (f.instructions_few, f.pairs_few, pre.1, pre.2, pre.3, f.processors_few)

pub returns-in-Less : goal.returns-in-Less
returns-in-Less c =
    let a = c.args in
    let pre = c.requires in
    let order = c.lex_order-order in
    key_by_less a.bytes.now a.x a.starts pre.0 pre.1 a.a a.b order.result order.ensures
    (program_part a.bytes.now a.x a.starts pre.0 pre.1 a.a pre.2) (program_part a.bytes.now a.x a.starts pre.0 pre.1 a.b pre.3) c.in-Less.is

pub returns-in-Equal : goal.returns-in-Equal
returns-in-Equal c =
    let a = c.args in
    let pre = c.requires in
    let order = c.lex_order-order in
    c.pairs_less.ensures ∙ key_by_pairs a.bytes.now a.x a.starts pre.0 pre.1 a.a a.b order.result order.ensures
    (program_part a.bytes.now a.x a.starts pre.0 pre.1 a.a pre.2) (program_part a.bytes.now a.x a.starts pre.0 pre.1 a.b pre.3) c.in-Equal.is

pub returns-in-Greater : goal.returns-in-Greater
returns-in-Greater c =
    let a = c.args in
    let pre = c.requires in
    let order = c.lex_order-order in
    key_by_greater a.bytes.now a.x a.starts pre.0 pre.1 a.a a.b order.result order.ensures
    (program_part a.bytes.now a.x a.starts pre.0 pre.1 a.a pre.2) (program_part a.bytes.now a.x a.starts pre.0 pre.1 a.b pre.3) c.in-Greater.is
