-- The row meets the hypotheses of all claims, by computation; so they say what they say of it.
use mathlib.Core.Path.{◌≡◌, refl, sym, ap, ◌∙◌, subst}
use mathlib.Core.List.{[], ◌∷◌, ◌++◌}
use lib.ListN.{take, drop}
use Rattle.base.specs.Lists.{all, any, keep, for, count, below, member, same, distinct}
use Rattle.base.specs.Lex.{lex_less, least}
use Rattle.base.specs.Orders.{lists_below, orders_below, insert, sorted}
use Rattle.model.specs.Execution.{WB, WC, UC, roles, operation_count, attributes, lines_from}
use Rattle.model.specs.Questions.{next, item, byte, ask, question2, question3, question4, question5, question6, question7, question8, question26, question27, question9, question11, question12, question13, question14, question15, many, line_of, read_line, read_lines, seen_of, wrote_of, instruction_of, read_instruction, read_program, read_programs, read_instructions, read_pair, read_pairs, read_record}
use Rattle.model.specs.Calls.{says, and_then, answer_of, read_all}
use Rattle.model.specs.Notation.{zeros, record_of}
use Rattle.model.specs.Sections.{line_bytes, padded, data_bytes, entry_bytes}
use Rattle.model.specs.Renumbering.{own_instructions, lower_instructions, own_pairs, local_pairs, processor_at, pairs_from, touched, line_taken, head_taken, record_from, renumbered, is_equal, smallest_form, comparison, comparing, compare_call}
use Rattle.record_renumbering.specs.Keys.{key, sorted_processors}
use Rattle.record_renumbering.specs.Forms.{line_in, RenumberedRecord, Equal, LeftFirst, RightFirst}
use Rattle.record_renumbering.specs.FormsRow.{writer_reader, reader_writer, writer_reader_execution, reader_writer_execution, FormsRow}
use Rattle.record_renumbering.proofs.OwnForm.{own_form}
use Rattle.record_renumbering.proofs.FormsAccepted.{renumbered_is_accepted}
use Rattle.record_renumbering.proofs.Smallest.{sorted_is_smallest}
use Rattle.record_renumbering.proofs.FormsDecide.{forms_decide}
use Rattle.record_renumbering.proofs.CallsOrder.{equal_is_equivalence, order_is_total}

pub forms_row : FormsRow
unfolding all any keep for count below member same distinct lex_less least lists_below orders_below insert sorted roles operation_count attributes lines_from next item byte ask question2 question3 question4 question5 question6 question7 question8 question26 question27 question9 question11 question12 question13 question14 question15 many line_of read_line read_lines seen_of wrote_of instruction_of read_instruction read_program read_programs read_instructions read_pair read_pairs read_record and_then answer_of read_all zeros record_of line_bytes padded data_bytes entry_bytes own_instructions lower_instructions own_pairs local_pairs processor_at pairs_from touched line_taken head_taken record_from renumbered is_equal smallest_form comparison comparing compare_call key writer_reader reader_writer writer_reader_execution reader_writer_execution
forms_row = (refl, refl, refl, refl, refl, refl, refl, refl, refl, refl, refl, refl)

-- what each claim says of it
pub row_own : renumbered (reader_writer_execution WC 5) (below 2) ≡ take 2 (reader_writer 2 5) ++ (for (below 2) (line_in (reader_writer 2 5) (reader_writer_execution WC 5).instructions) ++ drop 20 (reader_writer 2 5))
unfolding reader_writer_execution
row_own = own_form (reader_writer 2 5) (reader_writer_execution WC 5) forms_row.1

pub row_accepted : RenumberedRecord (writer_reader_execution (UC 0) 5) (1 ∷ 0 ∷ []) (reader_writer_execution WB 5)
unfolding writer_reader_execution distinct member
row_accepted =
    let e = writer_reader_execution (UC 0) 5 in
    let (f, h, anew) = renumbered_is_accepted (writer_reader 1 5) e forms_row.0 (1 ∷ 0 ∷ []) (refl, refl) in
    let said : says (reader_writer_execution WB 5) ≡ says f = sym forms_row.11 ∙ ap read_all (sym forms_row.10) ∙ h in
    let z : f ≡ reader_writer_execution WB 5 = cc in
    subst (RenumberedRecord e (1 ∷ 0 ∷ [])) z anew

pub row_sorted : smallest_form (reader_writer_execution WC 5) ≡ renumbered (reader_writer_execution WC 5) (sorted_processors (reader_writer_execution WC 5))
row_sorted = sorted_is_smallest (reader_writer 2 5) (reader_writer_execution WC 5) forms_row.1

pub row_decided : is_equal (writer_reader_execution (UC 0) 5) (reader_writer_execution WC 5) ≡ same (smallest_form (writer_reader_execution (UC 0) 5)) (smallest_form (reader_writer_execution WC 5))
row_decided = forms_decide (writer_reader 1 5) (reader_writer 2 5) (writer_reader_execution (UC 0) 5) (reader_writer_execution WC 5) forms_row.0 forms_row.1

pub row_itself : Equal (writer_reader 1 5) (writer_reader 1 5)
row_itself = equal_is_equivalence.reflexive (writer_reader 1 5) (writer_reader_execution (UC 0) 5, forms_row.0)

pub row_symmetric : Equal (reader_writer 2 5) (writer_reader 1 5)
row_symmetric = equal_is_equivalence.symmetric (writer_reader 1 5) (reader_writer 2 5) forms_row.5

pub row_transitive : Equal (writer_reader 1 5) (writer_reader 17 5)
row_transitive = equal_is_equivalence.transitive (writer_reader 1 5) (reader_writer 2 5) (writer_reader 17 5) forms_row.5 forms_row.6

pub row_turned : RightFirst (writer_reader 1 6) (reader_writer 2 5)
row_turned = (order_is_total.turned (reader_writer 2 5) (writer_reader 1 6)).0 forms_row.7

pub row_before : LeftFirst (writer_reader 1 5) (writer_reader 1 6)
row_before = order_is_total.equal_before (writer_reader 1 5) (reader_writer 2 5) (writer_reader 1 6) forms_row.5 forms_row.7

pub row_behind : LeftFirst (reader_writer 2 5) (reader_writer 0 6)
row_behind = order_is_total.equal_behind (reader_writer 2 5) (writer_reader 1 6) (reader_writer 0 6) forms_row.7 forms_row.8

pub row_onward : LeftFirst (reader_writer 2 5) (writer_reader 1 7)
row_onward = order_is_total.transitive (reader_writer 2 5) (writer_reader 1 6) (writer_reader 1 7) forms_row.7 forms_row.9
