-- The rows meet what the claims ask, by computation; what the claims then say of them.
use Prim.Native.Nat.{ℕ, ◌≤◌}
use native.Mathlib.Omega.{arith}
use mathlib.Core.Path.{◌≡◌, refl, ap}
use mathlib.Core.List.{[], ◌∷◌, map}
use mathlib.Core.Logic.{◌↔◌}
use lib.ListN.{length}
use Rattle.base.specs.Lists.{all, any, keep, when, for, count, below, member, same, distinct}
use Rattle.base.specs.Orders.{lists_below, orders_below}
use Rattle.base.specs.Lex.{lex_less}
use Rattle.model.specs.Execution.{Attribute, WC, UC, roles, operation_count, operations, remotes_at, place_among, operations_of, all_operations, loads, stores, semaphores, every_processor, attributes, line_at, lines_from, attribute_at, initial_byte}
use Rattle.model.specs.Questions.{next, item, byte, ask, question2, question3, question4, question5, question6, question7, question8, question26, question27, question9, question11, question12, question13, question14, question15, many, line_of, read_line, read_lines, seen_of, wrote_of, instruction_of, read_instruction, read_program, read_programs, read_instructions, read_pair, read_pairs, read_record}
use Rattle.model.specs.Rules.{before, addresses, accesses, shared_bytes, overlap, link1, link2, link3, link4, link5, link6, link7, paired, link8, link13, link15, links_of, conflict, for_conflicts, rule9, rule10, sight_of, rule11, remote_of, rule12, rule14, rule16, rules, byte_of, latest, local, byte_read, broken, lowest_from, lowest_broken, keeps, consistent}
use Rattle.model.specs.Search.{absent, up_to_full, extensions, prefixes, after, reached, search_from}
use Rattle.model.specs.Calls.{Legal, NoneLegal, and_then, asks, answer_of, read_all, judge_order, judge_call, search_position, search_saved, searching, search_reply, search_call}
use Rattle.model.specs.Courses.{start, called, ended, course}
use Rattle.model.specs.Notation.{zeros, record_of}
use Rattle.model.specs.Sections.{line_bytes, padded, data_bytes, entry_bytes}
use Rattle.model.specs.Renumbering.{own_instructions, lower_instructions, own_pairs, local_pairs, processor_at, pairs_from, touched, line_taken, head_taken, record_from, renumbered, is_equal, comparison, comparing, compare_call}
use Rattle.record_renumbering.specs.FormsRow.{writer_reader, reader_writer, writer_reader_execution, reader_writer_execution}
use Rattle.compare_claim.specs.EqualMarksRow.{row_buffer, row_calls, search_of, EqualMarksRow}
use Rattle.compare_claim.specs.EqualMarks.{CarriedOver}
use Rattle.compare_claim.proofs.EqualMarks.{equal_one_mark, orders_carried_over, equal_searches_agree}

five : (attribute : Attribute) (value : ℕ) → (operations (writer_reader_execution attribute value) ≡ 5) × (operations (reader_writer_execution attribute value) ≡ 5)
unfolding count below roles operation_count operations writer_reader_execution reader_writer_execution
five attribute value = (refl, refl)

room : {n : ℕ} → n ≡ 5 → n ≤ length row_buffer
unfolding row_buffer
room h = rw h (omega arith)

pub equal_marks_row : EqualMarksRow
unfolding all any keep when for count below member same distinct lists_below orders_below lex_less roles operation_count operations remotes_at place_among operations_of all_operations loads stores semaphores every_processor attributes line_at lines_from attribute_at initial_byte next item byte ask question2 question3 question4 question5 question6 question7 question8 question26 question27 question9 question11 question12 question13 question14 question15 many line_of read_line read_lines seen_of wrote_of instruction_of read_instruction read_program read_programs read_instructions read_pair read_pairs read_record before addresses accesses shared_bytes overlap link1 link2 link3 link4 link5 link6 link7 paired link8 link13 link15 links_of conflict for_conflicts rule9 rule10 sight_of rule11 remote_of rule12 rule14 rule16 rules byte_of latest local byte_read broken lowest_from lowest_broken keeps consistent absent up_to_full extensions prefixes after reached search_from and_then asks answer_of read_all judge_order judge_call search_position search_saved searching search_reply search_call start called course zeros record_of line_bytes padded data_bytes entry_bytes own_instructions lower_instructions own_pairs local_pairs processor_at pairs_from touched line_taken head_taken record_from renumbered is_equal comparison comparing compare_call writer_reader reader_writer writer_reader_execution reader_writer_execution row_buffer row_calls
equal_marks_row = (
  (refl, refl, refl, room (five (UC 0) 1).0, room (five WC 1).1, refl, refl, refl, refl),
  (refl, refl, refl, room (five (UC 0) 5).0, room (five WC 5).1, refl, refl, refl, refl),
  refl,
  refl,
  refl,
  refl,
  refl,
  refl,
  refl,
)

-- what each claim says of them
pub row_one_mark : NoneLegal (writer_reader 1 5) ↔ NoneLegal (reader_writer 2 5)
row_one_mark = equal_one_mark (writer_reader 1 5) (reader_writer 2 5) equal_marks_row.1.2

pub row_carried_over : CarriedOver (writer_reader 1 1) (reader_writer 2 1) (writer_reader_execution (UC 0) 1) (reader_writer_execution WC 1)
row_carried_over =
    let m = equal_marks_row.0 in
    orders_carried_over (writer_reader 1 1) (reader_writer 2 1) (writer_reader_execution (UC 0) 1) (reader_writer_execution WC 1) m.0 m.1 m.2

pub row_legal_too : Legal (reader_writer 2 1) (map row_carried_over.new_operation (0 ∷ 1 ∷ 3 ∷ 2 ∷ 4 ∷ []))
row_legal_too = row_carried_over.legal_too (0 ∷ 1 ∷ 3 ∷ 2 ∷ 4 ∷ []) equal_marks_row.6

pub row_searches_agree : (search_of (writer_reader 1 5)).answer ≡ (search_of (reader_writer 2 5)).answer
row_searches_agree =
    let m = equal_marks_row.1 in
    equal_searches_agree (writer_reader 1 5) (reader_writer 2 5) (writer_reader_execution (UC 0) 5) (reader_writer_execution WC 5) m.0 m.1 m.2
    row_buffer row_buffer m.3 m.4 row_calls row_calls m.5 m.6 (ap ended m.7) (ap ended m.8)
