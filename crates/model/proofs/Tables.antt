-- The tables of examples hold: each row by computation.
use mathlib.Core.Path.{refl}
use Rattle.base.specs.Lists.{all, any, keep, when, for, count, below, member, distinct, same}
use Rattle.base.specs.Lex.{lex_less, least}
use Rattle.base.specs.Orders.{lists_below, orders_below}
use Rattle.model.specs.Execution.{roles, operation_count, operations, remotes_at, place_among, operations_of, all_operations, loads, stores, semaphores, every_processor, attributes, line_at, lines_from, attribute_at, initial_byte}
use Rattle.model.specs.Questions.{next, item, byte, ask, question2, question3, question4, question5, question6, question7, question8, question26, question27, question9, question11, question12, question13, question14, question15, many, line_of, read_line, read_lines, seen_of, wrote_of, instruction_of, read_instruction, read_program, read_programs, read_instructions, read_pair, read_pairs, read_record}
use Rattle.model.specs.Rules.{before, addresses, accesses, shared_bytes, overlap, link1, link2, link3, link4, link5, link6, link7, paired, link8, link13, link15, links_of, conflict, for_conflicts, rule9, rule10, sight_of, rule11, remote_of, rule12, rule14, rule16, rules, linked, byte_of, latest, local, byte_read, broken, lowest_from, lowest_broken, keeps, consistent}
use Rattle.model.specs.Search.{absent, up_to_full, extensions, prefixes, after, reached, search_from}
use Rattle.model.specs.Chains.{leads, reached_by, chain_mark, chain_marks}
use Rattle.model.specs.Calls.{and_then, asks, answer_of, read_all, judge_order, judge_call, search_position, search_saved, searching, search_reply, search_call, table_marks, tabling, table_reply, table_call, record_reply}
use Rattle.model.specs.Sections.{section_entry_length, entries_up_to, entries_of, is_whole, all_whole, question23, question24, program_of, program_bytes, write_record, writing, write_call, line_bytes, padded, data_bytes, entry_bytes}
use Rattle.model.specs.Sections as sections
use Rattle.model.specs.SolversCopy.{entries_length, data_place, seen_length, seen_places, zeroed, copying, solvers_copy_call}
use Rattle.model.specs.Renumbering.{own_instructions, lower_instructions, own_pairs, local_pairs, processor_at, pairs_from, touched, line_taken, head_taken, record_from, renumbered, is_equal, smallest_form, comparison, comparing, compare_call, stands_first, handed, first_call}
use Rattle.model.specs.Courses.{start, called, course}
use Rattle.model.specs.Verdict.{call_once, call_on, digits, lines, verdict_lines}
use Rattle.model.specs.Notation.{zeros, record_of}
use Rattle.model.specs.Rows.{RowsHold, made, wanted}
use Rattle.model.specs.PaperTable.{k1, k2, k4, k6, k7, k8, k9, k10, k11, k12, k11_ld, k11_pair, paper_table}
use Rattle.model.specs.RuleTable.{rule_table}
use Rattle.model.specs.QuestionTable.{question_table}
use Rattle.model.specs.RequestTable.{nothing, request_table}

pub tables_hold : RowsHold paper_table × RowsHold rule_table × RowsHold question_table × RowsHold request_table
unfolding all any keep when for count below member distinct lex_less roles operation_count operations remotes_at place_among operations_of all_operations loads stores semaphores every_processor attributes line_at lines_from attribute_at initial_byte next item byte ask question2 question3 question4 question5 question6 question7 question8 question26 question27 question9 question11 question12 question13 question14 question15 many line_of read_line read_lines seen_of wrote_of instruction_of read_instruction read_program read_programs read_instructions read_pair read_pairs read_record before addresses accesses shared_bytes overlap link1 link2 link3 link4 link5 link6 link7 paired link8 link13 link15 links_of conflict for_conflicts rule9 rule10 sight_of rule11 remote_of rule12 rule14 rule16 rules linked byte_of latest local byte_read broken lowest_from lowest_broken keeps consistent absent up_to_full extensions prefixes after reached search_from leads reached_by chain_mark chain_marks and_then asks answer_of read_all judge_order judge_call search_position search_saved searching search_reply search_call table_marks tabling table_reply table_call record_reply section_entry_length entries_up_to entries_of is_whole all_whole question23 question24 program_of program_bytes sections.record_of write_record writing write_call entries_length data_place seen_length seen_places zeroed copying solvers_copy_call same lists_below orders_below least line_bytes padded data_bytes entry_bytes own_instructions lower_instructions own_pairs local_pairs processor_at pairs_from touched line_taken head_taken record_from renumbered is_equal smallest_form comparison comparing compare_call stands_first handed first_call start called course call_once call_on digits lines verdict_lines zeros record_of made wanted k1 k2 k4 k6 k7 k8 k9 k10 k11 k12 k11_ld k11_pair paper_table rule_table question_table nothing request_table
tables_hold = (refl, refl, refl, refl)
