-- The row meets what the claim asks, by computation; what the claim then says of it.
use Prim.Native.Nat.{ℕ, ◌*◌, ◌≤◌}
use native.Mathlib.Omega.{arith}
use mathlib.Core.Path.{◌≡◌, refl, ap, ap₂}
use mathlib.Core.Bool.{true}
use mathlib.Core.List.{List, [], ◌∷◌, ◌++◌}
use lib.ListN.{length}
use Rattle.base.specs.Lists.{all, any, keep, when, for, count, below, member, distinct}
use Rattle.model.specs.Execution.{roles, operation_count, operations, remotes_at, place_among, operations_of, all_operations, loads, stores, semaphores, every_processor, attributes, line_at, lines_from, attribute_at, initial_byte}
use Rattle.model.specs.Questions.{next, item, byte, ask, question2, question3, question4, question5, question6, question7, question8, question26, question27, question9, question11, question12, question15, many, line_of, read_line, read_lines, seen_of, wrote_of, instruction_of, read_instruction, read_program, read_programs, read_instructions, read_pairs, read_record}
use Rattle.model.specs.Rules.{before, addresses, accesses, shared_bytes, overlap, link1, link2, link3, link4, link5, link6, link7, paired, link8, link13, link15, links_of, conflict, for_conflicts, rule9, rule10, sight_of, rule11, rule12, rule14, rule16, rules, linked, byte_of, latest, local, byte_read, broken, lowest_from, lowest_broken}
use Rattle.model.specs.Chains.{leads, reached_by, chain_mark, chain_marks}
use Rattle.model.specs.Calls.{and_then, asks, answer_of, read_all, judge_order, judge_call, Legal, TableReply, table_marks, tabling, table_reply, table_call}
use Rattle.model.specs.Notation.{zeros, record_of}
use Rattle.relation_chain_table.specs.Paths.{mark}
use Rattle.chains_claim.specs.ChainsBind.{LinearExtension, Binds}
use Rattle.chains_claim.specs.ChainsRow.{row_record, row_execution, marks_written, row_table, ChainsRow}
use Rattle.chains_claim.proofs.ChainsBind.{chains_bind}

five : operations row_execution ≡ 5
unfolding count below roles operation_count operations row_execution
five = refl

room : operations row_execution * operations row_execution ≤ length row_table
unfolding row_table
room = rw five (omega arith)

pub chains_row : ChainsRow
unfolding all any keep when for count below member distinct roles operation_count operations remotes_at place_among operations_of all_operations loads stores semaphores every_processor attributes line_at lines_from attribute_at initial_byte next item byte ask question2 question3 question4 question5 question6 question7 question8 question26 question27 question9 question11 question12 question15 many line_of read_line read_lines seen_of wrote_of instruction_of read_instruction read_program read_programs read_instructions read_pairs read_record before addresses accesses shared_bytes overlap link1 link2 link3 link4 link5 link6 link7 paired link8 link13 link15 links_of conflict for_conflicts rule9 rule10 sight_of rule11 rule12 rule14 rule16 rules linked byte_of latest local byte_read broken lowest_from lowest_broken leads reached_by chain_mark chain_marks and_then asks answer_of read_all judge_order judge_call table_marks tabling table_reply table_call zeros record_of row_record row_execution marks_written row_table
chains_row = (refl, room, refl, refl, refl, refl)

row_binds : Binds row_record row_execution (table_call row_record row_table).table
row_binds = (chains_bind row_record row_table row_execution chains_row.0 chains_row.1).1

row_mark : (a b : ℕ) → mark (operations row_execution) (table_call row_record row_table).table a b ≡ mark 5 (marks_written ++ (7 ∷ 7 ∷ [])) a b
row_mark a b = ap₂ (λ (n : ℕ) (t : List ℕ). mark n t a b) five (ap (λ (r : TableReply). r.table) chains_row.2)

-- every legal order has LV 0 before RV_1 2
pub row_bound : (order : List ℕ) → Legal row_record order → before order 0 2 ≡ true
unfolding marks_written
row_bound order h = row_binds.in_every_legal_order 0 2 (rw five (omega arith)) (rw five (omega arith)) (row_mark 0 2) order h

-- some order of all operations that keeps every link has R 3 before RV_1 2
pub row_turned : (order : List ℕ) × LinearExtension row_execution order × (before order 3 2 ≡ true)
unfolding marks_written
row_turned = (row_binds.nothing_missing 2 3 (rw five (omega arith)) (rw five (omega arith)) (λ e. omega arith)).0 (row_mark 2 3)
