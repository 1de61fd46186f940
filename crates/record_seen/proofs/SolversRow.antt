-- The row meets the hypotheses of both claims, by computation; so they say what they say of it.
use mathlib.Core.Path.{◌≡◌, refl}
use lib.ListN.{take}
use Rattle.base.specs.Lists.{all, for, count, below, member}
use Rattle.model.specs.Execution.{Execution, roles, operation_count, attributes, lines_from}
use Rattle.model.specs.Questions.{next, item, byte, ask, question2, question3, question4, question5, question6, question7, question8, question26, question27, question9, question11, question12, question13, question14, question15, many, line_of, read_line, read_lines, seen_of, wrote_of, instruction_of, read_instruction, read_program, read_programs, read_instructions, read_pair, read_pairs, read_record}
use Rattle.model.specs.Calls.{says, and_then, asks, answer_of, read_all, record_reply}
use Rattle.model.specs.Notation.{zeros, record_of}
use Rattle.model.specs.SolversCopy.{entries_length, data_place, seen_length, seen_places, zeroed, copying, solvers_copy_call}
use Rattle.record_seen.specs.SolversClaims.{alike_but, saw_zeros, unseen}
use Rattle.record_seen.specs.SolversRow.{row_record, row_execution, row_buffer, SolversRow}
use Rattle.record_seen.proofs.SameCopies.{same_copies}
use Rattle.record_seen.proofs.CopyIsRead.{copy_is_read}

pub solvers_row : SolversRow
unfolding all for count below member roles operation_count attributes lines_from next item byte ask question2 question3 question4 question5 question6 question7 question8 question26 question27 question9 question11 question12 question13 question14 question15 many line_of read_line read_lines seen_of wrote_of instruction_of read_instruction read_program read_programs read_instructions read_pair read_pairs read_record and_then asks answer_of read_all record_reply zeros record_of entries_length data_place seen_length seen_places zeroed copying solvers_copy_call alike_but saw_zeros unseen row_record row_execution row_buffer
solvers_row = (refl, refl, refl, refl, refl)

-- what each claim says of it
pub row_same : solvers_copy_call (row_record 5 3 6 8) row_buffer ≡ solvers_copy_call (row_record 1 4 0 9) row_buffer
row_same = same_copies (row_record 5 3 6 8) (row_record 1 4 0 9) (row_execution 5 3 6 8) (row_execution 1 4 0 9) solvers_row.0 solvers_row.1 solvers_row.2 row_buffer

pub row_read : (e : Execution) × (read_all (row_record 5 3 6 8) ≡ says e)
    × (read_all (take (solvers_copy_call (row_record 5 3 6 8) row_buffer).length (solvers_copy_call (row_record 5 3 6 8) row_buffer).buffer) ≡ says (unseen e))
row_read = copy_is_read (row_record 5 3 6 8) row_buffer solvers_row.3
