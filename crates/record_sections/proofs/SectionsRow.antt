-- The row meets the hypotheses of both claims, by computation; so they say what they say of it.
use native.Mathlib.Omega.{arith}
use mathlib.Core.Path.{◌≡◌, refl}
use mathlib.Core.List.{◌++◌}
use lib.ListN.{length, take, drop}
use Rattle.base.specs.Lists.{all, keep, for, count, below, member}
use Rattle.model.specs.Execution.{Execution, roles, operation_count, attributes, lines_from}
use Rattle.model.specs.Questions.{next, item, byte, ask, question2, question3, question4, question5, question6, question7, question8, question26, question27, question9, question11, question12, question13, question14, question15, many, line_of, read_line, read_lines, seen_of, wrote_of, instruction_of, read_instruction, read_program, read_programs, read_instructions, read_pair, read_pairs, read_record}
use Rattle.model.specs.Calls.{says, done, and_then, asks, answer_of, read_all, record_reply}
use Rattle.model.specs.Notation as notation
use Rattle.model.specs.Notation.{zeros}
use Rattle.model.specs.Sections.{section_entry_length, entries_up_to, entries_of, is_whole, all_whole, question23, question24, program_of, program_bytes, record_of, write_record, writing, write_call, grouped, line_bytes, padded, data_bytes, entry_bytes, sections_of}
use Rattle.record_sections.specs.SectionsRow.{row_sections, row_record, row_execution, row_buffer, SectionsRow}
use Rattle.record_sections.proofs.ReadIsWritten.{read_is_written}
use Rattle.record_sections.proofs.WrittenIsRead.{written_is_read}

pub sections_row : SectionsRow
unfolding all keep for count below member roles operation_count attributes lines_from next item byte ask question2 question3 question4 question5 question6 question7 question8 question26 question27 question9 question11 question12 question13 question14 question15 many line_of read_line read_lines seen_of wrote_of instruction_of read_instruction read_program read_programs read_instructions read_pair read_pairs read_record and_then asks answer_of read_all record_reply zeros notation.record_of section_entry_length entries_up_to entries_of is_whole all_whole question23 question24 program_of program_bytes record_of write_record writing write_call grouped line_bytes padded data_bytes entry_bytes sections_of row_sections row_record row_execution row_buffer
sections_row = (refl, refl, omega arith, refl, refl)

-- what each claim says of the row
pub row_read : (e : Execution) × (read_all (take (write_call row_sections row_buffer).length (write_call row_sections row_buffer).buffer) ≡ says e) × (sections_of e ≡ grouped row_sections)
row_read = written_is_read row_sections row_buffer sections_row.0

pub row_written : write_call (sections_of row_execution) row_buffer ≡ record { answer = says done; length = length row_record; buffer = row_record ++ drop (length row_record) row_buffer }
row_written = read_is_written row_record row_execution sections_row.1 row_buffer sections_row.2
