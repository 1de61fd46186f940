-- The records of `ReadValueRow` are accepted and differ elsewhere, and their rows are what they should be.
use Prim.Native.Nat.{ℕ, zero, suc, ◌+◌, ◌*◌, ◌<◌}
use native.Mathlib.Omega.{arith}
use native.Mathlib.Decide.{ℕ_discrete}
use mathlib.Core.Path.{◌≡◌, refl, sym, ap, ◌∙◌}
use mathlib.Core.Bool.{Bool, true, beq, ◌&&◌, false≢true}
use mathlib.Core.List.Memᴰ
use mathlib.Core.List.{List, [], ◌∷◌}
use lib.ListN.{get_or, set, replicate}
use lib.Seq.{get_or-set_other}
use lib.Dec.{eqb, ltb}
use Rattle.base.specs.Lists.{all, any, keep, for, count, below, member, distinct}
use Rattle.base.specs.Below.{all_below, any_below}
use Rattle.base.specs.Bits.{packed_on, packed, bit}
use Rattle.base.proofs.Tests.{all_at}
use Rattle.model.specs.Execution.{kind_of, roles, place_among, remotes_at, operation_count, operations, operations_of, all_operations, loads, stores, attributes, line_at, lines_from, attribute_at}
use Rattle.model.specs.Questions.{initial_place, next, item, byte, ask, question2, question3, question4, question5, question6, question7, question8, question26, question27, question9, question11, question12, question15, many, line_of, read_line, read_lines, written_from, seen_of, wrote_of, instruction_of, read_instruction, read_program, read_programs, read_instructions, read_pairs, read_record}
use Rattle.model.specs.ProgramOrder.{rule_marks, marks}
use Rattle.model.specs.Rules.{addresses, accesses, shared_bytes, overlap, link1, link2, link3, link4, link5, link6, link7, paired, link8, link13, link15, conflict, linked}
use Rattle.model.specs.Calls.{says, answer_of, read_all}
use Rattle.model.specs.Notation.{record_of}
use Rattle.record_decoded.specs.Decoded.{data_of, decoded_line, lines_of, initial_of, instruction_at, instructions_of, pairs_of, execution_of}
use Rattle.relation_links.specs.Operations.{operation_at, table_of}
use Rattle.relation_links.specs.Compiled.{CompiledIn}
use Rattle.relation_marks.specs.Marks.{earlier_of, given_pair, marks_of, marks_between}
use Rattle.relation_places.specs.Places.{place_from, placed}
use Rattle.search_sets.specs.Set.{holds}
use Rattle.search_admit.specs.Rows.{field, writes, partner, covers, data_bit, awaited_by, RowOf, RowsMean}
use Rattle.search_claim.specs.NextRow.{k2_operations, k2_marks}
use Rattle.search_claim.proofs.NextRow.{same, same_words, equal_two, bytes_are, places_are}
use Rattle.read_value_claim.specs.ReadValueRow.{wide, wide_arrays, wide_rows, ReadValueRow}

-- the record is accepted, and the arrays hold its execution
accepts : (v : ℕ) → read_all (wide v) ≡ says (execution_of (wide v) wide_arrays)
unfolding all for count below member attributes roles operation_count lines_from next item byte ask question2 question3 question4 question5 question6 question7 question8 question26 question27 question9 question11 question12 question15 many line_of read_line read_lines instruction_of read_instruction read_program read_programs read_instructions read_pairs read_record answer_of read_all record_of data_of seen_of wrote_of decoded_line lines_of instruction_at instructions_of pairs_of execution_of wide_arrays wide
accepts v = refl

-- the table of operations, and the marks
compiles : (v : ℕ) → CompiledIn (wide v) wide_arrays k2_operations k2_marks
unfolding any keep for count below member all_below packed packed_on roles remotes_at place_among operation_count operations operations_of all_operations line_at attribute_at addresses accesses shared_bytes overlap conflict execution_of lines_of decoded_line instructions_of instruction_at pairs_of operation_at table_of rule_marks marks earlier_of given_pair marks_of marks_between wide_arrays k2_operations k2_marks
compiles v = record { tabled = record { holds = refl; counts = refl }; marked = equal_two _ _ 2 2 refl }

-- what the row of operation o has of the data: one computed test each
abbrev written_test : ℕ → ℕ → Bool
written_test v o =
    all_below 2 (λ h. all_below 64 (λ i. beq (bit (field (wide_rows v) (7 + h) o) i) (writes (get_or k2_operations.roles o 0) && data_bit (wide v) wide_arrays (get_or k2_operations.owners o 0) (written_from (kind_of (get_or wide_arrays.instructions.kinds (get_or k2_operations.owners o 0) 0))) (64 * h + i))))

abbrev seen_test : ℕ → ℕ → Bool
seen_test v o =
    all_below 2 (λ h. all_below 64 (λ i. beq (bit (field (wide_rows v) (16 + h) o) i) (eqb (get_or k2_operations.roles o 0) 0 && data_bit (wide v) wide_arrays (get_or k2_operations.owners o 0) 0 (64 * h + i))))

-- the row of each operation
row_of : (v : ℕ) → all_below 3 (written_test v) ≡ true → all_below 3 (seen_test v) ≡ true
    → (o : ℕ) → o < 3 → RowOf wide_arrays k2_operations k2_marks o (wide v) (λ f. field (wide_rows v) f o)
unfolding any all_below any_below operation_count operations roles remotes_at place_among stores keep count below attribute_at line_at addresses accesses shared_bytes overlap link1 link2 link3 link4 link5 link6 link7 paired link8 link13 link15 linked execution_of lines_of decoded_line instructions_of instruction_at pairs_of operation_at holds partner covers data_bit awaited_by wide_arrays k2_operations k2_marks wide_rows for initial_of record_of
row_of v written seen zero h = record {
  preds_are = same _ _ 128 refl;
  partners_are = same _ _ 128 refl;
  awaited_are = same _ _ 128 refl;
  bypasses_are = same _ _ 128 refl;
  writes_bits = same_words _ _ refl;
  writes_data = same_words _ _ (all_at (written_test v) 3 written zero h);
  writes_word = λ w. refl;
  reads_bits = same_words _ _ refl;
  reads_data = same_words _ _ (all_at (seen_test v) 3 seen zero h);
  reads_visible = λ r. refl;
  own_is = refl;
  local_is = refl;
  read_is = refl;
}
row_of v written seen (suc zero) h = record {
  preds_are = same _ _ 128 refl;
  partners_are = same _ _ 128 refl;
  awaited_are = same _ _ 128 refl;
  bypasses_are = same _ _ 128 refl;
  writes_bits = same_words _ _ refl;
  writes_data = same_words _ _ (all_at (written_test v) 3 written (suc zero) h);
  writes_word = λ w. refl;
  reads_bits = same_words _ _ refl;
  reads_data = same_words _ _ (all_at (seen_test v) 3 seen (suc zero) h);
  reads_visible = λ r. refl;
  own_is = refl;
  local_is = refl;
  read_is = refl;
}
row_of v written seen (suc (suc zero)) h = record {
  preds_are = same _ _ 128 refl;
  partners_are = same _ _ 128 refl;
  awaited_are = same _ _ 128 refl;
  bypasses_are = same _ _ 128 refl;
  writes_bits = same_words _ _ refl;
  writes_data = same_words _ _ (all_at (written_test v) 3 written (suc (suc zero)) h);
  writes_word = λ w. absurd (false≢true w);
  reads_bits = same_words _ _ refl;
  reads_data = same_words _ _ (all_at (seen_test v) 3 seen (suc (suc zero)) h);
  reads_visible = λ r. refl;
  own_is = refl;
  local_is = refl;
  read_is = refl;
}
row_of v written seen (suc (suc (suc o))) h = absurd (omega arith)

rows_are : (v : ℕ) → all_below 3 (written_test v) ≡ true → all_below 3 (seen_test v) ≡ true → all (λ b. ltb b 256) (wide v) ≡ true
    → RowsMean (wide v) wide_arrays k2_operations k2_marks (wide_rows v)
unfolding all roles operation_count operations count below execution_of instructions_of instruction_at wide_arrays wide_rows
rows_are v written seen small = record {
  compiled = compiles v;
  rowed = row_of v written seen;
  whole = refl;
  data_bytes_lem = bytes_are wide_arrays.instructions.bytes refl;
  record_bytes = bytes_are (wide v) small;
}

-- the second record is the first but for one byte
one_byte : wide 9 ≡ set (wide 0) (initial_place 1) 9
unfolding for record_of wide
one_byte = refl

elsewhere : (i : ℕ) → ((a : ℕ) → a < 8 → i ≡ initial_place a → a ≡ 0) → Dec (i ≡ initial_place 1) → get_or (wide 0) i 0 ≡ get_or (wide 9) i 0
elsewhere i only (yes q) = absurd (omega (arith, only 1 (omega arith) q))
elsewhere i only (no q) = sym (ap (λ (l : List ℕ). get_or l i 0) one_byte ∙ get_or-set_other (wide 0) (initial_place 1) i 9 0 q)

pub read_value_row : ReadValueRow
unfolding all any keep for count below member distinct all_below any_below roles operation_count operations loads accesses execution_of lines_of instructions_of instruction_at holds placed place_from covers initial_of data_bit record_of wide wide_arrays k2_operations wide_rows
read_value_row = record {
  differ = record {
    accepted = accepts 0;
    others_accepted = accepts 9;
    same_length = refl;
    same_else = λ i only. elsewhere i only (ℕ_discrete i (initial_place 1));
  };
  loads_it = Memᴰ.head refl;
  reads_it = refl;
  rows_mean = rows_are 0 refl refl refl;
  other_rows_mean = rows_are 9 refl refl refl;
  different = refl;
  standing = same _ _ 128 refl;
  placed = places_are 3 (0 ∷ []) (0 ∷ replicate 127 255) (omega arith) refl refl;
}
