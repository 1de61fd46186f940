-- The rows of K2 meet the hypotheses of `NextPrefix`: what is asked of all numbers below a bound is one computed test.
use Prim.Native.Nat.{ℕ, zero, suc, ◌+◌, ◌*◌, ◌<◌, ◌≤◌}
use native.Mathlib.Omega.{arith}
use native.Mathlib.Decide.{dec_lt}
use mathlib.Core.Path.{◌≡◌, refl, sym, ◌∙◌}
use mathlib.Core.Bool.{Bool, true, false, beq, false≢true}
use mathlib.Core.List.{List, [], ◌∷◌}
use lib.ListN.{get_or, take, replicate}
use lib.Dec.{eqb, ltb}
use borrow.Author.Tests.{eqb-true, ltb-true}
use Rattle.base.specs.Lists.{all, any, keep, when, for, count, below, member, distinct}
use Rattle.base.specs.Below.{all_below, any_below}
use Rattle.base.specs.Bits.{packed_on, packed}
use Rattle.base.specs.Lex.{lex_less}
use Rattle.base.proofs.Bools.{beq_same, and_parts, is_false}
use Rattle.base.proofs.Lists.{member_in, distinct_in}
use Rattle.base.proofs.Tests.{all_at}
use Rattle.model.specs.Execution.{roles, place_among, remotes_at, operation_count, operations, operations_of, all_operations, loads, stores, semaphores, attributes, line_at, lines_from, attribute_at}
use Rattle.model.specs.Questions.{next, item, byte, ask, question2, question3, question4, question5, question6, question7, question8, question26, question27, question9, question11, question12, question15, many, line_of, read_line, read_lines, seen_of, wrote_of, instruction_of, read_instruction, read_program, read_programs, read_instructions, read_pairs, read_record}
use Rattle.model.specs.ProgramOrder.{rule_marks, marks}
use Rattle.model.specs.Rules.{before, addresses, accesses, shared_bytes, overlap, link1, link2, link3, link4, link5, link6, link7, paired, link8, link13, link15, links_of, conflict, for_conflicts, rule9, rule10, sight_of, rule11, rule12, rule14, rule16, rules, linked, byte_of, latest, local, byte_read, broken, keeps, consistent}
use Rattle.model.specs.Calls.{says, answer_of, read_all}
use Rattle.model.specs.Notation.{zeros, record_of}
use Rattle.model.specs.PaperTable.{k2}
use Rattle.record_decoded.specs.Decoded.{data_of, decoded_line, lines_of, initial_of, instruction_at, instructions_of, pairs_of, execution_of}
use Rattle.relation_links.specs.Operations.{operation_at, table_of}
use Rattle.relation_links.specs.Compiled.{CompiledIn}
use Rattle.relation_marks.specs.Marks.{earlier_of, given_pair, marks_of, marks_between}
use Rattle.relation_places.specs.Places.{place_from, placed, Placed}
use Rattle.relation_places.proofs.PlaceLaws.{place_absent, placed_past}
use Rattle.search_sets.specs.Set.{holds}
use Rattle.search_admit.specs.Rows.{field, written_word, writes_bit, words_up_to, words_from, words_after, partner, covers, data_bit, awaited_by, RowOf, Bytes, RowsMean}
use Rattle.search_admit.specs.Fits.{last_entry, due_of, both_or_neither, refused, pending, local_bit, word_recorded, reads_recorded, enabled, fits_by, Tested}
use Rattle.search_admit.proofs.WordLaws.{few_written}
use Rattle.search_walk.specs.Walks.{Levels, Closed, IsNext, IsLast, Kept}
use Rattle.search_walk.proofs.Gaps.{closed_front, gap_starts, gap_more, gap_up, gap_last, gap_next}
use Rattle.search_claim.specs.NextRow.{k2_arrays, k2_operations, k2_marks, k2_rows, next_position, next_places, next_levels, next_words, next_replaced, NextRow, EndRow}
use Rattle.search_claim.proofs.Next.{next_prefix}

-- Computed tests

-- two tests are the same below a bound
pub same : (p q : ℕ → Bool) (n : ℕ) → all_below n (λ i. beq (p i) (q i)) ≡ true → (i : ℕ) → i < n → p i ≡ q i
same p q n t i h = beq_same (p i) (q i) (all_at (λ i. beq (p i) (q i)) n t i h)

-- two tests of two numbers, the first number up to n
same_to : (p q : ℕ → ℕ → Bool) (n m : ℕ) → all_below (suc n) (λ i. all_below m (λ j. beq (p i j) (q i j))) ≡ true
    → (i j : ℕ) → i ≤ n → j < m → p i j ≡ q i j
same_to p q n m t i j h = same (p i) (q i) m (all_at (λ i. all_below m (λ j. beq (p i j) (q i j))) (suc n) t i (omega arith)) j

-- two tests of the bits of both words
pub same_words : (p q : ℕ → ℕ → Bool) → all_below 2 (λ h. all_below 64 (λ i. beq (p h i) (q h i))) ≡ true → (h i : ℕ) → h < 2 → i < 64 → p h i ≡ q h i
same_words p q t h i l = same_to p q 1 64 t h i (omega arith)

-- two functions are equal below a bound
equal : (f g : ℕ → ℕ) (n : ℕ) → all_below n (λ i. eqb (f i) (g i)) ≡ true → (i : ℕ) → i < n → f i ≡ g i
equal f g n t i h = eqb-true (f i) (g i) (all_at (λ i. eqb (f i) (g i)) n t i h)

pub equal_two : (f g : ℕ → ℕ → ℕ) (n m : ℕ) → all_below n (λ i. all_below m (λ j. eqb (f i j) (g i j))) ≡ true
    → (i j : ℕ) → i < n → j < m → f i j ≡ g i j
equal_two f g n m t i j h = equal (f i) (g i) m (all_at (λ i. all_below m (λ j. eqb (f i j) (g i j))) n t i h) j

-- a list has bytes
pub bytes_are : (l : List ℕ) → all (λ b. ltb b 256) l ≡ true → Bytes l
unfolding all
bytes_are [] h j = omega arith
bytes_are (b ∷ l) h zero = ltb-true b 256 (and_parts (ltb b 256) (all (λ b. ltb b 256) l) h).0
bytes_are (b ∷ l) h (suc j) = bytes_are l (and_parts (ltb b 256) (all (λ b. ltb b 256) l) h).1 j

-- a table has the places of an order
pub places_are : (n : ℕ) (xs places : List ℕ) → n ≤ 128 → distinct n [] xs ≡ true → all_below 128 (λ o. eqb (placed places o) (place_from 0 xs o)) ≡ true
    → Placed n xs places
places_are n xs places few different t = record { few = few; different = different; stands = λ o. go o (dec_lt o 128) }
  where
    go : (o : ℕ) → Dec (o < 128) → placed places o ≡ place_from 0 xs o
    go o (yes h) = equal (placed places) (place_from 0 xs) 128 t o h
    go o (no h) =
        placed_past places o (omega arith)
        ∙ sym (place_absent 0 xs o (is_false (member xs o) (λ m. omega (arith, distinct_in n [] xs different (member_in xs o m)))))

-- The record and its rows

-- the record is accepted, and the arrays hold its execution
accepts : read_all k2 ≡ says (execution_of k2 k2_arrays)
unfolding all for count below member attributes roles operation_count lines_from next item byte ask question2 question3 question4 question5 question6 question7 question8 question26 question27 question9 question11 question12 question15 many line_of read_line read_lines instruction_of read_instruction read_program read_programs read_instructions read_pairs read_record answer_of read_all zeros record_of k2 data_of seen_of wrote_of decoded_line lines_of instruction_at instructions_of pairs_of execution_of k2_arrays
accepts = refl

-- the table of operations, and the marks
compiles : CompiledIn k2 k2_arrays k2_operations k2_marks
unfolding any keep for count below member all_below packed packed_on roles remotes_at place_among operation_count operations operations_of all_operations line_at attribute_at addresses accesses shared_bytes overlap conflict execution_of lines_of decoded_line instructions_of instruction_at pairs_of operation_at table_of rule_marks marks earlier_of given_pair marks_of marks_between k2_arrays k2_operations k2_marks
compiles = record { tabled = record { holds = refl; counts = refl }; marked = equal_two _ _ 2 2 refl }

-- the row of each operation
row_of : (o : ℕ) → o < 3 → RowOf k2_arrays k2_operations k2_marks o k2 (λ f. field k2_rows f o)
unfolding any all_below any_below operation_count operations roles remotes_at place_among stores keep count below attribute_at line_at addresses accesses shared_bytes overlap link1 link2 link3 link4 link5 link6 link7 paired link8 link13 link15 linked execution_of lines_of decoded_line instructions_of instruction_at pairs_of operation_at holds partner covers data_bit awaited_by k2_arrays k2_operations k2_marks k2_rows for initial_of zeros record_of k2
row_of zero h = record {
  preds_are = same _ _ 128 refl;
  partners_are = same _ _ 128 refl;
  awaited_are = same _ _ 128 refl;
  bypasses_are = same _ _ 128 refl;
  writes_bits = same_words _ _ refl;
  writes_data = same_words _ _ refl;
  writes_word = λ w. refl;
  reads_bits = same_words _ _ refl;
  reads_data = same_words _ _ refl;
  reads_visible = λ r. refl;
  own_is = refl;
  local_is = refl;
  read_is = refl;
}
row_of (suc zero) h = record {
  preds_are = same _ _ 128 refl;
  partners_are = same _ _ 128 refl;
  awaited_are = same _ _ 128 refl;
  bypasses_are = same _ _ 128 refl;
  writes_bits = same_words _ _ refl;
  writes_data = same_words _ _ refl;
  writes_word = λ w. refl;
  reads_bits = same_words _ _ refl;
  reads_data = same_words _ _ refl;
  reads_visible = λ r. refl;
  own_is = refl;
  local_is = refl;
  read_is = refl;
}
row_of (suc (suc zero)) h = record {
  preds_are = same _ _ 128 refl;
  partners_are = same _ _ 128 refl;
  awaited_are = same _ _ 128 refl;
  bypasses_are = same _ _ 128 refl;
  writes_bits = same_words _ _ refl;
  writes_data = same_words _ _ refl;
  writes_word = λ w. absurd (false≢true w);
  reads_bits = same_words _ _ refl;
  reads_data = same_words _ _ refl;
  reads_visible = λ r. refl;
  own_is = refl;
  local_is = refl;
  read_is = refl;
}
row_of (suc (suc (suc o))) h = absurd (omega arith)

rows_are : RowsMean k2 k2_arrays k2_operations k2_marks k2_rows
unfolding all roles operation_count operations count below execution_of instructions_of instruction_at k2_arrays k2_rows for zeros record_of k2
rows_are = record {
  compiled = compiles;
  rowed = row_of;
  whole = refl;
  data_bytes_lem = bytes_are k2_arrays.instructions.bytes refl;
  record_bytes = bytes_are k2 refl;
}

-- both prefixes are consistent
both_consist : (consistent (execution_of k2 k2_arrays) (0 ∷ []) ≡ true) × (consistent (execution_of k2 k2_arrays) (0 ∷ 1 ∷ []) ≡ true)
unfolding any keep when for count below member roles remotes_at place_among operation_count operations operations_of all_operations loads stores semaphores line_at attribute_at before addresses accesses shared_bytes overlap link1 link2 link3 link4 link5 link6 link7 paired link8 link13 link15 links_of conflict for_conflicts rule9 rule10 sight_of rule11 rule12 rule14 rule16 rules byte_of latest local byte_read broken keeps consistent data_of seen_of wrote_of decoded_line lines_of instruction_at instructions_of pairs_of execution_of k2_arrays zeros record_of k2
both_consist = (refl, refl)

-- What is kept of 0 1

-- the sets of each level
levels_are : Levels 3 k2_rows next_position next_levels 2
unfolding member all_below any_below holds words_up_to words_from last_entry due_of both_or_neither pending local_bit writes_bit word_recorded reads_recorded enabled k2_rows
levels_are = record { stood = same_to _ _ 2 128 refl; able = same_to _ _ 2 3 refl; due = same_to _ _ 2 3 refl }

-- the places, the sets and the words
kept_are : Kept 3 k2_rows next_position next_places next_levels next_words next_replaced 2
unfolding distinct member all_below placed place_from words_up_to words_from k2_rows
kept_are = record {
  placed = places_are 3 (0 ∷ 1 ∷ []) next_places (omega arith) refl refl;
  levelled = levels_are;
  remembered = record {
    now_are = refl;
    were = λ j h l g. equal_two (λ j h. get_or next_replaced (2 * j + h) 0)
        (λ j h. get_or (words_up_to k2_rows (words_after k2_rows (take j next_position)) (get_or next_position j 0) h) (written_word k2_rows h (get_or next_position j 0)) 0) 2 2 refl j h l (omega (arith, g, few_written k2_rows (get_or next_position j 0)));
  };
}

-- Any test of prefixes that the rows decide

module _ (c : List ℕ → Bool) (tested : Tested c 3 k2_rows) where
  -- neither 1 nor 2 may stand first
  not_first : c [] ≡ true → (c (1 ∷ []) ≡ false) × (c (2 ∷ []) ≡ false)
  unfolding distinct member all_below holds placed place_from last_entry due_of fits_by k2_rows
  not_first h =
      let none : Placed 3 [] (replicate 128 255) = places_are 3 [] (replicate 128 255) (omega arith) refl refl in (
        sym (tested.one_more [] (replicate 128 255) 0 0 1 h none (same _ _ 128 refl) (omega arith)),
        sym (tested.one_more [] (replicate 128 255) 0 0 2 h none (same _ _ 128 refl) (omega arith)),
      )

  -- behind 0 may stand 1, and not 2
  second : c (0 ∷ []) ≡ true → (c (0 ∷ 1 ∷ []) ≡ true) × (c (0 ∷ 2 ∷ []) ≡ false)
  unfolding distinct member all_below any_below holds placed place_from words_up_to words_from last_entry due_of both_or_neither refused pending local_bit writes_bit word_recorded reads_recorded fits_by k2_rows
  second h =
      let one : Placed 3 (0 ∷ []) (0 ∷ replicate 127 255) = places_are 3 (0 ∷ []) (0 ∷ replicate 127 255) (omega arith) refl refl in (
        sym (tested.one_more (0 ∷ []) (0 ∷ replicate 127 255) 1 0 1 h one (same _ _ 128 refl) (omega arith)),
        sym (tested.one_more (0 ∷ []) (0 ∷ replicate 127 255) 1 0 2 h one (same _ _ 128 refl) (omega arith)),
      )

  -- behind 0 1 not 2 either
  not_third : c (0 ∷ 1 ∷ []) ≡ true → c (0 ∷ 1 ∷ 2 ∷ []) ≡ false
  unfolding member all_below any_below holds words_up_to words_from last_entry due_of both_or_neither refused pending local_bit writes_bit word_recorded reads_recorded fits_by k2_rows
  not_third h = sym (tested.one_more (0 ∷ 1 ∷ []) next_places 3 0 2 h kept_are.placed (same _ _ 128 refl) (omega arith))

  module _ (closed : Closed c) where
    -- nothing that passes lies between 0 and 0 1
    next_means : c (0 ∷ []) ≡ true → IsNext c 3 (0 ∷ []) (0 ∷ 1 ∷ [])
    unfolding member distinct lex_less
    next_means h = gap_next c 3 xs (0 ∷ 1 ∷ []) ((second h).0, refl) refl (gap_more c 3 closed xs xs 0 refl (gap_starts c 3 xs))
      where
        xs : List ℕ
        xs = 0 ∷ []

    -- nothing that passes lies after 0 1
    end_means : c (0 ∷ 1 ∷ []) ≡ true → IsLast c 3 (0 ∷ 1 ∷ [])
    unfolding member
    end_means h =
        let (one, two) = not_first (closed_front c closed xs [] h) in
        gap_last c 3 xs (gap_more c 3 closed xs [] 2 two (gap_more c 3 closed xs [] 1 one
        (gap_up c 3 xs [] 0 (gap_more c 3 closed xs (0 ∷ []) 2 (second (closed_front c closed (1 ∷ []) (0 ∷ []) h)).1
        (gap_up c 3 xs (0 ∷ []) 1 (gap_more c 3 closed xs xs 2 (not_third h) (gap_more c 3 closed xs xs 1 refl (gap_more c 3 closed xs xs 0 refl (gap_starts c 3 xs)))))))))
      where
        xs : List ℕ
        xs = 0 ∷ 1 ∷ []

-- The rows

pub next_row : NextRow
unfolding roles operation_count operations count below execution_of instructions_of instruction_at k2_arrays
next_row = record {
  accepted = accepts;
  rows_mean = rows_are;
  consists = both_consist.0;
  walked = record { ready = (omega arith, refl, refl, refl, kept_are); means = next_means };
}

pub end_row : EndRow
unfolding roles operation_count operations count below execution_of instructions_of instruction_at k2_arrays
end_row = record {
  accepted = accepts;
  rows_mean = rows_are;
  consists = both_consist.1;
  walked = record { ready = tt; means = end_means };
}

-- What the claim then says of K2

-- after 0 comes 0 1
pub next_said : IsNext (consistent (execution_of k2 k2_arrays)) 3 (0 ∷ []) (0 ∷ 1 ∷ [])
unfolding roles operation_count operations count below execution_of instructions_of instruction_at k2_arrays
next_said = next_prefix _ _ _ _ _ _ _ _ _ _ _ _ next_row

-- nothing comes after 0 1
pub end_said : IsLast (consistent (execution_of k2 k2_arrays)) 3 (0 ∷ 1 ∷ [])
unfolding roles operation_count operations count below execution_of instructions_of instruction_at k2_arrays
end_said = next_prefix _ _ _ _ _ _ _ _ _ _ _ _ end_row
