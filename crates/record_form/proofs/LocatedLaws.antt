-- The programs of an accepted record as parts of its bytes, and the keys of two processors by these parts.
use Prim.Native.Nat.{ℕ, zero, suc, ◌+◌, ◌-◌, ◌*◌, ◌≤◌, ◌<◌}
use native.Mathlib.Numerals.{add-one}
use native.Mathlib.Omega.{arith}
use mathlib.Core.Path.{◌≡◌, sym, ap, ap₂, ◌∙◌, subst}
use mathlib.Core.Bool.{true, false, ◌&&◌, ◌||◌}
use mathlib.Core.List.{List}
use lib.ListN.{length, get_or, take, drop}
use Rattle.base.specs.Lists.{same}
use Rattle.base.specs.Lex.{lex_less}
use Rattle.base.proofs.Lists.{same_itself}
use Rattle.model.specs.Execution as model
use Rattle.model.specs.Calls.{says, read_all}
use Rattle.model.specs.SolversCopy.{entries_length}
use Rattle.model.specs.Renumbering.{bytes_of_program, own_instructions, lower_instructions}
use Rattle.model.proofs.Accepted.{read_accepted}
use Rattle.record_renumbering.specs.Keys.{key_less}
use Rattle.record_renumbering.proofs.Parts.{Parts, parts, lower_more, lower_bytes_more, program_length, program_start_lem, programs_end}
use Rattle.record_renumbering.proofs.Ascending as ascending
use Rattle.record_decoded.specs.declared.types.Execution.{Execution}
use Rattle.record_decoded.specs.Decoded.{instructions_of, pairs_of, execution_of}
use Rattle.record_decoded.proofs.Arrays as arrays
use Rattle.std.specs.declared.cmp.Ordering.{Ordering}
use Rattle.std.specs.declared.cmp.Ordering.TheVariants as cases
use Rattle.record_form.specs.declared.processors.Starts.{Starts}
use Rattle.record_form.specs.Lexical.{LexOrdered}
use Rattle.record_form.specs.Places.{program_place, StartsMean, key_end}
use Rattle.record_form.proofs.LexLaws.{less_when, same_when, same_not_less, greater_other, greater_not_less}

-- An accepted record, by its arrays

pub record Few (x : Execution) : Type 0 where
  pub processors_few : x.processors ≤ 8
  pub lines_few : x.lines.count ≤ 8
  pub instructions_few : x.instructions.count ≤ 40
  pub pairs_few : x.pairs.count ≤ 40

pub few : (bytes : List ℕ) (x : Execution) → read_all bytes ≡ says (execution_of bytes x) → Few x
unfolding execution_of
few bytes x read =
    let a = read_accepted bytes (execution_of bytes x) read in
    record {
      processors_few = a.processors_few;
      lines_few = omega (arith, a.lines_few, arrays.lines_length (drop 1 bytes) x.lines);
      instructions_few = omega (arith, a.instructions_few, arrays.instructions_length x.instructions);
      pairs_few = omega (arith, a.pairs_few, arrays.pairs_length x.pairs);
    }

module _ (bytes : List ℕ) (x : Execution) (starts : Starts) (read : read_all bytes ≡ says (execution_of bytes x))
    (mean : StartsMean x.processors x.lines.count (instructions_of x.instructions) starts) where
  abbrev is : List model.Instruction
  is = instructions_of x.instructions

  abbrev place : ℕ → ℕ
  place p = get_or starts.places p 0

  abbrev program_at : ℕ → List ℕ
  program_at p = bytes_of_program (own_instructions is p)

  laid : Parts bytes (execution_of bytes x)
  laid = parts bytes (execution_of bytes x) read

  long : (p : ℕ) → length (program_at p) ≡ 1 + entries_length (own_instructions is p)
  unfolding execution_of
  long p = program_length laid p

  -- the place of the next program is behind this one
  pub place_next : (p : ℕ) → p < x.processors → place (p + 1) ≡ place p + length (program_at p)
  place_next p l =
      let next = mean.places_are (p + 1) (omega arith) ∙ ap (program_place x.lines.count is) (add-one p) in
      omega (arith, next, mean.places_are p (omega arith), long p, lower_bytes_more is p)

  -- the number of a program's instructions is the difference of two first numbers
  pub first_next : (p : ℕ) → p < x.processors → get_or starts.firsts (p + 1) 0 ≡ get_or starts.firsts p 0 + length (own_instructions is p)
  first_next p l =
      let next = mean.firsts_are (p + 1) (omega arith) ∙ ap (λ (q : ℕ). length (lower_instructions is q)) (add-one p) in
      omega (arith, next, mean.firsts_are p (omega arith), lower_more is p)

  lower_rise : (p k : ℕ) → entries_length (lower_instructions is p) ≤ entries_length (lower_instructions is (k + p))
  lower_rise p zero = omega (arith, ap (λ (q : ℕ). entries_length (lower_instructions is q)) (let z : 0 + p ≡ p = omega arith in z))
  lower_rise p (suc k) =
      omega (arith, lower_rise p k, lower_bytes_more is (k + p), ap (λ (q : ℕ). entries_length (lower_instructions is q)) (let z : suc k + p ≡ suc (k + p) = omega arith in z))

  pub place_within : (p : ℕ) → p ≤ x.processors → place p ≤ length bytes
  unfolding execution_of
  place_within p l =
      let rise = lower_rise p (x.processors - p) in
      let whole = ap (λ (q : ℕ). entries_length (lower_instructions is q)) (let z : x.processors - p + p ≡ x.processors = omega arith in z) in
      omega (arith, mean.places_are p l, rise, whole, programs_end laid, arrays.lines_length (drop 1 bytes) x.lines)

  -- the program of a processor is the part of the record from its place to the next
  pub program_part : (p : ℕ) → p < x.processors → take (place (p + 1) - place p) (drop (place p) bytes) ≡ program_at p
  unfolding execution_of
  program_part p l =
      ap₂ (λ (n m : ℕ). take n (drop m bytes))
      (let z : place (p + 1) - place p ≡ length (program_at p) = omega (arith, place_next p l) in z)
      (let z : place p ≡ 2 + 9 * length (model.Execution.lines (execution_of bytes x)) + (p + entries_length (lower_instructions is p)) = omega (arith, mean.places_are p (omega arith), arrays.lines_length (drop 1 bytes) x.lines) in z)
      ∙ program_start_lem laid p l

  -- the keys of two processors, by how their programs compare
  module _ (a b : ℕ) (r : Ordering) {u v : List ℕ} (h : LexOrdered r u v) (eu : u ≡ program_at a) (ev : v ≡ program_at b) where
    by_parts : key_less is (pairs_of x.pairs) a b ≡ (lex_less (program_at a) (program_at b) || (same (program_at a) (program_at b) && lex_less (key_end is (pairs_of x.pairs) a) (key_end is (pairs_of x.pairs) b)))
    unfolding execution_of
    by_parts = ascending.key_less_lem laid a b

    pub key_by_less : r ≡ cases.Less → true ≡ key_less is (pairs_of x.pairs) a b
    key_by_less e = sym (by_parts ∙ rw (sym (less_when r u v h eu ev e)))

    pub key_by_pairs : r ≡ cases.Equal → lex_less (key_end is (pairs_of x.pairs) a) (key_end is (pairs_of x.pairs) b) ≡ key_less is (pairs_of x.pairs) a b
    key_by_pairs e =
        let one = same_when r u v h eu ev e in
        sym (by_parts ∙ rw (sym (same_not_less r u v h eu ev e), subst (λ (w : List ℕ). same (program_at a) w ≡ true) one (same_itself (program_at a))))

    pub key_by_greater : r ≡ cases.Greater → false ≡ key_less is (pairs_of x.pairs) a b
    key_by_greater e = sym (by_parts ∙ rw (sym (greater_not_less r u v h eu ev e), greater_other r u v h eu ev e))
