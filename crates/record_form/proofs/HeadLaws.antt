-- What an accepted record has of its decoded form, and its head, put line by line.
use Prim.Native.Nat.{ℕ, ◌+◌, ◌*◌, ◌≤◌, ◌<◌}
use native.Mathlib.Numerals.{add-one}
use native.Mathlib.Omega.{arith}
use mathlib.Core.Path.{◌≡◌, sym, ap, ap₂, ◌∙◌, subst}
use mathlib.Core.Bool.{Bool, true, false, cond}
use mathlib.Core.List.{List, [], ◌∷◌, ◌++◌}
use lib.ListN.{length, get_or, take, drop, set, replicate, length-set, length-drop}
use lib.Seq.{paste}
use Rattle.base.specs.Lists.{for, count, below}
use Rattle.base.proofs.Lists.{for_append, for_one, below_more}
use Rattle.model.specs.Execution.{no_line}
use Rattle.model.specs.Calls.{says, read_all}
use Rattle.model.specs.Sections.{line_bytes}
use Rattle.model.specs.Renumbering.{touched, line_taken, head_taken}
use Rattle.record_decoded.specs.declared.types.Execution.{Execution}
use Rattle.record_decoded.specs.Decoded.{instructions_of, execution_of}
use Rattle.record_decoded.proofs.Arrays.{lines_length}
use Rattle.record_renumbering.proofs.Parts.{Parts, parts, line_of_lem, programs_end}
use Rattle.record_writer.specs.Puts.{Puts}
use Rattle.record_writer.proofs.PutLaws.{puts_none, puts_byte, puts_part, puts_both, puts_same}
use Rattle.record_form.proofs.LocatedLaws.{few}

module _ (bytes : List ℕ) (x : Execution) (said : read_all bytes ≡ says (execution_of bytes x)) where
  pub parts_of : Parts bytes (execution_of bytes x)
  parts_of = parts bytes (execution_of bytes x) said

  pub lines_counted : length (execution_of bytes x).lines ≡ x.lines.count
  unfolding execution_of
  lines_counted = lines_length (drop 1 bytes) x.lines

  line_there : (k : ℕ) → k < x.lines.count → take 9 (drop (2 + 9 * k) bytes) ≡ line_bytes (get_or (execution_of bytes x).lines k no_line)
  line_there k h = line_of_lem parts_of k (omega (arith, h, lines_counted))

  pub line_within : (k : ℕ) → k < x.lines.count → 2 + 9 * k + 9 ≤ length bytes
  line_within k h = omega (arith, programs_end parts_of, lines_counted)

  -- A line put

  -- as the test says whether it is touched
  taken_by : (line : ℕ) (b : Bool) → b ≡ touched (instructions_of x.instructions) line
      → line_taken (execution_of bytes x) line ≡ cond b (line_bytes (get_or (execution_of bytes x).lines line no_line)) (replicate 9 0)
  unfolding line_taken execution_of
  taken_by line b e = ap (λ (t : Bool). cond t (line_bytes (get_or (execution_of bytes x).lines line no_line)) (replicate 9 0)) (sym e)

  pub puts_touched : {out after : List ℕ} {at : ℕ} (line : ℕ) → line < x.lines.count → at + 9 ≤ length out → true ≡ touched (instructions_of x.instructions) line
      → after ≡ paste out at (drop (2 + 9 * line) bytes) 9 → Puts out at (line_taken (execution_of bytes x) line) after (at + 9)
  puts_touched line less room t e =
      puts_same (line_there line less ∙ sym (taken_by line true t))
      (puts_part (drop (2 + 9 * line) bytes) 9 room (omega (arith, line_within line less, length-drop (2 + 9 * line) bytes)) e)

  pub puts_untouched : {out after : List ℕ} {at : ℕ} (line : ℕ) → at + 9 ≤ length out → false ≡ touched (instructions_of x.instructions) line
      → after ≡ paste out at (replicate 9 0) 9 → Puts out at (line_taken (execution_of bytes x) line) after (at + 9)
  puts_untouched line room t e = puts_same (sym (taken_by line false t)) (puts_part (replicate 9 0) 9 room (omega arith) e)

-- The invariant: the first k lines stand behind the two counts.
pub record LinesPut (bytes : List ℕ) (x : Execution) (before out : List ℕ) (next k : ℕ) : Type 0 where
  pub turns : k ≤ x.lines.count
  pub put : Puts before 2 (for (below k) (line_taken (execution_of bytes x))) out next
  pub there : next ≡ 2 + 9 * k
  pub long : length out ≡ 923

-- the two counts
counts_put : (out : List ℕ) (m n : ℕ) → length out ≡ 923 → Puts out 0 (m ∷ n ∷ []) (set (set out 0 m) 1 n) 2
counts_put out m n long = puts_both (puts_byte m (omega arith)) (puts_byte n (omega (arith, length-set out 0 m)))

pub lines_none : {bytes : List ℕ} {x : Execution} (out : List ℕ) (m n : ℕ) → length out ≡ 923 → LinesPut bytes x (set (set out 0 m) 1 n) (set (set out 0 m) 1 n) 2 0
unfolding for below count
lines_none out m n long =
    let p = counts_put out m n long in
    record { turns = omega arith; put = puts_none (omega (arith, p.long)); there = omega arith; long = p.long ∙ long }

module _ {bytes : List ℕ} {x : Execution} {before out : List ℕ} {next k : ℕ} (inv : LinesPut bytes x before out next k) where
  pub lines_more : {after : List ℕ} {n : ℕ} → k < x.lines.count → Puts out next (line_taken (execution_of bytes x) k) after n × (n ≡ next + 9)
      → LinesPut bytes x before after n (k + 1)
  lines_more h (one, e) = record {
    turns = omega arith;
    put =
        puts_same
        (sym
        (ap (λ (m : ℕ). for (below m) (line_taken (execution_of bytes x))) (add-one k)
        ∙ ap (λ (l : List ℕ). for l (line_taken (execution_of bytes x))) (below_more k)
        ∙ for_append (below k) (k ∷ []) (line_taken (execution_of bytes x))
        ∙ ap (λ (l : List ℕ). for (below k) (line_taken (execution_of bytes x)) ++ l) (for_one k (line_taken (execution_of bytes x)))))
        (puts_both inv.put one);
    there = omega (arith, inv.there);
    long = one.long ∙ inv.long;
  }

  -- room for the next line
  pub line_room : read_all bytes ≡ says (execution_of bytes x) → k < x.lines.count → next + 9 ≤ length out
  line_room said h = omega (arith, inv.there, inv.long, (few bytes x said).lines_few)

  -- all lines, behind the two counts
  pub head_ends : (first : List ℕ) → read_all bytes ≡ says (execution_of bytes x) → length first ≡ 923 → before ≡ set (set first 0 x.processors) 1 x.lines.count
      → x.lines.count ≤ k → Puts first 0 (head_taken (execution_of bytes x)) out next
  unfolding head_taken execution_of
  head_ends first said long e h =
      let n = lines_counted bytes x said in
      puts_same
      (ap₂ (λ (m i : ℕ). x.processors ∷ m ∷ for (below i) (line_taken (execution_of bytes x))) (sym n)
      (let z : k ≡ length (execution_of bytes x).lines = omega (arith, inv.turns, n) in z))
      (puts_both (subst (λ (l : List ℕ). Puts first 0 (x.processors ∷ x.lines.count ∷ []) l 2) (sym e) (counts_put first x.processors x.lines.count long)) inv.put)
