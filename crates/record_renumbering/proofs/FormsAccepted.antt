-- Every renumbered form of an accepted record is itself an accepted record.
use Prim.Native.Nat.{ℕ, ◌+◌, ◌≤◌}
use native.Mathlib.Omega.{arith}
use mathlib.Core.Path.{◌≡◌, refl, sym, ap, ap₂, ◌∙◌, subst}
use mathlib.Core.Bool.{true}
use mathlib.Core.List.Memᴰ
use mathlib.Core.List.{List, [], ◌∷◌, ◌++◌, append-nil, map, Memᴰ}
use lib.ListN.{length, get_or, drop, length-map}
use borrow.Author.Tests.{le-leb}
use Rattle.base.specs.Lists.{for, below}
use Rattle.base.specs.Orders.{OrderOf}
use Rattle.base.proofs.Lists.{for_map, getD_below}
use Rattle.base.proofs.Permutations.{sum, Alike, alike_map, alike_for, order_sums, straight}
use Rattle.model.specs.Execution.{Kind, Instruction, Execution, roles, operation_count, operations}
use Rattle.model.specs.Calls.{says, answer_of, read_all}
use Rattle.model.specs.Questions.{found, next, byte, ask, many, question11, question12, line_attributes, read_pair, read_pairs, read_programs, read_instructions}
use Rattle.model.specs.Sections.{line_bytes, pair_bytes}
use Rattle.model.specs.Renumbering.{Processor, bytes_of_program, own_instructions, processor_at, pairs_from, line_taken, head_taken, record_from, renumbered}
use Rattle.record_sections.proofs.ReadIsWritten.{eleven_asked, record_walked}
use Rattle.record_renumbering.specs.Forms.{RenumberedRecord, RenumberedIsAccepted}
use Rattle.record_renumbering.proofs.Parts.{Parts, parts, counted, in_own, lines_length}
use Rattle.record_renumbering.proofs.Straight.{pair_bytes_length, pairs_straight, programs_straight, pairs_room}
use Rattle.record_renumbering.proofs.Smallest.{numbered, numbered_proper}
use Rattle.record_renumbering.proofs.Decoding.{record_same}
use Rattle.record_renumbering.proofs.FormsDecide.{head_is, head_counted, numbered_at}
use Rattle.record_renumbering.proofs.Reading.{made, many_found, programs_anew, kinds_anew, programs_found}
use Rattle.record_renumbering.proofs.Taken.{lines_taken, lines_found, entry_passes}
use Rattle.record_renumbering.proofs.PairsAnew.{pairs_anew, pairs_bytes, pairs_readable, pairs_ordered, pairs_pass}

operations_counted : (p : ℕ) (is : List Instruction) → operation_count p is ≡ sum (λ k. length (roles p k)) (map (λ i. i.kind) is)
unfolding operation_count sum
operations_counted p [] = refl
operations_counted p (i ∷ is) = ap (λ (n : ℕ). length (roles p i.kind) + n) (operations_counted p is)

-- the programs in the new order
abbrev programs_of : Execution → List ℕ → List (List Instruction)
programs_of e order = map (own_instructions e.instructions) order

-- the execution that is read
abbrev pub execution_anew : Execution → List ℕ → Execution
execution_anew e order = record {
  processors = e.processors;
  lines = lines_taken e;
  instructions = programs_anew e.processors 0 [] (programs_of e order);
  pairs = made (λ done x. x) [] (pairs_anew 0 (numbered e order));
}

module _ {bytes : List ℕ} {e : Execution} (r : Parts bytes e) (order : List ℕ) (o : OrderOf e.processors order) where
  -- its instructions are those of the record in another order
  instructions_alike : Alike (for (map (own_instructions e.instructions) order) (λ is. is)) e.instructions
  instructions_alike =
      subst (λ (is : List Instruction). Alike (for (programs_of e order) (λ is. is)) is) (sym r.instructions_are)
      (subst (λ (is : List Instruction). Alike is (for (below e.processors) (own_instructions e.instructions))) (sym (for_map (own_instructions e.instructions) (λ is. is) order))
      (alike_for (own_instructions e.instructions) order (below e.processors) (order_sums e.processors order o)))

  instructions_few : length (for (map (own_instructions e.instructions) order) (λ is. is)) ≤ 40
  instructions_few =
      omega (arith, counted (for (programs_of e order) (λ is. is)), instructions_alike (λ i. 1), counted e.instructions, r.accepted.instructions_few)

  operations_same : operation_count e.processors (programs_anew e.processors 0 [] (map (own_instructions e.instructions) order)) ≡ operation_count e.processors e.instructions
  operations_same =
      let p = e.processors in
      let size : Kind → ℕ = λ k. length (roles p k) in
      operations_counted p (programs_anew p 0 [] (programs_of e order))
      ∙ ap (sum size) (kinds_anew p 0 [] (programs_of e order))
      ∙ alike_map (λ i. i.kind) (for (programs_of e order) (λ is. is)) e.instructions instructions_alike size
      ∙ sym (operations_counted p e.instructions)

  eleven : question11 (operation_count e.processors (programs_anew e.processors 0 [] (map (own_instructions e.instructions) order))) ≡ true
  unfolding question11 operations
  eleven =
      le-leb (operation_count e.processors (programs_anew e.processors 0 [] (programs_of e order))) 128 (omega (arith, operations_same, r.accepted.operations_few))

  instructions_found : (s : List ℕ) → read_instructions e.processors (line_attributes (lines_taken e)) (for (numbered e order) (λ c. c.program) ++ s)
      ≡ found (programs_anew e.processors 0 [] (map (own_instructions e.instructions) order)) s
  unfolding processor_at
  instructions_found s =
      let p = e.processors in
      let lines = line_attributes (lines_taken e) in
      let programs = programs_of e order in
      let bytes_are : for programs bytes_of_program ≡ for (numbered e order) (λ c. c.program) =
      for_map (own_instructions e.instructions) bytes_of_program order ∙ sym (for_map (processor_at e.instructions e.pairs) (λ c. c.program) order) in
      eleven_asked p lines (for (numbered e order) (λ c. c.program) ++ s) (programs_anew p 0 [] programs) s
      (ap₂ (λ (n : ℕ) (b : List ℕ). read_programs p lines 0 n [] (b ++ s)) (sym (length-map order (own_instructions e.instructions) ∙ o.0)) (sym bytes_are)
      ∙ programs_found p lines 0 [] programs (omega (arith, instructions_few)) (λ is m i k.
      let (q, w, h) = Memᴰ.of_map (own_instructions e.instructions) order m in
      entry_passes r i (in_own e.instructions q (subst (Memᴰ i) (sym h) k)).0) s)
      eleven

  pairs_found : read_pairs (programs_anew e.processors 0 [] (map (own_instructions e.instructions) order)) (length e.pairs ∷ pairs_from 0 (numbered e order))
      ≡ found (made (λ done x. x) [] (pairs_anew 0 (numbered e order))) []
  unfolding read_pairs next byte ask question12
  pairs_found =
      let is = programs_anew e.processors 0 [] (programs_of e order) in
      let xs = pairs_anew 0 (numbered e order) in
      let bytes_are : for xs pair_bytes ≡ pairs_from 0 (numbered e order) = pairs_bytes 0 (numbered e order) in
      let many_are : length xs ≡ length e.pairs = omega (arith, pair_bytes_length xs, ap length bytes_are, pairs_room r order o) in
      rw (le-leb (length e.pairs) 40 r.accepted.pairs_few)
      (ap₂ (λ (n : ℕ) (b : List ℕ). many (read_pair is) n [] b) (sym many_are) (sym (append-nil (for xs pair_bytes) ∙ bytes_are))
      ∙ many_found (λ done x. x) (read_pair is) pair_bytes [] xs
      (pairs_readable is [] xs (pairs_pass r 0 [] order) (pairs_ordered r order) (λ q x m. absurd (Memᴰ.not-nil m))) [])

  pub accepted_anew : read_all (renumbered e order) ≡ says (execution_anew e order)
  unfolding read_all answer_of renumbered record_from head_taken
  accepted_anew =
      let counted_pairs = length e.pairs ∷ pairs_from 0 (numbered e order) in
      let behind = for (numbered e order) (λ c. c.program) ++ counted_pairs in
      ap answer_of
      (record_walked e.processors (lines_taken e) (programs_anew e.processors 0 [] (programs_of e order)) (made (λ done x. x) [] (pairs_anew 0 (numbered e order)))
      (length e.lines ∷ for (below (length e.lines)) (line_taken e) ++ behind) behind counted_pairs r.processors_passed
      (lines_found r behind) (instructions_found counted_pairs) pairs_found)

  -- its bytes tell its processors
  pub record_anew : RenumberedRecord e order (execution_anew e order)
  unfolding renumbered head_taken record_from operations
  record_anew =
      let f = execution_anew e order in
      let s = parts (renumbered e order) f accepted_anew in
      let head = f.processors ∷ length f.lines ∷ for f.lines line_bytes in
      let straight_bytes : renumbered e order ≡ record_from head (length f.pairs) (numbered f (below f.processors)) =
      s.bytes_are ∙ ap₂ (λ (a b : List ℕ). head ++ (a ++ (length f.pairs ∷ b))) (sym (programs_straight s)) (sym (pairs_straight s)) in
      let (heads, n, cs) = record_same (head_taken e) head (length e.pairs) (length f.pairs) (numbered e order) (numbered f (below f.processors))
      (head_is r) (omega (arith, lines_length s)) (numbered_proper r order) (numbered_proper s (below f.processors)) (head_counted e order o)
      (sym (length-map (below f.processors) (processor_at f.instructions f.pairs) ∙ (straight f.processors).0)) straight_bytes in
      record {
        processors_same = refl;
        processor_is = λ k l.
            let none = processor_at f.instructions f.pairs 0 in
            sym (getD_below (processor_at f.instructions f.pairs) none f.processors k l)
            ∙ ap (λ (ds : List Processor). get_or ds k none) (sym cs)
            ∙ numbered_at e order k none (omega (arith, o.0));
        lines_same = ap (λ (l : List ℕ). get_or l 1 0) (sym heads);
        lines_are = ap (drop 2) (sym heads);
        pairs_same = sym n;
        operations_same = operations_same;
      }

pub renumbered_is_accepted : RenumberedIsAccepted
renumbered_is_accepted bytes e h order o = let r = parts bytes e h in (execution_anew e order, accepted_anew r order o, record_anew r order o)
