-- The renumbering that changes nothing: its programs and pairs are those of the record, one processor after the other.
use Prim.Native.Nat.{ℕ, zero, suc, ◌+◌, ◌-◌, ◌*◌, ◌≤◌, ◌<◌}
use native.Mathlib.Omega.{arith}
use mathlib.Core.Path.{◌≡◌, refl, sym, ap, ap₂, ◌∙◌}
use mathlib.Core.List.{List, [], ◌∷◌, ◌++◌, map, Memᴰ}
use lib.ListN.{length, get_or, length-append, length-replicate}
use lib.Dec.{ltb}
use Rattle.base.specs.Lists.{for, count, below}
use Rattle.base.specs.Orders.{OrderOf}
use Rattle.base.proofs.Bools.{split}
use Rattle.base.proofs.Lists.{for_append, for_map, of_below, keep_length, length_count, getD_member}
use Rattle.base.proofs.Permutations.{sum, alike_map, order_sums}
use Rattle.model.specs.Execution.{Instruction, Execution, no_line}
use Rattle.model.specs.Accepted.{Each}
use Rattle.model.specs.Questions.{no_instruction}
use Rattle.model.specs.Sections.{line_bytes, pair_bytes}
use Rattle.model.specs.SolversCopy.{entries_length}
use Rattle.model.specs.Renumbering.{bytes_of_program, own_instructions, lower_instructions, own_pairs, local_pairs, processor_at, pairs_from, touched, line_taken, head_taken, record_from, renumbered}
use Rattle.model.proofs.Accepted.{more_few}
use Rattle.model.proofs.Ownership.{each_in}
use Rattle.record_sections.proofs.Grouping.{length_for}
use Rattle.record_renumbering.proofs.Rising.{ordered_along, Rising, grouped}
use Rattle.record_renumbering.proofs.Parts.{processor_of, StandsBefore, Parts, lower_more, lower_none, programs_length, processors_rise, own_pairs_within}
use Rattle.record_renumbering.proofs.Slots.{pairs_length}

-- Lists

module _ {A : Type 0} where
  rising_at : (f : A → ℕ) (d : A) (l : List A) → Rising f l → (m n : ℕ) → m ≤ n → n < length l → f (get_or l m d) ≤ f (get_or l n d)
  rising_at f d [] r m n h k = absurd (omega arith)
  rising_at f d (x ∷ l) r zero zero h k = omega arith
  rising_at f d (x ∷ l) (low, r) zero (suc n) h k = low (get_or l n d) (getD_member l n d (omega arith))
  rising_at f d (x ∷ l) (low, r) (suc m) zero h k = absurd (omega arith)
  rising_at f d (x ∷ l) (low, r) (suc m) (suc n) h k = rising_at f d l r m n (omega arith) (omega arith)

  each_of : (P : A → Type 0) (l : List A) → ((a : A) → Memᴰ a l → P a) → Each P l
  each_of P [] h = tt
  each_of P (a ∷ l) h = (h a (Memᴰ.head refl), each_of P l (λ b m. h b (Memᴰ.tail m)))

  pub length_sum : (f : A → List ℕ) (l : List A) → length (for l f) ≡ sum (λ a. length (f a)) l
  unfolding for sum
  length_sum f [] = refl
  length_sum f (a ∷ l) = omega (arith, length-append (f a) (for l f), length_sum f l)

pub pair_bytes_length : (ps : List (ℕ × ℕ)) → length (for ps pair_bytes) ≡ 2 * length ps
unfolding for
pair_bytes_length [] = refl
pair_bytes_length (p ∷ ps) = omega (arith, pair_bytes_length ps)

-- lowered by d and raised again
raised_lowered : (d : ℕ) (ps : List (ℕ × ℕ)) → ((q : ℕ × ℕ) → Memᴰ q ps → (d ≤ q.0) × (d ≤ q.1))
    → map (λ k. d + k) (for (map (λ q. (q.0 - d, q.1 - d)) ps) pair_bytes) ≡ for ps pair_bytes
unfolding for
raised_lowered d [] h = refl
raised_lowered d (p ∷ ps) h =
    let (a, b) = h p (Memᴰ.head refl) in
    let x : d + (p.0 - d) ≡ p.0 = omega arith in
    let y : d + (p.1 - d) ≡ p.1 = omega arith in
    let z = raised_lowered d ps (λ q m. h q (Memᴰ.tail m)) in
    λ i. x i ∷ y i ∷ z i

entries_few : (is : List Instruction) → entries_length is ≤ 19 * length is
unfolding entries_length
entries_few [] = omega arith
entries_few (i ∷ is) = omega (arith, entries_few is, more_few i.kind i.size)

-- The head

module _ {bytes : List ℕ} {e : Execution} (r : Parts bytes e) where
  pub line_length_lem : (k : ℕ) → k < length e.lines → length (line_taken e k) ≡ 9
  unfolding line_taken
  line_length_lem k l =
      split (touched e.instructions k)
      (λ t. rw t (each_in (λ l. length (line_bytes l) ≡ 9) r.lines_long (getD_member e.lines k no_line l)))
      (λ t. rw t (length-replicate {A = ℕ} 9 0))

  pub head_length : length (head_taken e) ≡ 2 + 9 * length e.lines
  unfolding head_taken below
  head_length =
      let n = length e.lines in
      omega (
        arith,
        length_for 9 (line_taken e) (below n) (each_of (λ k. length (line_taken e k) ≡ 9) (below n) (λ k m. line_length_lem k (of_below n m))),
        length_count 0 n,
      )

  -- The pairs, processor by processor

  owners_rise : Rising (λ q. processor_of e.instructions q.0) e.pairs
  owners_rise =
      ordered_along StandsBefore (λ x y. processor_of e.instructions x.0 ≤ processor_of e.instructions y.0) e.pairs
      (λ x y mx my h. rising_at (λ i. i.processor) no_instruction e.instructions (processors_rise r) x.0 y.0 h.0 (let o = r.pairs_own y my in omega (arith, o.rises, o.within)))
      r.pairs_rise

  pub pairs_apart : for (below e.processors) (own_pairs e.instructions e.pairs) ≡ e.pairs
  unfolding own_pairs below
  pairs_apart =
      grouped (λ q. processor_of e.instructions q.0) 0 e.processors e.pairs owners_rise
      (λ q m. let o = r.pairs_own q m in
      let here = getD_member e.instructions q.0 no_instruction (omega (arith, o.rises, o.within)) in
      (omega arith, omega (arith, (r.own (get_or e.instructions q.0 no_instruction) here).0)))

  pairs_from_lem : (from n : ℕ)
      → pairs_from (length (lower_instructions e.instructions from)) (map (processor_at e.instructions e.pairs) (count from n))
      ≡ for (for (count from n) (own_pairs e.instructions e.pairs)) pair_bytes
  unfolding pairs_from count for processor_at local_pairs
  pairs_from_lem from zero = refl
  pairs_from_lem from (suc n) =
      let own = own_pairs e.instructions e.pairs in
      ap₂ (λ (s t : List ℕ). s ++ t)
      (raised_lowered (length (lower_instructions e.instructions from)) (own from) (λ q m. let (low, rises, high) = own_pairs_within r from q m in (low, omega arith)))
      (ap (λ (k : ℕ). pairs_from k (map (processor_at e.instructions e.pairs) (count (suc from) n))) (sym (lower_more e.instructions from)) ∙ pairs_from_lem (suc from) n)
      ∙ sym (for_append (own from) (for (count (suc from) n) own) pair_bytes)

  pub pairs_straight : pairs_from 0 (map (processor_at e.instructions e.pairs) (below e.processors)) ≡ for e.pairs pair_bytes
  unfolding below
  pairs_straight =
      ap (λ (k : ℕ). pairs_from k (map (processor_at e.instructions e.pairs) (below e.processors))) (ap length (sym (lower_none e.instructions)))
      ∙ pairs_from_lem 0 e.processors ∙ ap (λ (l : List (ℕ × ℕ)). for l pair_bytes) pairs_apart

  pub programs_straight : for (map (processor_at e.instructions e.pairs) (below e.processors)) (λ c. c.program)
      ≡ for (below e.processors) (λ p. bytes_of_program (own_instructions e.instructions p))
  unfolding processor_at
  programs_straight = for_map (processor_at e.instructions e.pairs) (λ c. c.program) (below e.processors)

  -- The pairs in any order take two bytes each
  pub pairs_room : (order : List ℕ) → OrderOf e.processors order → length (pairs_from 0 (map (processor_at e.instructions e.pairs) order)) ≡ 2 * length e.pairs
  pairs_room order o =
      let cs = map (processor_at e.instructions e.pairs) order in
      let ds = map (processor_at e.instructions e.pairs) (below e.processors) in
      pairs_length 0 cs
      ∙ alike_map (processor_at e.instructions e.pairs) order (below e.processors) (order_sums e.processors order o) (λ c. length (for c.pairs pair_bytes))
      ∙ sym (pairs_length 0 ds) ∙ ap length pairs_straight ∙ pair_bytes_length e.pairs

  -- How long a renumbered record is: P and the lines, 8 counts, 40 entries of 19 bytes, a count, 40 pairs
  pub form_room : (order : List ℕ) → OrderOf e.processors order → length (renumbered e order) ≤ 923
  unfolding renumbered record_from lower_instructions
  form_room order o =
      let cs = map (processor_at e.instructions e.pairs) order in
      let ds = map (processor_at e.instructions e.pairs) (below e.processors) in
      let alike = alike_map (processor_at e.instructions e.pairs) order (below e.processors) (order_sums e.processors order o) in
      let a = r.accepted in
      let programs : length (for cs (λ c. c.program)) ≤ 8 + 19 * 40 = omega (
        arith,
        length_sum (λ c. c.program) cs,
        alike (λ c. length c.program),
        length_sum (λ c. c.program) ds,
        ap length programs_straight,
        programs_length r e.processors,
        entries_few (lower_instructions e.instructions e.processors),
        keep_length (λ i. ltb i.processor e.processors) e.instructions,
        a.instructions_few,
        a.processors_few,
      ) in
      omega (
        arith,
        length-append (head_taken e) (for cs (λ c. c.program) ++ (length e.pairs ∷ pairs_from 0 cs)),
        length-append (for cs (λ c. c.program)) (length e.pairs ∷ pairs_from 0 cs),
        head_length,
        pairs_room order o,
        a.lines_few,
        a.pairs_few,
      )
