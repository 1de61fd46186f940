-- The programs of a record, put in an order of the processors.
use Prim.Native.Nat.{ℕ, ◌+◌, ◌-◌, ◌≤◌, ◌<◌}
use native.Mathlib.Numerals.{add-one}
use native.Mathlib.Omega.{arith}
use mathlib.Core.Path.{◌≡◌, sym, ap, ◌∙◌}
use mathlib.Core.List.{List, [], ◌∷◌, ◌++◌}
use lib.ListN.{length, get_or, take, drop, length-append, length-drop, take-append-drop}
use lib.Seq.{take-suc, take_all, get_or-take, paste}
use Rattle.base.specs.Lists.{for}
use Rattle.base.specs.Orders.{OrderOf}
use Rattle.base.proofs.Lists.{for_append, for_one, for_map, for_same, distinct_in}
use Rattle.base.proofs.Permutations.{order_low}
use Rattle.model.specs.Calls.{says, read_all}
use Rattle.model.specs.Renumbering.{bytes_of_program, own_instructions, processor_at}
use Rattle.record_decoded.specs.declared.types.Execution.{Execution}
use Rattle.record_decoded.specs.Decoded.{instructions_of, pairs_of, execution_of}
use Rattle.record_writer.specs.Puts.{Puts}
use Rattle.record_writer.proofs.PutLaws.{puts_none, puts_part, puts_both, puts_same, puts_next}
use Rattle.record_form.specs.declared.processors.Starts.{Starts}
use Rattle.record_form.specs.declared.sort.Order.{Order}
use Rattle.record_form.specs.Ordered.{in_order}
use Rattle.record_form.specs.Places.{StartsMean}
use Rattle.record_form.proofs.LocatedLaws.{few, place_next, place_within, program_part}

-- Parts of lists

module _ (f : ℕ → List ℕ) (l : List ℕ) where
  pub for_next : (k : ℕ) → k < length l → for (take (k + 1) l) f ≡ for (take k l) f ++ f (get_or l k 0)
  for_next k h =
      ap (λ (m : ℕ). for (take m l) f) (add-one k) ∙ ap (λ (m : List ℕ). for m f) (take-suc l k 0 h) ∙ for_append (take k l) (get_or l k 0 ∷ []) f
      ∙ ap (λ (m : List ℕ). for (take k l) f ++ m) (for_one (get_or l k 0) f)

  pub for_front : (k : ℕ) → length (for (take k l) f) ≤ length (for l f)
  for_front k = omega (arith, ap (λ (m : List ℕ). length (for m f)) (take-append-drop k l), ap length (for_append (take k l) (drop k l) f), length-append (for (take k l) f) (for (drop k l) f))

-- the bytes of a record from the place of processor p to the next one
abbrev pub piece : List ℕ → List ℕ → ℕ → List ℕ
piece bytes places p = take (get_or places (p + 1) 0 - get_or places p 0) (drop (get_or places p 0) bytes)

-- The invariant: the programs of the first k processors of the order are put.
pub record ProgramsPut (bytes places order : List ℕ) (n : ℕ) (before : List ℕ) (at : ℕ) (out : List ℕ) (next k : ℕ) : Type 0 where
  pub turns : k ≤ n
  pub put : Puts before at (for (take k (take n order)) (piece bytes places)) out next

pub programs_none : {bytes places order : List ℕ} {n : ℕ} {before : List ℕ} {at : ℕ} → at ≤ length before → ProgramsPut bytes places order n before at before at 0
unfolding for
programs_none h = record { turns = omega arith; put = puts_none h }

-- a processor of the order
pub in_order_lem : (n : ℕ) (order : List ℕ) → OrderOf n (take n order) → {p : ℕ} (k : ℕ) → k < n → p ≡ get_or order k 0 → p < n
in_order_lem n order o k h e = omega (arith, e, get_or-take n order k 0 h, order_low n (take n order) o k h)

-- the processor whose turn it is
pub turn_low : (bytes : List ℕ) (x : Execution) (order : Order) → read_all bytes ≡ says (execution_of bytes x) → OrderOf x.processors (take x.processors order.processors)
    → {p : ℕ} (k : ℕ) → k < x.processors → p ≡ get_or order.processors k 0 → (p < x.processors) × (x.processors ≤ 8)
turn_low bytes x order told o k h e = (in_order_lem x.processors order.processors o k h e, (few bytes x told).processors_few)

module _ (bytes : List ℕ) (x : Execution) (starts : Starts) (order : Order) (before : List ℕ) (at : ℕ)
    (pre :
    (read_all bytes ≡ says (execution_of bytes x))
    × StartsMean x.processors x.lines.count (instructions_of x.instructions) starts
    × OrderOf x.processors (take x.processors order.processors)
    × (at + length (for (in_order x order) (λ c. c.program)) ≤ length before)) where
  abbrev turned : List ℕ
  turned = take x.processors order.processors

  programs_are : for turned (piece bytes starts.places) ≡ for (in_order x order) (λ c. c.program)
  unfolding processor_at
  programs_are =
      for_same (piece bytes starts.places) (λ p. bytes_of_program (own_instructions (instructions_of x.instructions) p)) turned (λ p m. program_part bytes x starts pre.0 pre.1 p (distinct_in x.processors [] turned pre.2.1 m))
      ∙ sym (for_map (processor_at (instructions_of x.instructions) (pairs_of x.pairs)) (λ c. c.program) turned)

  module _ {out : List ℕ} {next k : ℕ} (inv : ProgramsPut bytes starts.places order.processors x.processors before at out next k) where
    -- the next program
    module _ {p : ℕ} (more : k < x.processors) (e : p ≡ get_or order.processors k 0) where
      p_low : p < x.processors
      p_low = in_order_lem x.processors order.processors pre.2 k more e

      pub place_rises : get_or starts.places p 0 ≤ get_or starts.places (p + 1) 0
      place_rises = omega (arith, place_next bytes x starts pre.0 pre.1 p p_low)

      pub piece_there : get_or starts.places p 0 + (get_or starts.places (p + 1) 0 - get_or starts.places p 0) ≤ length bytes
      piece_there = omega (arith, place_next bytes x starts pre.0 pre.1 p p_low, place_within bytes x starts pre.0 pre.1 (p + 1) (omega (arith, p_low)))

      next_are : for (take (k + 1) turned) (piece bytes starts.places) ≡ for (take k turned) (piece bytes starts.places) ++ piece bytes starts.places p
      next_are =
          for_next (piece bytes starts.places) turned k (omega (arith, pre.2.0))
          ∙ ap (λ (q : ℕ). for (take k turned) (piece bytes starts.places) ++ piece bytes starts.places q) (get_or-take x.processors order.processors k 0 more ∙ sym e)

      pub program_room : next + (get_or starts.places (p + 1) 0 - get_or starts.places p 0) ≤ length out
      program_room = omega (
        arith,
        puts_next (omega (arith, pre.3)) inv.put,
        inv.put.long,
        pre.3,
        ap length programs_are,
        for_front (piece bytes starts.places) turned (k + 1),
        ap length next_are,
        length-append (for (take k turned) (piece bytes starts.places)) (piece bytes starts.places p),
        ap length (program_part bytes x starts pre.0 pre.1 p p_low),
        place_next bytes x starts pre.0 pre.1 p p_low,
      )

      pub programs_more : {after : List ℕ} → after ≡ paste out next (drop (get_or starts.places p 0) bytes) (get_or starts.places (p + 1) 0 - get_or starts.places p 0)
          → ProgramsPut bytes starts.places order.processors x.processors before at after (next + (get_or starts.places (p + 1) 0 - get_or starts.places p 0)) (k + 1)
      programs_more copied = record {
        turns = omega arith;
        put =
            puts_same (sym next_are)
            (puts_both inv.put
            (puts_part (drop (get_or starts.places p 0) bytes) (get_or starts.places (p + 1) 0 - get_or starts.places p 0) program_room
            (omega (arith, piece_there, place_rises, length-drop (get_or starts.places p 0) bytes)) copied));
      }

    pub programs_put : x.processors ≤ k → Puts before at (for (in_order x order) (λ c. c.program)) out next
    programs_put h =
        puts_same (ap (λ (l : List ℕ). for l (piece bytes starts.places)) (take_all k turned (omega (arith, pre.2.0))) ∙ programs_are) inv.put
