-- What was seen in an accepted record: the mask by its programs, which lies within the record.
use Prim.Native.Nat.{ℕ, suc, ◌+◌, ◌*◌, ◌≤◌}
use native.Mathlib.Omega.{arith}
use native.Mathlib.Nat.{mul_comm}
use mathlib.Core.Path.{◌≡◌, refl, sym, ap, ◌∙◌, subst}
use mathlib.Core.Bool.{true, false}
use mathlib.Core.List.{List, [], ◌∷◌, ◌++◌}
use lib.ListN.{length, replicate, length-append, length-replicate}
use lib.Dec.{ltb}
use Rattle.base.specs.Lists.{all, for}
use Rattle.model.specs.Execution.{Instruction, Execution}
use Rattle.model.specs.Accepted.{Each, Consecutive}
use Rattle.model.specs.Calls.{says, read_all}
use Rattle.model.specs.Sections.{line_bytes, entry_bytes, pair_bytes}
use Rattle.model.proofs.Accepted.{read_found, read_accepted}
use Rattle.record_sections.proofs.Rendered.{Own, OwnFrom}
use Rattle.record_sections.proofs.Grouping.{each_map, length_for}
use Rattle.record_sections.proofs.ReadIsWritten.{Rendered, rendered}
use Rattle.model.specs.SolversCopy.{seen_places, seen_in, zeroed}
use Rattle.model.specs.Renumbering.{bytes_of_program}
use Rattle.record_seen.proofs.Hiding.{hide}
use Rattle.record_seen.proofs.Places.{places_of, places_within, zeroed_hidden, data_mask_length, mask_of, program_mask, record_mask, ByFrom, seen_places_lem}

own_by_lem : (p : ℕ) (programs : List (List Instruction)) → OwnFrom p programs → ByFrom p programs
own_by_lem p [] h = tt
own_by_lem p (is ∷ programs) (own, h) = (each_map (Own p) (λ i. i.processor ≡ p) (λ i o. o.by) is own, own_by_lem (suc p) programs h)

-- A mask is as long as what it is laid over
entries_as_long : (p : ℕ) (is : List Instruction) → Each (Own p) is → length (for is mask_of) ≡ length (for is entry_bytes)
unfolding for
entries_as_long p [] h = refl
entries_as_long p (i ∷ is) (o, h) =
    length-append (mask_of i) (for is mask_of)
    ∙ (let z : length (mask_of i) + length (for is mask_of) ≡ length (entry_bytes i) + length (for is entry_bytes) = omega (arith, data_mask_length i.kind i.size, o.long, entries_as_long p is h) in z)
    ∙ sym (length-append (entry_bytes i) (for is entry_bytes))

programs_as_long : (p : ℕ) (programs : List (List Instruction)) → OwnFrom p programs → length (for programs program_mask) ≡ length (for programs bytes_of_program)
unfolding for
programs_as_long p [] h = refl
programs_as_long p (is ∷ programs) (own, h) =
    length-append (program_mask is) (for programs program_mask)
    ∙ (let z : length (program_mask is) + length (for programs program_mask) ≡ length (bytes_of_program is) + length (for programs bytes_of_program) = omega (arith, entries_as_long p is own, programs_as_long (suc p) programs h) in z)
    ∙ sym (length-append (bytes_of_program is) (for programs bytes_of_program))

-- an accepted record
module _ (bytes : List ℕ) (e : Execution) (h : read_all bytes ≡ says e) where
  pub shape : Rendered bytes e
  shape = let (rest, f) = read_found bytes e h in rendered bytes e rest f

  pub seen_mask : seen_in e ≡ places_of 0 (record_mask (length e.lines) shape.programs)
  seen_mask =
      ap (seen_places (length e.lines)) shape.instructions_are
      ∙ seen_places_lem (length e.lines) e.processors shape.programs (own_by_lem 0 shape.programs shape.own)
      (subst (Consecutive e.processors 0 0) shape.instructions_are (read_accepted bytes e h).consecutive)

  pub lines_long : length (for e.lines line_bytes) ≡ 9 * length e.lines
  lines_long = length_for 9 line_bytes e.lines shape.lines_long ∙ mul_comm (length e.lines) 9

  mask_within : 0 + length (record_mask (length e.lines) shape.programs) ≤ length bytes
  mask_within =
      let masks = for shape.programs program_mask in
      let programs = for shape.programs bytes_of_program in
      let pairs = length e.pairs ∷ for e.pairs pair_bytes in
      omega (
        arith,
        length-append (replicate (9 * length e.lines) false) masks,
        length-replicate (9 * length e.lines) false,
        programs_as_long 0 shape.programs shape.own,
        ap length shape.bytes_are,
        length-append (for e.lines line_bytes) (programs ++ pairs),
        length-append programs pairs,
        lines_long,
      )

  pub seen_within : all (λ k. ltb k (length bytes)) (seen_places (length e.lines) e.instructions) ≡ true
  seen_within = ap (all (λ k. ltb k (length bytes))) seen_mask ∙ places_within 0 (record_mask (length e.lines) shape.programs) (length bytes) mask_within

  -- all that was seen, hidden by the mask
  pub seen_hidden : (l : List ℕ) → zeroed (seen_in e) l ≡ hide (record_mask (length e.lines) shape.programs) l
  seen_hidden l = ap (λ (places : List ℕ). zeroed places l) seen_mask ∙ zeroed_hidden (record_mask (length e.lines) shape.programs) l
