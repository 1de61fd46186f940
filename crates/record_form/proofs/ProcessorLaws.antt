-- The instructions of lower processors counted, where programs begin, and the processor of an instruction.
use Prim.Native.Nat.{ℕ, ◌+◌, ◌*◌, ◌≤◌, ◌<◌}
use native.Mathlib.Omega.{arith}
use mathlib.Core.Path.{◌≡◌, refl, sym, ap, ◌∙◌}
use mathlib.Core.Bool.{Bool, true, false, cond}
use mathlib.Core.List.{List, [], ◌∷◌, ◌++◌, append-nil}
use lib.ListN.{length, get_or, take, set, length-append, get_or-eq_default}
use lib.Seq.{length-take-le, take_all}
use lib.Dec.{ltb}
use borrow.Author.Tests.{lt-ltb, le-ltb}
use Rattle.base.specs.Lists.{keep}
use Rattle.base.proofs.Lists.{keep_append, keep_length}
use Rattle.base.proofs.Entries.{Entered, entered_none, entered_more}
use Rattle.model.specs.Execution.{Kind, kind_of, Instruction}
use Rattle.model.specs.Questions.{more_length, no_instruction}
use Rattle.model.specs.SolversCopy.{entries_length}
use Rattle.model.specs.Renumbering.{lower_instructions}
use Rattle.record_seen.proofs.Places.{entries_length_append, entries_few}
use Rattle.record_decoded.specs.declared.types.Instructions.{Instructions}
use Rattle.record_decoded.specs.Decoded.{instruction_at, instructions_of}
use Rattle.record_decoded.proofs.Arrays.{instructions_length, instruction_there, instructions_more}
use Rattle.record_form.specs.Places.{program_place, StartsMean}

-- The processor of an instruction

pub owner_there : (x : Instructions) (i : ℕ) → i < x.count → get_or x.processors i 0 ≡ (get_or (instructions_of x) i no_instruction).processor
unfolding instruction_at
owner_there x i h = ap (λ (j : Instruction). j.processor) (sym (instruction_there x i no_instruction h))

pub owner_past : (x : Instructions) (i : ℕ) → x.count ≤ i → 0 ≡ (get_or (instructions_of x) i no_instruction).processor
owner_past x i h = ap (λ (j : Instruction). j.processor) (sym (get_or-eq_default (instructions_of x) no_instruction (omega (arith, h, instructions_length x))))

-- Instructions of lower processors

pub lower_few : (is : List Instruction) (p : ℕ) → length (lower_instructions is p) ≤ length is
unfolding lower_instructions
lower_few is p = keep_length (λ i. ltb i.processor p) is

pub lower_bytes_few : (is : List Instruction) (p : ℕ) → entries_length (lower_instructions is p) ≤ 19 * length is
lower_bytes_few is p = omega (arith, entries_few (lower_instructions is p), lower_few is p)

-- The invariant: those of the first i are counted.
pub record LowerCounted (x : Instructions) (p i count bytes : ℕ) : Type 0 where
  pub turns : i ≤ x.count
  pub counted : count ≡ length (lower_instructions (take i (instructions_of x)) p)
  pub summed : bytes ≡ entries_length (lower_instructions (take i (instructions_of x)) p)

pub lower_none : {x : Instructions} {p : ℕ} → LowerCounted x p 0 0 0
unfolding lower_instructions keep entries_length
lower_none {x} {p} = record { turns = omega arith; counted = refl; summed = refl }

module _ {x : Instructions} {p i count bytes : ℕ} (inv : LowerCounted x p i count bytes) where
  abbrev so_far : List Instruction
  so_far = take i (instructions_of x)

  pub counted_few : (count ≤ i) × (bytes ≤ 19 * i)
  counted_few =
      let long = length-take-le i (instructions_of x) (omega (arith, inv.turns, instructions_length x)) in
      (omega (arith, inv.counted, lower_few so_far p, long), omega (arith, inv.summed, lower_bytes_few so_far p, long))

  one_lower : (b : Bool) → ltb (get_or x.processors i 0) p ≡ b → i < x.count
      → lower_instructions (take (i + 1) (instructions_of x)) p ≡ lower_instructions so_far p ++ cond b (instruction_at x i ∷ []) []
  unfolding lower_instructions keep instruction_at
  one_lower b e h =
      ap (keep (λ i. ltb i.processor p)) (instructions_more x i h)
      ∙ keep_append (λ i. ltb i.processor p) so_far (instruction_at x i ∷ [])
      ∙ ap (λ (c : Bool). keep (λ i. ltb i.processor p) so_far ++ cond c (instruction_at x i ∷ []) []) e

  pub counts_lower : {k : Kind} {m n b : ℕ} → i < x.count → get_or x.processors i 0 < p → k ≡ kind_of (get_or x.kinds i 0) → m ≡ more_length k (get_or x.sizes i 0)
      → n ≡ count + 1 → b ≡ bytes + 11 + m → LowerCounted x p (i + 1) n b
  unfolding entries_length instruction_at
  counts_lower {k} {m} {n} {b} h l kind size en eb =
      let more : m ≡ more_length (kind_of (get_or x.kinds i 0)) (get_or x.sizes i 0) = size ∙ ap (λ (j : Kind). more_length j (get_or x.sizes i 0)) kind in
      let one = one_lower true (lt-ltb (get_or x.processors i 0) p l) h in
      record {
        turns = omega arith;
        counted = omega (arith, inv.counted, ap length one, length-append (lower_instructions so_far p) (instruction_at x i ∷ []));
        summed = omega (arith, inv.summed, ap entries_length one, entries_length_append (lower_instructions so_far p) (instruction_at x i ∷ []));
      }

  pub leaves_other : {n b : ℕ} → i < x.count → p ≤ get_or x.processors i 0 → n ≡ count → b ≡ bytes → LowerCounted x p (i + 1) n b
  leaves_other {n} {b} h l en eb =
      let one = one_lower false (le-ltb (get_or x.processors i 0) p l) h ∙ append-nil (lower_instructions so_far p) in
      record { turns = omega arith; counted = en ∙ inv.counted ∙ ap length (sym one); summed = eb ∙ inv.summed ∙ ap entries_length (sym one) }

  pub all_counted : x.count ≤ i → (count ≡ length (lower_instructions (instructions_of x) p)) × (bytes ≡ entries_length (lower_instructions (instructions_of x) p))
  all_counted h =
      let whole = take_all i (instructions_of x) (omega (arith, h, instructions_length x)) in
      (inv.counted ∙ ap (λ (l : List Instruction). length (lower_instructions l p)) whole, inv.summed ∙ ap (λ (l : List Instruction). entries_length (lower_instructions l p)) whole)

-- Where programs begin

-- The invariant: the first p entries of both arrays are made.
pub record StartsEntered (lines : ℕ) (is : List Instruction) (p : ℕ) (places firsts : List ℕ) : Type 0 where
  pub places_made : Entered 9 0 (λ k a. a ≡ program_place lines is k) p places
  pub firsts_made : Entered 9 0 (λ k a. a ≡ length (lower_instructions is k)) p firsts

pub starts_none : {lines : ℕ} {is : List Instruction} {places firsts : List ℕ} → length places ≡ 9 → length firsts ≡ 9 → StartsEntered lines is 0 places firsts
starts_none h k = record { places_made = entered_none h; firsts_made = entered_none k }

module _ {lines : ℕ} {is : List Instruction} {p : ℕ} {places firsts : List ℕ} (inv : StartsEntered lines is p places firsts) where
  pub starts_more : {n b : ℕ} → p < 9 → n ≡ length (lower_instructions is p) → b ≡ entries_length (lower_instructions is p)
      → StartsEntered lines is (p + 1) (set places p (2 + 9 * lines + p + b)) (set firsts p n)
  starts_more {n} {b} l en eb = record {
    places_made = entered_more inv.places_made (2 + 9 * lines + p + b) l (ap (λ (m : ℕ). 2 + 9 * lines + p + m) eb);
    firsts_made = entered_more inv.firsts_made n l en;
  }

  pub starts_all : {processors : ℕ} → processors < p → StartsMean processors lines is (record { places = places; firsts = firsts })
  starts_all {processors} l = record {
    places_are = λ q m. inv.places_made.holds q (omega arith);
    firsts_are = λ q m. inv.firsts_made.holds q (omega arith);
  }
