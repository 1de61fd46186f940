-- Where an instruction of an accepted record stands: at its number, in the program of its processor.
use Prim.Native.Nat.{ℕ, zero, suc, ◌+◌, ◌-◌, ◌≤◌, ◌<◌}
use native.Mathlib.Omega.{arith}
use mathlib.Core.Path.{◌≡◌, refl, sym, ap, ◌∙◌, subst}
use mathlib.Core.List.Memᴰ
use mathlib.Core.List.{List, [], ◌∷◌, Memᴰ}
use lib.ListN.{length, get_or}
use lib.Dec.{eqb, ltb}
use borrow.Author.Tests.{ltb-true, ltb-false, eq-eqb, ne_eqb, eqb-false}
use Rattle.base.specs.Lists.{keep}
use Rattle.base.proofs.Bools.{split}
use Rattle.base.proofs.Lists.{in_keep, keep_length, getD_member, place_of}
use Rattle.model.specs.Execution.{Instruction, Execution}
use Rattle.model.specs.Questions.{no_instruction}
use Rattle.model.specs.Renumbering.{own_instructions, lower_instructions, own_pairs, local_pairs}
use Rattle.model.proofs.Numbers.{consecutive_at}
use Rattle.record_renumbering.proofs.Rising.{Rising, group_none}
use Rattle.record_renumbering.proofs.Parts.{Parts, processor_of, lower_empty, lower_more, in_own, own_numbers, processors_rise, in_own_pairs, own_pairs_within}

-- the number of a processor's first instruction: so many stand before its program
abbrev pub program_start : List Instruction → ℕ → ℕ
program_start is p = length (lower_instructions is p)

-- entry j of a program, among instructions of processors that do not fall
own_entry : (is : List Instruction) → Rising (λ i. i.processor) is → (p j : ℕ) → j < length (own_instructions is p)
    → get_or is (program_start is p + j) no_instruction ≡ get_or (own_instructions is p) j no_instruction
unfolding own_instructions lower_instructions keep
own_entry [] r p j h = absurd (omega arith)
own_entry (i ∷ is) (low, r) p j h = split (ltb i.processor p)
    (λ t.
    let l = ltb-true i.processor p t in
    let other = ne_eqb i.processor p (λ z. omega arith) in
    rw (t, other)
    (ap (λ (n : ℕ). get_or (i ∷ is) n no_instruction) (let z : suc (program_start is p) + j ≡ suc (program_start is p + j) = omega arith in z)
    ∙ own_entry is r p j (rw other at h)))
    (λ t.
    let l = ltb-false i.processor p t in
    let none = lower_empty is p (λ k m. omega (arith, low k m)) in
    split (eqb i.processor p)
    (λ own. rw (t, own, none)
    (ap (λ (n : ℕ). get_or (i ∷ is) n no_instruction) (let z : 0 + j ≡ j = omega arith in z) ∙ first (own_entry is r p) none j (rw own at h)))
    (λ other.
    let differs = eqb-false i.processor p other in
    let empty = group_none (λ i. i.processor) is p (λ k m z. omega (arith, low k m)) in
    let few = rw (other, empty) at h in
    absurd (omega arith)))
  where
    first : ((j : ℕ) → j < length (own_instructions is p) → get_or is (program_start is p + j) no_instruction ≡ get_or (own_instructions is p) j no_instruction)
        → lower_instructions is p ≡ [] → (j : ℕ) → j < length (i ∷ own_instructions is p) → get_or (i ∷ is) j no_instruction ≡ get_or (i ∷ own_instructions is p) j no_instruction
    first ih none zero k = refl
    first ih none (suc j) k =
        ap (λ (n : ℕ). get_or is n no_instruction) (let z : j ≡ program_start is p + j = omega (arith, ap length none) in z) ∙ ih j (omega arith)

-- an instruction stands at its number, among those of its processor
pub record Stands (e : Execution) (i : Instruction) : Type 0 where
  pub at_number : get_or e.instructions i.number no_instruction ≡ i
  pub from : program_start e.instructions i.processor ≤ i.number
  pub up_to : i.number < program_start e.instructions i.processor + length (own_instructions e.instructions i.processor)

-- instruction j of the program of processor p
pub record Entry (e : Execution) (p j : ℕ) : Type 0 where
  pub there : program_start e.instructions p + j < length e.instructions
  pub entry_is : get_or e.instructions (program_start e.instructions p + j) no_instruction ≡ get_or (own_instructions e.instructions p) j no_instruction
  pub owner_is : processor_of e.instructions (program_start e.instructions p + j) ≡ p
  pub number_is : (get_or e.instructions (program_start e.instructions p + j) no_instruction).number ≡ program_start e.instructions p + j

module _ {bytes : List ℕ} {e : Execution} (r : Parts bytes e) where
  number_at : (n : ℕ) → n < length e.instructions → (get_or e.instructions n no_instruction).number ≡ n
  number_at n l = omega (arith, (consecutive_at e.processors 0 0 e.instructions no_instruction n r.accepted.consecutive l).1)

  pub stands : (i : Instruction) → Memᴰ i e.instructions → Stands e i
  stands i m =
      let (n, l, h) = place_of no_instruction m in
      let number : i.number ≡ n = ap (λ (j : Instruction). j.number) (sym h) ∙ number_at n l in
      let (from, to) = own_numbers r n i.processor l (ap (λ (j : Instruction). j.processor) h) in
      record {
        at_number = ap (λ (k : ℕ). get_or e.instructions k no_instruction) number ∙ h;
        from = omega arith;
        up_to = omega arith;
      }

  pub entry : (p j : ℕ) → j < length (own_instructions e.instructions p) → Entry e p j
  unfolding lower_instructions
  entry p j l =
      let same = own_entry e.instructions (processors_rise r) p j l in
      let within : program_start e.instructions p + j < length e.instructions =
      omega (arith, lower_more e.instructions p, keep_length (λ i. ltb i.processor (suc p)) e.instructions) in
      record {
        there = within;
        entry_is = same;
        owner_is = ap (λ (i : Instruction). i.processor) same ∙ (in_own e.instructions p (getD_member (own_instructions e.instructions p) j no_instruction l)).1;
        number_is = number_at (program_start e.instructions p + j) within;
      }

  -- a pair of a processor by the places in its program, and back
  pub local_pair : (p m n : ℕ) → processor_of e.instructions m ≡ p → Memᴰ (m, n) e.pairs
      → Memᴰ (m - program_start e.instructions p, n - program_start e.instructions p) (local_pairs e.instructions e.pairs p)
  unfolding local_pairs own_pairs
  local_pair p m n own w = Memᴰ.map _ (in_keep (λ q. eqb (processor_of e.instructions q.0) p) w (eq-eqb (processor_of e.instructions m) p own))

  pub of_local_pair : (p m n : ℕ) → Memᴰ (m, n) (local_pairs e.instructions e.pairs p)
      → Memᴰ (program_start e.instructions p + m, program_start e.instructions p + n) e.pairs
  unfolding local_pairs
  of_local_pair p m n w =
      let (q, there, h) = Memᴰ.of_map _ (own_pairs e.instructions e.pairs p) w in
      let (from, rises, up_to) = own_pairs_within r p q there in
      let first : q.0 ≡ program_start e.instructions p + m = omega (arith, ap (λ (x : ℕ × ℕ). x.0) h) in
      let second : q.1 ≡ program_start e.instructions p + n = omega (arith, ap (λ (x : ℕ × ℕ). x.1) h) in
      subst (λ (x : ℕ × ℕ). Memᴰ x e.pairs) (λ x. (first x, second x)) (in_own_pairs r p there).0
