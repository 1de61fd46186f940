-- A loop that clears what each instruction saw, one instruction after the other.
use Prim.Native.Nat.{ℕ, ◌+◌, ◌*◌, ◌≤◌, ◌<◌}
use native.Mathlib.Omega.{arith}
use mathlib.Core.Path.{◌≡◌, sym, ap, ap₂, ◌∙◌, subst}
use mathlib.Core.Bool.{Bool, true}
use mathlib.Core.List.{List, [], ◌∷◌, ◌++◌, Memᴰ}
use lib.ListN.{length, get_or, take}
use lib.Seq.{length-take-le, take_all}
use lib.Dec.{ltb}
use Rattle.base.specs.Lists.{all, for, count}
use Rattle.base.proofs.Lists.{all_member, all_members, in_for, for_append, for_one, getD_member}
use Rattle.model.specs.Execution.{Kind, kind_of, Instruction}
use Rattle.model.specs.Questions.{more_length}
use Rattle.record_decoded.specs.declared.types.Instructions.{Instructions}
use Rattle.record_decoded.specs.Decoded.{instruction_at, instructions_of}
use Rattle.record_decoded.proofs.Arrays.{instructions_length, instruction_there, instructions_more}
use Rattle.model.specs.SolversCopy.{entries_length, data_place, seen_length, seen_places, zeroed}
use Rattle.record_seen.proofs.Places.{entries_length_append, entries_few}
use Rattle.record_seen.proofs.Zeroed.{zeroed_length, zeroed_none, zeroed_append}

-- what one instruction saw, among these
abbrev pub seen_by : ℕ → List Instruction → Instruction → List ℕ
seen_by lines is j = count (data_place lines is j) (seen_length j.kind j.size)

-- what all elements give passes, so what one of them gives
all_given : {A : Type 0} (p : ℕ → Bool) (f : A → List ℕ) {a : A} {l : List A} → Memᴰ a l → all p (for l f) ≡ true → all p (f a) ≡ true
all_given p f {a} m h = all_members p (f a) (λ b k. all_member p (in_for f m k) h)

-- The invariant: what the first i instructions saw is cleared, and the data bytes of instruction i, if processor 0 had it, begin at `place`.
pub record SeenCleared (entry : List ℕ) (lines : ℕ) (x : Instructions) (i : ℕ) (bytes : List ℕ) (place : ℕ) : Type 0 where
  pub turns : i ≤ x.count
  pub made : bytes ≡ zeroed (for (take i (instructions_of x)) (seen_by lines (instructions_of x))) entry
  pub there : place ≡ 6 + 9 * lines + entries_length (take i (instructions_of x))

pub seen_none : {entry : List ℕ} {lines : ℕ} {x : Instructions} → SeenCleared entry lines x 0 entry (6 + 9 * lines)
unfolding for entries_length
seen_none {entry} {lines} {x} = record { turns = omega arith; made = zeroed_none entry; there = omega arith }

module _ {entry : List ℕ} {lines : ℕ} {x : Instructions} {i : ℕ} {bytes : List ℕ} {place : ℕ} (inv : SeenCleared entry lines x i bytes place) where
  pub seen_long : length bytes ≡ length entry
  seen_long = ap length inv.made ∙ zeroed_length (for (take i (instructions_of x)) (seen_by lines (instructions_of x))) entry

  pub place_few : place ≤ 6 + 9 * lines + 19 * i
  place_few =
      omega (
        arith,
        inv.there,
        inv.turns,
        entries_few (take i (instructions_of x)),
        length-take-le i (instructions_of x) (omega (arith, inv.turns, instructions_length x)),
      )

  -- the end of the loop
  pub seen_all : x.count ≤ i → bytes ≡ zeroed (seen_places lines (instructions_of x)) entry
  unfolding seen_places
  seen_all h =
      inv.made
      ∙ ap (λ (l : List Instruction). zeroed (for l (seen_by lines (instructions_of x))) entry) (take_all i (instructions_of x) (omega (arith, h, instructions_length x)))

  -- a turn, for an instruction of kind k and processor p
  module _ (h : i < x.count) {k : Kind} (kind : k ≡ kind_of (get_or x.kinds i 0)) where
    module _ {p n : ℕ} (owner : p ≡ get_or x.processors i 0) (long : n ≡ seen_length k (get_or x.sizes i 0)) where
      this_seen : count (place + p) n ≡ seen_by lines (instructions_of x) (instruction_at x i)
      unfolding data_place instruction_at
      this_seen =
          ap₂ count (let z : place + p ≡ data_place lines (instructions_of x) (instruction_at x i) = omega (arith, inv.there, owner) in z)
          (long ∙ ap (λ (k : Kind). seen_length k (get_or x.sizes i 0)) kind)

      pub seen_room : all (λ j. ltb j (length entry)) (seen_places lines (instructions_of x)) ≡ true
          → all (λ j. ltb j (length bytes)) (count (place + p) n) ≡ true
      unfolding seen_places
      seen_room within =
          ap₂ (λ (m : ℕ) (l : List ℕ). all (λ j. ltb j m) l) seen_long this_seen
          ∙ all_given (λ j. ltb j (length entry)) (seen_by lines (instructions_of x))
          (subst (λ (j : Instruction). Memᴰ j (instructions_of x)) (instruction_there x i (instruction_at x i) h)
          (getD_member (instructions_of x) i (instruction_at x i) (omega (arith, h, instructions_length x)))) within

      pub seen_more : {m : ℕ} {after : List ℕ} → m ≡ more_length k (get_or x.sizes i 0) → after ≡ zeroed (count (place + p) n) bytes
          → SeenCleared entry lines x (i + 1) after (place + 11 + m)
      unfolding entries_length instruction_at
      seen_more {m} {after} more e =
          let f = seen_by lines (instructions_of x) in
          let done = take i (instructions_of x) in
          let one : entries_length (instruction_at x i ∷ []) ≡ 11 + m = omega (arith, more ∙ ap (λ (k : Kind). more_length k (get_or x.sizes i 0)) kind) in
          record {
            turns = omega arith;
            made =
                e ∙ ap₂ zeroed this_seen inv.made ∙ zeroed_append (for done f) (f (instruction_at x i)) entry
                ∙ ap (λ (l : List ℕ). zeroed l entry)
                (sym (ap (λ (l : List Instruction). for l f) (instructions_more x i h) ∙ for_append done (instruction_at x i ∷ []) f ∙ ap (λ (l : List ℕ). for done f ++ l) (for_one (instruction_at x i) f)));
            there = omega (arith, inv.there, ap entries_length (instructions_more x i h), entries_length_append done (instruction_at x i ∷ []), one);
          }
