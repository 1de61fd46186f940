-- A program, from its count on, and the loop over the processors' programs.
use Prim.Native.Nat.{ℕ, suc, ◌+◌, ◌-◌, ◌≤◌, ◌<◌}
use native.Mathlib.Omega.{arith}
use native.Mathlib.Numerals.{add-one}
use mathlib.Core.Path.{◌≡◌, sym, ap, ap₂, ◌∙◌}
use mathlib.Core.List.{List, []}
use lib.ListN.{length, get_or, drop, length-drop}
use lib.Seq.{drop-drop}
use borrow.Author.Tests.{le-leb, lt-leb}
use Rattle.model.specs.Execution.{Attribute, Instruction, operation_count}
use Rattle.model.specs.Questions.{Found, no_to, found, next, ask, many, question5, question11, read_instruction, read_program, read_programs, read_instructions, pure, ◌>>◌}
use Rattle.record_decoded.specs.declared.types.Instructions.{Instructions}
use Rattle.record_decoded.specs.Decoded.{instructions_of, Counted}
use Rattle.record_decoded.proofs.Items.{byte_short, byte_there}

module _ (processors : ℕ) (lines : List Attribute) (p : ℕ) (done : List Instruction) (part : List ℕ) where
  pub program_short : length part < 1 → read_program processors lines p done part ≡ no_to 1
  unfolding read_program next
  program_short h = rw (byte_short part h)

  module _ (room : 1 ≤ length part) where
    pub program_many : 40 < length done + get_or part 0 0 → read_program processors lines p done part ≡ no_to 5
    unfolding read_program next ask question5
    program_many h = rw (byte_there part room, lt-leb (length done + get_or part 0 0) 40 h)

    pub program_counted : length done + get_or part 0 0 ≤ 40
        → read_program processors lines p done part ≡ many (read_instruction processors lines p) (get_or part 0 0) done (drop 1 part)
    unfolding read_program next ask question5
    program_counted h = rw (byte_there part room, le-leb (length done + get_or part 0 0) 40 h)

-- arrays that hold nothing are counted
pub counted_none : {processors : ℕ} {x : Instructions} → x.count ≡ 0 → x.operations ≡ 0 → instructions_of x ≡ [] → Counted processors x
unfolding operation_count
counted_none {processors} {x} c o e = record {
  few = omega arith;
  counted = o ∙ sym (ap (operation_count processors) e);
  bounded = omega arith;
}

-- The loop over the programs: what is left to read, from processor p on, decides the whole.
pub record Programs (processors : ℕ) (lines : List Attribute) (part : List ℕ) (p : ℕ) (done : List Instruction) (rest : List ℕ) : Type 0 where
  pub turns : p ≤ processors
  pub decides : read_programs processors lines 0 processors [] part ≡ read_programs processors lines p (processors - p) done rest

pub programs_start : {processors : ℕ} {lines : List Attribute} {part : List ℕ} {done : List Instruction} → done ≡ [] → Programs processors lines part 0 done part
programs_start {processors} {lines} {part} {done} e = record {
  turns = omega arith;
  decides = ap₂ (λ (k : ℕ) (l : List Instruction). read_programs processors lines 0 k l part) (let z : processors ≡ processors - 0 = omega arith in z) (sym e);
}

module _ {processors : ℕ} {lines : List Attribute} {p : ℕ} {part rest : List ℕ} {done : List Instruction} (inv : Programs processors lines part p done rest) where
  turn : p < processors → read_programs processors lines 0 processors [] part
      ≡ next (read_program processors lines p done rest) (read_programs processors lines (suc p) (processors - (p + 1)))
  unfolding read_programs
  turn more =
      inv.decides ∙ ap (λ (k : ℕ). read_programs processors lines p k done rest) (let z : processors - p ≡ suc (processors - (p + 1)) = omega arith in z)

  pub programs_on : {value : List Instruction} {after : List ℕ} → p < processors → read_program processors lines p done rest ≡ found value after
      → Programs processors lines part (p + 1) value after
  unfolding next
  programs_on {value} {after} more e = record {
    turns = omega arith;
    decides =
        turn more
        ∙ ap (λ (f : Found (List Instruction)). next f (read_programs processors lines (suc p) (processors - (p + 1)))) e
        ∙ ap (λ (n : ℕ). read_programs processors lines n (processors - (p + 1)) value after) (sym (add-one p));
  }

  pub programs_fail : {q : ℕ} → p < processors → read_program processors lines p done rest ≡ no_to q
      → read_programs processors lines 0 processors [] part ≡ no_to q
  unfolding next
  programs_fail more e = turn more ∙ ap (λ (f : Found (List Instruction)). next f (read_programs processors lines (suc p) (processors - (p + 1)))) e

  pub programs_end : processors ≤ p → read_programs processors lines 0 processors [] part ≡ found done rest
  unfolding read_programs
  programs_end h = inv.decides ∙ ap (λ (k : ℕ). read_programs processors lines p k done rest) (let z : processors - p ≡ 0 = omega arith in z)

-- question 11, after the last program
module _ (processors : ℕ) (lines : List Attribute) (part : List ℕ) where
  after : (f : Found (List Instruction)) → read_programs processors lines 0 processors [] part ≡ f
      → read_instructions processors lines part ≡ next f (λ is. ◌>>◌ (ask 11 (question11 (operation_count processors is))) (pure is))
  unfolding read_instructions
  after f e = ap (λ (f : Found (List Instruction)). next f (λ is. ◌>>◌ (ask 11 (question11 (operation_count processors is))) (pure is))) e

  pub instructions_fail : {q : ℕ} → read_programs processors lines 0 processors [] part ≡ no_to q → read_instructions processors lines part ≡ no_to q
  unfolding next
  instructions_fail {q} e = after (no_to q) e

  module _ {value : List Instruction} {rest : List ℕ} (e : read_programs processors lines 0 processors [] part ≡ found value rest) where
    pub instructions_many : 128 < operation_count processors value → read_instructions processors lines part ≡ no_to 11
    unfolding next ask question11
    instructions_many h = after (found value rest) e ∙ rw (lt-leb (operation_count processors value) 128 h)

    pub instructions_read : operation_count processors value ≤ 128 → read_instructions processors lines part ≡ found value rest
    unfolding next ask question11
    instructions_read h = after (found value rest) e ∙ rw (le-leb (operation_count processors value) 128 h)
