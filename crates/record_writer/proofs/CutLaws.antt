-- The record cut behind the first count that is too large is answered as the whole record is.
use Prim.Native.Nat.{ℕ, zero, suc, ◌+◌, ◌/◌}
use native.Mathlib.Omega.{arith}
use mathlib.Core.Path.{◌≡◌, refl, sym, ap, ◌∙◌, subst}
use mathlib.Core.Bool.{Bool, true, false, cond, and-false}
use mathlib.Core.List.{List, [], ◌∷◌, ◌++◌, append_assoc}
use lib.ListN.{length, drop, length-append, length-map}
use lib.Dec.{leb}
use borrow.Author.Tests.{lt-leb}
use Rattle.base.specs.Lists.{for, count, below}
use Rattle.base.proofs.Bools.{split, and_parts}
use Rattle.model.specs.Execution.{Line, Instruction, Execution, operation_count}
use Rattle.model.specs.Calls.{says, refuses, answer_of, read_all}
use Rattle.model.specs.Questions.{Found, no_to, found, Reader, next, byte, ask, question2, question3, question5, question11, question12, question15, line_attributes, read_lines, read_program, read_programs, read_instructions, read_pairs, read_record}
use Rattle.model.specs.Sections.{Sections, all_whole, question23, program_of, program_bytes, record_of, line_bytes, section_entry}
use Rattle.record_sections.proofs.Settled.{Settled, fails, gives, Behind, lines_read, program_read, program_own, programs_from}
use Rattle.record_sections.proofs.Sections.{whole_sections, lines_counted}
use Rattle.record_writer.specs.Cut.{cut_pairs, cut_programs, cut_lines, cut_record}

-- the same bytes, or bytes that a walk refuses with one number
pub data Alike {A : Type 0} (walk : Reader A) (x y : List ℕ) : Type 0 where
  same : x ≡ y → Alike walk x y
  both : (q : ℕ) → walk x ≡ no_to q → walk y ≡ no_to q → Alike walk x y

module _ {A : Type 0} where
  -- behind bytes that settle what comes before
  alike_behind : {walk after : Reader A} (front x y : List ℕ) → ((rest : List ℕ) → walk (front ++ rest) ≡ after rest) → Alike after x y → Alike walk (front ++ x) (front ++ y)
  alike_behind {walk} {after} front x y f (same e) = same (ap (λ (l : List ℕ). front ++ l) e)
  alike_behind {walk} {after} front x y f (both q g h) = both q (f x ∙ g) (f y ∙ h)

  alike_to : {walk : Reader A} {x y z : List ℕ} → y ≡ z → Alike walk x y → Alike walk x z
  alike_to {walk} e (same f) = same (f ∙ e)
  alike_to {walk} e (both q f g) = both q f (ap walk (sym e) ∙ g)

-- The pairs behind the programs

module _ (processors : ℕ) (lines : List Line) where
  -- the walk behind the programs, by what question 11 says
  abbrev as_pairs : List Instruction → Reader Execution
  as_pairs is l =
      next {B = Execution} (read_pairs is l) (λ pairs k.
      next {B = Execution} (question15 k) (λ _ k. found (record { processors = processors; lines = lines; instructions = is; pairs = pairs }) k))

  abbrev behind_asked : Bool → List Instruction → Reader Execution
  behind_asked b is l = next {B = Execution} (next {B = List Instruction} (ask 11 b l) (λ _ k. found is k)) as_pairs

  abbrev behind_programs : List Instruction → Reader Execution
  behind_programs is = behind_asked (question11 (operation_count processors is)) is

  -- with too many pairs it fails at their count, or before
  many_pairs_lem : (b : Bool) (is : List Instruction) (n : ℕ) (rest : List ℕ) → leb n 40 ≡ false → behind_asked b is (n ∷ rest) ≡ no_to (cond b 12 11)
  unfolding next ask read_pairs byte question12
  many_pairs_lem true is n rest h = rw h
  many_pairs_lem false is n rest h = refl

  pairs_cut : (pairs : List ℕ) (is : List Instruction) → Alike (behind_programs is) (cut_pairs pairs) (length pairs / 2 ∷ pairs)
  unfolding cut_pairs
  pairs_cut pairs is =
      let b = question11 (operation_count processors is) in
      split (leb (length pairs / 2) 40)
      (λ h. same (rw h))
      (λ h. rw h (both (cond b 12 11) (many_pairs_lem b is 41 [] refl) (many_pairs_lem b is (length pairs / 2) pairs h)))

  -- The programs

  module _ (instructions pairs : List ℕ) (whole : all_whole instructions ≡ true) where
    -- a count with which there are too many instructions
    many_instructions : (p : ℕ) (done : List Instruction) (n : ℕ) (rest : List ℕ) → leb (length done + n) 40 ≡ false → read_program processors (line_attributes lines) p done (n ∷ rest) ≡ no_to 5
    unfolding next ask read_program byte question5
    many_instructions p done n rest h = rw h

    programs_cut : (p left : ℕ) (done : List Instruction)
        → Alike (λ l. next (read_programs processors (line_attributes lines) p left done l) behind_programs) (cut_programs instructions pairs p left (length done))
        (programs_from instructions whole p left ++ (length pairs / 2 ∷ pairs))
    unfolding read_programs next cut_programs for count program_bytes
    programs_cut p zero done = pairs_cut pairs done
    programs_cut p (suc left) done =
        split (leb (length done + length program) 40)
        (λ h. rw h (fits (program_read processors (line_attributes lines) p done program (program_own instructions whole p)) (programs_cut (suc p) left)))
        (λ h. rw h (both 5
        (ap after (many_instructions p done 41 [] (lt-leb (length done + 41) 40 (omega arith))))
        (ap after (many_instructions p done (length program) (for program (drop 1) ++ programs_from instructions whole (suc p) left ++ (length pairs / 2 ∷ pairs)) h))))
      where
        program : List (List ℕ)
        program = program_of instructions p

        after : Found (List Instruction) → Found Execution
        after f = next (next f (λ more. read_programs processors (line_attributes lines) (suc p) left more)) behind_programs

        rest : List ℕ
        rest = programs_from instructions whole (suc p) left ++ (length pairs / 2 ∷ pairs)

        apart : program_bytes program ++ programs_from instructions whole (suc p) left ++ (length pairs / 2 ∷ pairs) ≡ program_bytes program ++ rest
        apart = append_assoc (program_bytes program) (programs_from instructions whole (suc p) left) (length pairs / 2 ∷ pairs)

        counted : (more : List Instruction) → Behind done program more → length more ≡ length done + length program
        counted more b = ap length b.out_is ∙ length-append done b.new ∙ ap (λ (n : ℕ). length done + n) (sym (length-map b.new section_entry) ∙ ap length b.entries_are)

        fits : Settled (read_program processors (line_attributes lines) p done) (program_bytes program) (Behind done program)
            → ((more : List Instruction) → Alike (λ l. next (read_programs processors (line_attributes lines) (suc p) left more l) behind_programs) (cut_programs instructions pairs (suc p) left (length more)) rest)
            → Alike (λ l. next (read_programs processors (line_attributes lines) p (suc left) done l) behind_programs)
            (program_bytes program ++ cut_programs instructions pairs (suc p) left (length done + length program))
            (program_bytes program ++ programs_from instructions whole (suc p) left ++ (length pairs / 2 ∷ pairs))
        fits (fails q f) k =
            both q (ap after (f (cut_programs instructions pairs (suc p) left (length done + length program))))
            (ap (λ (l : List ℕ). after (read_program processors (line_attributes lines) p done l)) apart ∙ ap after (f rest))
        fits (gives more b f) k =
            alike_to (sym apart) (alike_behind (program_bytes program) (cut_programs instructions pairs (suc p) left (length done + length program)) rest (λ l. ap after (f l))
            (subst (λ (n : ℕ). Alike (λ l. next (read_programs processors (line_attributes lines) (suc p) left more l) behind_programs) (cut_programs instructions pairs (suc p) left n) rest)
            (counted more b) (k more)))

-- The whole record

next_next : {A B C : Type 0} (m : Found A) (f : A → Reader B) (g : B → Reader C) → next (next m f) g ≡ next m (λ a l. next (f a l) g)
unfolding next
next_next (no_to q) f g = refl
next_next (found a l) f g = refl

module _ (s : Sections) (whole : question23 s ≡ true) where
  wrong_processors : question2 s.processors ≡ false → (l : List ℕ) → read_record (s.processors ∷ l) ≡ no_to 2
  unfolding read_record next byte ask
  wrong_processors h l = rw h

  wrong_lines : question2 s.processors ≡ true → (n : ℕ) → question3 n ≡ false → (l : List ℕ) → read_record (s.processors ∷ n ∷ l) ≡ no_to 3
  unfolding read_record read_lines next byte ask
  wrong_lines two n h l = rw (two, h)

  -- the walk up to the lines
  abbrev after_lines : Found (List Line) → Found Execution
  after_lines f = next f (λ lines l. next (read_instructions s.processors (line_attributes lines) l) (as_pairs s.processors lines))

  up_to_lines : question2 s.processors ≡ true → (l : List ℕ) → read_record (s.processors ∷ l) ≡ after_lines (read_lines l)
  unfolding read_record next byte ask
  up_to_lines two l = rw two

  lines_behind : (lines : List Line) (l : List ℕ)
      → after_lines (found lines l) ≡ next (read_programs s.processors (line_attributes lines) 0 s.processors [] l) (behind_programs s.processors lines)
  unfolding next read_instructions
  lines_behind lines l = next_next (read_programs s.processors (line_attributes lines) 0 s.processors [] l) _ (as_pairs s.processors lines)

  -- what follows the lines
  abbrev programs : List ℕ
  programs = programs_from s.instructions (whole_sections s whole).1 0 s.processors

  abbrev counted : List ℕ
  counted = length s.pairs / 2 ∷ s.pairs

  apart : s.lines ++ programs ++ counted ≡ s.lines ++ (programs ++ counted)
  apart = append_assoc s.lines programs counted

  -- with lines whose count passes
  lines_cut : question2 s.processors ≡ true
      → Settled read_lines (length s.lines / 9 ∷ s.lines) (λ lines. for lines line_bytes ≡ s.lines)
      → Alike read_record (s.processors ∷ length s.lines / 9 ∷ s.lines ++ cut_programs s.instructions s.pairs 0 s.processors 0) (record_of s)
  unfolding record_of below next
  lines_cut two (fails q f) =
      both q
      (up_to_lines two _ ∙ ap after_lines (f (cut_programs s.instructions s.pairs 0 s.processors 0)))
      (ap (λ (l : List ℕ). read_record (s.processors ∷ length s.lines / 9 ∷ l)) apart ∙ up_to_lines two _ ∙ ap after_lines (f (programs ++ counted)))
  lines_cut two (gives lines e f) =
      alike_to (ap (λ (l : List ℕ). s.processors ∷ length s.lines / 9 ∷ l) (sym apart))
      (alike_behind (s.processors ∷ length s.lines / 9 ∷ s.lines) (cut_programs s.instructions s.pairs 0 s.processors 0) (programs ++ counted)
      (λ l. up_to_lines two _ ∙ ap after_lines (f l) ∙ lines_behind lines l)
      (programs_cut s.processors lines s.instructions s.pairs (whole_sections s whole).1 0 s.processors []))

  record_alike : Alike read_record (cut_record s) (record_of s)
  unfolding cut_record cut_lines record_of question2 question3 below
  record_alike =
      split (question2 s.processors)
      (λ two. rw (and_parts (leb 1 s.processors) (leb s.processors 8) two).1
      (split (leb (length s.lines / 9) 8)
      (λ h. rw h (lines_cut two (lines_read (length s.lines / 9) s.lines (lines_counted s whole))))
      (λ h. rw h (both 3 (wrong_lines two 9 refl []) (wrong_lines two (length s.lines / 9) (rw h (and-false (leb 1 (length s.lines / 9)))) (s.lines ++ programs ++ counted))))))
      (λ two. both 2 (wrong_processors two _) (wrong_processors two _))

-- What the reader answers of the cut record
module _ (s : Sections) (whole : question23 s ≡ true) where
  pub cut_refused : (q : ℕ) → read_all (cut_record s) ≡ refuses q → read_all (record_of s) ≡ refuses q
  unfolding read_all answer_of
  cut_refused q h = go (record_alike s whole)
    where
      go : Alike read_record (cut_record s) (record_of s) → answer_of (read_record (record_of s)) ≡ refuses q
      go (same e) = ap (λ (l : List ℕ). answer_of (read_record l)) (sym e) ∙ h
      go (both k f g) = ap answer_of g ∙ sym (ap answer_of f) ∙ h

  pub cut_accepted : (e : Execution) → read_all (cut_record s) ≡ says e → cut_record s ≡ record_of s
  unfolding read_all answer_of
  cut_accepted e h = go (record_alike s whole)
    where
      go : Alike read_record (cut_record s) (record_of s) → cut_record s ≡ record_of s
      go (same e) = e
      go (both k f g) = let w = sym (ap answer_of f) ∙ h in let z : ◌≡◌ {A = ℕ} 0 1 = cc in absurd (omega arith)
