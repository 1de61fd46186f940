-- The sections of an accepted record are written as that record.
use Prim.Native.Nat.{ℕ, ◌*◌, ◌/◌, ◌<◌}
use native.Mathlib.Omega.{arith}
use mathlib.Core.Path.{◌≡◌, refl, sym, ap, ap₂, ◌∙◌, subst}
use mathlib.Core.Bool.{true}
use mathlib.Core.List.{List, [], ◌∷◌, ◌++◌, append-nil, append_assoc, map}
use lib.ListN.{length, get_or}
use lib.Dec.{eqb, leb, ltb}
use borrow.Author.Tests.{lt-ltb, le-leb}
use Rattle.base.specs.Lists.{all, keep, for, count, below}
use Rattle.base.proofs.Lists.{for_same}
use Rattle.model.specs.Execution.{Attribute, Line, Instruction, Execution, operation_count}
use Rattle.model.specs.Accepted.{Each, Sound}
use Rattle.model.specs.Calls.{says, and_then, asks, record_reply}
use Rattle.model.specs.Questions.{found, next, byte, ask, question2, question11, question15, line_attributes, read_lines, read_programs, read_instructions, read_pairs, read_record}
use Rattle.model.specs.Sections.{is_whole, question23, question24, program_of, program_bytes, record_of, write_record, writing, write_call, line_bytes, section_entry, pair_bytes, sections_of}
use Rattle.model.specs.Renumbering.{bytes_of_program}
use Rattle.model.proofs.Asking.{after_says, asked_yes}
use Rattle.model.proofs.Accepted.{step, asked, asked_on, byte_came, read_found, read_accepted}
use Rattle.record_sections.specs.RoundTrips.{ReadIsWritten}
use Rattle.record_sections.proofs.Sections.{none_cut_off}
use Rattle.record_sections.proofs.Rendered.{OwnFrom, lines_bytes, programs_bytes, pairs_bytes}
use Rattle.record_sections.proofs.Grouping.{each_map, each_all, each_mapped, length_for, section_entries, section_whole, section_program, program_as, programs_whole, programs_apart}

-- A record that is found, as bytes
pub record Rendered (bytes : List ℕ) (e : Execution) : Type 0 where
  pub programs : List (List Instruction)
  pub instructions_are : e.instructions ≡ for programs (λ is. is)
  pub counted : length programs ≡ e.processors
  pub own : OwnFrom 0 programs
  pub processors_passed : question2 e.processors ≡ true
  pub from_lines : List ℕ
  pub behind_lines : List ℕ
  pub lines_read : read_lines from_lines ≡ found e.lines behind_lines
  pub lines_long : Each (λ l. length (line_bytes l) ≡ 9) e.lines
  pub bytes_are : bytes ≡ e.processors ∷ length e.lines ∷ for e.lines line_bytes ++ (for programs bytes_of_program ++ (length e.pairs ∷ for e.pairs pair_bytes))
  pub behind_programs_lem : List ℕ
  pub behind_pairs : List ℕ
  pub pairs_read : read_pairs e.instructions behind_programs_lem ≡ found e.pairs behind_pairs

pub ends : (bytes : List ℕ) (u : Unit {0}) (r : List ℕ) → question15 bytes ≡ found u r → bytes ≡ []
unfolding question15
ends [] u r h = refl
ends (b ∷ bytes) u r h = let z : ◌≡◌ {A = ℕ} 0 1 = cc in absurd (omega arith)

pub rendered : (bytes : List ℕ) (e : Execution) (rest : List ℕ) → read_record bytes ≡ found e rest → Rendered bytes e
unfolding read_record read_instructions
rendered bytes e rest h =
    step (byte bytes) _ e rest h (λ p b1 e1 h1.
    step (ask 2 (question2 p) b1) _ e rest h1 (λ u2 b2 e2 h2.
    step (read_lines b2) _ e rest h2 (λ lines b3 e3 h3.
    step (read_instructions p (line_attributes lines) b3) _ e rest h3 (λ is b4 e4 h4.
    step (read_pairs is b4) _ e rest h4 (λ pairs b5 e5 h5.
    step (question15 b5) _ e rest h5 (λ u6 b6 e6 h6.
    step (read_programs p (line_attributes lines) 0 p [] b3) _ is b4 e4 (λ js b7 e7 h7.
    step (ask 11 _ b7) _ is b4 h7 (λ u8 b8 e8 h8.
    let z : record { processors = p; lines = lines; instructions = is; pairs = pairs } ≡ e = cc in
    let w : is ≡ js = cc in
    let after : b7 ≡ b4 = asked_on 11 _ b7 u8 b8 e8 ∙ (let v : b8 ≡ b4 = cc in v) in
    let (lines_are, long) = lines_bytes b2 lines b3 e3 in
    let m = programs_bytes p (line_attributes lines) 0 p [] b3 js b7 e7 in
    subst (Rendered bytes) z (record {
      programs = m.programs;
      instructions_are = w ∙ m.out_is;
      counted = m.counted;
      own = m.own;
      processors_passed = asked 2 (question2 p) b1 u2 b2 e2;
      from_lines = b2;
      behind_lines = b3;
      lines_read = e3;
      lines_long = long;
      bytes_are =
          byte_came bytes p b1 e1 ∙ ap (λ (b : List ℕ). p ∷ b)
          (asked_on 2 _ b1 u2 b2 e2 ∙ lines_are ∙ ap (λ (b : List ℕ). length lines ∷ for lines line_bytes ++ b)
          (m.bytes_are ∙ ap (λ (b : List ℕ). for m.programs bytes_of_program ++ b)
          (after ∙ pairs_bytes is b4 pairs b5 e5 ∙ ap (λ (b : List ℕ). length pairs ∷ for pairs pair_bytes ++ b) (ends b5 u6 b6 e6) ∙ ap (λ (b : List ℕ). length pairs ∷ b) (append-nil (for pairs pair_bytes)))));
      behind_programs_lem = b4;
      behind_pairs = b5;
      pairs_read = e5;
    })))))))))

-- A record whose parts are found is found.

pub eleven_asked : (processors : ℕ) (lines : List Attribute) (bytes : List ℕ) (out : List Instruction) (r : List ℕ) → read_programs processors lines 0 processors [] bytes ≡ found out r
    → question11 (operation_count processors out) ≡ true → read_instructions processors lines bytes ≡ found out r
unfolding read_instructions next ask
eleven_asked processors lines bytes out r h eleven = rw (h, eleven)

pub record_walked : (p : ℕ) (lines : List Line) (is : List Instruction) (pairs : List (ℕ × ℕ)) (b2 b3 b4 : List ℕ) → question2 p ≡ true → read_lines b2 ≡ found lines b3
    → read_instructions p (line_attributes lines) b3 ≡ found is b4 → read_pairs is b4 ≡ found pairs []
    → read_record (p ∷ b2) ≡ found (record { processors = p; lines = lines; instructions = is; pairs = pairs }) []
unfolding read_record next byte ask question15
record_walked p lines is pairs b2 b3 b4 two h3 h4 h5 = rw (two, h3, h4, h5)

-- an execution whose record is found, as sections
module _ {bytes : List ℕ} {e : Execution} (r : Rendered bytes e) (sound : Each (λ i. i.processor < e.processors) e.instructions) where
  whole : Each (λ i. is_whole (section_entry i) ≡ true) e.instructions
  whole = subst (Each (λ i. is_whole (section_entry i) ≡ true)) (sym r.instructions_are) (programs_whole 0 r.programs r.own)

  lines_long : length (for e.lines line_bytes) ≡ length e.lines * 9
  lines_long = length_for 9 line_bytes e.lines r.lines_long

  pairs_long : length (for e.pairs pair_bytes) ≡ length e.pairs * 2
  pairs_long = length_for 2 pair_bytes e.pairs (two e.pairs)
    where
      two : (l : List (ℕ × ℕ)) → Each (λ p. length (pair_bytes p) ≡ 2) l
      two [] = tt
      two (p ∷ l) = (refl, two l)

  sections_whole : question23 (sections_of e) ≡ true
  unfolding sections_of
  sections_whole = none_cut_off (sections_of e) (omega (arith, lines_long)) (section_whole e.instructions whole) (omega (arith, pairs_long))

  processors_below : question24 e.processors (for e.instructions section_entry) ≡ true
  unfolding question24
  processors_below =
      ap (all (λ x. ltb (get_or x 0 0) e.processors)) (section_entries e.instructions whole)
      ∙ each_all (λ x. ltb (get_or x 0 0) e.processors) (map section_entry e.instructions)
      (each_mapped (λ x. ltb (get_or x 0 0) e.processors ≡ true) section_entry e.instructions
      (each_map (λ i. i.processor < e.processors) (λ i. ltb i.processor e.processors ≡ true) (λ i l. lt-ltb i.processor e.processors l) e.instructions sound))

  programs_are : for (below e.processors) (λ q. program_bytes (program_of (for e.instructions section_entry) q)) ≡ for r.programs bytes_of_program
  unfolding below
  programs_are =
      for_same (λ q. program_bytes (program_of (for e.instructions section_entry) q)) (λ q. bytes_of_program (keep (λ i. eqb i.processor q) (for r.programs (λ is. is)))) (count 0 e.processors) (λ q m.
      ap program_bytes (section_program e.instructions whole q)
      ∙ program_as (keep (λ i. eqb i.processor q) e.instructions)
      ∙ ap (λ (is : List Instruction). bytes_of_program (keep (λ i. eqb i.processor q) is)) r.instructions_are)
      ∙ ap (λ (n : ℕ). for (count 0 n) (λ q. bytes_of_program (keep (λ i. eqb i.processor q) (for r.programs (λ is. is))))) (sym r.counted)
      ∙ programs_apart bytes_of_program 0 r.programs r.own

  record_is : record_of (sections_of e) ≡ bytes
  unfolding record_of sections_of
  record_is =
      ap₂ (λ (n m : ℕ). e.processors ∷ n ∷ for e.lines line_bytes ++ for (below e.processors) (λ q. program_bytes (program_of (for e.instructions section_entry) q)) ++ (m ∷ for e.pairs pair_bytes))
      (let z : length (for e.lines line_bytes) / 9 ≡ length e.lines = omega (arith, lines_long) in z)
      (let z : length (for e.pairs pair_bytes) / 2 ≡ length e.pairs = omega (arith, pairs_long) in z)
      ∙ ap (λ (l : List ℕ). e.processors ∷ length e.lines ∷ for e.lines line_bytes ++ l ++ (length e.pairs ∷ for e.pairs pair_bytes)) programs_are
      ∙ ap (λ (l : List ℕ). e.processors ∷ length e.lines ∷ l) (append_assoc (for e.lines line_bytes) (for r.programs bytes_of_program) (length e.pairs ∷ for e.pairs pair_bytes))
      ∙ sym r.bytes_are

pub read_is_written : ReadIsWritten
unfolding write_call writing write_record record_reply sections_of
read_is_written bytes e h buffer room =
    let (rest, f) = read_found bytes e h in
    let r = rendered bytes e rest f in
    let sound = each_map (Sound e.processors (length e.lines)) (λ i. i.processor < e.processors) (λ i s. s.own) e.instructions (read_accepted bytes e h).sound in
    ap (record_reply buffer)
    (sym (asked_yes 25 (says bytes) (le-leb (length bytes) (length buffer) room)
    ∙ after_says (λ _. and_then (asks 25 (leb (length bytes) (length buffer))) (λ _. says bytes)) h
    ∙ ap (λ (b : List ℕ). write_record b buffer) (sym (record_is r sound))
    ∙ asked_yes 24 (write_record (record_of (sections_of e)) buffer) (processors_below r sound)
    ∙ asked_yes 23 _ (sections_whole r sound)))
