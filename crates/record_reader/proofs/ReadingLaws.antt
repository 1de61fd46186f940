-- The walk over a whole record, section by section.
use Prim.Native.Nat.{ℕ, ◌≤◌, ◌<◌}
use native.Mathlib.Omega.{arith}
use mathlib.Core.Path.{◌≡◌, refl, sym, ap, ◌∙◌}
use mathlib.Core.Bool.{and-false}
use mathlib.Core.List.{List, [], ◌∷◌}
use lib.ListN.{length, get_or, drop}
use lib.Dec.{leb}
use borrow.Author.Tests.{le-leb, lt-leb}
use Rattle.model.specs.Execution as model
use Rattle.model.specs.Questions.{Found, no_to, found, Reader, next, ask, question2, question15, read_lines, line_attributes, read_instructions, read_pairs, read_record}
use Rattle.model.specs.Calls.{says, refuses, answer_of, read_all}
use Rattle.record_reader.specs.Readings.{after_instructions, after_lines}
use Rattle.record_decoded.proofs.Items.{byte_short, byte_there}

module _ {A B : Type 0} (after : A → Reader B) where
  -- a section that is refused refuses the rest
  section_fails : {walk : Found A} {q : ℕ} → walk ≡ no_to q → next walk after ≡ no_to q
  unfolding next
  section_fails e = ap (λ (f : Found A). next f after) e

  -- a section that is read leaves the rest
  section_read : {walk : Found A} {a : A} {rest : List ℕ} → walk ≡ found a rest → next walk after ≡ after a rest
  unfolding next
  section_read e = ap (λ (f : Found A). next f after) e

-- the walk after the programs
module _ (processors : ℕ) (lines : List model.Line) (is : List model.Instruction) (part : List ℕ) where
  pub end_fails : {q : ℕ} → read_pairs is part ≡ no_to q → answer_of (after_instructions processors lines is part) ≡ refuses q
  unfolding after_instructions answer_of
  end_fails e = ap answer_of (section_fails _ e)

  module _ {pairs : List (ℕ × ℕ)} {rest : List ℕ} (e : read_pairs is part ≡ found pairs rest) where
    pub end_more : 0 < length rest → answer_of (after_instructions processors lines is part) ≡ refuses 15
    unfolding after_instructions answer_of question15
    end_more h = ap answer_of (section_read _ e ∙ section_fails _ (go rest h))
      where
        go : (l : List ℕ) → 0 < length l → question15 l ≡ no_to 15
        go [] h = absurd (omega arith)
        go (b ∷ l) h = refl

    pub end_here : length rest ≡ 0 → answer_of (after_instructions processors lines is part) ≡ says (record { processors = processors; lines = lines; instructions = is; pairs = pairs })
    unfolding after_instructions answer_of next question15
    end_here h = ap answer_of (section_read _ e) ∙ rw (none rest h)
      where
        none : (l : List ℕ) → length l ≡ 0 → l ≡ []
        none [] h = refl
        none (b ∷ l) h = absurd (omega arith)

-- the walk after the lines
module _ (processors : ℕ) (lines : List model.Line) (attributes : List model.Attribute) (same : line_attributes lines ≡ attributes) (part : List ℕ) where
  pub rest_fails : {q : ℕ} → read_instructions processors attributes part ≡ no_to q → answer_of (after_lines processors lines part) ≡ refuses q
  unfolding after_lines answer_of
  rest_fails e = ap answer_of (section_fails (after_instructions processors lines) (ap (λ (l : List model.Attribute). read_instructions processors l part) same ∙ e))

  pub rest_read : {is : List model.Instruction} {rest : List ℕ} → read_instructions processors attributes part ≡ found is rest
      → answer_of (after_lines processors lines part) ≡ answer_of (after_instructions processors lines is rest)
  unfolding after_lines
  rest_read e = ap answer_of (section_read (after_instructions processors lines) (ap (λ (l : List model.Attribute). read_instructions processors l part) same ∙ e))

-- the whole record
module _ (bytes : List ℕ) where
  pub record_short : length bytes < 1 → read_all bytes ≡ refuses 1
  unfolding read_all read_record answer_of next
  record_short h = rw (byte_short bytes h)

  module _ (room : 1 ≤ length bytes) where
    pub record_few : get_or bytes 0 0 < 1 → read_all bytes ≡ refuses 2
    unfolding read_all read_record answer_of next ask question2
    record_few h = rw (byte_there bytes room, lt-leb 1 (get_or bytes 0 0) h)

    pub record_many : 8 < get_or bytes 0 0 → read_all bytes ≡ refuses 2
    unfolding read_all read_record answer_of next ask question2
    record_many h = rw (byte_there bytes room, lt-leb (get_or bytes 0 0) 8 h, and-false (leb 1 (get_or bytes 0 0)))

    module _ (some : 1 ≤ get_or bytes 0 0) (few : get_or bytes 0 0 ≤ 8) where
      record_lines : read_all bytes ≡ answer_of (next (read_lines (drop 1 bytes)) (after_lines (get_or bytes 0 0)))
      unfolding read_all read_record next ask question2 after_lines after_instructions
      record_lines = rw (byte_there bytes room, le-leb 1 (get_or bytes 0 0) some, le-leb (get_or bytes 0 0) 8 few)

      pub record_fails : {q : ℕ} → read_lines (drop 1 bytes) ≡ no_to q → read_all bytes ≡ refuses q
      unfolding answer_of
      record_fails e = record_lines ∙ ap answer_of (section_fails (after_lines (get_or bytes 0 0)) e)

      pub record_read : {lines : List model.Line} {rest : List ℕ} → read_lines (drop 1 bytes) ≡ found lines rest
          → read_all bytes ≡ answer_of (after_lines (get_or bytes 0 0) lines rest)
      record_read e = record_lines ∙ ap answer_of (section_read (after_lines (get_or bytes 0 0)) e)
