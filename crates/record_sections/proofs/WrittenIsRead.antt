-- What is written is read as the same sections, grouped.
use Prim.Native.Nat.{ℕ, ◌/◌}
use native.Mathlib.Omega.{arith}
use mathlib.Core.Path.{◌≡◌, refl, sym, ap, ◌∙◌}
use mathlib.Core.Bool.{Bool, true, false}
use mathlib.Core.List.{List, [], ◌∷◌, ◌++◌, append-nil, append_assoc}
use lib.ListN.{length, take, drop}
use lib.Seq.{take_at}
use lib.Dec.{leb}
use Rattle.base.specs.Lists.{for, below}
use Rattle.model.specs.Execution.{Instruction, Execution}
use Rattle.model.specs.Calls.{Answer, says, refuses, and_then, asks, read_all, done, record_reply}
use Rattle.model.specs.Questions.{found, next, byte, ask, question15, line_attributes, read_lines, read_programs, read_instructions, read_pairs, read_record}
use Rattle.model.specs.Sections.{Sections, question23, question24, record_of, write_record, writing, write_call, grouped, section_entry, pair_bytes, sections_of}
use Rattle.model.proofs.Accepted.{step, asked_on, read_found}
use Rattle.record_sections.specs.RoundTrips.{WrittenIsRead}
use Rattle.record_sections.proofs.Sections.{whole_sections, lines_counted}
use Rattle.record_sections.proofs.Rendered.{pairs_bytes}
use Rattle.record_sections.proofs.ReadIsWritten.{ends}
use Rattle.record_sections.proofs.Settled.{settled_found, lines_read, programs_from, programs_read}

-- A call that said something

pub said : {A B : Type 0} (m : Answer A) (f : A → Answer B) (b : B) → and_then m f ≡ says b → (a : A) × (m ≡ says a) × (f a ≡ says b)
unfolding and_then
said (says a) f b h = (a, refl, h)
said (refuses q) f b h = let z : ◌≡◌ {A = ℕ} 0 1 = cc in absurd (omega arith)

said_yes : (q : ℕ) (t : Bool) (u : Unit {0}) → asks q t ≡ says u → t ≡ true
unfolding asks
said_yes q true u h = refl
said_yes q false u h = let z : ◌≡◌ {A = ℕ} 0 1 = cc in absurd (omega arith)

pub reply_done : (buffer : List ℕ) (a : Answer (List ℕ)) → (record_reply buffer a).answer ≡ says done → (bytes : List ℕ) × (a ≡ says bytes)
unfolding record_reply
reply_done buffer (says bytes) h = (bytes, refl)
reply_done buffer (refuses q) h = let z : ◌≡◌ {A = ℕ} 0 1 = cc in absurd (omega arith)

-- the record was accepted, and is what was written
pub record Wrote (s : Sections) (buffer : List ℕ) : Type 0 where
  pub sections_whole : question23 s ≡ true
  pub execution : Execution
  pub accepted : read_all (record_of s) ≡ says execution
  pub written : writing s buffer ≡ says (record_of s)

wrote : (s : Sections) (buffer : List ℕ) → (write_call s buffer).answer ≡ says done → Wrote s buffer
unfolding write_call writing write_record
wrote s buffer h =
    let (bytes, All_Said) = reply_done buffer (writing s buffer) h in
    let (u1, h1, k1) = said (asks 23 (question23 s)) _ bytes All_Said in
    let (u2, h2, k2) = said (asks 24 (question24 s.processors s.instructions)) _ bytes k1 in
    let (e, h3, k3) = said (read_all (record_of s)) _ bytes k2 in
    let (u4, h4, k4) = said (asks 25 (leb (length (record_of s)) (length buffer))) _ bytes k3 in
    let z : record_of s ≡ bytes = cc in
    record {
      sections_whole = said_yes 23 (question23 s) u1 h1;
      execution = e;
      accepted = h3;
      written = All_Said ∙ ap says (sym z);
    }

-- sections whose record is found
module _ (s : Sections) (whole : question23 s ≡ true) where
  sections_are : (e : Execution) (rest : List ℕ) → read_record (record_of s) ≡ found e rest → sections_of e ≡ grouped s
  unfolding read_record record_of read_instructions next byte below sections_of grouped for
  sections_are e rest h =
      let programs = programs_from s.instructions (whole_sections s whole).1 0 s.processors in
      let counted = length s.pairs / 2 ∷ s.pairs in
      let apart = append_assoc s.lines programs counted in
      step (ask 2 _ (length s.lines / 9 ∷ s.lines ++ programs ++ counted)) _ e rest h (λ u2 b2 e2 h2.
      step (read_lines b2) _ e rest h2 (λ lines b3 e3 h3.
      step (read_instructions s.processors (line_attributes lines) b3) _ e rest h3 (λ is b4 e4 h4.
      step (read_pairs is b4) _ e rest h4 (λ pairs b5 e5 h5.
      step (question15 b5) _ e rest h5 (λ u6 b6 e6 h6.
      step (read_programs s.processors (line_attributes lines) 0 s.processors [] b3) _ is b4 e4 (λ js b7 e7 h7.
      step (ask 11 _ b7) _ is b4 h7 (λ u8 b8 e8 h8.
      let z : record { processors = s.processors; lines = lines; instructions = is; pairs = pairs } ≡ e = cc in
      let w : is ≡ js = cc in
      let after : b7 ≡ b4 = asked_on 11 _ b7 u8 b8 e8 ∙ (let v : b8 ≡ b4 = cc in v) in
      let first = ap (λ (l : List ℕ). length s.lines / 9 ∷ l) (sym apart) ∙ asked_on 2 _ (length s.lines / 9 ∷ s.lines ++ programs ++ counted) u2 b2 e2 in
      let (lines_are, behind_lines) = settled_found (lines_read (length s.lines / 9) s.lines (lines_counted s whole)) (programs ++ counted) lines b3 (ap read_lines first ∙ e3) in
      let (grouped_are, behind_programs_lem) =
      settled_found (programs_read s.instructions (whole_sections s whole).1 s.processors (line_attributes lines) 0 s.processors []) counted js b7
      (ap (read_programs s.processors (line_attributes lines) 0 s.processors []) (sym behind_lines) ∙ e7)
      in
      let pairs_are : for pairs pair_bytes ≡ s.pairs =
      sym (append-nil (for pairs pair_bytes)) ∙ ap (λ (l : List ℕ). for pairs pair_bytes ++ l) (sym (ends b5 u6 b6 e6))
      ∙ sym (ap (drop 1) (sym behind_programs_lem ∙ after ∙ pairs_bytes is b4 pairs b5 e5))
      in
      ap sections_of (sym z)
      ∙ (λ i. record { processors = s.processors; lines = lines_are i; instructions = (ap (λ (l : List Instruction). for l section_entry) w ∙ grouped_are) i; pairs = pairs_are i }))))))))

pub written_is_read : WrittenIsRead
unfolding write_call record_reply
written_is_read s buffer h =
    let w = wrote s buffer h in
    let (rest, f) = read_found (record_of s) w.execution w.accepted in (
      w.execution,
      ap (λ (a : Answer (List ℕ)). read_all (take (record_reply buffer a).length (record_reply buffer a).buffer)) w.written
          ∙ ap read_all (take_at (record_of s) (drop (length (record_of s)) buffer) (length (record_of s)) refl)
          ∙ w.accepted,
      sections_are s w.sections_whole w.execution rest f,
    )
