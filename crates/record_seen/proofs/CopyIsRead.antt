-- A copy is read as the same execution but for what was seen: every walk that found something finds it again with what was seen hidden.
use Prim.Native.Nat.{ℕ, zero, suc, ◌+◌, ◌*◌}
use native.Mathlib.Nat.{mul_comm}
use native.Mathlib.Omega.{arith}
use mathlib.Core.Path.{◌≡◌, refl, sym, ap, ap₂, ◌∙◌, subst}
use mathlib.Core.Bool.{Bool, true, false}
use mathlib.Core.List.{List, [], ◌∷◌, ◌++◌, append-nil, append_assoc, map, map-append}
use lib.ListN.{length, get_or, take, drop, replicate, length-append, length-replicate, get_or-map}
use lib.Seq.{take_at}
use lib.Dec.{leb}
use Rattle.base.specs.Lists.{for}
use Rattle.model.specs.Execution.{Attribute, Line, Instruction, Execution, operation_count}
use Rattle.model.specs.Accepted.{Each, Consecutive}
use Rattle.model.specs.Calls.{Answer, says, asks, answer_of, read_all, question25, record_reply}
use Rattle.model.specs.Questions.{Found, found, Reader, next, item, byte, ask, many, question2, question5, question11, question12, no_instruction, question13, question14, question15, line_attributes, read_lines, read_instruction, read_program, read_programs, read_instructions, read_pair, read_pairs, read_record}
use Rattle.model.specs.Sections.{line_bytes}
use Rattle.model.proofs.Accepted.{step, asked, asked_on, byte_came, read_found, read_accepted}
use Rattle.record_sections.proofs.Rendered.{lines_bytes}
use Rattle.record_sections.proofs.Grouping.{length_for}
use Rattle.record_sections.proofs.Settled.{settled_again, lines_read}
use Rattle.record_sections.proofs.ReadIsWritten.{ends, eleven_asked, record_walked}
use Rattle.record_sections.proofs.WrittenIsRead.{said, reply_done}
use Rattle.model.specs.SolversCopy.{seen_places, seen_in, zeroed, copying, solvers_copy_call}
use Rattle.record_seen.specs.SolversClaims.{saw_zeros, unseen, CopyIsRead}
use Rattle.record_seen.proofs.Hiding.{hide, hide_append, hide_none}
use Rattle.record_seen.proofs.Places.{zeroed_hidden, mask_of, program_mask, record_mask, ByFrom, seen_places_lem}
use Rattle.record_seen.proofs.Unseen.{unseen_length, unseen_count, entry_again}

-- A walk over instructions that found `out` behind `done`: it finds them again, with what was seen hidden.
pub record Again (walk : List Instruction → Reader (List Instruction)) (mask : List Bool) (done : List Instruction) (bytes : List ℕ) (out : List Instruction) (r : List ℕ) : Type 0 where
  pub part : List ℕ
  pub bytes_are : bytes ≡ part ++ r
  pub as_long : length mask ≡ length part
  pub again : (s : List ℕ) → walk (map saw_zeros done) (hide mask part ++ s) ≡ found (map saw_zeros out) s

-- two parts, one behind the other
hidden_apart : (ms ns : List Bool) (x y s : List ℕ) → length ms ≡ length x → hide (ms ++ ns) (x ++ y) ++ s ≡ hide ms x ++ (hide ns y ++ s)
hidden_apart ms ns x y s h = ap (λ (l : List ℕ). l ++ s) (hide_append ms ns x y h) ∙ append_assoc (hide ms x) (hide ns y) s

module _ (processors : ℕ) (lines : List Attribute) where
  many_again : (p n : ℕ) (done : List Instruction) (bytes : List ℕ) (out : List Instruction) (r : List ℕ) → many (read_instruction processors lines p) n done bytes ≡ found out r
      → (new : List Instruction) × (out ≡ done ++ new) × Each (λ i. i.processor ≡ p) new × Again (many (read_instruction processors lines p) n) (for new mask_of) done bytes out r
  unfolding many next for hide
  many_again p zero done bytes out r h =
      let z : out ≡ done = cc in
      ([], z ∙ sym (append-nil done), tt, record { part = []; bytes_are = (let w : bytes ≡ r = cc in w); as_long = refl; again = λ s. ap (λ (d : List Instruction). found (map saw_zeros d) s) (sym z) })
  many_again p (suc n) done bytes out r h =
      step (read_instruction processors lines p done bytes) _ out r h (λ i rest e k.
      let one = entry_again processors lines p done bytes i rest e in
      let (new, out_is, by, m) = many_again p n (done ++ (i ∷ [])) rest out r k in (
        i ∷ new,
        out_is ∙ append_assoc done (i ∷ []) new,
        (one.by, by),
        record {
          part = one.entry ++ m.part;
          bytes_are = one.bytes_are ∙ ap (λ (l : List ℕ). one.entry ++ l) m.bytes_are ∙ sym (append_assoc one.entry m.part r);
          as_long = omega (arith, length-append (mask_of i) (for new mask_of), length-append one.entry m.part, one.as_long, m.as_long);
          again = λ s.
              ap (λ (l : List ℕ). next (read_instruction processors lines p (map saw_zeros done) l) (λ a. many (read_instruction processors lines p) n (map saw_zeros done ++ (a ∷ [])))) (hidden_apart (mask_of i) (for new mask_of) one.entry m.part s one.as_long)
              ∙ ap (λ (f : Found Instruction). next f (λ a. many (read_instruction processors lines p) n (map saw_zeros done ++ (a ∷ [])))) (one.again (hide (for new mask_of) m.part ++ s))
              ∙ ap (λ (d : List Instruction). many (read_instruction processors lines p) n d (hide (for new mask_of) m.part ++ s)) (sym (map-append saw_zeros done (i ∷ [])))
              ∙ m.again s;
        },
      ))

  program_again : (p : ℕ) (done : List Instruction) (bytes : List ℕ) (out : List Instruction) (r : List ℕ) → read_program processors lines p done bytes ≡ found out r
      → (new : List Instruction) × (out ≡ done ++ new) × Each (λ i. i.processor ≡ p) new × Again (read_program processors lines p) (program_mask new) done bytes out r
  unfolding read_program next byte ask hide question5
  program_again p done bytes out r h =
      step (byte bytes) _ out r h (λ n b1 e1 h1.
      step (ask 5 (question5 done n) b1) _ out r h1 (λ u2 b2 e2 h2.
      let (new, out_is, by, m) = many_again p n done b2 out r h2 in
      let five : question5 (map saw_zeros done) n ≡ true = ap (λ (k : ℕ). leb (k + n) 40) (unseen_length done) ∙ asked 5 (question5 done n) b1 u2 b2 e2 in (
        new,
        out_is,
        by,
        record {
          part = n ∷ m.part;
          bytes_are = byte_came bytes n b1 e1 ∙ ap (λ (l : List ℕ). n ∷ l) (asked_on 5 (question5 done n) b1 u2 b2 e2 ∙ m.bytes_are);
          as_long = ap suc m.as_long;
          again = λ s. ap (λ (b : Bool). next (ask 5 b (hide (for new mask_of) m.part ++ s)) (λ _. many (read_instruction processors lines p) n (map saw_zeros done))) five ∙ m.again s;
        },
      )))

  programs_again : (p left : ℕ) (done : List Instruction) (bytes : List ℕ) (out : List Instruction) (r : List ℕ) → read_programs processors lines p left done bytes ≡ found out r
      → (programs : List (List Instruction)) × (out ≡ done ++ for programs (λ is. is)) × ByFrom p programs × Again (read_programs processors lines p left) (for programs program_mask) done bytes out r
  unfolding read_programs next for hide
  programs_again p zero done bytes out r h =
      let z : out ≡ done = cc in
      ([], z ∙ sym (append-nil done), tt, record { part = []; bytes_are = (let w : bytes ≡ r = cc in w); as_long = refl; again = λ s. ap (λ (d : List Instruction). found (map saw_zeros d) s) (sym z) })
  programs_again p (suc left) done bytes out r h =
      step (read_program processors lines p done bytes) _ out r h (λ more rest e k.
      let (new, more_is, by, one) = program_again p done bytes more rest e in
      let (programs, out_is, bys, m) = programs_again (suc p) left more rest out r k in (
        new ∷ programs,
        out_is ∙ ap (λ (l : List Instruction). l ++ for programs (λ is. is)) more_is ∙ append_assoc done new (for programs (λ is. is)),
        (by, bys),
        record {
          part = one.part ++ m.part;
          bytes_are = one.bytes_are ∙ ap (λ (l : List ℕ). one.part ++ l) m.bytes_are ∙ sym (append_assoc one.part m.part r);
          as_long = omega (arith, length-append (program_mask new) (for programs program_mask), length-append one.part m.part, one.as_long, m.as_long);
          again = λ s.
              ap (λ (l : List ℕ). next (read_program processors lines p (map saw_zeros done) l) (λ d. read_programs processors lines (suc p) left d)) (hidden_apart (program_mask new) (for programs program_mask) one.part m.part s one.as_long)
              ∙ ap (λ (f : Found (List Instruction)). next f (λ d. read_programs processors lines (suc p) left d)) (one.again (hide (for programs program_mask) m.part ++ s))
              ∙ m.again s;
        },
      ))

-- Pairs are asked by kinds and processors, which are the same

unseen_at : (is : List Instruction) (k : ℕ) → get_or (map saw_zeros is) k no_instruction ≡ saw_zeros (get_or is k no_instruction)
unfolding saw_zeros
unseen_at is k = get_or-map saw_zeros is k no_instruction

thirteen_unseen : (is : List Instruction) (m n : ℕ) → question13 (map saw_zeros is) m n ≡ question13 is m n
unfolding question13 saw_zeros
thirteen_unseen is m n = rw (unseen_at is m, unseen_at is n, unseen_length is)

pair_unseen : (is : List Instruction) → read_pair (map saw_zeros is) ≡ read_pair is
unfolding read_pair
pair_unseen is =
    let asking : (ℕ → ℕ → Bool) → List (ℕ × ℕ) → Reader (ℕ × ℕ) = λ thirteen done bytes.
    next (item 2 bytes) (λ x b. next (ask 13 (thirteen (get_or x 0 0) (get_or x 1 0)) b) (λ _ c. next (ask 14 (question14 done (get_or x 0 0) (get_or x 1 0)) c) (λ _ d. found (get_or x 0 0, get_or x 1 0) d)))
    in
    ap asking (λ i m n. thirteen_unseen is m n i)

pairs_unseen : (is : List Instruction) (bytes : List ℕ) → read_pairs (map saw_zeros is) bytes ≡ read_pairs is bytes
unfolding read_pairs
pairs_unseen is bytes = ap (λ (read : List (ℕ × ℕ) → Reader (ℕ × ℕ)). next (byte bytes) (λ n b. next (ask 12 (question12 n) b) (λ _. many read n []))) (pair_unseen is)

-- The sections

lines_again : (bytes : List ℕ) (lines : List Line) (r : List ℕ) → read_lines bytes ≡ found lines r
    → (bytes ≡ length lines ∷ for lines line_bytes ++ r) × (length (for lines line_bytes) ≡ 9 * length lines) × ((s : List ℕ) → read_lines (length lines ∷ for lines line_bytes ++ s) ≡ found lines s)
lines_again bytes lines r h =
    let (here, nine) = lines_bytes bytes lines r h in
    let long = length_for 9 line_bytes lines nine in (
      here,
      long ∙ mul_comm (length lines) 9,
      settled_again (lines_read (length lines) (for lines line_bytes) long) r lines r (ap read_lines (sym here) ∙ h),
    )

-- the instructions of a record, read again
pub record InstructionsAgain (processors : ℕ) (lines : List Attribute) (bytes : List ℕ) (is : List Instruction) (r : List ℕ) : Type 0 where
  pub programs : List (List Instruction)
  pub instructions_are : is ≡ for programs (λ js. js)
  pub by : ByFrom 0 programs
  pub part : List ℕ
  pub bytes_are : bytes ≡ part ++ r
  pub as_long : length (for programs program_mask) ≡ length part
  pub again : (s : List ℕ) → read_instructions processors lines (hide (for programs program_mask) part ++ s) ≡ found (map saw_zeros is) s

instructions_again : (processors : ℕ) (lines : List Attribute) (bytes : List ℕ) (is : List Instruction) (r : List ℕ) → read_instructions processors lines bytes ≡ found is r
    → InstructionsAgain processors lines bytes is r
unfolding read_instructions
instructions_again processors lines bytes is r h =
    step (read_programs processors lines 0 processors [] bytes) _ is r h (λ js b1 e1 h1.
    step (ask 11 (question11 (operation_count processors js)) b1) _ is r h1 (λ u2 b2 e2 h2.
    let (programs, out_is, by, m) = programs_again processors lines 0 processors [] bytes js b1 e1 in
    let same : js ≡ is = cc in
    let eleven = ap question11 (unseen_count processors js) ∙ asked 11 (question11 (operation_count processors js)) b1 u2 b2 e2 in
    record {
      programs = programs;
      instructions_are = sym same ∙ out_is;
      by = by;
      part = m.part;
      bytes_are = m.bytes_are ∙ ap (λ (l : List ℕ). m.part ++ l) (asked_on 11 (question11 (operation_count processors js)) b1 u2 b2 e2 ∙ (let w : b2 ≡ r = cc in w));
      as_long = m.as_long;
      again = λ s. eleven_asked processors lines (hide (for programs program_mask) m.part ++ s) (map saw_zeros js) s (m.again s) eleven ∙ ap (λ (l : List Instruction). found (map saw_zeros l) s) same;
    }))

-- A record that is found, with what was seen hidden
pub record RecordAgain (bytes : List ℕ) (e : Execution) : Type 0 where
  pub programs : List (List Instruction)
  pub instructions_are : e.instructions ≡ for programs (λ is. is)
  pub by : ByFrom 0 programs
  pub again : read_record (hide (record_mask (length e.lines) programs) bytes) ≡ found (unseen e) []

-- the mask leaves P, the count of lines, the lines and all that follows the programs
hidden_record : (n p : ℕ) (ms : List Bool) (lines part rest : List ℕ) → length lines ≡ 9 * n → length ms ≡ length part
    → hide (false ∷ false ∷ replicate (9 * n) false ++ ms) (p ∷ n ∷ lines ++ (part ++ rest)) ≡ p ∷ n ∷ lines ++ (hide ms part ++ rest)
unfolding hide
hidden_record n p ms lines part rest long as_long =
    ap (λ (l : List ℕ). p ∷ n ∷ l)
    (hide_append (replicate (9 * n) false) ms lines (part ++ rest) (length-replicate (9 * n) false ∙ sym long)
    ∙ ap₂ (λ (a b : List ℕ). a ++ b) (hide_none (9 * n) lines)
    (ap (λ (k : List Bool). hide k (part ++ rest)) (sym (append-nil ms)) ∙ hide_append ms [] part rest as_long))

record_again : (bytes : List ℕ) (e : Execution) (rest : List ℕ) → read_record bytes ≡ found e rest → RecordAgain bytes e
unfolding read_record unseen
record_again bytes e rest h =
    step (byte bytes) _ e rest h (λ p b1 e1 h1.
    step (ask 2 (question2 p) b1) _ e rest h1 (λ u2 b2 e2 h2.
    step (read_lines b2) _ e rest h2 (λ lines b3 e3 h3.
    step (read_instructions p (line_attributes lines) b3) _ e rest h3 (λ is b4 e4 h4.
    step (read_pairs is b4) _ e rest h4 (λ pairs b5 e5 h5.
    step (question15 b5) _ e rest h5 (λ u6 b6 e6 h6.
    let z : record { processors = p; lines = lines; instructions = is; pairs = pairs } ≡ e = cc in
    let (here, long, lines_read) = lines_again b2 lines b3 e3 in
    let m = instructions_again p (line_attributes lines) b3 is b4 e4 in
    let hidden = hide (for m.programs program_mask) m.part in
    let all_bytes : bytes ≡ p ∷ length lines ∷ for lines line_bytes ++ (m.part ++ b4) =
    byte_came bytes p b1 e1 ∙ ap (λ (l : List ℕ). p ∷ l) (asked_on 2 (question2 p) b1 u2 b2 e2 ∙ here ∙ ap (λ (l : List ℕ). length lines ∷ for lines line_bytes ++ l) m.bytes_are)
    in
    subst (RecordAgain bytes) z (record {
      programs = m.programs;
      instructions_are = m.instructions_are;
      by = m.by;
      again =
          ap (λ (l : List ℕ). read_record (hide (record_mask (length lines) m.programs) l)) all_bytes
          ∙ ap read_record (hidden_record (length lines) p (for m.programs program_mask) (for lines line_bytes) m.part b4 long m.as_long)
          ∙ record_walked p lines (map saw_zeros is) pairs (length lines ∷ for lines line_bytes ++ (hidden ++ b4)) (hidden ++ b4) b4 (asked 2 (question2 p) b1 u2 b2 e2) (lines_read (hidden ++ b4)) (m.again b4)
          (pairs_unseen is b4 ∙ e5 ∙ ap (λ (l : List ℕ). found pairs l) (ends b5 u6 b6 e6));
    })))))))

-- the copy is the record with what was seen hidden
copy_hidden : (bytes : List ℕ) (e : Execution) → read_all bytes ≡ says e → read_all (zeroed (seen_in e) bytes) ≡ says (unseen e)
unfolding read_all answer_of
copy_hidden bytes e h =
    let (rest, f) = read_found bytes e h in
    let a = record_again bytes e rest f in
    ap read_all
    (ap (λ (places : List ℕ). zeroed places bytes)
    (ap (seen_places (length e.lines)) a.instructions_are
    ∙ seen_places_lem (length e.lines) e.processors a.programs a.by (subst (Consecutive e.processors 0 0) a.instructions_are (read_accepted bytes e h).consecutive))
    ∙ zeroed_hidden (record_mask (length e.lines) a.programs) bytes)
    ∙ ap answer_of a.again

pub copy_is_read : CopyIsRead
unfolding solvers_copy_call copying record_reply
copy_is_read bytes buffer h =
    let (copy, All_Said) = reply_done buffer (copying bytes buffer) h in
    let (e, accepted, k1) = said (read_all bytes) _ copy All_Said in
    let (u, k2, k3) = said (asks 25 (question25 bytes buffer)) _ copy k1 in
    let z : zeroed (seen_in e) bytes ≡ copy = cc in (
      e,
      accepted,
      ap (λ (a : Answer (List ℕ)). read_all (take (record_reply buffer a).length (record_reply buffer a).buffer)) All_Said
          ∙ ap read_all (take_at copy (drop (length copy) buffer) (length copy) refl ∙ sym z)
          ∙ copy_hidden bytes e accepted,
    )
