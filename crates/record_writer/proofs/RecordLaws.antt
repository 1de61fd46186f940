-- The record as it is put together, section by section.
use Prim.Native.Nat.{ℕ, suc, ◌+◌, ◌*◌, ◌-◌, ◌/◌, ◌%◌, ◌≤◌, ◌<◌}
use native.Mathlib.Numerals.{add-one}
use native.Mathlib.Omega.{arith}
use mathlib.Core.Path.{◌≡◌, sym, ap, ap₂, ◌∙◌}
use mathlib.Core.Bool.{Bool, true, cond}
use mathlib.Core.List.{List, [], ◌∷◌, ◌++◌, append_assoc}
use lib.ListN.{length, take, drop, set, length-set}
use lib.Seq.{take_all, paste}
use lib.Dec.{leb}
use borrow.Author.Tests.{le-leb, lt-leb}
use Rattle.base.specs.Lists.{for}
use Rattle.model.specs.Sections.{sections_from, all_whole, question23, program_of, program_bytes}
use Rattle.record_sections.proofs.Sections.{whole_sections}
use Rattle.record_writer.specs.Puts.{Puts}
use Rattle.record_writer.specs.Cut.{cut_pairs, cut_programs, cut_lines, cut_record}
use Rattle.record_writer.proofs.PutLaws.{puts_none, puts_byte, puts_part, puts_both, puts_same, puts_next, puts_front}
use Rattle.record_writer.proofs.EntryLaws.{few_entry_bytes}

-- a byte, then a whole list
pub puts_counted : {x y : List ℕ} {at : ℕ} (b : ℕ) (s : List ℕ) → at + 1 + length s ≤ length x → y ≡ paste (set x at b) (at + 1) s (length s)
    → Puts x at (b ∷ s) y (at + 1 + length s)
puts_counted {x} {y} {at} b s room e =
    puts_same (ap (λ (l : List ℕ). b ∷ l) (take_all (length s) s (omega arith)))
    (puts_both (puts_byte b (omega arith)) (puts_part s (length s) (omega (arith, length-set x at b)) (omega arith) e))

-- The pairs

pub pairs_many : {x : List ℕ} {at : ℕ} (pairs : List ℕ) → 40 < length pairs / 2 → at + 81 ≤ length x → Puts x at (cut_pairs pairs) (set x at 41) (at + 1)
unfolding cut_pairs
pairs_many {x} {at} pairs many room =
    puts_same (ap (λ (b : Bool). cond b (length pairs / 2 ∷ pairs) (41 ∷ [])) (sym (lt-leb (length pairs / 2) 40 many))) (puts_byte 41 (omega arith))

pub pairs_room : (x : List ℕ) (at : ℕ) (pairs : List ℕ) → length pairs / 2 ≤ 40 → length pairs % 2 ≡ 0 → at + 81 ≤ length x
    → at + 1 + length pairs ≤ length (set x at (length pairs / 2))
pairs_room x at pairs few even room = omega (arith, length-set x at (length pairs / 2))

pub pairs_few : {x y : List ℕ} {at : ℕ} (pairs : List ℕ) → length pairs / 2 ≤ 40 → length pairs % 2 ≡ 0 → at + 81 ≤ length x
    → y ≡ paste (set x at (length pairs / 2)) (at + 1) pairs (length pairs) → Puts x at (cut_pairs pairs) y (at + 1 + length pairs)
unfolding cut_pairs
pairs_few {x} {y} {at} pairs few even room e =
    puts_same (ap (λ (b : Bool). cond b (length pairs / 2 ∷ pairs) (41 ∷ [])) (sym (le-leb (length pairs / 2) 40 few)))
    (puts_counted (length pairs / 2) pairs (omega arith) e)

-- The programs

abbrev entry_bytes : List ℕ → ℕ → List ℕ
entry_bytes instructions p = for (program_of instructions p) (drop 1)

-- The invariant: what is put and what is left make the whole, and there is room for what may come.
pub record Programs (before : List ℕ) (at : ℕ) (instructions pairs : List ℕ) (processors : ℕ) (out : List ℕ) (next count p : ℕ) : Type 0 where
  pub so_far : List ℕ
  pub put : Puts before at so_far out next
  pub decides : cut_programs instructions pairs 0 processors 0 ≡ so_far ++ cut_programs instructions pairs p (processors - p) count
  pub within : p ≤ processors
  pub few : count ≤ 40
  pub room : next ≤ 74 + p + 19 * count
  pub long : length out ≡ 923

pub programs_start : {before : List ℕ} {at : ℕ} {instructions pairs : List ℕ} {processors : ℕ} → length before ≡ 923 → at ≤ 74
    → Programs before at instructions pairs processors before at 0 0
programs_start {before} {at} {instructions} {pairs} {processors} long early = record {
  so_far = [];
  put = puts_none (omega arith);
  decides = ap (λ (k : ℕ). cut_programs instructions pairs 0 k 0) (let z : processors ≡ processors - 0 = omega arith in z);
  within = omega arith;
  few = omega arith;
  room = omega arith;
  long = long;
}

module _ {before : List ℕ} {at : ℕ} {instructions pairs : List ℕ} {processors : ℕ} {out : List ℕ} {next count p : ℕ}
    (inv : Programs before at instructions pairs processors out next count p) where
  -- one program more
  module _ {n : ℕ} (more : p < processors) (size : n ≡ length (program_of instructions p)) where
    step : {b : Bool} → leb (count + n) 40 ≡ b
        → cut_programs instructions pairs 0 processors 0
        ≡ inv.so_far ++ cond b (n ∷ entry_bytes instructions p ++ cut_programs instructions pairs (p + 1) (processors - (p + 1)) (count + n)) (41 ∷ [])
    unfolding cut_programs program_bytes
    step {b} e =
        let left = processors - (p + 1) in
        let bytes = entry_bytes instructions p in
        inv.decides
        ∙ ap (λ (k : ℕ). inv.so_far ++ cut_programs instructions pairs p k count) (let z : processors - p ≡ suc left = omega arith in z)
        ∙ ap (λ (k : ℕ). inv.so_far ++ cond (leb (count + k) 40) (k ∷ bytes ++ cut_programs instructions pairs (suc p) left (count + k)) (41 ∷ [])) (sym size)
        ∙ ap₂ (λ (t : Bool) (k : ℕ). inv.so_far ++ cond t (n ∷ bytes ++ cut_programs instructions pairs k left (count + n)) (41 ∷ [])) e (sym (add-one p))

    -- with this program there are too many instructions
    pub programs_fail : processors ≤ 8 → 40 - count < n → Puts before at (cut_programs instructions pairs 0 processors 0) (set out next 41) (next + 1)
    programs_fail few many =
        puts_same (sym (step (lt-leb (count + n) 40 (omega (arith, inv.few)))))
        (puts_both inv.put (puts_byte 41 (omega (arith, inv.room, inv.few, inv.long))))

    pub programs_room : processors ≤ 8 → n ≤ 40 - count → next + 1 + 19 * length (program_of instructions p) ≤ length (set out next n)
    programs_room few fit = omega (arith, inv.room, inv.few, inv.long, length-set out next n)

    pub programs_turn : {y : List ℕ} {k : ℕ} → processors ≤ 8 → n ≤ 40 - count → Puts (set out next n) (next + 1) (entry_bytes instructions p) y k
        → Programs before at instructions pairs processors y k (count + n) (p + 1)
    programs_turn {y} {k} few fit entries = record {
      so_far = inv.so_far ++ (n ∷ entry_bytes instructions p);
      put = puts_both inv.put (puts_both (puts_byte n (omega (arith, inv.room, inv.few, inv.long))) entries);
      decides =
          step (le-leb (count + n) 40 (omega (arith, inv.few)))
          ∙ sym (append_assoc inv.so_far (n ∷ entry_bytes instructions p) (cut_programs instructions pairs (p + 1) (processors - (p + 1)) (count + n)));
      within = omega arith;
      few = omega (arith, inv.few);
      room = omega (
        arith,
        inv.room,
        puts_next (omega (arith, inv.room, inv.few, inv.long, length-set out next n)) entries,
        few_entry_bytes instructions p,
      );
      long = entries.long ∙ length-set out next n ∙ inv.long;
    }

  -- the pairs behind the last program
  pub pairs_there : processors ≤ 8 → next + 81 ≤ length out
  pairs_there few = omega (arith, inv.room, inv.few, inv.long, inv.within)

  pub programs_end : {y : List ℕ} {k : ℕ} → processors ≤ p → Puts out next (cut_pairs pairs) y k → Puts before at (cut_programs instructions pairs 0 processors 0) y k
  unfolding cut_programs
  programs_end {y} {k} h last =
      puts_same
      (sym (
      inv.decides
      ∙ ap (λ (j : ℕ). inv.so_far ++ cut_programs instructions pairs p j count) (let z : processors - p ≡ 0 = omega arith in z)))
      (puts_both inv.put last)

-- The whole record
module _ (processors : ℕ) (lines instructions pairs x : List ℕ) (pre : (length x ≡ 923) × (question23 (sections_from processors lines instructions pairs) ≡ true)) where
  module _ {b : Bool} (e : leb processors 8 ≡ b) where
    by_processors : processors ∷ cond b (cut_lines (sections_from processors lines instructions pairs)) [] ≡ cut_record (sections_from processors lines instructions pairs)
    unfolding cut_record
    by_processors = ap (λ (t : Bool). processors ∷ cond t (cut_lines (sections_from processors lines instructions pairs)) []) (sym e)

  by_lines : {b : Bool} → processors ≤ 8 → leb (length lines / 9) 8 ≡ b
      → processors ∷ cond b (length lines / 9 ∷ lines ++ cut_programs instructions pairs 0 processors 0) (9 ∷ [])
      ≡ cut_record (sections_from processors lines instructions pairs)
  unfolding cut_lines
  by_lines {b} few e =
      ap (λ (t : Bool). processors ∷ cond t (length lines / 9 ∷ lines ++ cut_programs instructions pairs 0 processors 0) (9 ∷ [])) (sym e)
      ∙ by_processors (le-leb processors 8 few)

  -- too many processors
  pub record_fails : 8 < processors → (take 1 (set x 0 processors) ≡ cut_record (sections_from processors lines instructions pairs)) × (1 ≤ 923)
  record_fails many = (puts_front (puts_byte {x = x} processors (omega arith)) ∙ by_processors (lt-leb processors 8 many), omega arith)

  module _ (few : processors ≤ 8) where
    -- too many lines
    pub lines_fail : 8 < length lines / 9 → (take 2 (set (set x 0 processors) 1 9) ≡ cut_record (sections_from processors lines instructions pairs)) × (2 ≤ 923)
    lines_fail many = (
      puts_front (puts_both (puts_byte {x = x} processors (omega arith)) (puts_byte 9 (omega (arith, length-set x 0 processors))))
          ∙ by_lines few (lt-leb (length lines / 9) 8 many),
      omega arith,
    )

    module _ (few_lines : length lines / 9 ≤ 8) where
      pub lines_short : 2 + length lines ≤ 74
      lines_short = omega (arith, (whole_sections (sections_from processors lines instructions pairs) pre.1).0)

      pub lines_room : 2 + length lines ≤ length (set (set x 0 processors) 1 (length lines / 9))
      lines_room = omega (arith, lines_short, length-set (set x 0 processors) 1 (length lines / 9), length-set x 0 processors)

      module _ {y : List ℕ} (copied : y ≡ paste (set (set x 0 processors) 1 (length lines / 9)) 2 lines (length lines)) where
        pub lines_put : Puts x 0 (processors ∷ length lines / 9 ∷ lines) y (2 + length lines)
        lines_put =
            puts_both (puts_byte processors (omega arith)) (puts_counted (length lines / 9) lines (omega (arith, lines_short, length-set x 0 processors)) copied)

        -- what the programs and the pairs ask for
        pub programs_asked : (length y ≡ 923) × (2 + length lines ≤ 74) × (processors ≤ 8) × (all_whole instructions ≡ true) × (length pairs % 2 ≡ 0)
        programs_asked =
            let (ninths, whole, even) = whole_sections (sections_from processors lines instructions pairs) pre.1 in
            (lines_put.long ∙ pre.0, lines_short, few, whole, even)

        module _ {z : List ℕ} {r : ℕ} (programs : Puts y (2 + length lines) (cut_programs instructions pairs 0 processors 0) z r) where
          all_put : Puts x 0 (processors ∷ length lines / 9 ∷ lines ++ cut_programs instructions pairs 0 processors 0) z r
          all_put = puts_both lines_put programs

          pub record_long : length z ≡ length x
          record_long = all_put.long

          pub record_ends : (take r z ≡ cut_record (sections_from processors lines instructions pairs)) × (r ≤ 923)
          record_ends = (puts_front all_put ∙ by_lines few (le-leb (length lines / 9) 8 few_lines), omega (arith, all_put.within, all_put.long))
