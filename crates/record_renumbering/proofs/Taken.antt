-- Lines with the untouched ones taken as zero: they are read, and each entry passes its questions by their attributes.
use Prim.Native.Nat.{ℕ, ◌+◌, ◌/◌, ◌<◌}
use native.Mathlib.Omega.{arith}
use native.Mathlib.Decide.{dec_lt}
use mathlib.Core.Path.{◌≡◌, refl, sym, ap, ◌∙◌, subst}
use mathlib.Core.Bool.{true, false≢true, ◌&&◌}
use mathlib.Core.List.{List, [], ◌∷◌, ◌++◌, map, Memᴰ}
use lib.ListN.{length, get_or, length-map, get_or-map, get_or-eq_default}
use lib.Dec.{eqb, leb}
use borrow.Author.Tests.{le-leb, leb-true}
use Rattle.base.specs.Lists.{all, for, count, below, member}
use Rattle.base.proofs.Bools.{split, and_both}
use Rattle.base.proofs.Lists.{all_member, all_members, any_member, getD_below, getD_member, in_count, in_member, member_in, length_count, of_below, of_count}
use Rattle.model.specs.Execution.{Kind, ld, ld_acq, st, st_rel, mf, sem_acq, sem_rel, is_semaphore, Attribute, WC, is_WB, kind_number, attribute_number, attribute_of, attributes, Line, no_line, Instruction, Execution, lines_from}
use Rattle.model.specs.Accepted.{Sound, SoundLines}
use Rattle.model.specs.Questions.{found, next, byte, ask, many, at, sizes_of, question3, question4, question6, question7, question26, question27, line_attributes, line_of, read_line, read_lines}
use Rattle.model.specs.Sections.{line_bytes, entry_bytes}
use Rattle.model.specs.Renumbering.{touched, line_taken}
use Rattle.model.proofs.Empty.{item_front}
use Rattle.model.proofs.Ownership.{each_in}
use Rattle.model.proofs.Uncacheable.{attribute_numbers}
use Rattle.record_sections.proofs.Rendered.{EntryPasses, kind_numbered}
use Rattle.record_renumbering.proofs.Parts.{Parts}
use Rattle.record_renumbering.proofs.Straight.{line_length_lem}
use Rattle.record_renumbering.proofs.Reading.{made, made_same, many_found, readable}

-- the lines that are read
abbrev pub lines_taken : Execution → List Line
lines_taken e = made (λ done k. line_of (line_taken e k)) [] (below (length e.lines))

abbrev attribute_taken : Execution → ℕ → Attribute
attribute_taken e k = attribute_of (at (line_taken e k) 0)

attributes_taken : (e : Execution) → line_attributes (lines_taken e) ≡ map (attribute_taken e) (below (length e.lines))
unfolding line_of
attributes_taken e = made_same (λ done k. line_of (line_taken e k)) (λ l. l.attribute) (attribute_taken e) (λ done k. refl) [] (below (length e.lines))

attributes_length : (e : Execution) → length (line_attributes (lines_taken e)) ≡ length e.lines
unfolding below
attributes_length e = ap length (attributes_taken e) ∙ length-map (below (length e.lines)) (attribute_taken e) ∙ length_count 0 (length e.lines)

-- a touched line has its attribute
touched_same : (e : Execution) (k : ℕ) → touched e.instructions k ≡ true → get_or (line_attributes (lines_taken e)) k WC ≡ get_or (line_attributes e.lines) k WC
unfolding line_taken line_bytes
touched_same e k t = go (dec_lt k (length e.lines))
  where
    go : Dec (k < length e.lines) → get_or (line_attributes (lines_taken e)) k WC ≡ get_or (line_attributes e.lines) k WC
    go (yes l) =
        ap (λ (s : List Attribute). get_or s k WC) (attributes_taken e)
        ∙ getD_below (attribute_taken e) WC (length e.lines) k l
        ∙ rw t (attribute_numbers.0 (get_or e.lines k no_line).attribute ∙ sym (get_or-map (λ (l : Line). l.attribute) e.lines k no_line))
    go (no l) =
        get_or-eq_default (line_attributes (lines_taken e)) WC {n = k} (omega (arith, attributes_length e))
        ∙ sym (get_or-eq_default (line_attributes e.lines) WC {n = k} (omega (arith, length-map e.lines (λ l. l.attribute))))

-- an access touches its lines
lines_touched : (e : Execution) (i : Instruction) → Memᴰ i e.instructions → (k : ℕ) → Memᴰ k (lines_from i.address i.size) → touched e.instructions k ≡ true
unfolding touched
lines_touched e i m k w = any_member (λ i. member (lines_from i.address i.size) k) m (in_member w)

-- an access of some line accesses the line of its address
first_line : (address size k : ℕ) → Memᴰ k (lines_from address size) → Memᴰ (address / 8) (lines_from address size)
unfolding lines_from
first_line address size k m = let (low, high) = of_count (address / 8) ((size + 7) / 8) m in in_count (address / 8) ((size + 7) / 8) (address / 8) (omega arith) (omega arith)

-- a semaphore accesses a line
semaphore_line : (k : Kind) (address size : ℕ) → is_semaphore k ≡ true → question7 k size ≡ true → Memᴰ (address / 8) (lines_from address size)
unfolding lines_from question7 all
semaphore_line k address size s h =
    let some = leb-true 1 size (all_member (leb 1) (member_in (sizes_of k) size h) (each_size k s)) in
    in_count (address / 8) ((size + 7) / 8) (address / 8) (omega arith) (omega arith)
  where
    each_size : (k : Kind) → is_semaphore k ≡ true → all (leb 1) (sizes_of k) ≡ true
    each_size ld s = refl
    each_size ld_acq s = refl
    each_size st s = refl
    each_size st_rel s = refl
    each_size mf s = absurd (false≢true s)
    each_size sem_acq s = refl
    each_size sem_rel s = refl

six_passes : (k : Kind) → question6 (kind_number k) ≡ true
unfolding question6
six_passes ld = refl
six_passes ld_acq = refl
six_passes st = refl
six_passes st_rel = refl
six_passes mf = refl
six_passes sem_acq = refl
six_passes sem_rel = refl

module _ {bytes : List ℕ} {e : Execution} (r : Parts bytes e) where
  -- The lines

  line_passes : (k : ℕ) → k < length e.lines → question4 (at (line_taken e k) 0) ≡ true
  unfolding line_taken line_bytes question4 attributes member below count
  line_passes k l =
      split (touched e.instructions k)
      (λ t. rw t (each_in (λ l. question4 (attribute_number l.attribute) ≡ true) r.lines_passed (getD_member e.lines k no_line l)))
      (λ t. rw t)

  line_found : (k : ℕ) → k < length e.lines → (s : List ℕ) → read_line (line_taken e k ++ s) ≡ found (line_of (line_taken e k)) s
  unfolding read_line next ask
  line_found k l s = rw (item_front 9 (line_taken e k) s (line_length_lem r k l), line_passes k l)

  pub lines_found : (s : List ℕ) → read_lines (length e.lines ∷ for (below (length e.lines)) (line_taken e) ++ s) ≡ found (lines_taken e) s
  unfolding read_lines next byte ask question3 below
  lines_found s =
      let n = length e.lines in
      let three : (leb 1 n && leb n 8) ≡ true = and_both (le-leb 1 n r.accepted.lines_some) (le-leb n 8 r.accepted.lines_few) in
      rw three
      (subst (λ (m : ℕ). many (λ done. read_line) m [] (for (below n) (line_taken e) ++ s) ≡ found (lines_taken e) s) (length_count 0 n)
      (many_found (λ done k. line_of (line_taken e k)) (λ done. read_line) (line_taken e) [] (below n)
      (readable (λ done k. line_of (line_taken e k)) (λ done. read_line) (line_taken e) [] (below n) (λ done k m. line_found k (of_below n m))) s))

  -- An entry by these lines

  module _ (i : Instruction) (m : Memᴰ i e.instructions) where
    sound : Sound e.processors (length e.lines) i
    sound = each_in (Sound e.processors (length e.lines)) r.accepted.sound m

    sound_lines : SoundLines (line_attributes e.lines) i
    sound_lines = each_in (SoundLines (line_attributes e.lines)) r.accepted.sound_lines m

    same_at : (k : ℕ) → Memᴰ k (lines_from i.address i.size) → get_or (line_attributes (lines_taken e)) k WC ≡ get_or (line_attributes e.lines) k WC
    same_at k w = touched_same e k (lines_touched e i m k w)

    twenty_six : question26 (line_attributes (lines_taken e)) i.kind i.address ≡ true
    unfolding question26
    twenty_six =
        split (is_semaphore i.kind)
        (λ s. rw s (ap is_WB (same_at (i.address / 8) (semaphore_line i.kind i.address i.size s sound.size_passed))
        ∙ (rw s at sound_lines.semaphore_passed)))
        (λ s. rw s)

    twenty_seven : question27 (line_attributes (lines_taken e)) i.size i.address ≡ true
    unfolding question27
    twenty_seven =
        all_members _ (lines_from i.address i.size) (λ k w.
        ap (λ (a : Attribute). eqb (attribute_number a) (attribute_number (get_or (line_attributes (lines_taken e)) (i.address / 8) WC))) (same_at k w)
        ∙ ap (λ (a : Attribute). eqb (attribute_number (get_or (line_attributes e.lines) k WC)) (attribute_number a)) (same_at (i.address / 8) (first_line i.address i.size k w))
        ∙ all_member _ w sound_lines.lines_passed)

    pub entry_passes : EntryPasses (line_attributes (lines_taken e)) (entry_bytes i)
    unfolding entry_bytes
    entry_passes =
        let own = (r.own i m).1 in
        let kind = kind_numbered i.kind in
        record {
          long = rw kind own.long;
          six = six_passes i.kind;
          seven = rw kind sound.size_passed;
          eight = rw (kind, attributes_length e) sound.address_passed;
          twenty_six = rw kind twenty_six;
          twenty_seven = twenty_seven;
          nine = own.nine;
        }
