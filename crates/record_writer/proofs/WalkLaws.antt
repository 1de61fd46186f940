-- Walks over the section of instructions: how long an entry is, and what is left of the walk decides the whole.
use Prim.Native.Nat.{ℕ, zero, suc, ◌+◌, ◌-◌, ◌≤◌, ◌<◌, min}
use native.Mathlib.Omega.{arith}
use mathlib.Core.Path.{◌≡◌, refl, sym, ap, ap₂, ◌∙◌}
use mathlib.Core.Bool.{Bool, true, false, ◌&&◌, and-false}
use mathlib.Core.List.{List, [], ◌∷◌}
use lib.ListN.{length, get_or, take, drop, drop_of_length-le}
use lib.Seq.{take_all}
use lib.Dec.{eqb, leb, ltb}
use borrow.Author.Tests.{le-leb, lt-leb, leb-true, leb-false}
use Rattle.base.specs.Lists.{all, keep}
use borrow.Author.Tests.{eq-eqb, ne_eqb, eqb-true, eqb-false}
use Rattle.base.proofs.Bools.{split}
use Rattle.base.proofs.Chains.{all_list}
use Rattle.std.specs.List.{list_all}
use Rattle.model.specs.Execution.{kind_of, is_fence}
use Rattle.model.specs.Questions.{more_length, question6}
use Rattle.model.specs.Sections.{section_entry_length, entries_up_to, entries_of, is_whole, all_whole, question24, program_of}
use Rattle.record_sections.proofs.Entries.{length_range, entries_next, whole_next}

-- How long the entry at the front is, by its kind and size
module _ (part : List ℕ) where
  pub length_unknown : 6 < get_or part 1 0 → 12 ≡ section_entry_length part
  unfolding section_entry_length question6
  length_unknown h = rw (lt-leb (get_or part 1 0) 6 h)

  pub length_fence : is_fence (kind_of (get_or part 1 0)) ≡ true → 12 ≡ section_entry_length part
  unfolding section_entry_length question6
  length_fence h = rw (h, and-false (leb (get_or part 1 0) 6))

  pub length_access : (m : ℕ) → get_or part 1 0 ≤ 6 → is_fence (kind_of (get_or part 1 0)) ≡ false
      → m ≡ more_length (kind_of (get_or part 1 0)) (get_or part 3 0) → 12 + m ≡ section_entry_length part
  unfolding section_entry_length question6
  length_access m k h e = rw (le-leb (get_or part 1 0) 6 k, h) (ap (λ (n : ℕ). 12 + n) e)

  pub none_left : length part ≡ 0 → entries_of part ≡ []
  unfolding entries_of entries_up_to
  none_left h = go part h
    where
      go : (l : List ℕ) → length l ≡ 0 → entries_of l ≡ []
      go [] h = refl
      go (b ∷ l) h = absurd (omega arith)

  -- the entry at the front, of which no more is taken than there is
  module _ (some : 0 < length part) (n : ℕ) (is : n ≡ min (section_entry_length part) (length part)) where
    cut : (take (section_entry_length part) part ≡ take n part) × (drop (section_entry_length part) part ≡ drop n part)
    cut =
        split (leb (section_entry_length part) (length part))
        (λ h.
        let same : section_entry_length part ≡ n = omega (arith, is, leb-true (section_entry_length part) (length part) h) in
        (ap (λ (k : ℕ). take k part) same, ap (λ (k : ℕ). drop k part) same))
        (λ h.
        let past : length part < section_entry_length part = leb-false (section_entry_length part) (length part) h in
        let all : length part ≤ n = omega (arith, is, past) in (
          take_all (section_entry_length part) part (omega arith) ∙ sym (take_all n part all),
          drop_of_length-le part {i = section_entry_length part} (omega arith) ∙ sym (drop_of_length-le part {i = n} all),
        ))

    pub entry_taken : entries_of part ≡ take n part ∷ entries_of (drop n part)
    entry_taken = entries_next part some ∙ ap₂ (λ (e : List ℕ) (r : List ℕ). e ∷ entries_of r) cut.0 cut.1

    pub fewer_left : length (entries_of (drop n part)) < length (entries_of part)
    fewer_left = omega (arith, ap length entry_taken)

-- there are no more entries than bytes
pub few_entries : (part : List ℕ) → length (entries_of part) ≤ length part
unfolding entries_of entries_up_to
few_entries part = up_to (length part) part
  where
    up_to : (most : ℕ) (bytes : List ℕ) → length (entries_up_to most bytes) ≤ most
    up_to zero bytes = omega arith
    up_to (suc most) [] = omega arith
    up_to (suc most) (b ∷ bytes) = omega (arith, up_to most (drop (section_entry_length (b ∷ bytes)) (b ∷ bytes)))

-- What stands behind a whole entry decides whether all are; one whose bytes are not all there is not whole.
module _ (part : List ℕ) where
  next_whole : 0 < length part
      → all_whole part ≡ (leb (section_entry_length part) (length part) && all_whole (drop (section_entry_length part) part))
  unfolding all_whole
  next_whole some =
      whole_next part 0 some
      ∙ ap₂ (λ (m n : ℕ). leb (section_entry_length part) m && all is_whole (entries_of (drop n part)))
      (let z : length part - 0 ≡ length part = omega arith in z) (let z : 0 + section_entry_length part ≡ section_entry_length part = omega arith in z)

  pub whole_behind : section_entry_length part ≤ length part → all_whole (drop (section_entry_length part) part) ≡ all_whole part
  whole_behind h =
      sym (next_whole (omega (arith, h, (length_range part).0))
      ∙ ap (λ (b : Bool). b && all_whole (drop (section_entry_length part) part)) (le-leb (section_entry_length part) (length part) h))

  pub whole_ends : length part < section_entry_length part → eqb (length part) 0 ≡ all_whole part
  unfolding all_whole all
  whole_ends h =
      split (eqb (length part) 0)
      (λ e. e ∙ sym (ap (all is_whole) (none_left part (eqb-true (length part) 0 e))))
      (λ e. e ∙ sym (next_whole (omega (arith, eqb-false (length part) 0 e))
      ∙ ap (λ (b : Bool). b && all_whole (drop (section_entry_length part) part)) (lt-leb (section_entry_length part) (length part) h)))

-- Question 24 of all entries, as the definition has it
pub below_law : (processors : ℕ) (part : List ℕ) → list_all (λ (e : List ℕ). ltb (get_or e 0 0) processors) (entries_of part) ≡ question24 processors part
unfolding question24
below_law processors part = all_list (λ (e : List ℕ). ltb (get_or e 0 0) processors) (entries_of part)

-- The entries of processor p
abbrev pub own : ℕ → List ℕ → Bool
own p x = eqb (get_or x 0 0) p

-- those of them among the entries that are left
pub own_of : ℕ → List (List ℕ) → List (List ℕ)
own_of p left = keep (own p) left

pub own_starts : (part : List ℕ) (p : ℕ) → program_of part p ≡ own_of p (entries_of part)
unfolding own_of program_of
own_starts part p = refl

module _ (p : ℕ) (entry : List ℕ) (left : List (List ℕ)) where
  pub own_more : get_or entry 0 0 ≡ p → own_of p (entry ∷ left) ≡ entry ∷ own_of p left
  unfolding own_of keep
  own_more h = rw (eq-eqb (get_or entry 0 0) p h)

  pub own_other : (get_or entry 0 0 ≡ p → ⊥) → own_of p (entry ∷ left) ≡ own_of p left
  unfolding own_of keep
  own_other h = rw (ne_eqb (get_or entry 0 0) p h)

pub own_ends : (p : ℕ) → own_of p [] ≡ []
unfolding own_of keep
own_ends p = refl

-- The invariant of a walk that counts those of processor p.
pub record Counting (part : List ℕ) (p count : ℕ) (left : List (List ℕ)) : Type 0 where
  pub few : count + length left ≤ length part
  pub decides : length (program_of part p) ≡ count + length (own_of p left)

pub counting_starts : {part : List ℕ} {p : ℕ} {left : List (List ℕ)} → left ≡ entries_of part → Counting part p 0 left
counting_starts {part} {p} {left} e = record {
  few = omega (arith, few_entries part, ap length e);
  decides = omega (arith, ap length (own_starts part p ∙ ap (own_of p) (sym e)));
}

module _ {part : List ℕ} {p count : ℕ} {left after : List (List ℕ)} {entry : List ℕ} (inv : Counting part p count left) (taken : left ≡ entry ∷ after) where
  pub counting_room : count + 1 ≤ length part
  counting_room = omega (arith, inv.few, ap length taken)

  pub counting_more : get_or entry 0 0 ≡ p → Counting part p (count + 1) after
  counting_more h = record {
    few = omega (arith, inv.few, ap length taken);
    decides = omega (arith, inv.decides, ap length (ap (own_of p) taken ∙ own_more p entry after h));
  }

  pub counting_other : (get_or entry 0 0 ≡ p → ⊥) → Counting part p count after
  counting_other h = record {
    few = omega (arith, inv.few, ap length taken);
    decides = omega (arith, inv.decides, ap length (ap (own_of p) taken ∙ own_other p entry after h));
  }

pub counting_ends : {part : List ℕ} {p count : ℕ} {left : List (List ℕ)} → Counting part p count left → left ≡ [] → count ≡ length (program_of part p)
counting_ends {part} {p} inv e = omega (arith, inv.decides, ap length (ap (own_of p) e ∙ own_ends p))
