-- Question 23, section by section.
use Prim.Native.Nat.{◌*◌, ◌/◌, ◌%◌}
use native.Mathlib.Omega.{arith}
use mathlib.Core.Path.{◌≡◌, ap, ◌∙◌}
use mathlib.Core.Bool.{Bool, true, false, ◌&&◌, and-false}
use lib.ListN.{length}
use lib.Dec.{eqb}
use borrow.Author.Tests.{eqb-true, eq-eqb, ne_eqb}
use Rattle.base.proofs.Bools.{and_parts, and_both}
use Rattle.model.specs.Sections.{Sections, all_whole, question23}

module _ (s : Sections) where
  pub lines_cut_off : (length s.lines % 9 ≡ 0 → ⊥) → question23 s ≡ false
  unfolding question23
  lines_cut_off h = rw (ne_eqb (length s.lines % 9) 0 h)

  pub instructions_cut_off : all_whole s.instructions ≡ false → question23 s ≡ false
  unfolding question23
  instructions_cut_off h =
      ap (λ (b : Bool). eqb (length s.lines % 9) 0 && b && eqb (length s.pairs % 2) 0) h
      ∙ ap (λ (b : Bool). b && eqb (length s.pairs % 2) 0) (and-false (eqb (length s.lines % 9) 0))

  pub pairs_cut_off : (length s.pairs % 2 ≡ 0 → ⊥) → question23 s ≡ false
  unfolding question23
  pairs_cut_off h =
      ap (λ (b : Bool). eqb (length s.lines % 9) 0 && all_whole s.instructions && b) (ne_eqb (length s.pairs % 2) 0 h)
      ∙ and-false (eqb (length s.lines % 9) 0 && all_whole s.instructions)

  pub none_cut_off : length s.lines % 9 ≡ 0 → all_whole s.instructions ≡ true → length s.pairs % 2 ≡ 0 → question23 s ≡ true
  unfolding question23
  none_cut_off h i k = and_both (and_both (eq-eqb (length s.lines % 9) 0 h) i) (eq-eqb (length s.pairs % 2) 0 k)

  module _ (whole : question23 s ≡ true) where
    pub whole_sections : (length s.lines % 9 ≡ 0) × (all_whole s.instructions ≡ true) × (length s.pairs % 2 ≡ 0)
    unfolding question23
    whole_sections =
        let (front, even) = and_parts (eqb (length s.lines % 9) 0 && all_whole s.instructions) (eqb (length s.pairs % 2) 0) whole in
        let (ninths, entries) = and_parts (eqb (length s.lines % 9) 0) (all_whole s.instructions) front in
        (eqb-true (length s.lines % 9) 0 ninths, entries, eqb-true (length s.pairs % 2) 0 even)

    pub lines_counted : length s.lines ≡ length s.lines / 9 * 9
    lines_counted = omega (arith, whole_sections.0)
