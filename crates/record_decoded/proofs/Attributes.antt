-- Question 4 by the remainder and the quotient by 16; the attribute of a line by its number.
use Prim.Native.Nat.{ℕ, ◌/◌, ◌%◌, ◌≤◌, ◌<◌}
use native.Mathlib.Omega.{arith}
use mathlib.Core.Path.{◌≡◌, sym, ◌∙◌}
use mathlib.Core.Bool.{false, or-false}
use lib.ListN.{get_or, get_or-eq_default}
use lib.Dec.{eqb, ltb}
use borrow.Author.Tests.{eq-eqb, ne_eqb, eqb-true}
use Rattle.base.proofs.Bools.{agree}
use Rattle.base.proofs.Lists.{getD_below}
use Rattle.model.specs.Execution.{WC, attribute_of}
use Rattle.model.specs.Questions.{question4}
use Rattle.model.proofs.Uncacheable.{question4_is}
use Rattle.record_decoded.specs.declared.types.Lines.{Lines}
use Rattle.record_decoded.specs.Decoded.{attributes_of}
use Rattle.record_decoded.proofs.Arrays.{attributes_length}

module _ (n : ℕ) where
  -- a number below 16 is its remainder
  no_domain : (k : ℕ) → n % 16 ≡ k → eqb (n / 16) 0 ≡ eqb k n
  no_domain k h =
      agree (eqb (n / 16) 0) (eqb k n) (λ e. eq-eqb k n (omega (arith, eqb-true (n / 16) 0 e))) (λ e. eq-eqb (n / 16) 0 (omega (arith, eqb-true k n e, h)))

  pub wb_numbers : n % 16 ≡ 0 → eqb (n / 16) 0 ≡ question4 n
  wb_numbers h =
      no_domain 0 h ∙ sym (question4_is n ∙ rw (ne_eqb 2 n (λ z. omega arith), ne_eqb (n % 16) 1 (λ z. omega arith)) (or-false (eqb 0 n)))

  pub uc_numbers : n % 16 ≡ 1 → ltb (n / 16) 4 ≡ question4 n
  uc_numbers h = sym (question4_is n ∙ rw (ne_eqb 0 n (λ z. omega arith), ne_eqb 2 n (λ z. omega arith), eq-eqb (n % 16) 1 h))

  pub wc_numbers : n % 16 ≡ 2 → eqb (n / 16) 0 ≡ question4 n
  wc_numbers h =
      no_domain 2 h ∙ sym (question4_is n ∙ rw (ne_eqb 0 n (λ z. omega arith), ne_eqb (n % 16) 1 (λ z. omega arith)) (or-false (eqb 2 n)))

  pub no_numbers : (n % 16 ≡ 0 → ⊥) → (n % 16 ≡ 1 → ⊥) → (n % 16 ≡ 2 → ⊥) → false ≡ question4 n
  no_numbers h k l = sym (question4_is n ∙ rw (ne_eqb 0 n (λ z. h (omega arith)), ne_eqb 2 n (λ z. l (omega arith)), ne_eqb (n % 16) 1 k))

-- the attribute of a line that is there, and of one that is not
pub attribute_there : (ls : Lines) (k : ℕ) → k < ls.count → attribute_of (get_or ls.attributes k 0) ≡ get_or (attributes_of ls) k WC
unfolding attributes_of
attribute_there ls k h = sym (getD_below (λ j. attribute_of (get_or ls.attributes j 0)) WC ls.count k h)

pub attribute_past : (ls : Lines) (k : ℕ) → ls.count ≤ k → WC ≡ get_or (attributes_of ls) k WC
attribute_past ls k h = sym (get_or-eq_default (attributes_of ls) WC {n = k} (omega (arith, attributes_length ls)))
