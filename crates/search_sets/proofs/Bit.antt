-- The bits of the union, of the meet and of the difference of two words, and of a power of two.
use mathlib.Core.Path.{◌≡◌, refl, sym, ap, ◌∙◌}
use mathlib.Core.Bool.{Bool, true, false, not, ◌||◌, ◌&&◌}
use Prim.Native.Nat.{ℕ, zero, suc, ◌+◌, ◌-◌, ◌/◌, ◌%◌, ◌^◌, ◌<◌, ◌≤◌}
use mathlib.Core.Logic.{⊎_elim}
use native.Mathlib.Nat.{one-mul, div-eq_of_lt, eq-zero-or-pos, eq-or-lt_of_le}
use borrow.Author.Tests.{eq-eqb, ne_eqb}
use lib.Pow.{pow-lt, pow-add, shl-shr}
use native.Mathlib.Omega.{arith}
use lib.Dec.{eqb, eqb-suc-zero}
use lib.Bits.{bit_and, bit_or, bit_xor, and_shr, or_shr, xor_shr, and_mod, or_mod, xor_mod, shifted_even}
use Rattle.base.specs.Bits.{bit}

or_bit : (u v : ℕ) → u < 2 → v < 2 → eqb (bit_or u v) 1 ≡ (eqb u 1 || eqb v 1)
or_bit zero zero h g = refl
or_bit zero (suc zero) h g = refl
or_bit (suc zero) zero h g = refl
or_bit (suc zero) (suc zero) h g = refl
or_bit (suc (suc u)) v h g = absurd (omega arith)
or_bit zero (suc (suc v)) h g = absurd (omega arith)
or_bit (suc zero) (suc (suc v)) h g = absurd (omega arith)

and_bit : (u v : ℕ) → u < 2 → v < 2 → eqb (bit_and u v) 1 ≡ (eqb u 1 && eqb v 1)
and_bit zero zero h g = refl
and_bit zero (suc zero) h g = refl
and_bit (suc zero) zero h g = refl
and_bit (suc zero) (suc zero) h g = refl
and_bit (suc (suc u)) v h g = absurd (omega arith)
and_bit zero (suc (suc v)) h g = absurd (omega arith)
and_bit (suc zero) (suc (suc v)) h g = absurd (omega arith)

at_zero : (i k : ℕ) → k ≤ i → eqb (i - k) 0 ≡ eqb k i
at_zero i k l =
    ⊎_elim (λ (e : k ≡ i). eq-eqb (i - k) 0 (omega arith) ∙ sym (eq-eqb k i e))
    (λ (h : k < i). ne_eqb (i - k) 0 (omega arith) ∙ sym (ne_eqb k i (omega arith))) (eq-or-lt_of_le l)

-- one of two, and not both
pub differ : Bool → Bool → Bool
differ true b = not b
differ false b = b

pub differ_cancel : (a b c : Bool) → differ a c ≡ differ b c → a ≡ b
unfolding differ
differ_cancel true true c h = refl
differ_cancel false false c h = refl
differ_cancel true false true h = sym h
differ_cancel true false false h = h
differ_cancel false true true h = sym h
differ_cancel false true false h = h

xor_bit : (u v : ℕ) → u < 2 → v < 2 → eqb (bit_xor u v) 1 ≡ differ (eqb u 1) (eqb v 1)
unfolding differ
xor_bit zero zero h g = refl
xor_bit zero (suc zero) h g = refl
xor_bit (suc zero) zero h g = refl
xor_bit (suc zero) (suc zero) h g = refl
xor_bit (suc (suc u)) v h g = absurd (omega arith)
xor_bit zero (suc (suc v)) h g = absurd (omega arith)
xor_bit (suc zero) (suc (suc v)) h g = absurd (omega arith)

module _ (a b k : ℕ) where
  pub has_xor : bit (bit_xor a b) k ≡ differ (bit a k) (bit b k)
  has_xor =
      ap (λ (x : ℕ). eqb (x % 2) 1) (xor_shr a b k)
      ∙ (ap (λ (x : ℕ). eqb x 1) (xor_mod (a / 2 ^ k) (b / 2 ^ k) 1)
      ∙ xor_bit (a / 2 ^ k % 2) (b / 2 ^ k % 2) (omega arith) (omega arith))

  pub has_or : bit (bit_or a b) k ≡ (bit a k || bit b k)
  has_or =
      ap (λ (x : ℕ). eqb (x % 2) 1) (or_shr a b k)
      ∙ (ap (λ (x : ℕ). eqb x 1) (or_mod (a / 2 ^ k) (b / 2 ^ k) 1)
      ∙ or_bit (a / 2 ^ k % 2) (b / 2 ^ k % 2) (omega arith) (omega arith))

  pub has_and : bit (bit_and a b) k ≡ (bit a k && bit b k)
  has_and =
      ap (λ (x : ℕ). eqb (x % 2) 1) (and_shr a b k)
      ∙ (ap (λ (x : ℕ). eqb x 1) (and_mod (a / 2 ^ k) (b / 2 ^ k) 1)
      ∙ and_bit (a / 2 ^ k % 2) (b / 2 ^ k % 2) (omega arith) (omega arith))

odd_pow : (d : ℕ) → eqb (2 ^ d % 2) 1 ≡ eqb d 0
odd_pow zero = refl
odd_pow (suc d) = rw (← one-mul (2 ^ suc d), shifted_even 1 d) (sym (eqb-suc-zero d))

-- the bits of 2 ^ i
pub has_pow : (i k : ℕ) → bit (2 ^ i) k ≡ eqb k i
has_pow i k =
    ⊎_elim
    (λ (z : k - i ≡ 0).
    let d : i - k + k ≡ i = omega arith in
    ap (λ (n : ℕ). eqb (2 ^ n / 2 ^ k % 2) 1) (sym d)
    ∙ (ap (λ (n : ℕ). eqb (n / 2 ^ k % 2) 1) (pow-add 2 (i - k) k)
    ∙ (ap (λ (n : ℕ). eqb (n % 2) 1) (shl-shr (2 ^ (i - k)) k)
    ∙ (odd_pow (i - k) ∙ at_zero i k (omega arith)))))
    (λ (p : 0 < k - i).
    let l : i < k = omega arith in
    ap (λ (n : ℕ). eqb (n % 2) 1) (div-eq_of_lt (pow-lt l)) ∙ sym (ne_eqb k i (omega arith)))
    (eq-zero-or-pos (k - i))
