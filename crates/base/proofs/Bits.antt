-- A packed test is read back from its bit.
use Prim.Native.Nat.{ℕ, zero, suc, ◌+◌, ◌*◌, ◌/◌, ◌%◌, ◌^◌}
use native.Mathlib.Omega.{arith}
use mathlib.Core.Path.{◌≡◌, sym, ap, ◌∙◌}
use mathlib.Core.Bool.{Bool, true, false, cond}
use mathlib.Core.List.{List, [], ◌∷◌}
use lib.ListN.{get_or}
use lib.Dec.{eqb}
use lib.Pow.{shr-shr, shr_le}
use borrow.Author.Tests.{eq-eqb, ne_eqb}
use Rattle.base.specs.Bits.{packed_on, packed, bit}

half : (b : Bool) (m : ℕ) → (cond b 1 0 + 2 * m) / 2 ≡ m
half true m = omega arith
half false m = omega arith

odd : (b : Bool) (m : ℕ) → eqb ((cond b 1 0 + 2 * m) / 1 % 2) 1 ≡ b
odd true m = eq-eqb ((1 + 2 * m) / 1 % 2) 1 (omega arith)
odd false m = ne_eqb ((0 + 2 * m) / 1 % 2) 1 (λ e. omega arith)

pub bit_packed : (bs : List Bool) (k : ℕ) → bit (packed bs) k ≡ get_or bs k false
unfolding packed packed_on
bit_packed [] k = ne_eqb (0 / 2 ^ k % 2) 1 (λ e. omega (arith, shr_le 0 k))
bit_packed (b ∷ bs) zero = odd b (packed_on 0 bs)
bit_packed (b ∷ bs) (suc k) =
    ap (λ (n : ℕ). eqb (n % 2) 1) (
    ap (λ (j : ℕ). (cond b 1 0 + 2 * packed_on 0 bs) / 2 ^ j) (let z : suc k ≡ 1 + k = omega arith in z)
    ∙ sym (shr-shr (cond b 1 0 + 2 * packed_on 0 bs) 1 k) ∙ ap (λ (n : ℕ). n / 2 ^ k) (half b (packed_on 0 bs)))
    ∙ bit_packed bs k
