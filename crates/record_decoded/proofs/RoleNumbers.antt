-- Roles by their numbers in the arrays.
use Prim.Native.Nat.{ℕ, zero, suc, ◌+◌, ◌-◌, ◌≤◌}
use native.Mathlib.Omega.{arith}
use mathlib.Core.Path.{◌≡◌, refl, ap}
use Rattle.model.specs.Execution.{R, LV, RV}
use Rattle.record_decoded.specs.Kinds.{role_numbered}

pub number_R : (k : ℕ) → role_numbered k ≡ R → k ≡ 0
number_R zero h = refl
number_R (suc zero) h = let z : ◌≡◌ {A = ℕ} 0 1 = cc in absurd (omega arith)
number_R (suc (suc zero)) h = let z : ◌≡◌ {A = ℕ} 0 1 = cc in absurd (omega arith)
number_R (suc (suc (suc q))) h = let z : ◌≡◌ {A = ℕ} 0 1 = cc in absurd (omega arith)

pub number_LV : (k : ℕ) → role_numbered k ≡ LV → k ≡ 1
number_LV zero h = let z : ◌≡◌ {A = ℕ} 0 1 = cc in absurd (omega arith)
number_LV (suc zero) h = refl
number_LV (suc (suc zero)) h = let z : ◌≡◌ {A = ℕ} 0 1 = cc in absurd (omega arith)
number_LV (suc (suc (suc q))) h = let z : ◌≡◌ {A = ℕ} 0 1 = cc in absurd (omega arith)

pub number_RV : (k q : ℕ) → role_numbered k ≡ RV q → k ≡ 3 + q
number_RV zero q h = let z : ◌≡◌ {A = ℕ} 0 1 = cc in absurd (omega arith)
number_RV (suc zero) q h = let z : ◌≡◌ {A = ℕ} 0 1 = cc in absurd (omega arith)
number_RV (suc (suc zero)) q h = let z : ◌≡◌ {A = ℕ} 0 1 = cc in absurd (omega arith)
number_RV (suc (suc (suc p))) q h = let z : p ≡ q = cc in omega arith

pub role_R : (k : ℕ) → k ≡ 0 → role_numbered k ≡ R
role_R k h = ap role_numbered h

pub role_LV : (k : ℕ) → k ≡ 1 → role_numbered k ≡ LV
role_LV k h = ap role_numbered h

pub role_RV : (k : ℕ) → 3 ≤ k → role_numbered k ≡ RV (k - 3)
role_RV zero h = absurd (omega arith)
role_RV (suc zero) h = absurd (omega arith)
role_RV (suc (suc zero)) h = absurd (omega arith)
role_RV (suc (suc (suc q))) h = ap RV (omega arith)

pub remote_numbered : (q : ℕ) → role_numbered (3 + q) ≡ RV q
remote_numbered q = ap role_numbered (let z : 3 + q ≡ suc (suc (suc q)) = omega arith in z)
