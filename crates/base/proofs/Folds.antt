-- Loops that take a step at each number below a bound.
use Prim.Native.Nat.{ℕ, ◌+◌, ◌<◌, ◌≤◌}
use native.Mathlib.Nat.{le_antisymm}
use native.Mathlib.Numerals.{add-one}
use native.Mathlib.Omega.{arith}
use mathlib.Core.Path.{◌≡◌, refl, ap, ◌∙◌}
use Rattle.base.specs.Fold.{fold}

-- The invariant: x is what the steps below i made of x₀.
pub record Folded {A : Type 0} (n : ℕ) (step : ℕ → A → A) (x₀ : A) (i : ℕ) (x : A) : Type 0 where
  pub within : i ≤ n
  pub made : x ≡ fold i step x₀

pub begins : {A : Type 0} {n : ℕ} {step : ℕ → A → A} {x₀ : A} → Folded n step x₀ 0 x₀
unfolding fold
begins {A} {n} {step} {x₀} = record { within = omega arith; made = refl }

module _ {A : Type 0} {n i : ℕ} {step : ℕ → A → A} {x₀ x : A} (inv : Folded n step x₀ i x) where
  -- a turn that makes y of x
  pub steps : {y : A} → i < n → y ≡ step i x → Folded n step x₀ (i + 1) y
  unfolding fold
  steps {y} l e = record { within = omega arith; made = rw add-one (e ∙ ap (step i) inv.made) }

  -- the end of the loop
  pub finishes : n ≤ i → x ≡ fold n step x₀
  finishes b = inv.made ∙ ap (λ (k : ℕ). fold k step x₀) (le_antisymm inv.within b)
