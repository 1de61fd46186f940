-- A step taken at each number below a bound, in order.
use Rattle.std.specs.Prelude.{ℕ, zero, suc}

unfoldable pub fold {ℓ} : {A : Type ℓ} → ℕ → (ℕ → A → A) → A → A
fold zero step x = x
fold (suc n) step x = step n (fold n step x)
