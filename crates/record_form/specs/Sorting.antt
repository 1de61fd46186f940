-- Where a number belongs in a sorted list.
use Rattle.std.specs.Prelude.{ℕ, suc, Bool, cond, List, [], ◌∷◌}

module _ (less : ℕ → ℕ → Bool) where
  -- before the first number that x is less than
  unfoldable pub place_for : ℕ → List ℕ → ℕ
  place_for x [] = 0
  place_for x (y ∷ ys) = cond (less x y) 0 (suc (place_for x ys))
