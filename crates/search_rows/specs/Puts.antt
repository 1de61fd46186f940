-- What it is to put a row into a table.
use Rattle.std.specs.Prelude.{ℕ, ◌+◌, ◌≤◌, ◌<◌, ◌≡◌, List, ◌⊎◌, length, get_or}

-- the first j of the row stand from `at` on, and all else is as it was
pub record Put (before row : List ℕ) (at j : ℕ) (after : List ℕ) : Type 0 where
  pub long : length after ≡ length before
  pub new : (f : ℕ) → f < j → get_or after (at + f) 0 ≡ get_or row f 0
  pub old : (i : ℕ) → (i < at) ⊎ (at + j ≤ i) → get_or after i 0 ≡ get_or before i 0
