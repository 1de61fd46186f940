-- Bytes put into an array behind those that stand there.
use Rattle.std.specs.Prelude.{ℕ, ◌≤◌, ◌≡◌, List, ◌++◌, length, take}

-- Behind the first `at` bytes of the array, which are as they were, the bytes follow up to `next`.
pub record Puts (before : List ℕ) (at : ℕ) (bytes : List ℕ) (after : List ℕ) (next : ℕ) : Type 0 where
  pub front : take next after ≡ take at before ++ bytes
  pub within : next ≤ length after
  pub long : length after ≡ length before
