-- What making the places, sets and words of a position promises.
use Rattle.std.specs.Prelude.{ℕ, ◌≡◌, Bool, true, List, [], length, take}
use Rattle.search_admit.specs.Fits.{Tested}
use Rattle.search_walk.specs.Walks.{Closed, Kept}
use Rattle.search_walk.specs.declared.Level.{Level}

-- The answer is whether the first `size` entries pass any test that the rows decide; where they do, all is kept of them.
pub record Replayed (n : ℕ) (rows : List ℕ) (size : ℕ) (entries : List ℕ) (r : Bool) (places : List ℕ) (levels : List Level) (words replaced : List ℕ) : Type 0 where
  pub long : length places ≡ 128
  pub wide : length words ≡ 128
  pub kept : r ≡ true → Kept n rows entries places levels words replaced size
  pub means : (c : List ℕ → Bool) → Tested c n rows → Closed c → c [] ≡ true → r ≡ c (take size entries)
