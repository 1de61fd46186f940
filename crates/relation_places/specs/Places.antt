-- The place of each operation in an order, and the table that holds them.
use Rattle.std.specs.Prelude.{ℕ, suc, ◌≤◌, ◌≡◌, Bool, true, false, cond, List, [], ◌∷◌, length, get_or, eqb, ltb, Option, Some, None}
use Rattle.base.specs.Lists.{distinct}

-- the place of what does not stand, after all others
abbrev pub no_place : ℕ
no_place = 255

-- the place of operation o, counted from k
unfoldable pub place_from : ℕ → List ℕ → ℕ → ℕ
place_from k [] o = no_place
place_from k (x ∷ xs) o = cond (eqb x o) k (place_from (suc k) xs o)

-- what the table says
unfoldable pub placed : List ℕ → ℕ → ℕ
placed places o = cond (ltb o 128) (get_or places o 0) no_place

-- by the table a stands, and b stands later or not at all
abbrev pub before_by : List ℕ → ℕ → ℕ → Bool
before_by places a b = ltb (placed places a) (placed places b)

-- the table holds the places of an order of different operations, of n
pub record Placed (n : ℕ) (xs places : List ℕ) : Type 0 where
  pub few : n ≤ 128
  pub different : distinct n [] xs ≡ true
  pub stands : (o : ℕ) → placed places o ≡ place_from 0 xs o

-- what placing the operations of an order, of n, comes to: their places, where they are different operations below n
abbrev pub Placement : ℕ → List ℕ → Option (List ℕ) → Type 0
Placement n xs None = distinct n [] xs ≡ false
Placement n xs (Some places) = (length places ≡ 128) × Placed n xs places
