-- Tests packed into one number, the first in the lowest bit.
use Rattle.std.specs.Prelude.{ℕ, ◌+◌, ◌*◌, ◌/◌, ◌%◌, ◌^◌, Bool, cond, List, [], ◌∷◌, eqb}

-- the tests below the bits of m
unfoldable pub packed_on : ℕ → List Bool → ℕ
packed_on m [] = m
packed_on m (b ∷ bs) = cond b 1 0 + 2 * packed_on m bs

unfoldable pub packed : List Bool → ℕ
packed bs = packed_on 0 bs

-- bit k
abbrev pub bit : ℕ → ℕ → Bool
bit m k = eqb (m / 2 ^ k % 2) 1
