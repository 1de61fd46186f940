-- Tables of sets.
use Rattle.std.specs.Prelude.{Bool, List, get_or, ℕ}
use Rattle.search_sets.specs.Set.{holds}
use Rattle.search_sets.specs.declared.Set.{Set}

-- the empty set, where a table has none
abbrev pub none : Set
none = record { lo = 0; hi = 0 }

-- i is in the k-th set of a table
abbrev pub set_at : List Set → ℕ → ℕ → Bool
set_at t k i = holds (get_or t k none).lo (get_or t k none).hi i
