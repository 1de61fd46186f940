-- A set of a table, put anew.
use Prim.Native.Nat.{ℕ, ◌<◌}
use mathlib.Core.Path.{◌≡◌, ap}
use mathlib.Core.List.{List}
use lib.ListN.{length, set}
use lib.Seq.{get_or-set_same, get_or-set_other}
use Rattle.search_sets.specs.Set.{holds}
use Rattle.search_sets.specs.Tables.{none, set_at}
use Rattle.search_sets.specs.declared.Set.{Set}

module _ (t : List Set) (k : ℕ) (s : Set) where
  pub put_here : k < length t → (i : ℕ) → set_at (set t k s) k i ≡ holds s.lo s.hi i
  put_here l i = ap (λ (u : Set). holds u.lo u.hi i) (get_or-set_same t k s none l)

  pub put_other : (j : ℕ) → (j ≡ k → ⊥) → (i : ℕ) → set_at (set t k s) j i ≡ set_at t j i
  put_other j n i = ap (λ (u : Set). holds u.lo u.hi i) (get_or-set_other t k j s none n)
