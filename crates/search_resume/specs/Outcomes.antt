-- What the steps of a search promise, whatever test of prefixes the rows decide.
use Rattle.std.specs.Prelude.{ℕ, Option, Some, None, ◌≤◌, ◌≡◌, Bool, true, false, List, []}
use Rattle.std.proofs.Math.ListN as ListN
use Rattle.model.specs.Search.{search_from}
use Rattle.search_admit.specs.Fits.{Tested}
use Rattle.search_walk.specs.Walks.{Closed}
use Rattle.search_resume.specs.declared.steps.Outcome.{Outcome}
use Rattle.search_resume.specs.Replies.{outcome_of}

-- the position fits into the arrays
pub record Bounded (n : ℕ) (r : Outcome) : Type 0 where
  pub short : r.position.length ≤ n
  pub whole : ListN.length r.position.entries ≡ 128

-- from a position that passes
pub record StepsMade (n : ℕ) (rows given : List ℕ) (allowance : ℕ) (r : Outcome) : Type 0 where
  pub comes : (c : List ℕ → Bool) → Tested c n rows → Closed c → c given ≡ true → outcome_of r ≡ search_from n c given allowance
  pub bounded : Bounded n r

-- any test of prefixes that the rows decide, and that the empty one passes, says so of a position
abbrev pub Told : ℕ → List ℕ → List ℕ → Bool → Type 0
Told n rows given b = (c : List ℕ → Bool) → Tested c n rows → Closed c → c [] ≡ true → c given ≡ b

-- from any position of different operations: there is an outcome exactly where the position passes
abbrev pub SearchedFrom : ℕ → List ℕ → List ℕ → ℕ → Option Outcome → Type 0
SearchedFrom n rows given allowance None = Told n rows given false
SearchedFrom n rows given allowance (Some r) = Told n rows given true × StepsMade n rows given allowance r
