-- The legal orders of an accepted record are the full prefixes of its enumeration.
use Prim.Native.Nat.{ℕ, ◌≤◌}
use native.Mathlib.Nat.{le_refl}
use mathlib.Core.Path.{◌≡◌}
use mathlib.Core.Bool.{Bool, true, false}
use mathlib.Core.List.{List, Memᴰ}
use lib.ListN.{length}
use borrow.Author.Tests.{eq-eqb, eqb-true}
use Rattle.base.proofs.Bools.{clash}
use Rattle.model.specs.Execution.{Execution, operations}
use Rattle.model.specs.Questions.{found, read_record}
use Rattle.model.specs.Rules.{rules, keeps}
use Rattle.model.specs.Search.{prefixes, full}
use Rattle.model.specs.Calls.{Legal, NoneLegal}
use Rattle.search_claim.specs.PointThree.{FirstLegal, total}
use Rattle.model.proofs.Legal.{legal_passes, legal_consistent, consistent_ascend, consistent_are}
use Rattle.search_claim.proofs.Reach.{reach, reach_member, last_first}

-- consistent prefix number s of an execution, up to the first full one
abbrev pub prefix_at : Execution → ℕ → List ℕ
prefix_at e = reach (operations e) (keeps (rules e))

-- it is one of the enumeration
pub prefix_member : (e : Execution) (s : ℕ) → s ≤ total e → Memᴰ (prefix_at e s) (prefixes (operations e) (keeps (rules e)))
prefix_member e s h = reach_member (operations e) (keeps (rules e)) (consistent_ascend e) s h

-- a prefix is an order of all operations
abbrev pub is_full : Execution → List ℕ → Bool
is_full e = full (operations e) (keeps (rules e))

module _ (bytes : List ℕ) (e : Execution) (rest : List ℕ) (read : read_record bytes ≡ found e rest) where
  -- a legal order is a full prefix of the enumeration, and such a prefix is a legal order
  legal_prefix : (order : List ℕ) → Legal bytes order → Memᴰ order (prefixes (operations e) (keeps (rules e))) × (is_full e order ≡ true)
  legal_prefix order h =
      let (l, d) = legal_passes bytes e rest read order h in
      ((consistent_are e order).1 (d, (legal_consistent bytes e rest read order (l, d)).0 h), eq-eqb (length order) (operations e) l)

  prefix_legal : (order : List ℕ) → Memᴰ order (prefixes (operations e) (keeps (rules e))) → is_full e order ≡ true → Legal bytes order
  prefix_legal order m f =
      let (d, k) = (consistent_are e order).0 m in
      (legal_consistent bytes e rest read order (eqb-true (length order) (operations e) f, d)).1 k

  -- the last prefix decides: full, it is the first legal order; else there is none
  pub last_legal : is_full e (prefix_at e (total e)) ≡ true → FirstLegal bytes (prefix_at e (total e))
  last_legal f = (
    prefix_legal (prefix_at e (total e)) (prefix_member e (total e) (le_refl (total e))) f,
    λ order h. let (m, g) = legal_prefix order h in (last_first (operations e) (keeps (rules e)) (consistent_ascend e) order m g).1,
  )

  pub none_legal : is_full e (prefix_at e (total e)) ≡ false → NoneLegal bytes
  none_legal f order h =
      let (m, g) = legal_prefix order h in
      clash (last_first (operations e) (keeps (rules e)) (consistent_ascend e) order m g).0 f
