-- An order of all operations that keeps every link keeps every path; a legal order is one.
use Prim.Native.Nat.{ℕ}
use native.Mathlib.Omega.{arith}
use mathlib.Core.Path.{◌≡◌, ap}
use mathlib.Core.Bool.{true, false}
use mathlib.Core.List.Memᴰ
use mathlib.Core.List.{List}
use Rattle.base.specs.Orders.{OrderOf}
use Rattle.base.proofs.Orders.{order_has}
use Rattle.model.specs.Execution.{Execution, operations}
use Rattle.model.specs.Questions.{found, read_record}
use Rattle.model.specs.Rules.{before, must, broken, links_of, linked, consistent}
use Rattle.model.specs.Accepted.{Accepted}
use Rattle.model.specs.Calls.{Legal}
use Rattle.model.proofs.Accepted.{accepted}
use Rattle.model.proofs.Before.{before_then, before_other}
use Rattle.model.proofs.Consistent.{unbroken}
use Rattle.model.proofs.Legal.{legal_passes, legal_consistent}
use Rattle.relation_chain_table.specs.Paths.{Path, one, more}
use Rattle.relation_chain_table.proofs.LinkedLaws.{links_within}
use Rattle.chains_claim.specs.ChainsBind.{KeepsLinks}
use Rattle.chains_claim.proofs.Rules.{link_rule, rule_link, rule_there}
use Rattle.chains_claim.proofs.Ranks.{rank_at, rank_rises}

module _ (e : Execution) where
  -- an order that keeps every link keeps every path
  pub path_kept : (order : List ℕ) → KeepsLinks e order → {a b : ℕ} → Path (links_of e (linked e)) a b → before order a b ≡ true
  path_kept order k {a} {b} (one m) = let (link, ml, mab) = link_rule e a b m in k link ml a b mab
  path_kept order k {a} {b} (more {b = c} m p) =
      let (link, ml, mac) = link_rule e a c m in before_then order a c b (k link ml a c mac) (path_kept order k p)

  -- a consistent order of all operations keeps every link
  consistent_keeps : Accepted e → (order : List ℕ) → OrderOf (operations e) order → consistent e order ≡ true → KeepsLinks e order
  unfolding broken
  consistent_keeps c order o h link ml a b m =
      let linked_here = rule_link e ml a b m in
      let not_turned : before order b a ≡ false = unbroken e order h (rule_there e ml) (Memᴰ.map must m) in
      before_other order b a (order_has (operations e) order o b (links_within e (linked e) c.consecutive a b linked_here).1)
      (λ q. omega (arith, rank_rises e c a b linked_here, ap (rank_at e c) q)) not_turned

-- a legal order is an order of all operations that keeps every link
module _ (bytes : List ℕ) (e : Execution) (rest : List ℕ) (read : read_record bytes ≡ found e rest) where
  pub legal_keeps : (order : List ℕ) → Legal bytes order → KeepsLinks e order
  legal_keeps order h =
      let o = legal_passes bytes e rest read order h in
      consistent_keeps e (accepted bytes e rest read) order o ((legal_consistent bytes e rest read order o).0 h)
