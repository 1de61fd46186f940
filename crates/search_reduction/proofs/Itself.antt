-- The test of the links of one operation more: in an accepted record no operation must stand before itself.
use Prim.Native.Nat.{ℕ}
use mathlib.Core.Path.{◌≡◌, sym, ◌∙◌}
use mathlib.Core.List.{List}
use lib.Dec.{eqb}
use borrow.Author.Tests.{eqb-true, ne_eqb}
use Rattle.base.specs.Lists.{any}
use Rattle.base.proofs.Bools.{split}
use Rattle.base.proofs.Lists.{any_same}
use Rattle.model.specs.Execution.{Execution, all_operations}
use Rattle.model.specs.Rules.{links_of, linked}
use Rattle.model.specs.Accepted.{Accepted}
use Rattle.search_reduction.specs.Admits.{unready}
use Rattle.search_reduction.proofs.Newly.{settles}
use Rattle.search_reduction.proofs.Links.{any_links}
use Rattle.search_reduction.proofs.Ranks.{not_linked}

module _ (e : Execution) (accepted : Accepted e) where
  -- it need not ask whether the other operation is x itself
  pub links_rule : (xs : List ℕ) (x : ℕ)
      → any (λ l. settles xs x l.1 l.0) (links_of e (linked e)) ≡ any (unready e x xs) (links_of e (linked e))
  links_rule xs x =
      any_links e (λ l. settles xs x l.1 l.0) (linked e)
      ∙ any_same _ _ (all_operations e) (λ a ma. any_same _ _ (all_operations e) (λ b mb.
      split (linked e a b)
      (λ t. split (eqb x b.number)
      (λ u. rw (t, u, ne_eqb x a.number (λ q. not_linked e accepted ma mb (sym q ∙ eqb-true x b.number u) t)))
      (λ u. rw (t, u)))
      (λ t. rw t)))
      ∙ sym (any_links e (unready e x xs) (linked e))
