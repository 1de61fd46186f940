-- The rank of an operation by its number; it rises along every link.
use Prim.Native.Nat.{ℕ, ◌<◌}
use native.Mathlib.Omega.{arith}
use mathlib.Core.Path.{◌≡◌, refl, sym, ap, ◌∙◌}
use mathlib.Core.Bool.{false, cond}
use mathlib.Core.List.Memᴰ
use mathlib.Core.List.{List, [], ◌∷◌, Memᴰ}
use lib.Dec.{eqb}
use borrow.Author.Tests.{eqb-true, eq-eqb}
use Rattle.base.proofs.Bools.{split, clash}
use Rattle.model.specs.Execution.{Execution, Operation, all_operations}
use Rattle.model.specs.Rules.{links_of, linked}
use Rattle.model.specs.Accepted.{Accepted}
use Rattle.search_reduction.proofs.Ranks.{rank, linked_rises, one_rank}
use Rattle.relation_chain_table.proofs.LinkedLaws.{link_of_lem}

module _ (e : Execution) (accepted : Accepted e) where
  -- the rank of the operation with number k among some
  rank_among : List Operation → ℕ → ℕ
  rank_among [] k = 0
  rank_among (o ∷ os) k = cond (eqb o.number k) (rank o) (rank_among os k)

  rank_among_lem : (os : List Operation) (k r : ℕ) → ((o : Operation) → Memᴰ o os → o.number ≡ k → rank o ≡ r)
      → {o : Operation} → Memᴰ o os → o.number ≡ k → rank_among os k ≡ r
  unfolding rank_among
  rank_among_lem [] k r all m h = absurd (Memᴰ.not-nil m)
  rank_among_lem (q ∷ os) k r all {o} m h =
      split (eqb q.number k)
      (λ t. rw t (all q (Memᴰ.head refl) (eqb-true q.number k t)))
      (λ f. rw f (rank_among_lem os k r (λ x mx. all x (Memᴰ.tail mx)) (further f m) h))
    where
      further : eqb q.number k ≡ false → Memᴰ o (q ∷ os) → Memᴰ o os
      further f (Memᴰ.head w) = clash (eq-eqb q.number k (ap (λ (x : Operation). x.number) (sym w) ∙ h)) f
      further f (Memᴰ.tail w) = w

  pub rank_at : ℕ → ℕ
  rank_at k = rank_among (all_operations e) k

  rank_at_lem : {o : Operation} → Memᴰ o (all_operations e) → rank_at o.number ≡ rank o
  unfolding rank_at
  rank_at_lem {o} m = rank_among_lem (all_operations e) o.number (rank o) (λ q mq h. one_rank e accepted mq m h) m refl

  pub rank_rises : (a b : ℕ) → Memᴰ (a, b) (links_of e (linked e)) → rank_at a < rank_at b
  rank_rises a b m =
      let (o, q, mo, mq, t, ea, eb) = link_of_lem e (linked e) a b m in
      omega (arith, linked_rises e accepted o q t, rank_at_lem mo, rank_at_lem mq, ap rank_at ea, ap rank_at eb)
