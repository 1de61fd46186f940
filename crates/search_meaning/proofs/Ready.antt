-- Rules 1 to 8, 13 and 15: what must stand before an operation, by its set.
use Prim.Native.Nat.{ℕ, ◌≤◌, ◌<◌}
use native.Mathlib.Omega.{arith}
use mathlib.Core.Path.{◌≡◌, refl, sym, ap, ap₂, ◌∙◌}
use mathlib.Core.Bool.{Bool, true, false, not, ◌&&◌, ◌||◌}
use mathlib.Core.List.{List}
use lib.Dec.{eqb, ltb}
use borrow.Author.Tests.{lt-ltb, ltb-true, not-true}
use Rattle.base.specs.Lists.{any, member}
use Rattle.base.specs.Below.{all_below, any_below}
use Rattle.base.proofs.Bools.{agree, split, clash, and_parts, is_false}
use Rattle.base.proofs.Lists.{in_below}
use Rattle.base.proofs.Tests.{all_at, all_below_lem, none_at, some_at, any_below_lem, any_below_same, any_numbered}
use Rattle.model.specs.Execution as model
use Rattle.model.specs.Execution.{operations, all_operations}
use Rattle.model.specs.Rules.{linked, links_of}
use Rattle.record_decoded.specs.Decoded.{execution_of}
use Rattle.relation_links.specs.Operations.{operation_at, table_of}
use Rattle.search_sets.specs.Set.{holds}
use Rattle.search_admit.specs.Rows.{precedes}
use Rattle.search_reduction.specs.Admits.{missing, unready}
use Rattle.search_reduction.proofs.Pairs.{any_is}
use Rattle.search_reduction.proofs.Links.{any_links}
use Rattle.search_meaning.proofs.Tables.{Tables, TablesMean}
use Rattle.search_admit.specs.Fits.{Standing}

module _ {t : Tables} (h : TablesMean t) where
  abbrev e : model.Execution
  e = execution_of t.bytes t.execution

  abbrev n : ℕ
  n = operations e

  abbrev operation : ℕ → model.Operation
  operation o = operation_at t.execution.instructions t.operations o

  -- a test of every operation, by number
  pub operations_by_number : (p : model.Operation → Bool) → any p (all_operations e) ≡ any_below n (λ o. p (operation o))
  unfolding table_of
  operations_by_number p =
      ap (any p) (sym h.compiled.tabled.holds) ∙ any_numbered p operation t.operations.count
      ∙ ap (λ (k : ℕ). any_below k (λ o. p (operation o))) h.compiled.tabled.counts

  module _ (few : n ≤ 128) (xs : List ℕ) (lo hi x : ℕ) (low : x < n) (standing : Standing xs lo hi) where
    -- the links to x whose first operation does not stand
    unready_is : any (unready e x xs) (links_of e (linked e)) ≡ any_below n (λ a. linked e (operation a) (operation x) && missing e x xs a)
    unfolding operation_at
    unready_is =
        any_links e (unready e x xs) (linked e)
        ∙ operations_by_number (λ a. any (λ b. linked e a b && (eqb x b.number && missing e x xs a.number)) (all_operations e))
        ∙ any_below_same _ _ n (λ a l.
        operations_by_number (λ b. linked e (operation a) b && (eqb x b.number && missing e x xs a))
        ∙ sym (any_below_lem (λ b. linked e (operation a) (operation b) && (eqb x b && missing e x xs a)) n)
        ∙ any_is (λ b. linked e (operation a) (operation b)) x (missing e x xs a) (in_below n x low))

    -- a set of predecessors that stands
    pub ready_is : all_below 128 (λ a. not (precedes t.rows x a) || holds lo hi a) ≡ not (any (unready e x xs) (links_of e (linked e)))
    ready_is =
        agree (all_below 128 stands) (not (any (unready e x xs) (links_of e (linked e))))
        (λ k. ap not (unready_is ∙ is_false (any_below n lacks) (λ s.
        let (a, l, m) = some_at lacks n s in
        clash (all_at stands 128 k a (omega arith)) (at_lack a l m))))
        (λ k. all_below_lem stands 128 (λ a l. at_stand a l (not-true (any (unready e x xs) (links_of e (linked e))) k)))
      where
        stands : ℕ → Bool
        stands a = not (precedes t.rows x a) || holds lo hi a

        lacks : ℕ → Bool
        lacks a = linked e (operation a) (operation x) && missing e x xs a

        stands_is : (a : ℕ) → a < 128 → stands a ≡ (not (ltb a n && linked e (operation a) (operation x)) || member xs a)
        stands_is a l = ap₂ (λ (p q : Bool). not p || q) ((h.rowed x low).preds_are a l) (standing a l)

        at_lack : (a : ℕ) → a < n → lacks a ≡ true → stands a ≡ false
        at_lack a l m =
            let (p, q) = and_parts (linked e (operation a) (operation x)) (missing e x xs a) m in
            stands_is a (omega arith) ∙ rw (lt-ltb a n l, p, not-true (member xs a) q)

        at_stand : (a : ℕ) → a < 128 → any (unready e x xs) (links_of e (linked e)) ≡ false → stands a ≡ true
        at_stand a l k = stands_is a l ∙ split (ltb a n) (λ t. rw t (go (linked e (operation a) (operation x)) (member xs a) (none_at lacks n (sym unready_is ∙ k) a (ltb-true a n t)))) (λ f. rw f)
          where
            go : (p q : Bool) → (p && not q) ≡ false → (not p || q) ≡ true
            go true true m = refl
            go true false m = sym m
            go false q m = refl
