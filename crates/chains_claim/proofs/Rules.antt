-- The links that the chain table is made of are those of the rules that are links; each of these rules is one of the judge's.
use Prim.Native.Nat.{ℕ}
use native.Mathlib.Omega.{arith}
use mathlib.Core.Path.{◌≡◌, sym, ◌∙◌, subst}
use mathlib.Core.Bool.{Bool, or-false, or_assoc}
use mathlib.Core.List.{[], map, Memᴰ}
use Rattle.base.specs.Lists.{any}
use Rattle.base.proofs.Lists.{any_witness, any_member, getD_member}
use Rattle.model.specs.Execution.{Execution, Operation}
use Rattle.model.specs.Rules.{must, links_of, rules, linked}
use Rattle.model.specs.Accepted.{Each}
use Rattle.model.proofs.Ownership.{each_in}
use Rattle.relation_chain_table.proofs.LinkedLaws.{link_of_lem, link_in}
use Rattle.chains_claim.specs.ChainsBind.{link_rules}

-- facts one after the other
infixr 5 ◌also◌
◌also◌ : {A B : Type 0} → A → B → A × B
◌also◌ a b = (a, b)

module _ (e : Execution) where
  -- some rule links a to b
  linked_by_one : (a b : Operation) → linked e a b ≡ any (λ link. link a b) (link_rules e)
  unfolding linked any
  linked_by_one a b = simp (or_assoc, or-false)

  pub link_rule : (a b : ℕ) → Memᴰ (a, b) (links_of e (linked e))
      → (link : Operation → Operation → Bool) × Memᴰ link (link_rules e) × Memᴰ (a, b) (links_of e link)
  link_rule a b m =
      let (o, q, mo, mq, t, ea, eb) = link_of_lem e (linked e) a b m in
      let (link, ml, s) = any_witness (λ link. link o q) (link_rules e) (sym (linked_by_one o q) ∙ t) in
      (link, ml, subst (λ (l : ℕ × ℕ). Memᴰ l (links_of e link)) (λ x. (ea x, eb x)) (link_in e link mo mq s))

  pub rule_link : {link : Operation → Operation → Bool} → Memᴰ link (link_rules e) → (a b : ℕ) → Memᴰ (a, b) (links_of e link)
      → Memᴰ (a, b) (links_of e (linked e))
  rule_link {link} ml a b m =
      let (o, q, mo, mq, t, ea, eb) = link_of_lem e link a b m in
      subst (λ (l : ℕ × ℕ). Memᴰ l (links_of e (linked e))) (λ x. (ea x, eb x))
      (link_in e (linked e) mo mq (linked_by_one o q ∙ any_member (λ link. link o q) ml t))

  -- where they stand among the rules, counted from 0
  abbrev There : (Operation → Operation → Bool) → Type 0
  There link = Memᴰ (map must (links_of e link)) (rules e)

  rules_there : Each There (link_rules e)
  unfolding rules
  rules_there =
      getD_member (rules e) 0 [] (omega arith)
      also getD_member (rules e) 1 [] (omega arith)
      also getD_member (rules e) 2 [] (omega arith)
      also getD_member (rules e) 3 [] (omega arith)
      also getD_member (rules e) 4 [] (omega arith)
      also getD_member (rules e) 5 [] (omega arith)
      also getD_member (rules e) 6 [] (omega arith)
      also getD_member (rules e) 7 [] (omega arith)
      also getD_member (rules e) 12 [] (omega arith)
      also getD_member (rules e) 14 [] (omega arith)
      also tt

  pub rule_there : {link : Operation → Operation → Bool} → Memᴰ link (link_rules e) → Memᴰ (map must (links_of e link)) (rules e)
  rule_there m = each_in There rules_there m
