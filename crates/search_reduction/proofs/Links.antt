-- Rules 1 to 8, 13 and 15, the links; what rule 1 says of a store in a consistent prefix.
use Prim.Native.Nat.{ℕ, ◌<◌}
use mathlib.Core.Path.{◌≡◌, refl, sym, ap, ◌∙◌}
use mathlib.Core.Bool.{Bool, true, false, ◌&&◌, ◌||◌, and-or_distrib_right}
use mathlib.Core.List.{List, [], ◌∷◌, map, Memᴰ}
use lib.Dec.{eqb}
use borrow.Author.Tests.{eq-eqb, eqb-true}
use Rattle.base.specs.Lists.{any}
use Rattle.base.proofs.Bools.{split}
use Rattle.base.proofs.Lists.{any_same, any_map, any_one, any_or}
use Rattle.model.specs.Execution.{Execution, Instruction, LV, RV, number_of, Operation, all_operations, stores}
use Rattle.model.specs.Rules.{before, link1, link2, link3, link4, link5, link6, link7, link8, link13, link15, Link, ◌≺◌, must, RV_own, links_of, rules, linked, broken, consistent}
use Rattle.model.specs.Accepted.{Accepted}
use Rattle.model.proofs.Before.{before_itself}
use Rattle.model.proofs.Consistent.{kept}
use Rattle.search_reduction.proofs.Pairs.{any_pairs, pair_fails}
use Rattle.search_reduction.proofs.Newly.{settles, newly_broken}
use Rattle.model.proofs.Ownership.{LV_in, RV_in, store_processor}

module _ (e : Execution) where
  module _ (p : Link → Bool) where
    -- a test of links, by their operations
    pub any_links : (link : Operation → Operation → Bool)
        → any p (links_of e link) ≡ any (λ a. any (λ b. link a b && p (a.number ≺ b.number)) (all_operations e)) (all_operations e)
    unfolding links_of
    any_links link =
        any_pairs p (all_operations e) (all_operations e) link (λ a b. (a.number ≺ b.number) ∷ [])
        ∙ any_same _ _ (all_operations e) (λ a ma. any_same _ _ (all_operations e) (λ b mb. ap (λ (t : Bool). link a b && t) (any_one p (a.number ≺ b.number))))

    -- the links of one rule or another
    links_or : (l m : Operation → Operation → Bool) → any p (links_of e (λ a b. l a b || m a b)) ≡ (any p (links_of e l) || any p (links_of e m))
    links_or l m =
        any_links (λ a b. l a b || m a b)
        ∙ any_same _ (λ a. any (with_l a) (all_operations e) || any (with_m a) (all_operations e)) (all_operations e) (λ a ma.
        any_same _ (λ b. with_l a b || with_m a b) (all_operations e) (λ b mb. and-or_distrib_right (l a b) (m a b) (p (a.number ≺ b.number)))
        ∙ any_or (with_l a) (with_m a) (all_operations e))
        ∙ any_or (λ a. any (with_l a) (all_operations e)) (λ a. any (with_m a) (all_operations e)) (all_operations e)
        ∙ rw (any_links l, any_links m)
      where
        with_l : Operation → Operation → Bool
        with_l a b = l a b && p (a.number ≺ b.number)

        with_m : Operation → Operation → Bool
        with_m a b = m a b && p (a.number ≺ b.number)

    links_more : (l : Operation → Operation → Bool) {c : Bool} → any p (links_of e l) ≡ c → (m : Operation → Operation → Bool)
        → any p (links_of e (λ a b. l a b || m a b)) ≡ (c || any p (links_of e m))
    links_more l h m = links_or l m ∙ ap (λ (t : Bool). t || any p (links_of e m)) h

    -- all links, rule by rule
    pub links_split : any p (links_of e (linked e))
        ≡ (any p (links_of e link1) || any p (links_of e link2) || any p (links_of e link3) || any p (links_of e link4) || any p (links_of e link5)
        || any p (links_of e link6) || any p (links_of e link7) || any p (links_of e (link8 e)) || any p (links_of e (link13 e))
        || any p (links_of e link15))
    unfolding linked
    links_split =
        links_more _ (links_more _ (links_more _ (links_more _ (links_more _ (links_more _ (links_more _ (links_more _ (links_or link1 link2) link3) link4) link5) link6) link7) (link8 e)) (link13 e)) link15

  -- the links that x newly breaks
  pub newly_linked : (xs : List ℕ) (x : ℕ) (link : Operation → Operation → Bool)
      → any (newly_broken xs x) (map must (links_of e link)) ≡ any (λ l. settles xs x l.1 l.0) (links_of e link)
  unfolding newly_broken
  newly_linked xs x link = any_map (newly_broken xs x) must (links_of e link)

  module _ (xs : List ℕ) (consists : consistent e xs ≡ true) where
    -- what rule 1 says of its links
    rule1_kept : {a b : Operation} → Memᴰ a (all_operations e) → Memᴰ b (all_operations e) → link1 a b ≡ true → before xs b.number a.number ≡ false
    unfolding rules broken links_of
    rule1_kept {a} {b} ma mb h =
        sym (any_one (λ l. before xs l.1 l.0) (a.number ≺ b.number))
        ∙ pair_fails (λ l. before xs l.1 l.0) (all_operations e) (all_operations e) link1 (λ a b. (a.number ≺ b.number) ∷ []) ma mb h
        (sym (any_map (broken xs) must (links_of e link1)) ∙ kept e xs consists (Memᴰ.head refl))

    module _ (accepted : Accepted e) {w : Instruction} (m : Memᴰ w (stores e)) where
      -- LV is not behind the own RV, nor the own RV behind another
      pub LV_first : before xs (RV_own w) (number_of w LV) ≡ false
      unfolding link1
      LV_first =
          rule1_kept (LV_in e m) (RV_in e m w.processor (store_processor e accepted m))
          (rw (eq-eqb w.number w.number refl, eq-eqb w.processor w.processor refl))

      pub own_first : (q : ℕ) → q < e.processors → before xs (number_of w (RV q)) (RV_own w) ≡ false
      unfolding link1
      own_first q h =
          split (eqb q w.processor)
          (λ t. rw (eqb-true q w.processor t) (before_itself xs (RV_own w)))
          (λ t.
          rule1_kept (RV_in e m w.processor (store_processor e accepted m)) (RV_in e m q h)
          (rw (eq-eqb w.number w.number refl, eq-eqb w.processor w.processor refl, t)))
