-- For a consistent prefix and an operation that does not stand in it: the longer prefix is consistent exactly when the test of one operation more admits it.
use Prim.Native.Nat.{ℕ, ◌<◌}
use mathlib.Core.Path.{◌≡◌, refl, sym, ◌∙◌}
use mathlib.Core.Bool.{Bool, true, false, ◌||◌, or_assoc, or_comm, or-false, or-true}
use mathlib.Core.List.{List, [], ◌∷◌, ◌++◌, map}
use Rattle.base.specs.Lists.{any, member}
use Rattle.model.specs.Execution.{Execution, Operation, operations}
use Rattle.model.specs.Rules.{link1, link2, link3, link4, link5, link6, link7, link8, link13, link15, Claim, must, links_of, rule9, rule10, rule11, rule12, rule14, rule16, rules, consistent}
use Rattle.model.specs.Accepted.{Accepted}
use Rattle.search_reduction.specs.Admits.{admits}
use Rattle.search_reduction.proofs.Newly.{settles, newly_broken, keeps_then}
use Rattle.search_reduction.proofs.Links.{links_split, newly_linked}
use Rattle.search_reduction.proofs.Itself.{links_rule}
use Rattle.search_reduction.proofs.Stores.{own_rule, remote_rule}
use Rattle.search_reduction.proofs.Releases.{release_rule}
use Rattle.search_reduction.proofs.Loads.{sight_rule, bypass_rule, semaphore_rule}

or_swap : (a b c : Bool) → (a || (b || c)) ≡ (b || (a || c))
or_swap true b c = sym (or-true b)
or_swap false b c = refl

-- a test of all rules: the links, then the others in the order of `admits`
module _ (e : Execution) (p : Claim → Bool) where
  abbrev broken_links : (Operation → Operation → Bool) → Bool
  broken_links link = any p (map must (links_of e link))

  rules_sorted : any (any p) (rules e)
      ≡ (broken_links link1 || broken_links link2 || broken_links link3 || broken_links link4 || broken_links link5 || broken_links link6 || broken_links link7
      || broken_links (link8 e) || broken_links (link13 e) || broken_links link15 || any p (rule12 e) || any p (rule9 e) || any p (rule10 e) || any p (rule14 e)
      || any p (rule16 e) || any p (rule11 e))
  unfolding rules any
  rules_sorted =
      sorted (broken_links link1) (broken_links link2) (broken_links link3) (broken_links link4) (broken_links link5) (broken_links link6) (broken_links link7)
      (broken_links (link8 e)) (broken_links (link13 e)) (any p (rule9 e)) (any p (rule10 e)) (any p (rule11 e)) (any p (rule12 e)) (any p (rule14 e))
      (broken_links link15) (any p (rule16 e))
    where
      sorted : (l1 l2 l3 l4 l5 l6 l7 l8 l13 r9 r10 r11 r12 r14 l15 r16 : Bool)
          → (l1 || (l2 || (l3 || (l4 || (l5 || (l6 || (l7 || (l8 || (r9 || (r10 || (r11 || (r12 || (l13 || (r14 || (l15 || (r16 || false))))))))))))))))
          ≡ (l1 || l2 || l3 || l4 || l5 || l6 || l7 || l8 || l13 || l15 || r12 || r9 || r10 || r14 || r16 || r11)
      sorted l1 l2 l3 l4 l5 l6 l7 l8 l13 r9 r10 r11 r12 r14 l15 r16 = simp (or_assoc, or_comm, or_swap, or-false)

pub admits_more : (e : Execution) → Accepted e → (xs : List ℕ) (x : ℕ) → consistent e xs ≡ true → member xs x ≡ false → x < operations e
    → consistent e (xs ++ (x ∷ [])) ≡ admits e x xs
unfolding consistent admits
admits_more e accepted xs x consists new low =
    keeps_then xs x new (rules e) consists
    ∙ rw (
      rules_sorted e (newly_broken xs x),
      newly_linked e xs x link1,
      newly_linked e xs x link2,
      newly_linked e xs x link3,
      newly_linked e xs x link4,
      newly_linked e xs x link5,
      newly_linked e xs x link6,
      newly_linked e xs x link7,
      newly_linked e xs x (link8 e),
      newly_linked e xs x (link13 e),
      newly_linked e xs x link15,
      ← (links_split e (λ l. settles xs x l.1 l.0)),
      links_rule e accepted xs x,
      release_rule e xs x low,
      own_rule e accepted xs consists x,
      remote_rule e accepted xs consists x,
      bypass_rule e xs x new accepted,
      semaphore_rule e xs x new accepted,
      sight_rule e xs x new accepted,
    )
