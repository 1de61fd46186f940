-- Rule 12, a release to WB: one operation more newly breaks it where it stands between its RV.
use Prim.Native.Nat.{ℕ, ◌<◌}
use mathlib.Core.Path.{◌≡◌, ap, ◌∙◌}
use mathlib.Core.Bool.{Bool, not, ◌&&◌, and_assoc}
use mathlib.Core.List.{List, [], ◌∷◌, Memᴰ}
use borrow.Author.Tests.{ne_eqb}
use Rattle.base.specs.Lists.{any, keep, for, below, member}
use Rattle.base.proofs.Bools.{split, clash}
use Rattle.base.proofs.Lists.{any_same, any_and, any_and_after, any_keep, any_for, any_one, in_member, in_below}
use Rattle.model.specs.Execution.{is_release, Instruction, Execution, operations, stores}
use Rattle.model.specs.Rules.{in_WB, Claim, never, remote_of, rule12}
use Rattle.search_reduction.specs.Admits.{missing, interrupts}
use Rattle.search_reduction.proofs.Pairs.{any_is}
use Rattle.search_reduction.proofs.Newly.{later, newly_broken}

module _ (e : Execution) (xs : List ℕ) (x : ℕ) (low : x < operations e) where
  -- the claims of two RV of a store, for each operation that is no RV of it
  abbrev between : Instruction → ℕ → ℕ → List Claim
  between w a c = for (keep (λ o. not (member (remote_of e w) o)) (below (operations e))) (λ o. never a o c ∷ [])

  -- x is no RV of the store
  no_RV : Instruction → Bool
  no_RV w = not (member (remote_of e w) x)

  between_rule : (w : Instruction) (a c : ℕ) → Memᴰ c (remote_of e w)
      → any (newly_broken xs x) (between w a c) ≡ (no_RV w && (member xs a && missing e x xs c))
  unfolding newly_broken no_RV
  between_rule w a c mc =
      any_for (newly_broken xs x) (keep (λ o. not (member (remote_of e w) o)) (below (operations e))) (λ o. never a o c ∷ [])
      ∙ any_keep (λ o. any (newly_broken xs x) (never a o c ∷ [])) (λ o. not (member (remote_of e w) o)) (below (operations e))
      ∙ any_same _ _ (below (operations e)) (λ o mo. ap (λ (t : Bool). not (member (remote_of e w) o) && t) (any_one (newly_broken xs x) (never a o c)))
      ∙ any_is (λ o. not (member (remote_of e w) o)) x (member xs a && later xs x c) (in_below (operations e) x low)
      ∙ split (member (remote_of e w) x)
      (λ t. rw t)
      (λ t. rw (t, ne_eqb x c (λ q. clash (in_member mc) (rw q at t))))

  -- some RV stands, and some is missing
  inside : (w : Instruction) → any (newly_broken xs x) (for (remote_of e w) (λ a. for (remote_of e w) (between w a)))
      ≡ (no_RV w && (any (member xs) (remote_of e w) && any (missing e x xs) (remote_of e w)))
  inside w =
      any_for (newly_broken xs x) (remote_of e w) (λ a. for (remote_of e w) (between w a))
      ∙ any_same _ (λ a. no_RV w && (member xs a && any (missing e x xs) (remote_of e w))) (remote_of e w) (λ a ma.
      any_for (newly_broken xs x) (remote_of e w) (between w a)
      ∙ any_same _ (λ c. no_RV w && (member xs a && missing e x xs c)) (remote_of e w) (λ c mc. between_rule w a c mc)
      ∙ any_and (no_RV w) (λ c. member xs a && missing e x xs c) (remote_of e w)
      ∙ ap (λ (t : Bool). no_RV w && t) (any_and (member xs a) (missing e x xs) (remote_of e w)))
      ∙ any_and (no_RV w) (λ a. member xs a && any (missing e x xs) (remote_of e w)) (remote_of e w)
      ∙ ap (λ (t : Bool). no_RV w && t) (any_and_after (member xs) (any (missing e x xs) (remote_of e w)) (remote_of e w))

  pub release_rule : any (newly_broken xs x) (rule12 e) ≡ any (interrupts e x xs) (stores e)
  unfolding rule12 interrupts no_RV
  release_rule =
      any_for (newly_broken xs x) (keep (λ w. is_release w.kind && in_WB e w) (stores e)) (λ w. for (remote_of e w) (λ a. for (remote_of e w) (between w a)))
      ∙ any_keep (λ w. any (newly_broken xs x) (for (remote_of e w) (λ a. for (remote_of e w) (between w a)))) (λ w. is_release w.kind && in_WB e w) (stores e)
      ∙ any_same _ (interrupts e x xs) (stores e) (λ w mw. rw (inside w) (simp and_assoc))
