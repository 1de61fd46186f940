-- The judge of an accepted record is the judge of its execution; the ways out of the latter.
use Prim.Native.Nat.{ℕ}
use mathlib.Core.Path.{◌≡◌, refl, sym, ap, ◌∙◌}
use mathlib.Core.Bool.{Bool, true, false}
use mathlib.Core.List.{List, []}
use mathlib.Core.Option.{Option}
use lib.ListN.{length}
use borrow.Author.Tests.{eq-eqb, ne_eqb}
use Rattle.base.specs.Lists.{distinct}
use Rattle.model.specs.Execution.{Execution, operations}
use Rattle.model.specs.Rules.{lowest_broken}
use Rattle.model.specs.Calls.{says, refuses, read_all, judgement_of, judge_order, judge_call}
use Rattle.std.specs.Prelude as rust
use Rattle.std.specs.Prelude.{Some, None, Ok}
use Rattle.judge_rules.specs.Lowest.{lowest_meant}
use Rattle.judge_call.specs.Judgements.{judgement_meant}
use Rattle.model.proofs.Asking.{after_says, after_refuses, asked_yes, asked_no}

pub judge_accepted : (bytes order : List ℕ) (e : Execution) → read_all bytes ≡ says e → judge_order e order ≡ judge_call bytes order
unfolding judge_call
judge_accepted bytes order e h = after_says (λ d. judge_order d order) h

pub judge_refused : (bytes order : List ℕ) (q : ℕ) → read_all bytes ≡ refuses q → refuses q ≡ judge_call bytes order
unfolding judge_call
judge_refused bytes order q h = after_refuses (λ d. judge_order d order) h

module _ (e : Execution) (order : List ℕ) (n : ℕ) (is : n ≡ operations e) where
  pub judged_16 : (length order ≡ n → ⊥) → refuses 16 ≡ judge_order e order
  unfolding judge_order
  judged_16 h = asked_no 16 _ (ne_eqb (length order) (operations e) (λ q. h (q ∙ sym is)))

  module _ (long : length order ≡ n) where
    asked_17 : {b : Bool} → distinct n [] order ≡ b → distinct (operations e) [] order ≡ b
    asked_17 d = ap (λ (k : ℕ). distinct k [] order) (sym is) ∙ d

    pub judged_17 : distinct n [] order ≡ false → refuses 17 ≡ judge_order e order
    unfolding judge_order
    judged_17 d = asked_no 17 _ (asked_17 d) ∙ asked_yes 16 _ (eq-eqb (length order) (operations e) (long ∙ is))

    pub judged_rules : distinct n [] order ≡ true → (o : Option ℕ) → o ≡ lowest_broken e order → says (judgement_of o) ≡ judge_order e order
    unfolding judge_order
    judged_rules d o q =
        ap (λ (l : Option ℕ). says (judgement_of l)) q ∙ asked_yes 17 _ (asked_17 d) ∙ asked_yes 16 _ (eq-eqb (length order) (operations e) (long ∙ is))

-- the lowest broken rule as a judgement
pub told_lowest : (r : rust.Option ℕ) → judgement_meant (Ok r) ≡ says (judgement_of (lowest_meant r))
told_lowest None = refl
told_lowest (Some rule) = refl
