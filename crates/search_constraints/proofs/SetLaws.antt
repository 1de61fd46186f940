-- Loops that make a set, one after the other.
use Prim.Native.Nat.{ℕ, ◌-◌, ◌≤◌, ◌<◌}
use mathlib.Core.Path.{◌≡◌, refl, sym, ap, ap₂, ◌∙◌}
use mathlib.Core.Bool.{Bool, false, cond, ◌&&◌, ◌||◌, or-false}
use lib.Dec.{eqb, leb}
use borrow.Author.Tests.{eq-eqb, ne_eqb, le-leb, lt-leb}
use Rattle.base.specs.Below.{any_below}
use Rattle.base.proofs.Tests.{any_below_and}
use Rattle.model.specs.Execution.{Kind, RV, number_from}
use Rattle.search_sets.specs.Set.{holds}
use Rattle.relation_marks.specs.Marks.{has_mark}
use Rattle.search_admit.specs.Rows.{awaited_by}

-- the ways out of adding an operation that may be waited for
module _ (lo hi marks role : ℕ) (k : Kind) (first processor a : ℕ) where
  pub awaited_R : {r m : Bool} {rv : ℕ} → role ≡ 0 → rv ≡ number_from first k (RV processor) → m ≡ has_mark marks 256 → r ≡ (holds lo hi a || (m && eqb a rv))
      → r ≡ (holds lo hi a || awaited_by marks role k first processor a)
  unfolding awaited_by
  awaited_R h i m e =
      e ∙ ap₂ (λ (b : Bool) (j : ℕ). holds lo hi a || (b && eqb a j)) m i
      ∙ ap (λ (b : Bool). holds lo hi a || cond b (has_mark marks 256 && eqb a (number_from first k (RV processor))) (leb 3 role && (has_mark marks 128 && eqb a (number_from first k (RV (role - 3)))))) (sym (eq-eqb role 0 h))

  pub awaited_none : (role ≡ 0 → ⊥) → role < 3 → holds lo hi a ≡ (holds lo hi a || awaited_by marks role k first processor a)
  unfolding awaited_by
  awaited_none h l = sym (ap₂ (λ (b d : Bool). holds lo hi a || cond b (has_mark marks 256 && eqb a (number_from first k (RV processor))) (d && (has_mark marks 128 && eqb a (number_from first k (RV (role - 3)))))) (ne_eqb role 0 h) (lt-leb 3 role l) ∙ or-false (holds lo hi a))

  pub awaited_RV : {r m : Bool} {rv to : ℕ} → (role ≡ 0 → ⊥) → 3 ≤ role → to ≡ role - 3 → rv ≡ number_from first k (RV to) → m ≡ has_mark marks 128 → r ≡ (holds lo hi a || (m && eqb a rv))
      → r ≡ (holds lo hi a || awaited_by marks role k first processor a)
  unfolding awaited_by
  awaited_RV h l q i e f =
      f ∙ ap₂ (λ (b : Bool) (j : ℕ). holds lo hi a || (b && eqb a j)) e (i ∙ ap (λ (j : ℕ). number_from first k (RV j)) q)
      ∙ ap₂ (λ (b d : Bool). holds lo hi a || cond b (has_mark marks 256 && eqb a (number_from first k (RV processor))) (d && (has_mark marks 128 && eqb a (number_from first k (RV (role - 3)))))) (sym (ne_eqb role 0 h)) (sym (le-leb 3 role l))

-- the own RVs of an R's stores; another operation has none
module _ (n role : ℕ) (p : ℕ → Bool) where
  pub bypass_R : role ≡ 0 → any_below n p ≡ any_below n (λ v. eqb role 0 && p v)
  bypass_R r = rw r refl

  pub bypass_none : (lo hi a : ℕ) → holds lo hi a ≡ false → (role ≡ 0 → ⊥) → holds lo hi a ≡ any_below n (λ v. eqb role 0 && p v)
  bypass_none lo hi a e h = e ∙ sym (any_below_and (eqb role 0) p n ∙ ap (λ (b : Bool). b && any_below n p) (ne_eqb role 0 h))
