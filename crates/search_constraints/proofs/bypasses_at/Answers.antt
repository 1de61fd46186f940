-- Not an R; else each turn takes in the own RV of one store.
use native.Mathlib.Omega.{arith}
use Prim.Native.Nat.{ℕ}
use mathlib.Core.Path.{◌≡◌, ap₂, ◌∙◌}
use mathlib.Core.Bool.{Bool, ◌&&◌, ◌||◌}
use lib.ListN.{get_or}
use lib.Dec.{eqb}
use Rattle.model.specs.Execution.{Kind, kind_of, is_store, RV, number_from}
use Rattle.search_sets.specs.Set.{holds}
use Rattle.search_constraints.specs.Rows.{own_store_by}
use Rattle.search_sets.proofs.Loops.{grown_starts, grown_more, grown_all, holds_none}
use Rattle.search_constraints.proofs.SetLaws.{bypass_R, bypass_none}
use Rattle.search_constraints.proofs.bypasses_at.Goals as goal

own-number : {j k : Kind} {f first p processor : ℕ} → j ≡ k → f ≡ first → p ≡ processor → number_from f j (RV p) ≡ number_from first k (RV processor)
own-number h i q = cc (h, i, q)

pub returns-then-role-ne-ROLE_R : goal.returns-then-role-ne-ROLE_R
returns-then-role-ne-ROLE_R c = λ a l.
    let g = c.args in
    bypass_none g.n g.role (λ v. own_store_by g.kinds.now g.processors.now g.addresses.now g.sizes.now g.w.0 v && eqb a (number_from (get_or g.firsts.now v 0) (kind_of (get_or g.kinds.now v 0)) (RV (get_or g.processors.now v 0)))) 0 0 a (holds_none a) c.if-role-ne-ROLE_R.true

pub loop-v-init : goal.loop-v-init
loop-v-init c = (omega arith, grown_starts _ _)

pub loop-v-smaller : goal.loop-v-smaller
loop-v-smaller c = omega (arith, c.loop-v-test.true)

pub loop-v-preserved : goal.loop-v-preserved
loop-v-preserved c =
    let s = c.loop-v.set in
    let kind = c.kind_of-kind.ensures in
    let g = c.args in
    let v = c.loop-v.v in (
      omega (arith, c.loop-v-test.true),
      grown_more c.loop-v.invariant.1 _
          (λ a l. c.insert_if-set.ensures a l
          ∙ ap₂ (λ (b : Bool) (k : ℕ). holds s.lo s.hi a || (b && eqb a k))
          (c.is_own_store-wanted.ensures
          ∙ ap₂ (λ (k : Kind) (shares : Bool). is_store k && (eqb (get_or g.processors.now v 0) (get_or g.processors.now g.w.0 0) && shares)) kind c.overlaps-shares.ensures)
          (c.number_of-own_rv.ensures ∙ own-number kind c.wide16-first.ensures.0 c.wide-to.ensures.0)),
    )

pub returns : goal.returns
returns c = λ a l.
    let g = c.args in
    grown_all c.loop-v.invariant.1 c.loop-v.invariant.0 c.loop-v-test.false a l
    ∙ bypass_R g.n g.role (λ v. own_store_by g.kinds.now g.processors.now g.addresses.now g.sizes.now g.w.0 v && eqb a (number_from (get_or g.firsts.now v 0) (kind_of (get_or g.kinds.now v 0)) (RV (get_or g.processors.now v 0)))) c.if-role-ne-ROLE_R.false
