-- Each turn takes in the operations of one instruction more.
use native.Mathlib.Omega.{arith}
use Prim.Native.Nat.{ℕ}
use mathlib.Core.Path.{ap₂, ◌∙◌}
use mathlib.Core.Bool.{◌||◌}
use lib.ListN.{get_or}
use Rattle.model.specs.Execution.{Kind}
use Rattle.relation_marks.specs.Marks.{mark_at}
use Rattle.search_sets.specs.Set.{holds}
use Rattle.search_sets.proofs.Loops.{grown_starts, grown_more, grown_all}
use Rattle.search_constraints.specs.Rows.{linked_from}
use Rattle.search_constraints.proofs.preds_at.Goals as goal

pub loop-v-init : goal.loop-v-init
loop-v-init c = (omega arith, grown_starts _ _)

pub loop-v-smaller : goal.loop-v-smaller
loop-v-smaller c = omega (arith, c.loop-v-test.true)

pub loop-v-preserved : goal.loop-v-preserved
loop-v-preserved c =
    let g = c.args in
    let s = c.loop-v.set in
    let v = c.loop-v.v in (
      omega (arith, c.loop-v-test.true),
      grown_more c.loop-v.invariant.1 _
          (λ a l. c.with_linked-set.ensures a l
          ∙ ap₂ (λ (f : ℕ) (k : Kind). holds s.lo s.hi a || linked_from (mark_at g.marks.now v g.w.0) k (get_or g.processors.now v 0) f g.every g.role a) c.wide16-first.ensures.0 c.kind_of-kind.ensures),
    )

pub returns : goal.returns
returns c = grown_all c.loop-v.invariant.1 c.loop-v.invariant.0 c.loop-v-test.false
