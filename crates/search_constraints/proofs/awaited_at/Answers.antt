-- Each turn takes in what one instruction adds.
use native.Mathlib.Omega.{arith}
use Prim.Native.Nat.{ℕ}
use mathlib.Core.Path.{ap, ap₂, ◌∙◌}
use mathlib.Core.Bool.{◌||◌}
use lib.ListN.{get_or}
use Rattle.relation_marks.specs.Marks.{mark_at}
use Rattle.search_sets.specs.Set.{holds}
use Rattle.search_sets.proofs.Loops.{grown_starts, grown_more, grown_all}
use Rattle.search_admit.specs.Rows.{awaited_by}
use Rattle.model.specs.Execution.{Kind, kind_of}
use Rattle.search_constraints.proofs.awaited_at.Goals as goal

pub loop-v-init : goal.loop-v-init
loop-v-init c = (omega arith, grown_starts _ _)

pub with_awaited-set-requires : goal.with_awaited-set-requires
with_awaited-set-requires c = (c.wide16-first.ensures.1, c.wide-processor.ensures.1)

pub loop-v-smaller : goal.loop-v-smaller
loop-v-smaller c = omega (arith, c.loop-v-test.true)

pub loop-v-preserved : goal.loop-v-preserved
loop-v-preserved c =
    let g = c.args in
    let s = c.loop-v.set in
    let v = c.loop-v.v in (
      omega (arith, c.loop-v-test.true),
      grown_more c.loop-v.invariant.1 _
          (λ a l. c.with_awaited-set.ensures a l
          ∙ ap (λ (k : Kind). holds s.lo s.hi a || awaited_by (mark_at g.marks.now v g.w.0) g.role k c.wide16-first.result c.wide-processor.result a) c.kind_of-kind.ensures
          ∙ ap₂ (λ (f p : ℕ). holds s.lo s.hi a || awaited_by (mark_at g.marks.now v g.w.0) g.role (kind_of (get_or g.kinds.now v 0)) f p a) c.wide16-first.ensures.0 c.wide-processor.ensures.0),
    )

pub returns : goal.returns
returns c = grown_all c.loop-v.invariant.1 c.loop-v.invariant.0 c.loop-v-test.false
