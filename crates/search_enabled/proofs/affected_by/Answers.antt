-- One operation after the other.
use Rattle.search_enabled.proofs.AffectLaws.{empty_at, below_more}
use Rattle.search_enabled.specs.Affects.{affects}
use Rattle.search_sets.specs.Set.{holds}
use Rattle.search_sets.specs.Tables.{set_at}
use borrow.Author.Tests.{le-ltb, lt-ltb}
use mathlib.Core.Bool.{Bool, ◌&&◌}
use mathlib.Core.Path.{sym, ap, ◌∙◌}
use native.Mathlib.Omega.{arith}
use Rattle.search_enabled.proofs.affected_by.Goals as goal

pub loop-y-init : goal.loop-y-init
loop-y-init c = (
  omega arith,
  λ a k l. empty_at 128 a k (omega (arith, c.requires)) ∙ sym (ap (λ (b : Bool). b && affects c.args.rows.now a k) (le-ltb k 0 (omega arith))),
)

pub loop-y-smaller : goal.loop-y-smaller
loop-y-smaller c =
    omega (arith, c.loop-y-test.true)

pub loop-y-preserved : goal.loop-y-preserved
loop-y-preserved c =
    let l = c.loop-y in
    let put = c.put_affected.ensures in
    let all = c.all_affecting-affecting in (
      omega (arith, c.loop-y-test.true),
      λ b k m. put b k (omega (arith, c.requires))
          ∙ below_more (λ i. affects c.args.rows.now b i) l.y k (set_at l.affected b k) (holds all.result.lo all.result.hi b) (l.invariant.1 b k m) (λ e. all.ensures c.args.n b c.requires m (c.writers_for_reads-writers.ensures l.y c.loop-y-test.true)),
    )

pub returns : goal.returns
returns c =
    λ x y l s. c.loop-y.invariant.1 x y l ∙ ap (λ (b : Bool). b && affects c.args.rows.now x y) (lt-ltb y _ (omega (arith, c.loop-y-test.false)))
