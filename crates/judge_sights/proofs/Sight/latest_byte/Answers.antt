-- The loop takes in each store.
use mathlib.Core.Path.{ap}
use Rattle.base.proofs.Folds.{begins, steps, finishes}
use Rattle.judge_sights.specs.declared.Latest.{Latest}
use Rattle.judge_sights.specs.Sights.{latest_by}
use Rattle.judge_sights.proofs.Sight.latest_byte.Goals as goal

pub loop-w-init : goal.loop-w-init
loop-w-init c = begins

pub loop-w-preserved : goal.loop-w-preserved
loop-w-preserved c = steps c.loop-w.invariant c.loop-w-test.true c.latest_with-latest.ensures

pub returns : goal.returns
unfolding latest_by
returns c = ap (λ (l : Latest). l.value) (finishes c.loop-w.invariant c.loop-w-test.false)
