-- The loop takes in each store.
use Rattle.base.proofs.Folds.{Folded}
use Rattle.judge_sights.specs.Sights.{latest_with}
use Rattle.judge_sights.proofs.Sight.latest_byte.Given as goal

abbrev pub invariant-loop-w : goal.invariant-loop-w
invariant-loop-w l =
    Folded l.self.instructions.now.count (latest_with l.self.instructions.now l.self.places.now l.self.load.0 l.self.address l.local) (record { next = 0; value = l.fn.initial }) l.w l.latest
