-- Each turn makes one step; the walk of the last only sees whether anything is left.
use Prim.Native.Nat.{◌-◌, ◌≤◌}
use mathlib.Core.Path.{◌≡◌}
use lib.ListN as ListN
use Rattle.record_decoded.specs.Positions.{position_of}
use Rattle.search_resume.proofs.Going.{Going}
use Rattle.search_resume.proofs.steps.make_steps.Given as goal

abbrev pub invariant-loop-size : goal.invariant-loop-size
invariant-loop-size l =
    Going l.n l.rows (position_of l.given) l.allowance l.levels l.entries l.places l.words l.replaced l.length l.steps × (l.given.length ≤ l.n) × (ListN.length l.given.entries ≡ 128)
    × (ListN.length l.reached ≡ 128)

abbrev pub decreases-loop-size : goal.decreases-loop-size
decreases-loop-size l =
    l.allowance - l.steps
