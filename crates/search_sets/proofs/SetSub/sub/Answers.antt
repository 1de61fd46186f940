-- Word by word, and in a word bit by bit.
use mathlib.Core.Bool.{Bool, not, ◌&&◌}
use Rattle.search_sets.proofs.Laws.{holds_two, has_minus}
use Rattle.search_sets.proofs.SetSub.sub.Goals as goal

pub returns : goal.returns
returns c k =
    let s = c.args in
    holds_two (λ (x y : Bool). x && not y) s.self.lo s.self.hi s.other.lo s.other.hi _ _ (λ j. has_minus s.self.lo s.other.lo j) (λ j. has_minus s.self.hi s.other.hi j) k
