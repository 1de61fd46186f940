-- Word by word, and in a word bit by bit.
use mathlib.Core.Bool.{◌||◌}
use Rattle.search_sets.proofs.Bit.{has_or}
use Rattle.search_sets.proofs.Laws.{holds_two}
use Rattle.search_sets.proofs.SetBitOr.bitor.Goals as goal

pub returns : goal.returns
returns c k =
    let s = c.args in
    holds_two ◌||◌ s.self.lo s.self.hi s.other.lo s.other.hi _ _ (λ j. has_or s.self.lo s.other.lo j) (λ j. has_or s.self.hi s.other.hi j) k
