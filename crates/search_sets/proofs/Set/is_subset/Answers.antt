-- The low words decide, or the high ones.
use native.Mathlib.Omega.{arith}
use Rattle.search_sets.proofs.Laws.{subset_miss, subset_hit}
use borrow.Author.Rules.{rules}
use Rattle.search_sets.proofs.Set.is_subset.Goals as goal

pub returns-then-self-other : goal.returns-then-self-other
returns-then-self-other c = let s = c.args in subset_hit s.self.lo s.self.hi s.other.lo s.other.hi (omega arith) (omega arith) (search rules)

pub returns-else-self-other : goal.returns-else-self-other
returns-else-self-other c = let s = c.args in subset_miss s.self.lo s.self.hi s.other.lo s.other.hi (omega arith) (omega arith) c.if-self-other.false
