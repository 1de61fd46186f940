-- One bit more in the low word, or in the high one.
use native.Mathlib.Omega.{arith}
use Rattle.search_sets.proofs.Laws.{insert_low, insert_high}
use Rattle.search_sets.proofs.Set.insert.Goals as goal

pub returns-then-i-lt64 : goal.returns-then-i-lt64
returns-then-i-lt64 c k = let s = c.args in insert_low s.self.lo s.self.hi s.i k (omega arith)

pub returns-else-i-lt64 : goal.returns-else-i-lt64
returns-else-i-lt64 c k = let s = c.args in insert_high s.self.lo s.self.hi s.i k (omega arith) (omega arith)
