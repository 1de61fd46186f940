-- The bit of the low word, or of the high one.
use mathlib.Core.Path.{sym}
use native.Mathlib.Omega.{arith}
use Rattle.search_sets.proofs.Laws.{holds_low, holds_high}
use Rattle.search_sets.proofs.Set.has.Goals as goal

pub returns-then-i-lt64 : goal.returns-then-i-lt64
returns-then-i-lt64 c = let s = c.args in sym (holds_low s.self.lo s.self.hi s.i (omega arith))

pub returns-else-i-lt64 : goal.returns-else-i-lt64
returns-else-i-lt64 c = let s = c.args in sym (holds_high s.self.lo s.self.hi s.i (omega arith))
