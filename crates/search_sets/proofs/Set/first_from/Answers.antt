-- The low word from there on, then the high one.
use native.Mathlib.Omega.{arith}
use Rattle.search_sets.specs.Set.{holds}
use Rattle.search_sets.proofs.Laws.{first_low, first_next, first_empty, first_high, first_none, first_past}
use Rattle.search_sets.proofs.Set.first_from.Goals as goal

pub returns-then-w-ne0 : goal.returns-then-w-ne0
returns-then-w-ne0 c = let s = c.args in first_low s.self.lo s.self.hi s.from (omega arith) c.if-w-ne0.true

pub returns-then-self-ne0 : goal.returns-then-self-ne0
returns-then-self-ne0 c = let s = c.args in first_next s.self.lo s.self.hi s.from (omega arith) (omega arith) (omega arith) c.if-w-ne0.false c.if-self-ne0.true

pub returns-then-from-lt64 : goal.returns-then-from-lt64
returns-then-from-lt64 c = let s = c.args in first_empty s.self.lo s.self.hi s.from (omega arith) (omega arith) c.if-w-ne0.false c.if-self-ne0.false

pub returns-then-v-ne0 : goal.returns-then-v-ne0
returns-then-v-ne0 c = let s = c.args in first_high s.self.lo s.self.hi s.from (omega arith) (omega arith) c.if-v-ne0.true

pub returns-else-v-ne0 : goal.returns-else-v-ne0
returns-else-v-ne0 c = let s = c.args in first_none s.self.lo s.self.hi s.from (omega arith) (omega arith) (omega arith) c.if-v-ne0.false

pub returns-else-from-lt-BOUND : goal.returns-else-from-lt-BOUND
returns-else-from-lt-BOUND c = let s = c.args in first_past (holds s.self.lo s.self.hi) s.from (omega arith) (omega arith)
