-- Bit by bit.
use native.Mathlib.Omega.{arith}
use Rattle.search_admit.proofs.TestLaws.{agrees_is}
use Rattle.search_admit.proofs.agrees.Goals as goal

pub returns : goal.returns
returns c = let a = c.args in agrees_is a.own a.visible a.local a.«data» a.bits (omega arith) (omega arith) (omega arith) (omega arith) (omega arith)
