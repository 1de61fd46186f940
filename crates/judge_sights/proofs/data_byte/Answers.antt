-- A byte past the size, or past the sixteen, is 0.
use native.Mathlib.Omega.{arith}
use Rattle.judge_sights.proofs.SightLaws.{byte_past, byte_last, byte_there}
use Rattle.judge_sights.proofs.data_byte.Goals as goal
use Rattle.judge_sights.proofs.data_byte.Goals.{else-k-size_of-via-then-k-size_of+else-k-from, else-k-size_of-via-else-k-size_of}

pub returns-then-k-from : goal.returns-then-k-from
returns-then-k-from c = byte_there c.args.is.now c.args.i.0 c.args.from c.args.k (omega arith) (omega arith)

pub returns-else-k-size_of : goal.returns-else-k-size_of
returns-else-k-size_of c =
    let a = c.args in
    elim c.else-k-size_of.branch [
      | else-k-size_of-via-then-k-size_of+else-k-from w ↦ byte_last a.is.now a.i.0 a.from a.k (omega arith) w.if-k-from.false
      | else-k-size_of-via-else-k-size_of w ↦ byte_past a.is.now a.i.0 a.from a.k (omega (arith, w.if-k-size_of.false, c.size_of.ensures.0))
    ]
