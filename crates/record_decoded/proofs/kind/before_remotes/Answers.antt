-- A part of the kind's row.
use native.Mathlib.Omega.{arith}
use Rattle.model.specs.Execution.{remotes_at}
use Rattle.model.proofs.Numbers.{some_before_remotes}
use Rattle.record_decoded.specs.Kinds.{meant}
use Rattle.record_decoded.proofs.kind.before_remotes.Goals as goal

pub returns : goal.returns
unfolding remotes_at
returns c =
    let r = c.kind_row.ensures in
    let (some, few) = some_before_remotes (meant c.args.k) in
    (omega (arith, r.before_is), omega (arith, r.before_is), omega (arith, r.before_is))
