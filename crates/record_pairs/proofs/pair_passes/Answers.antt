-- The tests of question 13, one after the other.
use mathlib.Core.Path.{sym}
use Rattle.std.proofs.Common.{rules}
use Rattle.record_decoded.specs.Kinds.{meant}
use Rattle.record_pairs.proofs.PairLaws.{pair_turned, pair_past, pair_is}
use Rattle.record_pairs.proofs.pair_passes.Goals as goal
use Rattle.record_pairs.proofs.pair_passes.Goals.{then-n-m-via-then-n-m, then-n-m-via-else-n-m+then-is-n}

pub returns-then-n-m : goal.returns-then-n-m
returns-then-n-m c =
    let a = c.args in
    elim c.then-n-m.branch [
      | then-n-m-via-then-n-m w ↦ pair_turned a.is a.earlier.0 a.later.0 w.if-n-m.true
      | then-n-m-via-else-n-m+then-is-n w ↦ pair_past a.is a.earlier.0 a.later.0 w.if-n-m.false w.if-is-n.true
    ]

pub returns-then-no_fence : goal.returns-then-no_fence
returns-then-no_fence c =
    let a = c.args in
    let is = pair_is a.is a.earlier.0 a.later.0 c.if-n-m.false c.if-is-n.false (meant c.kind_of-first.result) (meant c.kind_of-second.result) (search rules) (search rules) in
    search rules

pub returns-else-no_fence : goal.returns-else-no_fence
returns-else-no_fence c =
    let a = c.args in
    let is = pair_is a.is a.earlier.0 a.later.0 c.if-n-m.false c.if-is-n.false (meant c.kind_of-first.result) (meant c.kind_of-second.result) (search rules) (search rules) in
    search rules
