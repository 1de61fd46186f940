-- Each turn enters the marks with one instruction more.
use native.Mathlib.Omega.{arith}
use mathlib.Core.Path.{refl}
use Rattle.base.proofs.Entries.{entered_none, entered_more}
use Rattle.std.proofs.Common.{rules}
use Rattle.relation_marks.proofs.BetweenLaws.{between_made}
use Rattle.relation_marks.proofs.between.marks_row.Goals as goal

pub loop-k-init : goal.loop-k-init
loop-k-init c = entered_none refl

pub loop-k-preserved : goal.loop-k-preserved
loop-k-preserved c =
    entered_more c.loop-k.invariant c.marks_by.result (omega (arith, c.loop-k-test.true, c.requires.1))
    (λ bytes.
    let law = between_made bytes c.args.x.now c.args.i.0 c.loop-k.k in
    search rules)

pub returns : goal.returns
returns c = λ bytes k h. c.loop-k.invariant.holds k (omega (arith, h, c.loop-k-test.false)) bytes
