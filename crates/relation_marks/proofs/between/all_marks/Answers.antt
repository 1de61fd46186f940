-- Each turn enters the row of one instruction more.
use mathlib.Core.Path.{refl}
use Rattle.base.proofs.Entries.{entered_none, entered_more}
use native.Mathlib.Omega.{arith}
use Rattle.relation_marks.proofs.between.all_marks.Goals as goal

pub loop-m-init : goal.loop-m-init
loop-m-init c = entered_none refl

pub loop-m-preserved : goal.loop-m-preserved
loop-m-preserved c = entered_more c.loop-m.invariant c.marks_row.result (omega arith) c.marks_row.ensures

pub returns : goal.returns
returns c = λ bytes m k h l. c.loop-m.invariant.holds m (omega (arith, h, c.loop-m-test.false)) bytes k l
