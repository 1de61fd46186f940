-- Each turn enters one row more.
use mathlib.Core.Path.{refl}
use Rattle.base.proofs.Entries.{entered_none, entered_more}
use native.Mathlib.Omega.{arith}
use Rattle.relation_chain_table.proofs.closure.rows_via.Goals as goal

pub loop-i-init : goal.loop-i-init
loop-i-init c = entered_none refl

pub loop-i-preserved : goal.loop-i-preserved
loop-i-preserved c = entered_more c.loop-i.invariant c.row_via.result (omega arith) c.row_via.ensures

pub returns : goal.returns
returns c = λ a b h l. c.loop-i.invariant.holds a (omega (arith, h, c.loop-i-test.false)) b l
