-- Each turn enters the row of one operation more.
use mathlib.Core.Path.{refl}
use Rattle.base.proofs.Entries.{entered_none, entered_more}
use native.Mathlib.Omega.{arith}
use Rattle.relation_chain_table.proofs.square.links_square.Goals as goal

pub loop-a-init : goal.loop-a-init
loop-a-init c = entered_none refl

pub loop-a-preserved : goal.loop-a-preserved
loop-a-preserved c = entered_more c.loop-a.invariant c.links_row.result (omega arith) c.links_row.ensures

pub returns : goal.returns
returns c = λ a b h l. c.loop-a.invariant.holds a (omega (arith, h, c.loop-a-test.false)) b l
