-- Each turn closes the square by way of one operation more.
use Rattle.relation_chain_table.proofs.SquareLaws.{closing_none, closing_more, closing_all}
use Rattle.relation_chain_table.proofs.closure.closed.Goals as goal

pub loop-k-init : goal.loop-k-init
loop-k-init c = closing_none

pub loop-k-preserved : goal.loop-k-preserved
loop-k-preserved c = closing_more c.loop-k.invariant c.loop-k-test.true c.rows_via-square.ensures

pub returns : goal.returns
returns c = closing_all c.loop-k.invariant c.loop-k-test.false
