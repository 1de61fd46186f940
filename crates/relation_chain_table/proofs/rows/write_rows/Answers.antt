-- Each turn writes one row more.
use Rattle.relation_chain_table.proofs.RowLaws.{written_none, written_more, written_all}
use Rattle.relation_chain_table.proofs.rows.write_rows.Goals as goal

pub loop-a-init : goal.loop-a-init
loop-a-init c = written_none

pub loop-a-preserved : goal.loop-a-preserved
loop-a-preserved c = written_more c.loop-a.invariant c.loop-a-test.true c.requires.1 c.write_row.ensures

pub shape_of-table : goal.shape_of-table
shape_of-table c = c.loop-a.invariant.long

pub returns : goal.returns
returns c = written_all c.loop-a.invariant c.loop-a-test.false
