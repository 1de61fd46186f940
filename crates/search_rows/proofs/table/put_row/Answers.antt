-- Each turn puts in one word.
use native.Mathlib.Omega.{arith}
use Rattle.search_rows.proofs.TableLaws.{put_none, put_more, put_done}
use Rattle.search_rows.proofs.table.put_row.Goals as goal

pub loop-f-init : goal.loop-f-init
loop-f-init c = (omega arith, omega (arith, c.requires.0), c.requires.1, put_none)

pub loop-f-smaller : goal.loop-f-smaller
loop-f-smaller c = omega (arith, c.loop-f-test.true)

pub loop-f-preserved : goal.loop-f-preserved
loop-f-preserved c = let inv = c.loop-f.invariant in (omega (arith, c.loop-f-test.true), inv.1, inv.2, put_more inv.3 (omega (arith, c.loop-f-test.true, inv.1, inv.2)))

pub returns : goal.returns
returns c = put_done c.loop-f.invariant.3 (omega (arith, c.loop-f-test.false, c.loop-f.invariant.0))
