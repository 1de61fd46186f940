-- Each turn enters the mark of one column more.
use mathlib.Core.Path.{refl}
use native.Mathlib.Omega.{arith}
use Rattle.std.proofs.Common.{rules}
use Rattle.base.proofs.Entries.{entered_none, entered_more}
use Rattle.relation_chain_table.proofs.SquareLaws.{marks_as}
use Rattle.relation_chain_table.proofs.closure.joined_row.Goals as goal

pub loop-j-init : goal.loop-j-init
loop-j-init c = entered_none refl

pub loop-j-preserved : goal.loop-j-preserved
loop-j-preserved c = entered_more c.loop-j.invariant c.from.result (omega arith) (marks_as (search rules))

pub returns : goal.returns
returns c = λ j h. c.loop-j.invariant.holds j (omega (arith, h, c.loop-j-test.false))
