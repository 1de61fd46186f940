-- Each turn enters the mark of one operation more.
use mathlib.Core.Path.{refl}
use native.Mathlib.Omega.{arith}
use Rattle.std.proofs.Common.{rules}
use Rattle.base.proofs.Entries.{entered_none, entered_more}
use Rattle.relation_links.specs.Linked.{linked_at}
use Rattle.relation_chain_table.proofs.SquareLaws.{marks_as}
use Rattle.relation_chain_table.proofs.square.links_row.Goals as goal

pub loop-b-init : goal.loop-b-init
loop-b-init c = entered_none refl

pub loop-b-preserved : goal.loop-b-preserved
unfolding linked_at
loop-b-preserved c = entered_more c.loop-b.invariant c.from.result (omega arith) (marks_as (search rules))

pub returns : goal.returns
returns c = λ j h. c.loop-b.invariant.holds j (omega (arith, h, c.loop-b-test.false))
