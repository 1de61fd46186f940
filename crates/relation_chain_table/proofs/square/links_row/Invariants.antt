-- Each turn enters the mark of one operation more.
use mathlib.Core.Path.{◌≡◌}
use lib.Dec.{eqb}
use Rattle.base.proofs.Entries.{Entered}
use Rattle.relation_links.specs.Linked.{linked_at}
use Rattle.relation_chain_table.proofs.square.links_row.Given as goal

abbrev pub invariant-loop-b : goal.invariant-loop-b
invariant-loop-b l = Entered 128 0 (λ j x. eqb x 1 ≡ linked_at l.fn.is l.t l.marks l.fn.from.0 j) l.b l.row
