-- Each turn enters the row of one operation more.
use Prim.Native.Nat.{ℕ, ◌<◌}
use mathlib.Core.Path.{◌≡◌}
use mathlib.Core.List.{[]}
use lib.ListN.{get_or}
use lib.Dec.{eqb}
use Rattle.base.proofs.Entries.{Entered}
use Rattle.relation_links.specs.Linked.{linked_at}
use Rattle.relation_chain_table.proofs.square.links_square.Given as goal

abbrev pub invariant-loop-a : goal.invariant-loop-a
invariant-loop-a l = Entered 128 [] (λ i row. (b : ℕ) → b < l.t.count → eqb (get_or row b 0) 1 ≡ linked_at l.is l.t l.marks i b) l.a l.square
