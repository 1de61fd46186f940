-- Each turn enters the mark of one column more.
use mathlib.Core.Path.{◌≡◌}
use mathlib.Core.Bool.{◌||◌}
use lib.Dec.{eqb}
use Rattle.base.proofs.Entries.{Entered}
use Rattle.relation_chain_table.specs.Squares.{marked}
use Rattle.relation_chain_table.proofs.closure.joined_row.Given as goal

abbrev pub invariant-loop-j : goal.invariant-loop-j
invariant-loop-j l = Entered 128 0 (λ b x. eqb x 1 ≡ (marked l.m l.from.0 b || marked l.m l.way.0 b)) l.j l.row
