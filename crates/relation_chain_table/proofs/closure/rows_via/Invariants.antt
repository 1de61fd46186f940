-- Each turn enters one row more.
use Prim.Native.Nat.{ℕ, ◌<◌}
use mathlib.Core.Path.{◌≡◌}
use mathlib.Core.List.{[]}
use lib.ListN.{get_or}
use lib.Dec.{eqb}
use Rattle.base.proofs.Entries.{Entered}
use Rattle.relation_chain_table.specs.Squares.{marked, via}
use Rattle.relation_chain_table.proofs.closure.rows_via.Given as goal

abbrev pub invariant-loop-i : goal.invariant-loop-i
invariant-loop-i l = Entered 128 [] (λ a row. (b : ℕ) → b < l.n → eqb (get_or row b 0) 1 ≡ via l.way.0 (marked l.m) a b) l.i l.rows
