-- Each turn puts in one word.
use Prim.Native.Nat.{◌+◌, ◌≤◌}
use mathlib.Core.Path.{◌≡◌}
use lib.ListN.{length}
use Rattle.search_rows.specs.Puts.{Put}
use Rattle.search_rows.proofs.table.put_row.Given as goal

abbrev pub invariant-loop-f : goal.invariant-loop-f
invariant-loop-f l = (l.f ≤ 21) × (l.at + 21 ≤ 2688) × (length l.initial.rows ≡ 2688) × Put l.initial.rows l.row l.at l.f l.rows
