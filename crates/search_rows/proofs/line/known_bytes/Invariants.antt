-- Each turn looks at one byte; past the end there is 0.
use Prim.Native.Nat.{ℕ, ◌<◌, ◌≤◌}
use lib.ListN.{get_or}
use Rattle.search_rows.proofs.line.known_bytes.Given as goal

abbrev pub invariant-loop-j : goal.invariant-loop-j
invariant-loop-j l = (l.j ≤ l.n) × ((i : ℕ) → i < l.j → get_or l.bytes i 0 < 256)
