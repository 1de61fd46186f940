-- Each turn puts in one byte, relative to the initial byte of its own address.
use Prim.Native.Nat.{◌+◌, ◌*◌, ◌-◌, ◌/◌, ◌%◌}
use lib.ListN.{get_or}
use Rattle.base.specs.Bits.{bit}
use Rattle.record_decoded.specs.Decoded.{initial_of}
use Rattle.search_admit.specs.Rows.{relative}
use Rattle.search_rows.proofs.LineLaws.{BytesIn}
use Rattle.search_rows.proofs.line.relative_from.Given as goal

abbrev pub invariant-loop-j : goal.invariant-loop-j
invariant-loop-j l =
    BytesIn (λ i. bit (relative (get_or l.data (l.at + (i / 8 - l.place)) 0) (initial_of l.bytes l.count (8 * (l.address / 8) + i / 8))) (i % 8)) l.place l.size l.j l.word
