-- Each turn puts in the bits of one byte.
use mathlib.Core.Bool.{true}
use Rattle.search_rows.proofs.LineLaws.{BytesIn}
use Rattle.search_rows.proofs.line.bits_from.Given as goal

abbrev pub invariant-loop-j : goal.invariant-loop-j
invariant-loop-j l = BytesIn (λ i. true) l.place l.size l.j l.word
