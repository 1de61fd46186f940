-- Processor n comes after those passed; the first that it comes before has its place.
use Rattle.record_decoded.specs.Decoded.{instructions_of, pairs_of}
use Rattle.record_renumbering.specs.Keys.{key_less}
use Rattle.record_form.proofs.SortLaws.{NotLess}
use Rattle.record_form.proofs.sort.place_for.Given as goal

abbrev pub invariant-loop-j : goal.invariant-loop-j
invariant-loop-j l = NotLess (key_less (instructions_of l.x.instructions) (pairs_of l.x.pairs)) l.n l.order.processors l.n l.j
