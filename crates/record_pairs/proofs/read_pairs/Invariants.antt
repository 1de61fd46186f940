-- Each turn reads one pair more; what is left decides the whole.
use mathlib.Core.Path.{◌≡◌}
use mathlib.Core.List.{[]}
use lib.ListN.{drop}
use Rattle.model.specs.Questions.{read_pair, many}
use Rattle.record_decoded.specs.Decoded.{instructions_of, pairs_of}
use Rattle.record_decoded.proofs.Items.{Going}
use Rattle.record_pairs.proofs.read_pairs.Given as goal

abbrev pub invariant-loop : goal.invariant-loop
invariant-loop l =
    Going (read_pair (instructions_of l.is)) (many (read_pair (instructions_of l.is)) l.n [] (drop 1 l.part)) l.n l.counter (pairs_of l.pairs) l.rest × (l.pairs.count ≡ l.counter)
