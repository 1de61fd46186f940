-- Each turn reads one line more; what is left decides the whole.
use Prim.Native.Nat.{◌+◌, ◌*◌}
use mathlib.Core.Path.{◌≡◌}
use mathlib.Core.List.{[]}
use lib.ListN.{drop}
use Rattle.model.specs.Questions.{read_line, many}
use Rattle.record_decoded.specs.Decoded.{lines_of}
use Rattle.record_decoded.proofs.Items.{Going}
use Rattle.record_lines.proofs.read_lines.Given as goal

abbrev pub invariant-loop : goal.invariant-loop
invariant-loop l = Going (λ done. read_line) (many (λ done. read_line) l.n [] (drop 1 l.part)) l.n l.counter (lines_of l.part l.lines) l.rest × (l.lines.count ≡ l.counter) × (l.rest ≡ drop (1 + 9 * l.counter) l.part)
