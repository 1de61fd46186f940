-- Each turn writes one byte.
use mathlib.Core.Path.{◌≡◌}
use mathlib.Core.List.{◌∷◌, []}
use lib.ListN.{length}
use Rattle.verdict.proofs.TextLaws.{Writing}
use Rattle.verdict.proofs.text.write_word.Given as goal

abbrev pub invariant-loop-byte : goal.invariant-loop-byte
invariant-loop-byte l = (l.byte-index-end ≡ length l.word) × Writing l.initial.out l.at l.word (λ b. b ∷ []) l.byte-index l.out l.next
