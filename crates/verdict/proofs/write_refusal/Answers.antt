-- The line piece by piece.
use Prim.Native.Nat.{ℕ}
use mathlib.Core.Path.{ap}
use mathlib.Core.List.{◌++◌}
use Rattle.std.proofs.Common.{rules}
use Rattle.model.specs.Verdict.{word_refused, blank, decimal, line_feed}
use Rattle.verdict.proofs.TextLaws.{appends_both, appends_same}
use Rattle.verdict.proofs.write_refusal.Goals as goal

pub returns : goal.returns
returns c =
    appends_same (ap (λ (n : ℕ). word_refused ++ blank ++ decimal n ++ line_feed) (search rules))
    (appends_both (appends_both c.write_word-word.ensures c.write_number-number.ensures) c.write_word.ensures)
