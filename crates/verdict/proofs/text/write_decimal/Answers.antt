-- The digits are written as they were found.
use Prim.Native.Nat.{ℕ, ◌-◌}
use mathlib.Core.Path.{sym, ap, ◌∙◌}
use lib.ListN.{take, drop}
use Rattle.base.proofs.Copies.{rest}
use Rattle.verdict.proofs.TextLaws.{appends_same}
use Rattle.verdict.proofs.text.write_decimal.Goals as goal

pub returns : goal.returns
returns c =
    let found = c.digits_of-digits in
    appends_same (ap (λ (k : ℕ). take (k - found.result.first) (drop found.result.first found.result.bytes)) (sym found.ensures.2) ∙ rest found.result.first found.result.bytes ∙ found.ensures.0)
    c.write_word.ensures
