-- The blank, then the digits.
use Rattle.verdict.proofs.TextLaws.{appends_both}
use Rattle.verdict.proofs.write_number.Goals as goal

pub returns : goal.returns
returns c = appends_both c.write_word-next.ensures c.write_decimal.ensures
