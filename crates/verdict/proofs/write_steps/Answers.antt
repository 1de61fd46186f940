-- The word, the number, the line feed.
use Rattle.verdict.proofs.TextLaws.{appends_both}
use Rattle.verdict.proofs.write_steps.Goals as goal

pub returns : goal.returns
returns c = appends_both (appends_both c.write_word-word.ensures c.write_number-count.ensures) c.write_word.ensures
