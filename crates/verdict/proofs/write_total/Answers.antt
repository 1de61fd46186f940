-- Each arm writes its line piece by piece.
use Rattle.verdict.proofs.TextLaws.{appends_both, appends_same}
use Rattle.std.proofs.Common.{rules}
use mathlib.Core.Path.{sym}
use Rattle.model.specs.Verdict.{lines}
use Rattle.verdict.proofs.LineLaws.{lines_told}
use Rattle.verdict.proofs.write_total.Goals as goal

pub returns-in-Allowed : goal.returns-in-Allowed
unfolding lines
returns-in-Allowed c =
    appends_same (lines_told c.args.total c.in-Allowed.is)
    (appends_both (appends_both (appends_both c.write_word-word.ensures c.write_order-order.ensures) c.write_word-line.ensures) c.write_steps.ensures)

pub returns-in-Forbidden : goal.returns-in-Forbidden
unfolding lines
returns-in-Forbidden c =
    appends_same (lines_told c.args.total c.in-Forbidden.is)
    (appends_both c.write_word-line-in-Forbidden.ensures c.write_steps-in-Forbidden.ensures)

pub returns-in-Unfinished : goal.returns-in-Unfinished
unfolding lines
returns-in-Unfinished c =
    appends_same (lines_told c.args.total c.in-Unfinished.is)
    (appends_both c.write_word-line-in-Unfinished.ensures c.write_steps-in-Unfinished.ensures)
