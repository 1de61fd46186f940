-- The pairs of both, each with an end behind them, are compared.
use mathlib.Core.Path.{◌∙◌}
use Rattle.record_form.proofs.LexLaws.{less_only}
use Rattle.record_form.proofs.sort.pairs_less.Goals as goal

pub returns : goal.returns
returns c =
    let o = c.own_pairs-left in
    let q = c.own_pairs-right in
    c.is_lt.ensures ∙ less_only c.lex_order.result _ _ c.lex_order.ensures o.ensures.0 q.ensures.0
