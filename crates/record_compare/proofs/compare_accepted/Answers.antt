-- The smallest forms of both are compared.
use Rattle.record_decoded.specs.Decoded.{execution_of}
use Rattle.record_compare.proofs.CompareLaws.{by_order}
use Rattle.record_compare.proofs.compare_accepted.Goals as goal

pub returns : goal.returns
returns c =
    let a = c.args in
    by_order a.left.now a.right.now (execution_of a.left.now a.x) (execution_of a.right.now a.y) c.requires.0 c.requires.1 c.lex_order.result _ _ c.lex_order.ensures
    c.put_form-left_length.ensures.0 c.put_form-right_length.ensures.0
