-- The left record is read, then the right one: the refusal of either, or both are compared.
use mathlib.Core.Path.{◌≡◌, ap, ◌∙◌}
use Rattle.std.proofs.Common.{rules}
use Rattle.model.specs.Calls.{says, refuses, read_all}
use Rattle.record_decoded.specs.Decoded.{execution_of}
use Rattle.record_decoded.specs.Refusals.{question_number}
use Rattle.record_compare.proofs.CompareLaws.{left_refused, left_accepted, right_refused, right_accepted}
use Rattle.record_compare.proofs.compare.Goals as goal

pub returns-in_err-x : goal.returns-in_err-x
returns-in_err-x c =
    let a = c.args in
    let left : read_all a.left.now ≡ refuses (question_number c.in_err-x.field-0.0) = search rules in
    let refused = left_refused a.left.now a.right.now left in
    search rules

pub returns-in_err-y : goal.returns-in_err-y
returns-in_err-y c =
    let a = c.args in
    let e = execution_of a.left.now c.in_ok-x.x in
    let left : read_all a.left.now ≡ says e = search rules in
    let right : read_all a.right.now ≡ refuses (question_number c.in_err-y.field-0.0) = search rules in
    let refused = right_refused e a.right.now right ∙ left_accepted a.left.now a.right.now left in
    search rules

pub returns : goal.returns
returns c =
    let a = c.args in
    let e = execution_of a.left.now c.in_ok-x.x in
    let f = execution_of a.right.now c.in_ok-y.y in
    let left : read_all a.left.now ≡ says e = search rules in
    let right : read_all a.right.now ≡ says f = search rules in
    ap says c.compare_accepted.ensures ∙ right_accepted e a.right.now right ∙ left_accepted a.left.now a.right.now left
