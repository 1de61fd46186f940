-- A refused record; else the judge of its execution.
use mathlib.Core.Path.{◌≡◌, ◌∙◌}
use Rattle.std.proofs.Common.{rules}
use Rattle.model.specs.Calls.{says, refuses, read_all}
use Rattle.record_decoded.specs.Decoded.{execution_of}
use Rattle.record_decoded.specs.Refusals.{question_number}
use Rattle.judge_call.proofs.JudgeLaws.{judge_accepted, judge_refused}
use Rattle.model.proofs.Accepted.{read_accepted}
use Rattle.judge_call.proofs.judge.Goals as goal

pub returns-in_err-x : goal.returns-in_err-x
returns-in_err-x c =
    let told : read_all c.args.bytes.now ≡ refuses (question_number c.in_err-x.field-0.0) = search rules in
    let refused = judge_refused c.args.bytes.now c.args.order.now _ told in
    search rules

pub judge_order-requires : goal.judge_order-requires
judge_order-requires c =
    let bytes = c.args.bytes.now in
    let told : read_all bytes ≡ says (execution_of bytes c.in_ok-x.x) = search rules in
    read_accepted bytes (execution_of bytes c.in_ok-x.x) told

pub returns : goal.returns
returns c =
    let bytes = c.args.bytes.now in
    let e = execution_of bytes c.in_ok-x.x in
    let told : read_all bytes ≡ says e = search rules in
    c.judge_order.ensures ∙ judge_accepted bytes c.args.order.now e told
