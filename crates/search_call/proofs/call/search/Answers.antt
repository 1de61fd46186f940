-- A refused record; else the search of its execution.
use mathlib.Core.Path.{◌≡◌, ◌∙◌}
use Rattle.std.proofs.Common.{rules}
use Rattle.model.specs.Calls.{says, refuses, read_all, search_reply}
use Rattle.record_decoded.specs.Decoded.{execution_of}
use Rattle.record_decoded.specs.Refusals.{question_number}
use Rattle.model.proofs.Accepted.{read_accepted}
use Rattle.search_call.proofs.CallLaws.{search_accepted, search_refused}
use Rattle.search_call.proofs.call.search.Goals as goal

pub returns-in_err-x : goal.returns-in_err-x
unfolding search_reply
returns-in_err-x c =
    let a = c.args in
    let told : read_all a.bytes.now ≡ refuses (question_number c.in_err-x.field-0.0) = search rules in
    let refused = search_refused a.buffer.now a.saved a.allowance a.bytes.now _ told in
    search rules

pub search_execution-requires : goal.search_execution-requires
search_execution-requires c =
    let bytes = c.args.bytes.now in
    let told : read_all bytes ≡ says (execution_of bytes c.in_ok-x.x) = search rules in
    read_accepted bytes (execution_of bytes c.in_ok-x.x) told

pub returns : goal.returns
returns c =
    let a = c.args in
    let e = execution_of a.bytes.now c.in_ok-x.x in
    let told : read_all a.bytes.now ≡ says e = search rules in
    c.search_execution.ensures ∙ search_accepted a.buffer.now a.saved a.allowance a.bytes.now e told
