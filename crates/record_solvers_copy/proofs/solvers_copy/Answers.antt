-- The record is read: its refusal, question 25, or the record copied and cleared of all that was seen.
use Prim.Native.Nat.{ℕ}
use mathlib.Core.Path.{◌≡◌, ap, ◌∙◌}
use mathlib.Core.List.{List, ◌++◌}
use lib.ListN.{length, drop}
use Rattle.std.proofs.Common.{rules}
use Rattle.model.specs.Calls.{refuses, says, done, read_all, record_reply}
use Rattle.model.specs.SolversCopy.{seen_places, zeroed}
use Rattle.record_decoded.specs.Decoded.{instructions_of, execution_of}
use Rattle.record_decoded.specs.Refusals.{question_number}
use Rattle.record_solvers_copy.proofs.CopyLaws.{copied_whole, copy_refused, copy_lines, copy_instructions, copy_short, copy_within, copy_done}
use Rattle.record_solvers_copy.proofs.solvers_copy.Goals as goal

pub returns-in_err-execution : goal.returns-in_err-execution
unfolding record_reply
returns-in_err-execution c =
    let told : read_all c.args.bytes.now ≡ refuses (question_number c.in_err-execution.field-0.0) = search rules in
    let refused = copy_refused c.args.bytes.now c.args.buffer.now _ told in
    search rules

pub returns-then-buffer-bytes : goal.returns-then-buffer-bytes
unfolding record_reply
returns-then-buffer-bytes c =
    let x = c.in_ok-execution.execution in
    let told : read_all c.args.bytes.now ≡ says (execution_of c.args.bytes.now x) = search rules in
    copy_short c.args.bytes.now c.args.buffer.now x told c.if-buffer-bytes.true

pub clear_seen-requires : goal.clear_seen-requires
clear_seen-requires c =
    let x = c.in_ok-execution.execution in
    let bytes = c.args.bytes.now in
    let told : read_all bytes ≡ says (execution_of bytes x) = search rules in
    let within = copy_within bytes c.args.buffer.now x told in
    (copy_lines bytes c.args.buffer.now x told, copy_instructions bytes c.args.buffer.now x told, search rules)

pub returns : goal.returns
returns c =
    let x = c.in_ok-execution.execution in
    let told : read_all c.args.bytes.now ≡ says (execution_of c.args.bytes.now x) = search rules in
    let places = seen_places x.lines.count (instructions_of x.instructions) in
    ap (λ (l : List ℕ). record { answer = says done; length = length c.args.bytes.now; buffer = l ++ drop (length c.args.bytes.now) c.args.buffer.now })
    (c.clear_seen.ensures ∙ ap (zeroed places) (copied_whole c.args.bytes.now c.args.buffer.now c.if-buffer-bytes.false c.copy_bytes.ensures)) ∙ copy_done c.args.bytes.now c.args.buffer.now x told c.if-buffer-bytes.false
