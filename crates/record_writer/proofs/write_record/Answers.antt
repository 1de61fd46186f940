-- The record is composed and read: its refusal, question 25, or the record copied out.
use Prim.Native.Nat.{ℕ, ◌≤◌}
use mathlib.Core.Path.{◌≡◌, ap, ◌∙◌}
use mathlib.Core.List.{List, ◌++◌}
use lib.ListN.{length, take, drop}
use Rattle.std.proofs.Common.{rules}
use Rattle.model.specs.Calls.{refuses, says, done, read_all, record_reply}
use Rattle.record_decoded.specs.Decoded.{execution_of}
use Rattle.record_decoded.specs.Refusals.{question_number}
use Rattle.model.specs.Sections.{sections_from}
use Rattle.record_writer.proofs.ReplyLaws.{reply_refused, reply_short, reply_done}
use Rattle.record_writer.proofs.write_record.Goals as goal

pub returns-in_err-read : goal.returns-in_err-read
unfolding record_reply
returns-in_err-read c =
    let a = c.args in
    let k = c.compose-length in
    let room : k.result ≤ length k.new.out = search rules in
    let read : read_all (take k.result k.new.out) ≡ refuses (question_number c.in_err-read.field-0.0) = search rules in
    let refused = reply_refused (sections_from a.processors a.lines.now a.instructions.now a.pairs.now) a.buffer.now c.requires k.new.out k.result room k.ensures.0 _ read in
    search rules

pub returns-then-buffer-length : goal.returns-then-buffer-length
unfolding record_reply
returns-then-buffer-length c =
    let a = c.args in
    let k = c.compose-length in
    let room : k.result ≤ length k.new.out = search rules in
    let x = execution_of (take k.result k.new.out) c.in_ok-read.field-0 in
    let read : read_all (take k.result k.new.out) ≡ says x = search rules in
    reply_short (sections_from a.processors a.lines.now a.instructions.now a.pairs.now) a.buffer.now c.requires k.new.out k.result room k.ensures.0 x read c.if-buffer-length.true

pub returns : goal.returns
returns c =
    let a = c.args in
    let k = c.compose-length in
    let room : k.result ≤ length k.new.out = search rules in
    let x = execution_of (take k.result k.new.out) c.in_ok-read.field-0 in
    let read : read_all (take k.result k.new.out) ≡ says x = search rules in
    ap (λ (l : List ℕ). record { answer = says done; length = k.result; buffer = l ++ drop k.result a.buffer.now }) c.copy_from_slice.ensures.after
    ∙ reply_done (sections_from a.processors a.lines.now a.instructions.now a.pairs.now) a.buffer.now c.requires k.new.out k.result room k.ensures.0 x read c.if-buffer-length.false
