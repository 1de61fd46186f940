-- Each turn is one call of the definition.
use Prim.Native.Nat.{ℕ, ◌+◌}
use native.Mathlib.Omega.{arith}
use mathlib.Core.Path.{◌≡◌, refl, ap, ◌∙◌}
use Rattle.std.proofs.Common.{rules}
use Rattle.model.specs.Calls as calls
use Rattle.model.specs.Calls.{says, refuses, search_call}
use Rattle.model.specs.Verdict.{call_allowance, call_limit, not_called, call_on}
use Rattle.record_decoded.specs.Refusals.{question_number}
use Rattle.search_resume.specs.Replies.{verdict_meant}
use Rattle.search_resume.specs.declared.steps.Verdict.{Verdict}
use Rattle.search_resume.specs.declared.steps.Verdict.TheVariants.{Unfinished}
use Rattle.verdict.proofs.CallLaws.{total, calls_start, call_short, calls_turn, calls_stop, calls_spent, other_verdict}
use Rattle.verdict.proofs.calls.search_in_calls.Goals as goal

pub loop-init : goal.loop-init
loop-init c = calls_start c.empty-length.ensures.1 c.empty-length.ensures.3

pub returns-in_err-reply-clause-came : goal.returns-in_err-reply-clause-came
returns-in_err-reply-clause-came c =
    let inv = c.loop.invariant in
    let q = question_number c.in_err-reply.field-0.0 in
    let same : total (refuses q) 0 c.loop.length c.search.new.buffer ≡ search_call c.args.bytes.now c.loop.buffer c.loop.length call_allowance = search rules in
    let stops = ap (λ (r : calls.SearchReply). r.answer) (calls_stop inv (refuses q) 0 c.loop.length same c.search.auto.buffer c.loop-test.true refl) in
    search rules

pub returns-then-ne-clause-came : goal.returns-then-ne-clause-came
returns-then-ne-clause-came c =
    let inv = c.loop.invariant in
    let reply = c.in_ok-reply.reply in
    let same : total (says (verdict_meant reply.verdict)) reply.steps reply.length c.search.new.buffer ≡ search_call c.args.bytes.now c.loop.buffer c.loop.length call_allowance = search rules in
    let other : reply.verdict ≡ Unfinished → ⊥ = search rules in
    let stops = calls_stop inv (says (verdict_meant reply.verdict)) reply.steps reply.length same c.search.auto.buffer c.loop-test.true (other_verdict reply.verdict other) in
    ap (λ (k : ℕ). total (says (verdict_meant reply.verdict)) (c.loop.steps + k) reply.length c.search.new.buffer) c.from-steps.ensures ∙ stops

pub returns-then-ne-clause-within : goal.returns-then-ne-clause-within
returns-then-ne-clause-within c =
    let inv = c.loop.invariant in
    let reply = c.in_ok-reply.reply in
    let same : total (says (verdict_meant reply.verdict)) reply.steps reply.length c.search.new.buffer ≡ search_call c.args.bytes.now c.loop.buffer c.loop.length call_allowance = search rules in
    (call_short inv (says (verdict_meant reply.verdict)) reply.steps reply.length same c.search.auto.buffer, c.search.auto.buffer ∙ inv.long)

pub loop-preserved : goal.loop-preserved
loop-preserved c =
    let inv = c.loop.invariant in
    let reply = c.in_ok-reply.reply in
    let same : total (says (verdict_meant reply.verdict)) reply.steps reply.length c.search.new.buffer ≡ search_call c.args.bytes.now c.loop.buffer c.loop.length call_allowance = search rules in
    let unfinished : reply.verdict ≡ Unfinished = search rules in
    let turn = calls_turn inv (says (verdict_meant reply.verdict)) reply.steps reply.length same c.search.auto.buffer c.loop-test.true (omega arith) (ap (λ (v : Verdict). says (verdict_meant v)) unfinished) in
    search rules

pub returns-clause-came : goal.returns-clause-came
returns-clause-came c = calls_spent c.loop.invariant c.loop-test.false
