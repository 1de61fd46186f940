-- The lines of the calls on the first 1,024 bytes, or of a refusal.
use Prim.Native.Nat.{ℕ}
use mathlib.Core.Path.{◌≡◌, ap, ◌∙◌}
use mathlib.Core.List.{List}
use Rattle.std.proofs.Common.{rules}
use Rattle.model.specs.Calls as calls
use Rattle.model.specs.Calls.{refuses}
use Rattle.model.specs.Verdict.{input_limit, call_limit, not_called, call_on}
use lib.ListN.{take}
use Rattle.record_decoded.specs.Refusals.{question_number}
use Rattle.verdict.specs.Totals.{total_of}
use Rattle.verdict.proofs.LineLaws.{verdict_printed, refusal_printed}
use Rattle.verdict.proofs.verdict.Goals as goal

pub returns-in-Ok : goal.returns-in-Ok
returns-in-Ok c =
    let input = c.args.input.now in
    let bytes = ap (λ (l : List ℕ). call_on l call_limit not_called) c.record_of-bytes.ensures in
    verdict_printed input c.in-Ok.total (c.in-Ok.ensures.came ∙ bytes) c.in-Ok.ensures.within.1 c.write_total.ensures

pub returns-in-Err : goal.returns-in-Err
returns-in-Err c =
    let input = c.args.input.now in
    let bytes = ap (λ (l : List ℕ). (call_on l call_limit not_called).answer) c.record_of-bytes.ensures in
    refusal_printed input (question_number c.in-Err.q) (c.in-Err.ensures.came ∙ bytes) c.write_refusal.ensures
