-- Each way out: questions 16 and 17, then what the lowest broken rule says.
use native.Mathlib.Omega.{arith}
use mathlib.Core.Path.{◌≡◌, ◌∙◌}
use mathlib.Core.Bool.{false}
use mathlib.Core.List.{[]}
use Rattle.std.proofs.Common.{rules}
use Rattle.base.specs.Lists.{distinct}
use Rattle.relation_places.specs.Places.{Placed}
use Rattle.record_decoded.specs.Decoded.{execution_of}
use Rattle.record_decoded.proofs.Counts.{count_is}
use Rattle.relation_links.proofs.CompiledLaws.{few_processors, few_lines, few_instructions, few_pairs, few_operations, consecutive_here, compiled}
use Rattle.judge_call.proofs.JudgeLaws.{judged_16, judged_17, judged_rules, told_lowest}
use Rattle.judge_call.proofs.judge_order.Goals as goal

pub operations_of-t-requires : goal.operations_of-t-requires
operations_of-t-requires c =
    let bytes = c.args.bytes.now in
    let x = c.args.x in
    let a = c.requires in
    record {
      bounds = (few_processors bytes x a, few_instructions bytes x a, few_operations bytes x a);
      consecutive = consecutive_here bytes x a;
    }

pub returns-then-order-t : goal.returns-then-order-t
returns-then-order-t c =
    let a = c.args in
    judged_16 (execution_of a.bytes.now a.x) a.order.now _ (count_is a.bytes.now a.x _ c.operations_of-t.ensures.counts) (search rules)

pub place_all-requires : goal.place_all-requires
place_all-requires c = omega (arith, c.operations_of-t.ensures.counts, few_operations c.args.bytes.now c.args.x c.requires)

pub returns-in_err-places : goal.returns-in_err-places
returns-in_err-places c =
    let a = c.args in
    let n = c.operations_of-t.result.count in
    let other : distinct n [] a.order.now ≡ false = search rules in
    let refused = judged_17 (execution_of a.bytes.now a.x) a.order.now _ (count_is a.bytes.now a.x _ c.operations_of-t.ensures.counts) (search rules) other in
    search rules

pub all_marks-marks-requires : goal.all_marks-marks-requires
all_marks-marks-requires c =
    let bytes = c.args.bytes.now in
    let x = c.args.x in
    let a = c.requires in
    (few_instructions bytes x a, few_lines bytes x a, few_pairs bytes x a)

pub lowest_broken-requires : goal.lowest_broken-requires
lowest_broken-requires c =
    let bytes = c.args.bytes.now in
    let x = c.args.x in
    let a = c.requires in
    let t = c.operations_of-t.ensures in
    record {
      bounds = (few_instructions bytes x a, few_lines bytes x a, few_processors bytes x a, omega (arith, t.counts, few_operations bytes x a));
      compiled = λ every. compiled every x t (c.all_marks-marks.ensures every);
    }

pub returns : goal.returns
returns c =
    let a = c.args in
    let n = c.operations_of-t.result.count in
    let places = c.in_ok-places.places in
    let placed : Placed n a.order.now places = (search rules) in
    told_lowest c.lowest_broken.result
    ∙ judged_rules (execution_of a.bytes.now a.x) a.order.now _ (count_is a.bytes.now a.x _ c.operations_of-t.ensures.counts) (search rules) placed.different _
    (c.lowest_broken.ensures n a.order.now placed)
