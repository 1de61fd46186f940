-- Each way out: questions 18 to 20, and what follows.
use native.Mathlib.Omega.{arith}
use mathlib.Core.Path.{◌≡◌, ap, ◌∙◌}
use mathlib.Core.Bool.{true, false}
use mathlib.Core.List.{[]}
use lib.ListN.{take}
use Rattle.std.proofs.Common.{rules}
use Rattle.base.specs.Lists.{distinct}
use Rattle.model.specs.Calls.{search_reply}
use Rattle.record_decoded.specs.Decoded.{execution_of}
use Rattle.record_decoded.proofs.Counts.{count_is}
use Rattle.relation_links.proofs.CompiledLaws.{few_processors, few_lines, few_instructions, few_pairs, few_operations, consecutive_here, compiled}
use Rattle.search_call.proofs.CallLaws.{searched_18, searched_19, searched_20, searched_on}
use Rattle.search_call.proofs.call.search_execution.Goals as goal

pub operations_of-t-requires : goal.operations_of-t-requires
operations_of-t-requires c =
    let bytes = c.args.bytes.now in
    let x = c.args.x in
    let a = c.requires in
    record {
      bounds = (few_processors bytes x a, few_instructions bytes x a, few_operations bytes x a);
      consecutive = consecutive_here bytes x a;
    }

pub returns-then-buffer-n : goal.returns-then-buffer-n
unfolding search_reply
returns-then-buffer-n c =
    let a = c.args in
    ap (search_reply a.saved a.buffer.now) (searched_18 a.buffer.now a.saved a.allowance (execution_of a.bytes.now a.x) _ (count_is a.bytes.now a.x _ c.operations_of-t.ensures.counts) c.if-buffer-n.true)

pub returns-then-n-saved : goal.returns-then-n-saved
unfolding search_reply
returns-then-n-saved c =
    let a = c.args in
    ap (search_reply a.saved a.buffer.now) (searched_19 a.buffer.now a.saved a.allowance (execution_of a.bytes.now a.x) _ (count_is a.bytes.now a.x _ c.operations_of-t.ensures.counts) c.if-buffer-n.false c.if-n-saved.true)

pub place_all-requires : goal.place_all-requires
place_all-requires c = omega (arith, c.operations_of-t.ensures.counts, few_operations c.args.bytes.now c.args.x c.requires)

pub returns-then-is_none : goal.returns-then-is_none
unfolding search_reply
returns-then-is_none c =
    let a = c.args in
    let n = c.operations_of-t.result.count in
    let other : distinct n [] (take a.saved a.buffer.now) ≡ false = search rules in
    ap (search_reply a.saved a.buffer.now) (searched_20 a.buffer.now a.saved a.allowance (execution_of a.bytes.now a.x) _ (count_is a.bytes.now a.x _ c.operations_of-t.ensures.counts) c.if-buffer-n.false c.if-n-saved.false other)

pub all_marks-marks-requires : goal.all_marks-marks-requires
all_marks-marks-requires c =
    let bytes = c.args.bytes.now in
    let x = c.args.x in
    let a = c.requires in
    (few_instructions bytes x a, few_lines bytes x a, few_pairs bytes x a)

pub search_on-requires : goal.search_on-requires
search_on-requires c =
    let a = c.args in
    let t = c.operations_of-t.ensures in
    let n = c.operations_of-t.result.count in
    let different : distinct n [] (take a.saved a.buffer.now) ≡ true = search rules in
    record {
      accepted = (c.requires, λ others. compiled others a.x t (c.all_marks-marks.ensures others));
      saved = (c.if-n-saved.false, c.if-buffer-n.false, different);
    }

pub returns : goal.returns
returns c =
    let a = c.args in
    let n = c.operations_of-t.result.count in
    let different : distinct n [] (take a.saved a.buffer.now) ≡ true = search rules in
    c.search_on.ensures
    ∙ ap (search_reply a.saved a.buffer.now) (searched_on a.buffer.now a.saved a.allowance (execution_of a.bytes.now a.x) _ (count_is a.bytes.now a.x _ c.operations_of-t.ensures.counts) c.if-buffer-n.false c.if-n-saved.false different)
