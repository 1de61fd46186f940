-- A fence has size 0; else the size is one of the kind's first ones.
use mathlib.Core.Path.{◌∙◌}
use Rattle.std.proofs.Common.{rules}
use Rattle.record_decoded.specs.Kinds.{meant}
use Rattle.record_programs.proofs.EntryLaws.{fence_size, size_by_count, member_of}
use Rattle.record_programs.proofs.size_passes.Goals as goal

pub returns-then-is_fence : goal.returns-then-is_fence
returns-then-is_fence c = fence_size (meant c.args.k) c.args.size (search rules)

pub returns : goal.returns
returns c =
    let a = c.args in
    let by_count = size_by_count (meant a.k) a.size c.size_count.result (search rules) c.size_count.ensures.0 in
    c.contains.ensures.value ∙ member_of _ a.size ∙ by_count
