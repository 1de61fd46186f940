-- By the kind: each way out gives the length that the kind and the size say.
use Rattle.std.proofs.Common.{rules}
use native.Mathlib.Omega.{arith}
use Rattle.record_writer.proofs.WalkLaws.{length_unknown, length_fence, length_access}
use Rattle.record_writer.proofs.entries.entry_length.Goals as goal

pub returns-then-k-gt-LAST_KIND : goal.returns-then-k-gt-LAST_KIND
returns-then-k-gt-LAST_KIND c =
    let unknown = length_unknown c.args.part.now (search rules) in
    (search rules, omega arith, omega arith)

pub returns-then-is_fence : goal.returns-then-is_fence
returns-then-is_fence c =
    let fence = length_fence c.args.part.now (search rules) in
    (search rules, omega arith, omega arith)

pub returns : goal.returns
returns c =
    let access = length_access c.args.part.now c.more_length.result (search rules) (search rules) (search rules) in
    (search rules, omega (arith, c.more_length.ensures.1), omega (arith, c.more_length.ensures.1))
