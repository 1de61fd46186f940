-- A load, some byte of which is another.
use borrow.Author.Tests.{tests}
use Rattle.std.proofs.Common.{rules}
use Rattle.record_decoded.specs.Kinds.{meant}
use Rattle.record_decoded.specs.Decoded.{instruction_at}
use Rattle.relation_places.proofs.Ranges.{any_over_range}
use Rattle.judge_sights.proofs.SightLaws.{load_none, load_is}
use Rattle.judge_sights.proofs.load_broken.Goals as goal

pub returns-then-is_load : goal.returns-then-is_load
unfolding instruction_at
returns-then-is_load c =
    load_is c.args.bytes.now c.args.x.now c.args.places.now c.args.i.0 (meant c.kind_at.result) c.kind_at.ensures (search rules) c.size_of.result c.size_of.ensures.0 c.any.result
    (any_over_range _ _ _ _ c.any.result c.any.ensures.ran (λ x b q k. search (rules, tests)))

pub returns-else-is_load : goal.returns-else-is_load
unfolding instruction_at
returns-else-is_load c =
    let none = load_none c.args.bytes.now c.args.x.now c.args.places.now c.args.i.0 (meant c.kind_at.result) c.kind_at.ensures (search rules) in
    search rules
