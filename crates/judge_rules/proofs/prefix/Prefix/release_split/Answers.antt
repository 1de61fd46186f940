-- Some operation splits the RVs.
use borrow.Author.Tests.{tests}
use Rattle.std.proofs.Common.{rules}
use Rattle.relation_places.proofs.Ranges.{any_over_range}
use Rattle.judge_rules.specs.Tests.{release_split}
use Rattle.judge_rules.proofs.prefix.Prefix.release_split.Goals as goal

pub returns : goal.returns
unfolding release_split
returns c = any_over_range _ _ _ _ c.any.result c.any.ensures.ran (λ x b q k. search (rules, tests))
