-- Some RV stands after it.
use borrow.Author.Tests.{tests}
use Rattle.std.proofs.Common.{rules}
use Rattle.relation_places.proofs.Ranges.{any_over_range}
use Rattle.judge_rules.proofs.prefix.Prefix.is_before_remote.Goals as goal

pub returns : goal.returns
returns c = any_over_range _ _ _ _ c.any.result c.any.ensures.ran (λ x b q k. search (rules, tests))
