-- Some instruction breaks the rule with some instruction.
use borrow.Author.Tests.{tests}
use Rattle.std.proofs.Common.{rules}
use Rattle.relation_places.proofs.Ranges.{any_over_range}
use Rattle.judge_rules.specs.Tests.{pairs_broken}
use Rattle.judge_rules.proofs.prefix.Prefix.pairs_broken.Goals as goal

pub returns : goal.returns
unfolding pairs_broken
returns c = any_over_range _ _ _ _ c.any.result c.any.ensures.ran (λ x b q k. search (rules, tests))
