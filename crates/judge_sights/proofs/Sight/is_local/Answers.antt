-- Some store makes it local.
use borrow.Author.Tests.{tests}
use Rattle.std.proofs.Common.{rules}
use Rattle.relation_places.proofs.Ranges.{any_over_range}
use Rattle.judge_sights.specs.Sights.{local_by}
use Rattle.judge_sights.proofs.Sight.is_local.Goals as goal

pub returns : goal.returns
unfolding local_by
returns c = any_over_range _ _ _ _ c.any.result c.any.ensures.ran (λ x b q k. search (rules, tests))
