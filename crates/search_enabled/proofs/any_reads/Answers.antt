-- Some operation reads a word.
use Rattle.std.proofs.Common.{rules}
use borrow.Author.Tests.{tests}
use Rattle.relation_places.proofs.Ranges.{any_over_range}
use Rattle.search_enabled.proofs.any_reads.Goals as goal

pub returns : goal.returns
returns c = any_over_range _ _ _ _ c.any.result c.any.ensures.ran (λ x b q k. search (rules, tests))
