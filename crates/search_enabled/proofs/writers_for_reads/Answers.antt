-- Some operation reads, or none.
use mathlib.Core.Path.{sym, ◌∙◌}
use Rattle.base.proofs.Bools.{clash}
use Rattle.base.proofs.Tests.{none_at}
use Rattle.search_enabled.specs.Affects.{reads}
use Rattle.search_enabled.proofs.writers_for_reads.Goals as goal

pub returns-then-any_reads : goal.returns-then-any_reads
returns-then-any_reads c = λ y l t. c.all_writers.ensures

pub returns-else-any_reads : goal.returns-else-any_reads
returns-else-any_reads c =
    λ y l t. clash t (none_at (reads c.args.rows.now) c.args.n (sym c.any_reads.ensures ∙ c.if-any_reads.false) y l)
