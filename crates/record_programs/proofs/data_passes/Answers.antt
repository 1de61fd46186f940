-- The spare bytes of the first eight, and of those after them.
use Rattle.std.proofs.Common.{rules}
use Rattle.record_programs.proofs.EntryLaws.{both_spare}
use Rattle.record_programs.proofs.data_passes.Goals as goal

pub returns-then-spare_zero : goal.returns-then-spare_zero
returns-then-spare_zero c = let both = both_spare c.args.size c.args.data.now in search rules

pub returns-else-spare_zero : goal.returns-else-spare_zero
returns-else-spare_zero c = let both = both_spare c.args.size c.args.data.now in search rules
