-- The lines fit their buffer, so what is printed is all of them.
use Rattle.std.proofs.Common.{arith}
use Rattle.verdict.proofs.LineLaws.{printed_whole}
use Rattle.oglindesh.proofs.main.Goals as goal

pub print-requires : goal.print-requires
print-requires c = printed_whole c.verdict-length.ensures (omega arith)
