-- The byte is shifted to its place.
use native.Mathlib.Omega.{arith}
use Rattle.search_rows.proofs.LineLaws.{with_byte_is}
use Rattle.search_rows.proofs.line.with_byte.Goals as goal

pub returns : goal.returns
returns c = λ i l. with_byte_is c.args.word c.args.byte c.args.place i (omega arith) c.requires l
