-- The row of the table is that of the kind's row.
use native.Mathlib.Omega.{arith}
use Rattle.record_decoded.proofs.Counts.{row_below}
use Rattle.record_decoded.specs.Kinds.{meant}
use Rattle.record_decoded.proofs.kind.table_row.Goals as goal

pub returns : goal.returns
returns c = (c.kind_row.ensures.row_is, omega (arith, c.kind_row.ensures.row_is, row_below (meant c.args.k)))
