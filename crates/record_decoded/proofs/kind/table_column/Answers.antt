-- The column of the table is that of the kind's row.
use native.Mathlib.Omega.{arith}
use Rattle.record_decoded.proofs.Counts.{column_below}
use Rattle.record_decoded.specs.Kinds.{meant}
use Rattle.record_decoded.proofs.kind.table_column.Goals as goal

pub returns : goal.returns
returns c = (c.kind_row.ensures.column_is, omega (arith, c.kind_row.ensures.column_is, column_below (meant c.args.k)))
