-- The loop pastes the first b marks of the row.
use Rattle.base.proofs.Copies.{Pasted}
use Rattle.relation_chain_table.specs.Squares.{row_marks}
use Rattle.relation_chain_table.proofs.rows.write_row.Given as goal

abbrev pub invariant-loop-b : goal.invariant-loop-b
invariant-loop-b l = Pasted l.initial.table l.at (row_marks l.m l.n l.from.0) l.b l.table
