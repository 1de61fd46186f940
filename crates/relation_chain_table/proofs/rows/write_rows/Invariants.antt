-- Each turn writes one row more.
use Rattle.relation_chain_table.proofs.RowLaws.{Written}
use Rattle.relation_chain_table.proofs.rows.write_rows.Given as goal

abbrev pub invariant-loop-a : goal.invariant-loop-a
invariant-loop-a l = Written l.m l.n l.initial.table l.a l.table
