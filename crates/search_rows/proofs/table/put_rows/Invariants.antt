-- Each turn puts in the row of one operation.
use Rattle.search_rows.proofs.TableLaws.{Filled}
use Rattle.search_rows.proofs.table.put_rows.Given as goal

abbrev pub invariant-loop-o : goal.invariant-loop-o
invariant-loop-o l = Filled l.bytes l.x l.t l.marks l.n l.rows l.o
