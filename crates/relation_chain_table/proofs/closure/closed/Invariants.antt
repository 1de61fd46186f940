-- Each turn closes the square by way of one operation more.
use Rattle.relation_chain_table.proofs.SquareLaws.{Closing}
use Rattle.relation_chain_table.proofs.closure.closed.Given as goal

abbrev pub invariant-loop-k : goal.invariant-loop-k
invariant-loop-k l = Closing l.n l.initial.square l.k l.square
