-- Each turn adds the operations of one instruction more.
use lib.ListN.{take}
use Rattle.base.specs.Lists.{for}
use Rattle.model.specs.Execution.{operation_count, operations_of}
use Rattle.record_decoded.specs.Decoded.{instructions_of}
use Rattle.relation_links.specs.Operations.{Tabled}
use Rattle.relation_links.proofs.operations.operations_of.Given as goal

abbrev pub invariant-loop-i : goal.invariant-loop-i
invariant-loop-i l =
    Tabled l.is l.table (for (take l.i (instructions_of l.is)) (operations_of l.processors)) (operation_count l.processors (take l.i (instructions_of l.is)))
