-- Each turn adds the operations of one instruction more.
use native.Mathlib.Omega.{arith}
use mathlib.Core.Path.{refl}
use Rattle.relation_links.proofs.OperationLaws.{next_first, next_fits, next_table, table_none, table_all}
use Rattle.relation_links.proofs.operations.operations_of.Goals as goal

pub loop-i-init : goal.loop-i-init
loop-i-init c = table_none c.args.is _ c.args.processors refl

pub with_operations-table-requires : goal.with_operations-table-requires
with_operations-table-requires c =
    let a = c.args in
    let table = c.loop-i.table in
    let inv = c.loop-i.invariant in record {
      next = (omega arith, omega arith, next_first a.is table table c.loop-i.i a.processors c.loop-i-test.true inv c.requires.consecutive);
      room = next_fits a.is table table c.loop-i.i a.processors c.loop-i-test.true inv c.requires.consecutive c.requires.bounds.2;
    }

pub loop-i-preserved : goal.loop-i-preserved
loop-i-preserved c =
    next_table c.args.is c.loop-i.table c.with_operations-table.result c.loop-i.i c.args.processors c.loop-i-test.true c.loop-i.invariant c.requires.consecutive
    c.with_operations-table.ensures

pub returns : goal.returns
returns c = table_all c.args.is c.loop-i.table c.args.processors c.loop-i.i c.loop-i-test.false c.loop-i.invariant
