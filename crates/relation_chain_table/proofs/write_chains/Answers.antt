-- The tables of the execution, question 22, the square of links, its closure, and the rows.
use native.Mathlib.Omega.{arith}
use mathlib.Core.List.{[]}
use Rattle.relation_links.proofs.CompiledLaws.{few_processors, few_lines, few_instructions, few_pairs, few_operations, consecutive_here, compiled}
use Rattle.relation_chain_table.proofs.TableLaws.{few, square_few, refuses_22, owners_few, says_marks}
use Rattle.relation_chain_table.proofs.write_chains.Goals as goal

pub operations_of-t-requires : goal.operations_of-t-requires
operations_of-t-requires c =
    let x = c.args.x in
    let a = c.requires [] in
    record {
      bounds = (few_processors [] x a, few_instructions [] x a, few_operations [] x a);
      consecutive = consecutive_here [] x a;
    }

pub overflow_mul-n : goal.overflow_mul-n
overflow_mul-n c = omega (arith, square_few [] c.args.x (c.requires []) c.operations_of-t.ensures)

pub returns-then-table-n : goal.returns-then-table-n
returns-then-table-n c = λ bytes. refuses_22 bytes c.args.x (c.requires bytes) c.operations_of-t.ensures c.args.table.now c.if-table-n.true

pub all_marks-marks-requires : goal.all_marks-marks-requires
all_marks-marks-requires c =
    let x = c.args.x in
    let a = c.requires [] in
    (few_instructions [] x a, few_lines [] x a, few_pairs [] x a)

pub links_square-links-requires : goal.links_square-links-requires
links_square-links-requires c =
    let x = c.args.x in
    let a = c.requires [] in
    let tabled = c.operations_of-t.ensures in
    (few [] x a tabled, owners_few [] x a tabled (compiled [] x {marks = c.all_marks-marks.result} tabled (c.all_marks-marks.ensures [])))

pub closed-chains-requires : goal.closed-chains-requires
closed-chains-requires c = few [] c.args.x (c.requires []) c.operations_of-t.ensures

pub write_rows-requires : goal.write_rows-requires
write_rows-requires c = (few [] c.args.x (c.requires []) c.operations_of-t.ensures, c.if-table-n.false)

pub returns : goal.returns
returns c =
    let x = c.args.x in
    let a = c.requires in
    let tabled = c.operations_of-t.ensures in
    λ bytes. says_marks bytes x (a bytes) tabled (compiled bytes x tabled (c.all_marks-marks.ensures bytes)) c.links_square-links.result c.closed-chains.result c.links_square-links.ensures c.closed-chains.ensures
    c.args.table.now _ c.if-table-n.false c.write_rows.ensures
