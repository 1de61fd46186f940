-- The loop pastes the first b marks of the row.
use Prim.Native.Nat.{ℕ, ◌+◌, ◌*◌}
use mathlib.Core.Path.{subst, ◌∙◌}
use lib.ListN.{set}
use Rattle.base.proofs.Copies.{Pasted, none_yet, one_more, copied}
use Rattle.relation_chain_table.specs.Squares.{row_marks}
use Rattle.relation_chain_table.proofs.RowLaws.{in_square, row_length_lem, row_at}
use native.Mathlib.Omega.{arith}
use Rattle.std.proofs.Common.{rules}
use Rattle.relation_chain_table.proofs.rows.write_row.Goals as goal

pub overflow_mul-at : goal.overflow_mul-at
overflow_mul-at c = omega (arith, in_square c.args.from.0 0 c.args.n c.requires.0 (omega arith))

pub loop-b-init : goal.loop-b-init
loop-b-init c = none_yet

pub overflow_add-table : goal.overflow_add-table
overflow_add-table c = omega (arith, in_square _ _ _ c.requires.0 c.loop-b-test.true)

pub bounds-table-at : goal.bounds-table-at
bounds-table-at c = omega (arith, in_square _ _ _ c.requires.0 c.loop-b-test.true, c.loop-b.invariant.long)

pub loop-b-preserved : goal.loop-b-preserved
loop-b-preserved c =
    let at = c.args in
    let a = at.from.0 in
    let b = c.loop-b.b in
    let l = c.loop-b-test.true in
    subst (λ (v : ℕ). Pasted at.table.now (a * at.n) (row_marks at.m.now at.n a) (b + 1) (set c.loop-b.table (a * at.n + b) v))
    (row_at at.m.now at.n a b l ∙ search rules)
    (one_more c.loop-b.invariant (omega (arith, row_length_lem at.m.now at.n a)) (omega (arith, in_square a b at.n c.requires.0 l)))

pub shape_of-table : goal.shape_of-table
shape_of-table c = c.loop-b.invariant.long

pub returns : goal.returns
returns c = copied c.loop-b.invariant c.args.n c.loop-b-test.false c.loop-b.auto.b-end
