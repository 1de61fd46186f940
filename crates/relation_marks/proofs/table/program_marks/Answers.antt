-- The constant table is the paper's.
use Prim.Native.Nat.{ℕ}
use native.Mathlib.Omega.{arith}
use mathlib.Core.Path.{ap₂, ◌∙◌}
use mathlib.Core.List.{[]}
use lib.ListN.{get_or}
use Rattle.record_decoded.specs.Kinds.{meant}
use Rattle.relation_marks.proofs.MarkLaws.{program_order, program_order_lem, program_marks_few}
use Rattle.relation_marks.proofs.table.program_marks.Goals as goal

pub returns : goal.returns
returns c =
    let is = ap₂ (λ (j k : ℕ). get_or (get_or program_order j []) k 0) c.table_row-row.ensures.0 c.table_column-column.ensures.0
    ∙ program_order_lem (meant c.args.earlier) (meant c.args.later) in
    (is, omega (arith, is, program_marks_few (meant c.args.earlier) (meant c.args.later)))
