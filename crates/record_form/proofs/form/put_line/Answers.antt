-- A touched line is copied from where it stands in the record, any other from zeros.
use Prim.Native.Nat.{◌+◌}
use native.Mathlib.Omega.{arith}
use mathlib.Core.Path.{refl, sym, ◌∙◌}
use Rattle.model.specs.Renumbering.{line_taken}
use Rattle.record_decoded.specs.Decoded.{execution_of}
use Rattle.record_writer.specs.Puts.{Puts}
use Rattle.record_form.proofs.HeadLaws.{line_within, puts_touched, puts_untouched}
use Rattle.record_form.proofs.LocatedLaws.{few}
use Rattle.record_form.proofs.form.put_line.Goals as goal
use Rattle.record_form.proofs.form.put_line.Goals.{then-is_touched, else-is_touched}

pub is_touched-requires : goal.is_touched-requires
is_touched-requires c = let a = c.args in (few a.bytes.now a.x c.requires.0).instructions_few

pub overflow_mul-line : goal.overflow_mul-line
overflow_mul-line c = omega (arith, c.requires.1, (few c.args.bytes.now c.args.x c.requires.0).lines_few)

pub overflow_add-line : goal.overflow_add-line
overflow_add-line c = omega (arith, c.requires.1, (few c.args.bytes.now c.args.x c.requires.0).lines_few)

pub copy_bytes-requires : goal.copy_bytes-requires
copy_bytes-requires c = (c.requires.2, line_within c.args.bytes.now c.args.x c.requires.0 c.args.line c.requires.1)

pub slice_bounds-copy_bytes-end : goal.slice_bounds-copy_bytes-end
slice_bounds-copy_bytes-end c = refl

pub shape_of-out : goal.shape_of-out
shape_of-out c =
    let a = c.args in
    let told = c.is_touched.ensures in
    let put : Puts a.out.now a.at (line_taken (execution_of a.bytes.now a.x) a.line) c.if-is_touched.out (a.at + 9) =
    elim c.if-is_touched.branch [
      | then-is_touched w ↦ puts_touched a.bytes.now a.x c.requires.0 a.line c.requires.1 c.requires.2 (sym w.if-is_touched.true ∙ told) (w.out-is ∙ w.copy_bytes.ensures)
      | else-is_touched w ↦ puts_untouched a.bytes.now a.x c.requires.0 a.line c.requires.2 (sym w.if-is_touched.false ∙ told) (w.out-is ∙ w.copy_bytes-else-is_touched.ensures)
    ] in
    put.long

pub returns : goal.returns
returns c =
    let a = c.args in
    let told = c.is_touched.ensures in
    let put : Puts a.out.now a.at (line_taken (execution_of a.bytes.now a.x) a.line) c.if-is_touched.out (a.at + 9) =
    elim c.if-is_touched.branch [
      | then-is_touched w ↦ puts_touched a.bytes.now a.x c.requires.0 a.line c.requires.1 c.requires.2 (sym w.if-is_touched.true ∙ told) (w.out-is ∙ w.copy_bytes.ensures)
      | else-is_touched w ↦ puts_untouched a.bytes.now a.x c.requires.0 a.line c.requires.2 (sym w.if-is_touched.false ∙ told) (w.out-is ∙ w.copy_bytes-else-is_touched.ensures)
    ] in
    (put, refl)
