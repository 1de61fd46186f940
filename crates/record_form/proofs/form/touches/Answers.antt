-- The lines of an access follow each other.
use native.Mathlib.Omega.{arith}
use mathlib.Core.Path.{◌∙◌}
use borrow.Author.Tests.{lt-leb}
use Rattle.record_form.proofs.LineLaws.{touches_from, touches_not}
use Rattle.record_form.proofs.form.touches.Goals as goal

pub returns-then-first-line : goal.returns-then-first-line
returns-then-first-line c = let a = c.args in touches_from a.address a.size a.line c.wide-first.ensures.0 c.wide.ensures.0 (omega arith)

pub returns-else-first-line : goal.returns-else-first-line
returns-else-first-line c = let a = c.args in lt-leb _ _ c.if-first-line.false ∙ touches_not a.address a.size a.line c.wide-first.ensures.0 (omega arith)
