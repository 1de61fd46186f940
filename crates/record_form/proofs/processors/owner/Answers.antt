-- The array has it, or it is no instruction.
use native.Mathlib.Omega.{arith}
use mathlib.Core.Path.{◌∙◌}
use Rattle.record_form.proofs.ProcessorLaws.{owner_there, owner_past}
use Rattle.record_form.proofs.processors.owner.Goals as goal

pub returns-then-i-is : goal.returns-then-i-is
returns-then-i-is c = let a = c.args in c.wide.ensures.0 ∙ owner_there a.is a.i (omega arith)

pub returns-else-i-is : goal.returns-else-i-is
returns-else-i-is c = let a = c.args in owner_past a.is a.i (omega arith)
