-- The line is there or not.
use mathlib.Core.Path.{◌∙◌}
use Rattle.record_decoded.proofs.Attributes.{attribute_there, attribute_past}
use Rattle.record_decoded.proofs.memory.attribute_at.Goals as goal

pub returns-then-line-lines : goal.returns-then-line-lines
returns-then-line-lines c = c.attribute_of.ensures ∙ attribute_there c.args.lines _ c.if-line-lines.true

pub returns-else-line-lines : goal.returns-else-line-lines
returns-else-line-lines c = attribute_past c.args.lines _ c.if-line-lines.false
