-- The number of each attribute.
use Prim.Native.Nat.{ℕ, ◌+◌, ◌*◌}
use mathlib.Core.Path.{sym, ap, ◌∙◌}
use Rattle.model.specs.Execution.{attribute_number}
use Rattle.record_decoded.specs.declared.kind.Attribute.{Attribute}
use Rattle.record_decoded.specs.Kinds.{attribute_meant}
use Rattle.record_decoded.proofs.kind.attribute_number.Goals as goal

pub returns-in-UC : goal.returns-in-UC
returns-in-UC c = ap (λ (d : ℕ). 1 + 16 * d) c.wide.ensures.0 ∙ sym (ap (λ (a : Attribute). attribute_number (attribute_meant a)) c.in-UC.is)
