-- The first number and the kind are elements of the arrays.
use Prim.Native.Nat.{ℕ}
use mathlib.Core.Path.{ap₂, ◌∙◌}
use Rattle.model.specs.Execution.{Kind, number_from}
use Rattle.record_decoded.specs.Kinds.{role_meant}
use Rattle.record_decoded.specs.Decoded.{instruction_at}
use Rattle.record_decoded.proofs.number.number_at.Goals as goal

pub returns : goal.returns
unfolding instruction_at
returns c =
    let role = role_meant c.args.role in
    c.number_of.ensures ∙ ap₂ (λ (first : ℕ) (kind : Kind). number_from first kind role) c.wide16-first.ensures.0 c.kind_of-kind.ensures
