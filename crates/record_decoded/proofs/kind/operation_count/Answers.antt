-- A store gives an RV for each processor besides those before the RVs; all else gives only those.
use native.Mathlib.Omega.{arith}
use mathlib.Core.Path.{sym, ◌∙◌}
use Rattle.model.proofs.Numbers.{store_count, other_count}
use Rattle.record_decoded.specs.Kinds.{meant}
use Rattle.record_decoded.proofs.kind.operation_count.Goals as goal

pub returns-then-is_store : goal.returns-then-is_store
returns-then-is_store c =
    let a = c.args in
    omega (arith, c.before_remotes-before.ensures.0, store_count a.processors (meant a.k) (sym c.is_store.ensures ∙ c.if-is_store.true))

pub returns-else-is_store : goal.returns-else-is_store
returns-else-is_store c =
    let a = c.args in
    omega (arith, c.before_remotes-before.ensures.0, other_count a.processors (meant a.k) (sym c.is_store.ensures ∙ c.if-is_store.false))
