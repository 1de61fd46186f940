-- Two accesses share the bytes from the later start to the earlier end.
use Prim.Native.Nat.{ℕ, ◌+◌, ◌-◌, min, max}
use native.Mathlib.Omega.{arith}
use mathlib.Core.Path.{◌≡◌, ap₂, ◌∙◌}
use Rattle.base.specs.Lists.{count}
use Rattle.relation_marks.proofs.MarkLaws.{shared_are}
use Rattle.relation_marks.proofs.table.shared_bytes.Goals as goal

pub returns : goal.returns
returns c =
    let a = c.args in
    let start : max a.address a.other ≡ c.wide-5.result = omega (arith, c.wide-5.ensures.0, c.max-start.ensures) in
    let end : min (a.address + a.size) (a.other + a.extent) ≡ c.min-end.result = omega (arith, c.min-end.ensures, c.wide.ensures.0, c.wide-2.ensures.0, c.wide-3.ensures.0, c.wide-4.ensures.0) in
    shared_are a.address a.size a.other a.extent ∙ ap₂ (λ (from end : ℕ). count from (end - from)) start end
