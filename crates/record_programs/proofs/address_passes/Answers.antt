-- An mf has address 0; an access is aligned and ends within the lines.
use mathlib.Core.Path.{sym, ◌∙◌}
use Rattle.record_decoded.specs.Kinds.{meant}
use Rattle.record_programs.proofs.EntryLaws.{fence_address, address_off, address_on, size_positive}
use Rattle.record_programs.proofs.address_passes.Goals as goal

pub returns-then-is_fence : goal.returns-then-is_fence
returns-then-is_fence c =
    let a = c.args in
    fence_address (meant a.k) a.size a.lines a.address (sym c.is_fence.ensures ∙ c.if-is_fence.true)

pub nonzero_rem-address : goal.nonzero_rem-address
nonzero_rem-address c =
    let a = c.args in
    size_positive (meant a.k) a.size (sym c.is_fence.ensures ∙ c.if-is_fence.false) c.requires.1

pub returns-then-address-size-ne0 : goal.returns-then-address-size-ne0
returns-then-address-size-ne0 c =
    let a = c.args in
    address_off (meant a.k) a.size a.lines a.address (sym c.is_fence.ensures ∙ c.if-is_fence.false) c.if-address-size-ne0.true

pub returns : goal.returns
returns c =
    let a = c.args in
    address_on (meant a.k) a.size a.lines a.address (sym c.is_fence.ensures ∙ c.if-is_fence.false) c.if-address-size-ne0.false
