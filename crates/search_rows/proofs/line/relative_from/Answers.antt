-- Each turn puts in one byte, relative to the initial byte of its own address.
use Prim.Native.Nat.{ℕ, ◌+◌, ◌*◌, ◌-◌, ◌/◌, ◌%◌}
use native.Mathlib.Omega.{arith}
use mathlib.Core.Path.{◌≡◌, ap, ap₂, ◌∙◌}
use lib.ListN.{get_or}
use Rattle.base.specs.Bits.{bit}
use Rattle.record_decoded.specs.Decoded.{initial_of}
use Rattle.search_admit.specs.Rows.{relative}
use Rattle.search_rows.proofs.LineLaws.{bytes_none, bytes_more, bytes_in}
use Rattle.search_rows.proofs.line.relative_from.Goals as goal

pub loop-j-init : goal.loop-j-init
loop-j-init c = bytes_none

pub loop-j-smaller : goal.loop-j-smaller
loop-j-smaller c = omega (arith, c.loop-j-test.true)

pub loop-j-preserved : goal.loop-j-preserved
loop-j-preserved c =
    let a = c.args in
    let j = c.loop-j.j in
    bytes_more c.loop-j.invariant c.loop-j-test.true c.with_byte-word.result (relative (get_or a.«data».now (16 * a.w.0 + a.from + j) 0) c.initial_byte-initial.result) c.with_byte-word.ensures
    (λ i s e.
    let at : j ≡ i / 8 - a.address % 8 = omega arith in
    let here : a.address + j ≡ 8 * (a.address / 8) + i / 8 = omega arith in
    ap₂ (λ (v u : ℕ). bit (relative (get_or a.«data».now (16 * a.w.0 + a.from + v) 0) u) (i % 8)) at (c.initial_byte-initial.ensures ∙ ap (initial_of a.bytes.now a.count) here))

pub returns : goal.returns
returns c = λ i s. bytes_in c.loop-j.invariant c.loop-j-test.false i s
