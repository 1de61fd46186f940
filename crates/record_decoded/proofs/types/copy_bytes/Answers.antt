-- The loop pastes the first j of the bytes; after n turns, all of them.
use Prim.Native.Nat.{ℕ, ◌+◌, ◌-◌, ◌<◌}
use native.Mathlib.Omega.{arith}
use mathlib.Core.Path.{sym, subst}
use lib.ListN.{drop, set, length-drop}
use lib.Seq.{get_or-take, length-take-le}
use Rattle.base.proofs.Copies.{Pasted, none_yet, one_more, copied}
use Rattle.record_decoded.proofs.types.copy_bytes.Goals as goal

pub loop-j-init : goal.loop-j-init
loop-j-init c = none_yet

pub loop-j-preserved : goal.loop-j-preserved
loop-j-preserved c =
    let a = c.args in
    let s = drop a.start a.from.now in
    let long = length-drop a.start a.from.now in
    let taken = length-take-le (a.start + a.n - a.start) s (omega (arith, long)) in
    let inside : c.loop-j.j < a.n = omega (arith, taken, c.loop-j-test.true) in
    subst (λ (v : ℕ). Pasted a.to.now a.at s (c.loop-j.j + 1) (set c.loop-j.to (a.at + c.loop-j.j) v))
    (sym (get_or-take (a.start + a.n - a.start) s c.loop-j.j 0 (omega (arith, inside))))
    (one_more c.loop-j.invariant (omega (arith, inside, long)) (omega (arith, inside)))

pub returns : goal.returns
returns c =
    let a = c.args in
    let long = length-drop a.start a.from.now in
    let taken = length-take-le (a.start + a.n - a.start) (drop a.start a.from.now) (omega (arith, long)) in
    copied c.loop-j.invariant a.n (omega (arith, taken, c.loop-j-test.false)) (omega (arith, taken, c.loop-j.auto.j-end))
