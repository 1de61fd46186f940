-- Each turn puts one byte of the processor's own pairs, raised; their end is left out.
use Prim.Native.Nat.{ℕ, ◌+◌, ◌-◌, ◌≤◌}
use native.Mathlib.Omega.{arith}
use mathlib.Core.Path.{◌≡◌}
use mathlib.Core.List.{List}
use lib.ListN.{length}
use Rattle.base.specs.Lists.{for}
use Rattle.model.specs.Sections.{pair_bytes}
use Rattle.model.specs.Renumbering.{local_pairs}
use Rattle.record_decoded.specs.declared.types.Execution.{Execution}
use Rattle.record_decoded.specs.Decoded.{instructions_of, pairs_of}
use Rattle.record_form.proofs.PairLaws.{raised_none, raised_room, raised_more, raised_ends, without_end, front_is}
use Rattle.record_form.proofs.form.put_own.Goals as goal

-- the bytes to be put
abbrev own : Execution → ℕ → List ℕ
own x p = for (local_pairs (instructions_of x.instructions) (pairs_of x.pairs) p) pair_bytes

pub own_pairs-own-requires : goal.own_pairs-own-requires
own_pairs-own-requires c = (c.requires.0, c.requires.1, c.requires.2)

pub overflow_sub-n : goal.overflow_sub-n
overflow_sub-n c =
    let a = c.args in
    let r = c.own_pairs-own.result in
    let fits : r.length ≤ length r.bytes = omega (arith, c.own_pairs-own.ensures) in
    let long : length (own a.x a.p) + 1 ≡ r.length = without_end r.bytes (own a.x a.p) r.length 255 c.own_pairs-own.ensures.0 fits in
    omega (arith, long)

pub loop-j-init : goal.loop-j-init
loop-j-init c = raised_none (omega (arith, c.requires.3))

pub bounds-own-j : goal.bounds-own-j
bounds-own-j c = omega (arith, c.own_pairs-own.ensures.1)

pub overflow_add-out : goal.overflow_add-out
overflow_add-out c = omega (arith, c.wide.ensures, c.requires.4)

pub overflow_add-out-in-loop-j : goal.overflow_add-out-in-loop-j
overflow_add-out-in-loop-j c =
    let a = c.args in
    let r = c.own_pairs-own.result in
    let fits : r.length ≤ length r.bytes = omega (arith, c.own_pairs-own.ensures) in
    let long : length (own a.x a.p) + 1 ≡ r.length = without_end r.bytes (own a.x a.p) r.length 255 c.own_pairs-own.ensures.0 fits in
    let room : a.at + (r.length - 1) ≤ length a.out.now = omega (arith, long, c.requires.3) in
    omega (arith, room)

pub bounds-out-at : goal.bounds-out-at
bounds-out-at c =
    let a = c.args in
    let r = c.own_pairs-own.result in
    let fits : r.length ≤ length r.bytes = omega (arith, c.own_pairs-own.ensures) in
    let long : length (own a.x a.p) + 1 ≡ r.length = without_end r.bytes (own a.x a.p) r.length 255 c.own_pairs-own.ensures.0 fits in
    let room : a.at + (r.length - 1) ≤ length a.out.now = omega (arith, long, c.requires.3) in
    raised_room c.loop-j.invariant room c.loop-j-test.true

pub loop-j-preserved : goal.loop-j-preserved
loop-j-preserved c =
    let a = c.args in
    let r = c.own_pairs-own.result in
    let fits : r.length ≤ length r.bytes = omega (arith, c.own_pairs-own.ensures) in
    let long : length (own a.x a.p) + 1 ≡ r.length = without_end r.bytes (own a.x a.p) r.length 255 c.own_pairs-own.ensures.0 fits in
    let room : a.at + (r.length - 1) ≤ length a.out.now = omega (arith, long, c.requires.3) in
    raised_more c.loop-j.invariant room (omega (arith, fits)) c.loop-j-test.true c.wide.ensures.0

pub overflow_add-result : goal.overflow_add-result
overflow_add-result c =
    let a = c.args in
    let r = c.own_pairs-own.result in
    let fits : r.length ≤ length r.bytes = omega (arith, c.own_pairs-own.ensures) in
    let long : length (own a.x a.p) + 1 ≡ r.length = without_end r.bytes (own a.x a.p) r.length 255 c.own_pairs-own.ensures.0 fits in
    let room : a.at + (r.length - 1) ≤ length a.out.now = omega (arith, long, c.requires.3) in
    omega (arith, room)

pub shape_of-out : goal.shape_of-out
shape_of-out c = c.loop-j.invariant.put.long

pub returns : goal.returns
returns c =
    let a = c.args in
    let r = c.own_pairs-own.result in
    let fits : r.length ≤ length r.bytes = omega (arith, c.own_pairs-own.ensures) in
    raised_ends c.loop-j.invariant c.loop-j-test.false (front_is r.bytes (own a.x a.p) r.length 255 c.own_pairs-own.ensures.0 fits)
