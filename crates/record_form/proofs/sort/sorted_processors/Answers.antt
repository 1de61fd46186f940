-- Each turn puts one processor more among the sorted ones.
use native.Mathlib.Omega.{arith}
use mathlib.Core.Path.{refl}
use Rattle.record_form.proofs.LocatedLaws.{few}
use Rattle.record_form.proofs.SortLaws.{sorted_none, sorted_low, sorted_more, sorted_all}
use Rattle.record_form.proofs.sort.sorted_processors.Goals as goal

pub loop-n-init : goal.loop-n-init
loop-n-init c = sorted_none refl

pub place_for-at-requires : goal.place_for-at-requires
place_for-at-requires c =
    let a = c.args in
    let pre = c.requires in
    (pre.0, pre.1, omega arith, sorted_low c.loop-n.invariant (few a.bytes.now a.x pre.0).processors_few)

pub inserted-order-requires : goal.inserted-order-requires
inserted-order-requires c =
    let a = c.args in
    (omega (arith, (few a.bytes.now a.x c.requires.0).processors_few), c.place_for-at.ensures.1)

pub loop-n-preserved : goal.loop-n-preserved
loop-n-preserved c = sorted_more c.loop-n.invariant (omega arith) c.place_for-at.ensures.0 c.inserted-order.ensures.0 c.inserted-order.ensures.1

pub returns : goal.returns
returns c = (sorted_all c.loop-n.invariant (omega arith), c.loop-n.invariant.long)
