-- Each turn puts the pairs of one processor, raised by the instructions of those before it.
use native.Mathlib.Omega.{arith}
use Rattle.record_form.proofs.LocatedLaws.{few, first_next}
use Rattle.record_form.proofs.PieceLaws.{turn_low}
use Rattle.record_form.proofs.PairLaws.{pairs_none, raise_few, raise_less, own_room, pairs_more, pairs_put}
use Rattle.record_form.proofs.form.put_pairs.Goals as goal

pub loop-k-init : goal.loop-k-init
loop-k-init c = pairs_none (omega (arith, c.requires.3))

pub bounds-order-k : goal.bounds-order-k
bounds-order-k c = omega (arith, (few c.args.bytes.now c.args.x c.requires.0).processors_few)

pub offset_bounds-firsts-p : goal.offset_bounds-firsts-p
offset_bounds-firsts-p c = omega (arith, turn_low c.args.bytes.now c.args.x c.args.order c.requires.0 c.requires.2 c.loop-k.k c.loop-k-test.true c.wide-p.ensures.0)

pub bounds-firsts-p : goal.bounds-firsts-p
bounds-firsts-p c = omega (arith, turn_low c.args.bytes.now c.args.x c.args.order c.requires.0 c.requires.2 c.loop-k.k c.loop-k-test.true c.wide-p.ensures.0)

pub put_own-next-requires : goal.put_own-next-requires
put_own-next-requires c =
    let a = c.args in
    let inv = c.loop-k.invariant in
    let small = few a.bytes.now a.x c.requires.0 in (
      small.instructions_few,
      small.pairs_few,
      c.requires.1.firsts_are c.wide-p.result (omega (arith, turn_low c.args.bytes.now c.args.x c.args.order c.requires.0 c.requires.2 c.loop-k.k c.loop-k-test.true c.wide-p.ensures.0)),
      own_room a.bytes.now a.x a.starts a.order a.out.now a.at c.requires inv c.loop-k-test.true c.wide-p.ensures.0,
      raise_few a.bytes.now a.x a.starts a.order a.out.now a.at c.requires inv,
    )

pub overflow_add-raise : goal.overflow_add-raise
overflow_add-raise c = omega (arith, turn_low c.args.bytes.now c.args.x c.args.order c.requires.0 c.requires.2 c.loop-k.k c.loop-k-test.true c.wide-p.ensures.0)

pub offset_bounds-firsts-p-in-loop-k : goal.offset_bounds-firsts-p-in-loop-k
offset_bounds-firsts-p-in-loop-k c = omega (arith, turn_low c.args.bytes.now c.args.x c.args.order c.requires.0 c.requires.2 c.loop-k.k c.loop-k-test.true c.wide-p.ensures.0)

pub bounds-firsts-p-in-loop-k : goal.bounds-firsts-p-in-loop-k
bounds-firsts-p-in-loop-k c = omega (arith, turn_low c.args.bytes.now c.args.x c.args.order c.requires.0 c.requires.2 c.loop-k.k c.loop-k-test.true c.wide-p.ensures.0)

pub overflow_sub-raise : goal.overflow_sub-raise
overflow_sub-raise c =
    let a = c.args in
    let low = turn_low c.args.bytes.now c.args.x c.args.order c.requires.0 c.requires.2 c.loop-k.k c.loop-k-test.true c.wide-p.ensures.0 in
    let numbers = first_next a.bytes.now a.x a.starts c.requires.0 c.requires.1 c.wide-p.result low.0 in
    omega (arith, numbers)

pub overflow_add-raise-in-loop-k : goal.overflow_add-raise-in-loop-k
overflow_add-raise-in-loop-k c =
    let a = c.args in
    let low = turn_low c.args.bytes.now c.args.x c.args.order c.requires.0 c.requires.2 c.loop-k.k c.loop-k-test.true c.wide-p.ensures.0 in
    let numbers = first_next a.bytes.now a.x a.starts c.requires.0 c.requires.1 c.wide-p.result low.0 in
    omega (arith, numbers, raise_less a.bytes.now a.x a.starts a.order a.out.now a.at c.requires c.loop-k.invariant c.loop-k-test.true c.wide-p.ensures.0)

pub loop-k-preserved : goal.loop-k-preserved
loop-k-preserved c =
    let a = c.args in
    let low = turn_low c.args.bytes.now c.args.x c.args.order c.requires.0 c.requires.2 c.loop-k.k c.loop-k-test.true c.wide-p.ensures.0 in
    let numbers = first_next a.bytes.now a.x a.starts c.requires.0 c.requires.1 c.wide-p.result low.0 in
    pairs_more a.bytes.now a.x a.starts a.order a.out.now a.at c.requires c.loop-k.invariant c.loop-k-test.true c.wide-p.ensures.0 c.put_own-next.ensures (omega (arith, numbers))

pub shape_of-out : goal.shape_of-out
shape_of-out c = c.loop-k.invariant.put.long

pub returns : goal.returns
returns c =
    let a = c.args in
    pairs_put a.bytes.now a.x a.starts a.order a.out.now a.at c.requires c.loop-k.invariant c.loop-k-test.false
