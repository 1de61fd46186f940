-- Behind the two counts each turn puts one line.
use native.Mathlib.Omega.{arith}
use mathlib.Core.Path.{refl}
use lib.ListN.{length-set}
use Rattle.record_form.proofs.HeadLaws.{lines_none, line_room, lines_more, head_ends}
use Rattle.record_form.proofs.LocatedLaws.{few}
use Rattle.record_form.proofs.form.put_head.Goals as goal

pub overflow_cast-out : goal.overflow_cast-out
overflow_cast-out c = omega (arith, (few c.args.bytes.now c.args.x c.requires.0).processors_few)

pub bounds-out-0 : goal.bounds-out-0
bounds-out-0 c = omega (arith, c.requires.1)

pub overflow_cast-out-2 : goal.overflow_cast-out-2
overflow_cast-out-2 c = omega (arith, (few c.args.bytes.now c.args.x c.requires.0).lines_few)

pub bounds-out-1 : goal.bounds-out-1
bounds-out-1 c = omega (arith, c.requires.1, length-set c.args.out.now 0 c.args.x.processors)

pub loop-k-init : goal.loop-k-init
loop-k-init c = lines_none c.args.out.now c.args.x.processors c.args.x.lines.count c.requires.1

pub put_line-next-requires : goal.put_line-next-requires
put_line-next-requires c =
    (c.requires.0, c.loop-k-test.true, line_room c.loop-k.invariant c.requires.0 c.loop-k-test.true)

pub loop-k-preserved : goal.loop-k-preserved
loop-k-preserved c = lines_more c.loop-k.invariant c.loop-k-test.true c.put_line-next.ensures

pub shape_of-out : goal.shape_of-out
shape_of-out c = (head_ends c.loop-k.invariant c.args.out.now c.requires.0 c.requires.1 refl c.loop-k-test.false).long

pub returns : goal.returns
returns c = head_ends c.loop-k.invariant c.args.out.now c.requires.0 c.requires.1 refl c.loop-k-test.false
