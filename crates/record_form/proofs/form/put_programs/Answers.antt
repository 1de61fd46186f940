-- Each turn copies one program from where it stands in the record.
use native.Mathlib.Omega.{arith}
use Rattle.record_form.proofs.PieceLaws.{programs_none, turn_low, place_rises, piece_there, program_room, programs_more, programs_put}
use Rattle.record_form.proofs.LocatedLaws.{few}
use Rattle.record_form.proofs.form.put_programs.Goals as goal

pub loop-k-init : goal.loop-k-init
loop-k-init c = programs_none (omega (arith, c.requires.3))

pub bounds-order-k : goal.bounds-order-k
bounds-order-k c = omega (arith, (few c.args.bytes.now c.args.x c.requires.0).processors_few)

pub offset_bounds-places-p : goal.offset_bounds-places-p
offset_bounds-places-p c = omega (arith, turn_low c.args.bytes.now c.args.x c.args.order c.requires.0 c.requires.2 c.loop-k.k c.loop-k-test.true c.wide-p.ensures.0)

pub bounds-places-p : goal.bounds-places-p
bounds-places-p c = omega (arith, turn_low c.args.bytes.now c.args.x c.args.order c.requires.0 c.requires.2 c.loop-k.k c.loop-k-test.true c.wide-p.ensures.0)

pub overflow_add-n : goal.overflow_add-n
overflow_add-n c = omega (arith, turn_low c.args.bytes.now c.args.x c.args.order c.requires.0 c.requires.2 c.loop-k.k c.loop-k-test.true c.wide-p.ensures.0)

pub offset_bounds-places-p-in-loop-k : goal.offset_bounds-places-p-in-loop-k
offset_bounds-places-p-in-loop-k c = omega (arith, turn_low c.args.bytes.now c.args.x c.args.order c.requires.0 c.requires.2 c.loop-k.k c.loop-k-test.true c.wide-p.ensures.0)

pub bounds-places-p-in-loop-k : goal.bounds-places-p-in-loop-k
bounds-places-p-in-loop-k c = omega (arith, turn_low c.args.bytes.now c.args.x c.args.order c.requires.0 c.requires.2 c.loop-k.k c.loop-k-test.true c.wide-p.ensures.0)

pub overflow_sub-n : goal.overflow_sub-n
overflow_sub-n c = let a = c.args in place_rises a.bytes.now a.x a.starts a.order a.out.now a.at c.requires c.loop-k.invariant c.loop-k-test.true c.wide-p.ensures.0

pub copy_bytes-requires : goal.copy_bytes-requires
copy_bytes-requires c =
    let a = c.args in
    let inv = c.loop-k.invariant in
    let more = c.loop-k-test.true in
    let this = c.wide-p.ensures.0 in
    (program_room a.bytes.now a.x a.starts a.order a.out.now a.at c.requires inv more this, piece_there a.bytes.now a.x a.starts a.order a.out.now a.at c.requires inv more this)

pub overflow_add-next : goal.overflow_add-next
overflow_add-next c =
    let a = c.args in
    let inv = c.loop-k.invariant in
    omega (
      arith,
      program_room a.bytes.now a.x a.starts a.order a.out.now a.at c.requires inv c.loop-k-test.true c.wide-p.ensures.0,
      inv.put.long,
      c.well_formed.0,
    )

pub loop-k-preserved : goal.loop-k-preserved
loop-k-preserved c = let a = c.args in programs_more a.bytes.now a.x a.starts a.order a.out.now a.at c.requires c.loop-k.invariant c.loop-k-test.true c.wide-p.ensures.0 c.copy_bytes.ensures

pub shape_of-out : goal.shape_of-out
shape_of-out c = c.loop-k.invariant.put.long

pub returns : goal.returns
returns c = let a = c.args in programs_put a.bytes.now a.x a.starts a.order a.out.now a.at c.requires c.loop-k.invariant c.loop-k-test.false
