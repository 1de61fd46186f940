-- Each turn clears what one instruction saw and goes on to the place of the next; after the last, all is cleared.
use native.Mathlib.Omega.{arith}
use Rattle.record_solvers_copy.proofs.SeenLaws.{seen_none, seen_long, place_few, seen_all, seen_room, seen_more}
use Rattle.record_solvers_copy.proofs.clear_seen.Goals as goal

pub loop-i-init : goal.loop-i-init
loop-i-init c = seen_none

pub overflow_add-at : goal.overflow_add-at
overflow_add-at c =
    omega (arith, place_few c.loop-i.invariant, c.loop-i.invariant.turns, c.requires)

pub clear-requires : goal.clear-requires
clear-requires c =
    seen_room c.loop-i.invariant (omega (arith, c.loop-i-test.true)) c.kind_of-kind.ensures c.wide.ensures.0 c.seen_length.ensures c.requires.2

pub overflow_add-place-in-loop-i : goal.overflow_add-place-in-loop-i
overflow_add-place-in-loop-i c =
    omega (arith, place_few c.loop-i.invariant, c.loop-i.invariant.turns, c.requires)

pub overflow_add-place-in-loop-i-2 : goal.overflow_add-place-in-loop-i-2
overflow_add-place-in-loop-i-2 c =
    omega (arith, place_few c.loop-i.invariant, c.loop-i.invariant.turns, c.requires, c.more_length.ensures.1)

pub loop-i-preserved : goal.loop-i-preserved
loop-i-preserved c =
    seen_more c.loop-i.invariant (omega (arith, c.loop-i-test.true)) c.kind_of-kind.ensures c.wide.ensures.0 c.seen_length.ensures c.more_length.ensures.0 c.clear.ensures

pub shape_of-bytes : goal.shape_of-bytes
shape_of-bytes c = seen_long c.loop-i.invariant

pub returns : goal.returns
returns c = seen_all c.loop-i.invariant (omega (arith, c.loop-i-test.false))
