-- Each turn puts one program behind its count, or the count that is too large; what is put and what is left make the whole.
use native.Mathlib.Omega.{arith}
use mathlib.Core.Path.{◌∙◌}
use lib.ListN.{length-set}
use Rattle.record_writer.proofs.RecordLaws.{programs_start, programs_fail, programs_room, programs_turn, pairs_there, programs_end}
use Rattle.record_writer.proofs.compose.put_programs.Goals as goal

pub loop-p-init : goal.loop-p-init
loop-p-init c = programs_start c.requires.0 c.requires.1

pub overflow_sub-count : goal.overflow_sub-count
overflow_sub-count c = omega (arith, c.loop-p.invariant.few)

pub bounds-out-next : goal.bounds-out-next
bounds-out-next c = omega (arith, c.loop-p.invariant)

pub overflow_add-result : goal.overflow_add-result
overflow_add-result c = omega (arith, c.loop-p.invariant)

pub shape_of-out-then-count-n : goal.shape_of-out-then-count-n
shape_of-out-then-count-n c = length-set c.loop-p.out c.loop-p.next 41 ∙ c.loop-p.invariant.put.long

pub returns-then-count-n : goal.returns-then-count-n
returns-then-count-n c =
    programs_fail c.loop-p.invariant c.loop-p-test.true c.program_length-n.ensures c.requires.2 c.if-count-n.true

pub overflow_cast-out-in-loop-p : goal.overflow_cast-out-in-loop-p
overflow_cast-out-in-loop-p c = omega (arith, c.if-count-n.false)

pub bounds-out-next-in-loop-p : goal.bounds-out-next-in-loop-p
bounds-out-next-in-loop-p c = omega (arith, c.loop-p.invariant)

pub overflow_add-next : goal.overflow_add-next
overflow_add-next c = omega (arith, c.loop-p.invariant)

pub put_entries-next-requires : goal.put_entries-next-requires
put_entries-next-requires c =
    (c.requires.3, programs_room c.loop-p.invariant c.loop-p-test.true c.program_length-n.ensures c.requires.2 c.if-count-n.false)

pub overflow_add-count : goal.overflow_add-count
overflow_add-count c = omega (arith, c.if-count-n.false, c.loop-p.invariant.few)

pub loop-p-preserved : goal.loop-p-preserved
loop-p-preserved c =
    programs_turn c.loop-p.invariant c.loop-p-test.true c.program_length-n.ensures c.requires.2 c.if-count-n.false c.put_entries-next.ensures

pub put_pairs-requires : goal.put_pairs-requires
put_pairs-requires c = (pairs_there c.loop-p.invariant c.requires.2, c.requires.4)

pub shape_of-out : goal.shape_of-out
shape_of-out c = (programs_end c.loop-p.invariant c.loop-p-test.false c.put_pairs.ensures).long

pub returns : goal.returns
returns c = programs_end c.loop-p.invariant c.loop-p-test.false c.put_pairs.ensures
