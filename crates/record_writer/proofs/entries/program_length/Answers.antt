-- Each turn counts one entry where it is the processor's.
use native.Mathlib.Omega.{arith}
use Rattle.std.proofs.Common.{rules}
use Rattle.record_writer.proofs.WalkLaws.{counting_starts, counting_room, counting_more, counting_other, counting_ends}
use Rattle.record_writer.proofs.entries.program_length.Goals as goal

pub loop-entry-init : goal.loop-entry-init
loop-entry-init c = (tt, tt, counting_starts (search rules))

pub overflow_add-count : goal.overflow_add-count
overflow_add-count c = omega (arith, counting_room c.loop-entry.invariant.2 c.in-Some.ensures.steps)

pub loop-entry-preserved-then-byte_at-p : goal.loop-entry-preserved-then-byte_at-p
loop-entry-preserved-then-byte_at-p c = (tt, tt, counting_more c.loop-entry.invariant.2 c.in-Some.ensures.steps (search rules))

pub loop-entry-preserved : goal.loop-entry-preserved
loop-entry-preserved c = (tt, tt, counting_other c.loop-entry.invariant.2 c.in-Some.ensures.steps (search rules))

pub returns : goal.returns
returns c = counting_ends c.loop-entry.invariant.2 c.in-None.ensures.steps.0
