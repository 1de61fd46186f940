-- Each turn enters one processor's place and first number.
use native.Mathlib.Omega.{arith}
use mathlib.Core.Path.{refl}
use Rattle.record_decoded.specs.Decoded.{instructions_of}
use Rattle.record_decoded.proofs.Arrays.{instructions_length}
use Rattle.record_form.proofs.ProcessorLaws.{lower_bytes_few, starts_none, starts_more, starts_all}
use Rattle.record_form.proofs.processors.starts_of.Goals as goal

pub loop-p-init : goal.loop-p-init
loop-p-init c = starts_none refl refl

pub overflow_mul-places : goal.overflow_mul-places
overflow_mul-places c = omega (arith, c.requires)

pub overflow_add-places : goal.overflow_add-places
overflow_add-places c = omega (arith, c.requires)

pub overflow_add-places-in-loop-p : goal.overflow_add-places-in-loop-p
overflow_add-places-in-loop-p c = omega (arith, c.requires)

pub overflow_add-places-in-loop-p-2 : goal.overflow_add-places-in-loop-p-2
overflow_add-places-in-loop-p-2 c =
    let a = c.args in
    omega (arith, c.requires, c.count_lower-before.ensures.1, lower_bytes_few (instructions_of a.is) c.loop-p.p, instructions_length a.is)

pub offset_bounds-places-p : goal.offset_bounds-places-p
offset_bounds-places-p c = omega (arith, c.requires)

pub offset_bounds-firsts-p : goal.offset_bounds-firsts-p
offset_bounds-firsts-p c = omega (arith, c.requires)

pub loop-p-preserved : goal.loop-p-preserved
loop-p-preserved c = starts_more c.loop-p.invariant (omega (arith, c.requires)) c.count_lower-before.ensures.0 c.count_lower-before.ensures.1

pub returns : goal.returns
returns c = starts_all c.loop-p.invariant (omega arith)
