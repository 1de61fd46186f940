-- Each turn counts one instruction, if its processor is a lower one.
use native.Mathlib.Omega.{arith}
use Rattle.record_form.proofs.ProcessorLaws.{lower_none, counted_few, counts_lower, leaves_other, all_counted}
use Rattle.record_form.proofs.processors.count_lower.Goals as goal
use Rattle.record_form.proofs.processors.count_lower.Goals.{then-wide-p, else-wide-p}

pub loop-i-init : goal.loop-i-init
loop-i-init c = lower_none

pub overflow_add-count : goal.overflow_add-count
overflow_add-count c = let l = c.loop-i.invariant in omega (arith, counted_few l, l.turns, c.requires)

pub overflow_add-bytes : goal.overflow_add-bytes
overflow_add-bytes c = let l = c.loop-i.invariant in omega (arith, counted_few l, l.turns, c.requires)

pub overflow_add-bytes-then-wide-p : goal.overflow_add-bytes-then-wide-p
overflow_add-bytes-then-wide-p c = let l = c.loop-i.invariant in omega (arith, counted_few l, l.turns, c.requires, c.more_length-more.ensures.1)

pub loop-i-preserved : goal.loop-i-preserved
loop-i-preserved c =
    let l = c.loop-i.invariant in
    let owner = c.wide.ensures.0 in
    elim c.if-wide-p.branch [
      | then-wide-p w ↦ counts_lower l (omega arith) (omega (arith, w.if-wide-p.true, owner)) w.kind_of.ensures w.more_length-more.ensures.0 w.count-is w.bytes-is
      | else-wide-p w ↦ leaves_other l (omega arith) (omega (arith, w.if-wide-p.false, owner)) w.count-is w.bytes-is
    ]

pub returns : goal.returns
returns c = all_counted c.loop-i.invariant (omega arith)
