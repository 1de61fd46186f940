-- Each turn puts one pair behind those before it, if it is of the processor.
use Prim.Native.Nat.{ℕ, ◌-◌}
use native.Mathlib.Omega.{arith}
use mathlib.Core.Path.{ap, ◌∙◌, refl}
use lib.ListN.{get_or}
use Rattle.model.specs.Questions.{no_instruction}
use Rattle.record_decoded.specs.Decoded.{instructions_of}
use Rattle.record_form.proofs.OwnLaws.{own_none, own_room, puts_own, leaves_pair, own_ends}
use Rattle.record_form.proofs.processors.own_pairs.Goals as goal
use Rattle.record_form.proofs.processors.own_pairs.Goals.{then-owner-p, else-owner-p}

pub loop-j-init : goal.loop-j-init
loop-j-init c = own_none refl

pub bounds-bytes-at : goal.bounds-bytes-at
bounds-bytes-at c = omega (arith, own_room c.loop-j.invariant (omega (arith, c.requires)) (omega arith))

pub overflow_add-bytes : goal.overflow_add-bytes
overflow_add-bytes c = omega (arith, own_room c.loop-j.invariant (omega (arith, c.requires)) (omega arith))

pub bounds-bytes-at-then-owner-p : goal.bounds-bytes-at-then-owner-p
bounds-bytes-at-then-owner-p c = own_room c.loop-j.invariant (omega (arith, c.requires)) (omega arith)

pub overflow_add-at : goal.overflow_add-at
overflow_add-at c = omega (arith, own_room c.loop-j.invariant (omega (arith, c.requires)) (omega arith))

pub loop-j-preserved : goal.loop-j-preserved
loop-j-preserved c =
    let l = c.loop-j.invariant in
    let a = c.args in
    let few = c.requires in
    let owner = c.owner.ensures ∙ ap (λ (k : ℕ). (get_or (instructions_of a.is) k no_instruction).processor) c.wide.ensures.0 in
    elim c.if-owner-p.branch [
      | then-owner-p w ↦ puts_own l (omega (arith, few)) (omega arith) owner w.if-owner-p.true (w.lowered.ensures ∙ ap (λ (n : ℕ). get_or a.pairs.earlier c.loop-j.j 0 - n) few.2) (w.lowered-then-owner-p.ensures ∙ ap (λ (n : ℕ). get_or a.pairs.later c.loop-j.j 0 - n) few.2) w.bytes-is w.at-is
      | else-owner-p w ↦ leaves_pair l (omega (arith, few)) (omega arith) owner w.if-owner-p.false w.bytes-is w.at-is
    ]

pub bounds-bytes-at-2 : goal.bounds-bytes-at-2
bounds-bytes-at-2 c = omega (arith, c.loop-j.invariant.few, c.loop-j.invariant.turns, c.requires)

pub overflow_add-length : goal.overflow_add-length
overflow_add-length c = omega (arith, c.loop-j.invariant.few, c.loop-j.invariant.turns, c.requires)

pub returns : goal.returns
returns c = own_ends c.loop-j.invariant (omega (arith, c.requires)) (omega arith)
