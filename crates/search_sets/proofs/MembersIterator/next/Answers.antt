-- From the low word, then from the high one; fewer are left.
use native.Mathlib.Omega.{arith}
use mathlib.Core.Path.{◌∙◌}
use native.Mathlib.Nat.{div-one}
use Rattle.search_sets.proofs.Laws.{taken_low, taken_high, first_empty}
use Rattle.search_sets.proofs.Loops.{takes_fewer}
use Rattle.search_sets.proofs.MembersIterator.next.Goals as goal

pub returns-then-lo-ne0-clause-steps : goal.returns-then-lo-ne0-clause-steps
returns-then-lo-ne0-clause-steps c = let s = c.args.self.now.left in taken_low s.lo s.hi (omega arith) c.if-lo-ne0.true

pub returns-then-lo-ne0-clause-goes : goal.returns-then-lo-ne0-clause-goes
returns-then-lo-ne0-clause-goes c =
    let s = c.args.self.now.left in
    let fewer = takes_fewer (taken_low s.lo s.hi (omega arith) c.if-lo-ne0.true) in
    record { on = λ h. (tt, tt, fewer); keeps = tt; rests = λ h. tt }

pub returns-then-hi-ne0-clause-steps : goal.returns-then-hi-ne0-clause-steps
returns-then-hi-ne0-clause-steps c = let s = c.args.self.now.left in taken_high s.lo s.hi (omega arith) (omega arith) c.if-lo-ne0.false c.if-hi-ne0.true

pub returns-then-hi-ne0-clause-goes : goal.returns-then-hi-ne0-clause-goes
returns-then-hi-ne0-clause-goes c =
    let s = c.args.self.now.left in
    let fewer = takes_fewer (taken_high s.lo s.hi (omega arith) (omega arith) c.if-lo-ne0.false c.if-hi-ne0.true) in
    record { on = λ h. (tt, tt, fewer); keeps = tt; rests = λ h. tt }

pub returns-clause-steps : goal.returns-clause-steps
returns-clause-steps c =
    let s = c.args.self.now.left in first_empty s.lo s.hi 0 (omega arith) (omega arith) (div-one s.lo ∙ c.if-lo-ne0.false) c.if-hi-ne0.false
