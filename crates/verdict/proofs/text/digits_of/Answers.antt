-- Each turn stores the last digit of what is left.
use Prim.Native.Nat.{◌+◌, ◌%◌}
use native.Mathlib.Omega.{arith}
use mathlib.Core.Path.{refl, ◌∙◌}
use lib.ListN.{length-set}
use Rattle.verdict.proofs.DigitLaws.{spell_starts, spell_room, spell_turns, spell_ends}
use borrow.Author.Rules.{rules}
use Rattle.verdict.proofs.text.digits_of.Goals as goal

pub loop-rest-init : goal.loop-rest-init
loop-rest-init c = spell_starts (search rules) refl

pub overflow_sub-first : goal.overflow_sub-first
overflow_sub-first c = spell_room c.loop-rest.invariant c.loop-rest-test.true

pub loop-rest-smaller : goal.loop-rest-smaller
loop-rest-smaller c = omega arith

pub loop-rest-preserved : goal.loop-rest-preserved
loop-rest-preserved c = spell_turns c.args.n c.loop-rest.first c.loop-rest.rest c.loop-rest.invariant c.loop-rest-test.true

pub returns : goal.returns
returns c = (spell_ends c.loop-rest.invariant c.loop-rest-test.false, omega (arith, c.loop-rest.invariant.within), length-set c.loop-rest.bytes c.loop-rest.first (48 + c.loop-rest.rest % 10) ∙ c.loop-rest.invariant.long)
