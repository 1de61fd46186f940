-- 0 is WB, remainder 1 by 16 is UC with the quotient as its domain, all else WC.
use borrow.Author.Tests.{eq-eqb, ne_eqb}
use Rattle.record_decoded.proofs.kind.attribute_of.Goals as goal

pub returns-then-a-eq-NUMBER_WB : goal.returns-then-a-eq-NUMBER_WB
returns-then-a-eq-NUMBER_WB c = rw (eq-eqb _ 0 c.if-a-eq-NUMBER_WB.true)

pub returns-then-a-eq-NUMBER_UC : goal.returns-then-a-eq-NUMBER_UC
returns-then-a-eq-NUMBER_UC c = rw (ne_eqb _ 0 c.if-a-eq-NUMBER_WB.false, eq-eqb _ 1 c.if-a-eq-NUMBER_UC.true)

pub returns : goal.returns
returns c = rw (ne_eqb _ 0 c.if-a-eq-NUMBER_WB.false, ne_eqb _ 1 c.if-a-eq-NUMBER_UC.false)
