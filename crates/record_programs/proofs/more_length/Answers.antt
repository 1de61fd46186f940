-- Eight for a semaphore and for size 16, else none.
use native.Mathlib.Omega.{arith}
use borrow.Author.Tests.{eq-eqb, ne_eqb}
use Rattle.record_programs.proofs.more_length.Goals as goal

pub returns-then-is_semaphore : goal.returns-then-is_semaphore
returns-then-is_semaphore c = (rw (← c.is_semaphore.ensures, c.if-is_semaphore.true), omega arith)

pub returns-then-size-eq-WIDE_SIZE : goal.returns-then-size-eq-WIDE_SIZE
returns-then-size-eq-WIDE_SIZE c = (rw (← c.is_semaphore.ensures, c.if-is_semaphore.false, eq-eqb _ 16 c.if-size-eq-WIDE_SIZE.true), omega arith)

pub returns-else-size-eq-WIDE_SIZE : goal.returns-else-size-eq-WIDE_SIZE
returns-else-size-eq-WIDE_SIZE c = (rw (← c.is_semaphore.ensures, c.if-is_semaphore.false, ne_eqb _ 16 c.if-size-eq-WIDE_SIZE.false), omega arith)
