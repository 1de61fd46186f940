-- After eight bytes for a semaphore.
use native.Mathlib.Omega.{arith}
use Rattle.record_decoded.proofs.kind.written_from.Goals as goal

pub returns-then-is_semaphore : goal.returns-then-is_semaphore
returns-then-is_semaphore c = (rw (← c.is_semaphore.ensures, c.if-is_semaphore.true), omega arith)

pub returns-else-is_semaphore : goal.returns-else-is_semaphore
returns-else-is_semaphore c = (rw (← c.is_semaphore.ensures, c.if-is_semaphore.false), omega arith)
