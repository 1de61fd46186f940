-- Eight for a semaphore, all data bytes of another load, else none.
use Prim.Native.Nat.{ℕ, ◌+◌}
use mathlib.Core.Path.{ap, ◌∙◌}
use Rattle.model.specs.SolversCopy.{seen_length}
use Rattle.record_solvers_copy.proofs.seen_length.Goals as goal

pub returns-then-is_semaphore : goal.returns-then-is_semaphore
unfolding seen_length
returns-then-is_semaphore c = rw (← c.is_semaphore.ensures, c.if-is_semaphore.true)

pub returns-then-is_load : goal.returns-then-is_load
unfolding seen_length
returns-then-is_load c = ap (λ (n : ℕ). 8 + n) c.more_length.ensures.0 ∙ rw (← c.is_semaphore.ensures, c.if-is_semaphore.false, ← c.is_load.ensures, c.if-is_load.true)

pub returns-else-is_load : goal.returns-else-is_load
unfolding seen_length
returns-else-is_load c = rw (← c.is_semaphore.ensures, c.if-is_semaphore.false, ← c.is_load.ensures, c.if-is_load.false)
