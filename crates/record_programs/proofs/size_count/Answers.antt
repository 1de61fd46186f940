-- By whether the kind is a semaphore.
use Prim.Native.Nat.{ℕ}
use native.Mathlib.Omega.{arith}
use mathlib.Core.Path.{sym, ap, ◌∙◌}
use mathlib.Core.Bool.{Bool, cond}
use Rattle.record_programs.proofs.size_count.Goals as goal

pub returns-then-is_semaphore : goal.returns-then-is_semaphore
returns-then-is_semaphore c = (ap (λ (b : Bool). cond {A = ℕ} b 4 5) (sym c.if-is_semaphore.true ∙ c.is_semaphore.ensures), omega arith)

pub returns : goal.returns
returns c = (ap (λ (b : Bool). cond {A = ℕ} b 4 5) (sym c.if-is_semaphore.false ∙ c.is_semaphore.ensures), omega arith)
