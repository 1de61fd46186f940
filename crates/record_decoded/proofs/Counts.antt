-- Bounds of a kind's row and column of the table of program-order rules; the number of operations.
use Prim.Native.Nat.{ℕ, ◌<◌}
use native.Mathlib.Omega.{arith}
use mathlib.Core.Path.{◌≡◌}
use mathlib.Core.List.{List}
use Rattle.record_decoded.specs.Decoded.{instructions_of, execution_of}
use Rattle.record_decoded.specs.declared.types.Execution.{Execution}
use Rattle.model.specs.Execution.{Kind, ld, ld_acq, st, st_rel, mf, sem_acq, sem_rel, kind_row, operation_count, operations}

-- a kind's row and column are below 5
pub row_below : (k : Kind) → (kind_row k).row < 5
row_below ld = omega arith
row_below ld_acq = omega arith
row_below st = omega arith
row_below st_rel = omega arith
row_below mf = omega arith
row_below sem_acq = omega arith
row_below sem_rel = omega arith

pub column_below : (k : Kind) → (kind_row k).column < 5
column_below ld = omega arith
column_below ld_acq = omega arith
column_below st = omega arith
column_below st_rel = omega arith
column_below mf = omega arith
column_below sem_acq = omega arith
column_below sem_rel = omega arith

-- N, as the arrays count it
pub count_is : (bytes : List ℕ) (x : Execution) (k : ℕ) → k ≡ operation_count x.processors (instructions_of x.instructions) → k ≡ operations (execution_of bytes x)
unfolding operations execution_of
count_is bytes x k h = h
