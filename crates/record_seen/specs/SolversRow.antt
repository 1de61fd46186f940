-- A row that meets the hypotheses of both claims: three processors on two lines, the second with no instruction, by what the third saw.
use Rattle.std.specs.Prelude.{ℕ, ◌≡◌, true, List, [], ◌∷◌, ◌++◌, replicate}
use Rattle.model.specs.Execution as execution
use Rattle.model.specs.Calls.{says, read_all, done}
use Rattle.model.specs.Notation.{x, wb, st, ld_acq, sem_rel, ld16, record_of}
use Rattle.model.specs.SolversCopy.{seen_in, solvers_copy_call}
use Rattle.record_seen.specs.SolversClaims.{alike_but, unseen}

-- st x=7; none; ld.acq x sees a, sem.rel x sees b writes 4, ld16 x sees c and in the upper half d; a pair of the load and the semaphore
unfoldable pub row_record : ℕ → ℕ → ℕ → ℕ → List ℕ
row_record a b c d = record_of (wb ∷ wb ∷ []) ((st x 7 ∷ []) ∷ [] ∷ (ld_acq x a ∷ sem_rel x b 4 ∷ ld16 x c d ∷ []) ∷ []) ((1, 2) ∷ [])

-- The store gives operations 0 to 3, the load 4, the semaphore 5 to 9, the load of sixteen bytes 10.
unfoldable pub row_execution : ℕ → ℕ → ℕ → ℕ → execution.Execution
row_execution a b c d = record {
  processors = 3;
  lines = record { attribute = execution.WB; initial = replicate 8 0 } ∷ record { attribute = execution.WB; initial = replicate 8 0 } ∷ [];
  instructions =
      record { number = 0; first = 0; processor = 0; kind = execution.st; address = 0; size = 1; seen = []; wrote = 7 ∷ [] }
      ∷ record { number = 1; first = 4; processor = 2; kind = execution.ld_acq; address = 0; size = 1; seen = a ∷ []; wrote = [] }
      ∷ record { number = 2; first = 5; processor = 2; kind = execution.sem_rel; address = 0; size = 1; seen = b ∷ []; wrote = 4 ∷ [] }
      ∷ record { number = 3; first = 10; processor = 2; kind = execution.ld; address = 0; size = 16; seen = c ∷ replicate 7 0 ++ (d ∷ replicate 7 0); wrote = [] }
      ∷ [];
  pairs = (1, 2) ∷ [];
}

unfoldable pub row_buffer : List ℕ
row_buffer = replicate 90 99

-- Two accepted records that differ only in what was seen; the first is copied, and without what was seen it is the execution of zeros.
abbrev pub SolversRow : Type 0
SolversRow =
    (read_all (row_record 5 3 6 8) ≡ says (row_execution 5 3 6 8))
    × (read_all (row_record 1 4 0 9) ≡ says (row_execution 1 4 0 9))
    × (alike_but (seen_in (row_execution 5 3 6 8)) (row_record 5 3 6 8) (row_record 1 4 0 9) ≡ true)
    × ((solvers_copy_call (row_record 5 3 6 8) row_buffer).answer ≡ says done)
    × (unseen (row_execution 5 3 6 8) ≡ row_execution 0 0 0 0)
