-- A row that meets the hypotheses of both claims: two processors on one line, ld x sees 1 of processor 1, st x=1 of processor 0, then a semaphore of processor 1.
use Rattle.std.specs.Prelude.{ℕ, ◌≤◌, ◌≡◌, List, [], ◌∷◌, ◌++◌, length, replicate}
use Rattle.model.specs.Execution as execution
use Rattle.model.specs.Calls.{says, read_all, done}
use Rattle.model.specs.Notation.{x, wb, ld, st, sem_acq, record_of}
use Rattle.model.specs.Sections.{Sections, sections_from, write_call, grouped, sections_of}

-- the pair of the load and the semaphore, by the numbers after grouping
unfoldable pub row_sections : Sections
row_sections = sections_from 2 wb ((1 ∷ ld x 1) ++ (0 ∷ st x 1) ++ (1 ∷ sem_acq x 1 2)) (1 ∷ 2 ∷ [])

unfoldable pub row_record : List ℕ
row_record = record_of (wb ∷ []) ((st x 1 ∷ []) ∷ (ld x 1 ∷ sem_acq x 1 2 ∷ []) ∷ []) ((1, 2) ∷ [])

-- The store gives operations 0 to 2, the load 3, the semaphore 4 to 7.
unfoldable pub row_execution : execution.Execution
row_execution = record {
  processors = 2;
  lines = record { attribute = execution.WB; initial = replicate 8 0 } ∷ [];
  instructions =
      record { number = 0; first = 0; processor = 0; kind = execution.st; address = 0; size = 1; seen = []; wrote = 1 ∷ [] }
      ∷ record { number = 1; first = 3; processor = 1; kind = execution.ld; address = 0; size = 1; seen = 1 ∷ []; wrote = [] }
      ∷ record { number = 2; first = 4; processor = 1; kind = execution.sem_acq; address = 0; size = 1; seen = 1 ∷ []; wrote = 2 ∷ [] }
      ∷ [];
  pairs = (1, 2) ∷ [];
}

unfoldable pub row_buffer : List ℕ
row_buffer = replicate 70 99

-- The sections are written; the record is accepted, and the buffer has room for it. Grouped, the store stands first.
abbrev pub SectionsRow : Type 0
SectionsRow =
    ((write_call row_sections row_buffer).answer ≡ says done)
    × (read_all row_record ≡ says row_execution)
    × (length row_record ≤ length row_buffer)
    × (sections_of row_execution ≡ grouped row_sections)
    × ((grouped row_sections).instructions ≡ (0 ∷ st x 1) ++ (1 ∷ ld x 1) ++ (1 ∷ sem_acq x 1 2))
