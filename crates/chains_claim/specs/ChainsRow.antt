-- A row that meets what the claim asks: a store, and on another processor an ld.acq that saw it, with a load after it.
use Rattle.std.specs.Prelude.{ℕ, ◌*◌, ◌≤◌, ◌≡◌, true, List, [], ◌∷◌, ◌++◌, length, replicate}
use Rattle.base.specs.Lists.{all}
use Rattle.model.specs.Execution as execution
use Rattle.model.specs.Rules.{before, links_of, linked}
use Rattle.model.specs.Calls.{says, read_all, breaks, judge_call, Legal, done, table_call}
use Rattle.model.specs.Notation.{x, y, wb, ld, ld_acq, st, record_of}

-- st x=1; ld.acq x sees 1, ld y sees 0
unfoldable pub row_record : List ℕ
row_record = record_of (wb ∷ wb ∷ []) ((st x 1 ∷ []) ∷ (ld_acq x 1 ∷ ld y 0 ∷ []) ∷ []) []

-- The store gives LV 0, RV_0 1 and RV_1 2, the loads R 3 and R 4.
unfoldable pub row_execution : execution.Execution
row_execution = record {
  processors = 2;
  lines = record { attribute = execution.WB; initial = replicate 8 0 } ∷ record { attribute = execution.WB; initial = replicate 8 0 } ∷ [];
  instructions =
      record { number = 0; first = 0; processor = 0; kind = execution.st; address = 0; size = 1; seen = []; wrote = 1 ∷ [] }
      ∷ record { number = 1; first = 3; processor = 1; kind = execution.ld_acq; address = 0; size = 1; seen = 1 ∷ []; wrote = [] }
      ∷ record { number = 2; first = 4; processor = 1; kind = execution.ld; address = 8; size = 1; seen = 0 ∷ []; wrote = [] }
      ∷ [];
  pairs = [];
}

-- the marks: rule 1 binds the store's operations, rule 2 the loads
unfoldable pub marks_written : List ℕ
marks_written =
    (0 ∷ 1 ∷ 1 ∷ 0 ∷ 0 ∷ [])
    ++ (0 ∷ 0 ∷ 1 ∷ 0 ∷ 0 ∷ [])
    ++ (0 ∷ 0 ∷ 0 ∷ 0 ∷ 0 ∷ [])
    ++ (0 ∷ 0 ∷ 0 ∷ 0 ∷ 1 ∷ [])
    ++ (0 ∷ 0 ∷ 0 ∷ 0 ∷ 0 ∷ [])

unfoldable pub row_table : List ℕ
row_table = replicate 27 7

-- The record is accepted, the table has room, and the marks are written. One order is legal. Another keeps every link and puts R 3 before RV_1 2, where mark (2, 3) is 0; yet it
-- breaks rule 11. The order that a mark of 0 promises need not be legal.
abbrev pub ChainsRow : Type 0
ChainsRow =
    (read_all row_record ≡ says row_execution)
    × (execution.operations row_execution * execution.operations row_execution ≤ length row_table)
    × (table_call row_record row_table ≡ record { answer = says done; table = marks_written ++ (7 ∷ 7 ∷ []) })
    × Legal row_record (0 ∷ 1 ∷ 2 ∷ 3 ∷ 4 ∷ [])
    × (all (λ l. before (3 ∷ 4 ∷ 0 ∷ 1 ∷ 2 ∷ []) l.0 l.1) (links_of row_execution (linked row_execution)) ≡ true)
    × (judge_call row_record (3 ∷ 4 ∷ 0 ∷ 1 ∷ 2 ∷ []) ≡ says (breaks 11))
