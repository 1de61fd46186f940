-- A row that meets the hypotheses of all claims: two processors, a pair, and a line that no access touches, under both numberings.
use Rattle.std.specs.Prelude.{ℕ, ◌≡◌, List, [], ◌∷◌, replicate}
use Rattle.model.specs.Execution as execution
use Rattle.model.specs.Calls.{says, read_all}
use Rattle.model.specs.Notation.{x, zeros, wb, ld, st, record_of}
use Rattle.model.specs.Renumbering.{renumbered, smallest_form}
use Rattle.record_renumbering.specs.Keys.{sorted_processors}
use Rattle.record_renumbering.specs.Forms.{Equal, LeftFirst}

abbrev reader : List (List ℕ)
reader = ld x 0 ∷ ld x 1 ∷ []

-- st x=value; ld x sees 0, ld x sees 1, which depends on the first; a second line of some attribute, which no access touches
unfoldable pub writer_reader : ℕ → ℕ → List ℕ
writer_reader attribute value = record_of (wb ∷ zeros attribute ∷ []) ((st x value ∷ []) ∷ reader ∷ []) ((1, 2) ∷ [])

-- the same, the processors under each other's numbers
unfoldable pub reader_writer : ℕ → ℕ → List ℕ
reader_writer attribute value = record_of (wb ∷ zeros attribute ∷ []) (reader ∷ (st x value ∷ []) ∷ []) ((0, 1) ∷ [])

abbrev lines_with : execution.Attribute → List execution.Line
lines_with attribute = record { attribute = execution.WB; initial = replicate 8 0 } ∷ record { attribute = attribute; initial = replicate 8 0 } ∷ []

unfoldable pub writer_reader_execution : execution.Attribute → ℕ → execution.Execution
writer_reader_execution attribute value = record {
  processors = 2;
  lines = lines_with attribute;
  instructions =
      record { number = 0; first = 0; processor = 0; kind = execution.st; address = 0; size = 1; seen = []; wrote = value ∷ [] }
      ∷ record { number = 1; first = 3; processor = 1; kind = execution.ld; address = 0; size = 1; seen = 0 ∷ []; wrote = [] }
      ∷ record { number = 2; first = 4; processor = 1; kind = execution.ld; address = 0; size = 1; seen = 1 ∷ []; wrote = [] }
      ∷ [];
  pairs = (1, 2) ∷ [];
}

unfoldable pub reader_writer_execution : execution.Attribute → ℕ → execution.Execution
reader_writer_execution attribute value = record {
  processors = 2;
  lines = lines_with attribute;
  instructions =
      record { number = 0; first = 0; processor = 0; kind = execution.ld; address = 0; size = 1; seen = 0 ∷ []; wrote = [] }
      ∷ record { number = 1; first = 1; processor = 0; kind = execution.ld; address = 0; size = 1; seen = 1 ∷ []; wrote = [] }
      ∷ record { number = 2; first = 2; processor = 1; kind = execution.st; address = 0; size = 1; seen = []; wrote = value ∷ [] }
      ∷ [];
  pairs = (0, 1) ∷ [];
}

-- Both are accepted, whatever the untouched line. The writer, with fewer instructions, has the lower key: so the smallest form of either is the first, its untouched line
-- zero. They are equal, and stand before those that write a higher value. The first under the other numbering is the second,
-- its untouched line zero, and is accepted.
abbrev pub FormsRow : Type 0
FormsRow =
    (read_all (writer_reader 1 5) ≡ says (writer_reader_execution (execution.UC 0) 5))
    × (read_all (reader_writer 2 5) ≡ says (reader_writer_execution execution.WC 5))
    × (sorted_processors (reader_writer_execution execution.WC 5) ≡ 1 ∷ 0 ∷ [])
    × (smallest_form (writer_reader_execution (execution.UC 0) 5) ≡ writer_reader 0 5)
    × (smallest_form (reader_writer_execution execution.WC 5) ≡ writer_reader 0 5)
    × Equal (writer_reader 1 5) (reader_writer 2 5)
    × Equal (reader_writer 2 5) (writer_reader 17 5)
    × LeftFirst (reader_writer 2 5) (writer_reader 1 6)
    × Equal (writer_reader 1 6) (reader_writer 0 6)
    × LeftFirst (writer_reader 1 6) (writer_reader 1 7)
    × (renumbered (writer_reader_execution (execution.UC 0) 5) (1 ∷ 0 ∷ []) ≡ reader_writer 0 5)
    × (read_all (reader_writer 0 5) ≡ says (reader_writer_execution execution.WB 5))
