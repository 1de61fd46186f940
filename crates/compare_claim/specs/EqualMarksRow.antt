-- Rows that meet what the claims ask: a store, and two loads of which one depends on the other, the processors numbered both ways; a line that no access touches differs.
use Rattle.std.specs.Prelude.{ℕ, ◌≤◌, ◌≡◌, true, List, [], ◌∷◌, length, replicate}
use Rattle.std.proofs.Math.Option.{some}
use Rattle.model.specs.Execution.{WC, UC, Execution, operations}
use Rattle.model.specs.Search.{Verdict, allowed, forbidden}
use Rattle.model.specs.Calls.{says, read_all, breaks, judge_call, Legal}
use Rattle.model.specs.Courses.{Call, proper, other, Course, start, course}
use Rattle.record_renumbering.specs.Forms.{Equal}
use Rattle.record_renumbering.specs.FormsRow.{writer_reader, reader_writer, writer_reader_execution, reader_writer_execution}

-- a buffer with room, and calls of which the other one, given no bytes, is refused
unfoldable pub row_buffer : List ℕ
row_buffer = replicate 6 7

unfoldable pub row_calls : List Call
row_calls = proper 2 ∷ other [] 1 3 9 ∷ proper 100 ∷ []

abbrev pub search_of : List ℕ → Course
search_of bytes = course bytes row_calls (start row_buffer)

-- two records meet what the claims ask, and both searches end with this verdict
abbrev pub Meets : List ℕ → List ℕ → Execution → Execution → Verdict → Type 0
Meets left right e f verdict =
    (read_all left ≡ says e)
    × (read_all right ≡ says f)
    × Equal left right
    × (operations e ≤ length row_buffer)
    × (operations f ≤ length row_buffer)
    × ((search_of left).refused ≡ true)
    × ((search_of right).refused ≡ true)
    × ((search_of left).answer ≡ some (says verdict))
    × ((search_of right).answer ≡ some (says verdict))

-- The second load saw 1. Where that was stored both are allowed, where 5 was stored both are forbidden. Of the allowed ones the first search takes six steps to its
-- order, and the second five to another. The first one's order is, renumbered, legal for the second, and as it is it breaks rule 1: there 0 and 1 are the loads, and
-- 2, 3 and 4 the store's LV, RV_0 and RV_1.
abbrev pub EqualMarksRow : Type 0
EqualMarksRow =
    Meets (writer_reader 1 1) (reader_writer 2 1) (writer_reader_execution (UC 0) 1) (reader_writer_execution WC 1) allowed
    × Meets (writer_reader 1 5) (reader_writer 2 5) (writer_reader_execution (UC 0) 5) (reader_writer_execution WC 5) forbidden
    × ((search_of (writer_reader 1 1)).steps ≡ 6)
    × ((search_of (reader_writer 2 1)).steps ≡ 5)
    × ((search_of (writer_reader 1 1)).left ≡ (0 ∷ 1 ∷ 3 ∷ 2 ∷ 4 ∷ []) ∷ (0 ∷ 1 ∷ []) ∷ [])
    × ((search_of (reader_writer 2 1)).left ≡ (0 ∷ 2 ∷ 4 ∷ 3 ∷ 1 ∷ []) ∷ (0 ∷ 2 ∷ []) ∷ [])
    × Legal (writer_reader 1 1) (0 ∷ 1 ∷ 3 ∷ 2 ∷ 4 ∷ [])
    × Legal (reader_writer 2 1) (2 ∷ 4 ∷ 0 ∷ 3 ∷ 1 ∷ [])
    × (judge_call (reader_writer 2 1) (0 ∷ 1 ∷ 3 ∷ 2 ∷ 4 ∷ []) ≡ says (breaks 1))
