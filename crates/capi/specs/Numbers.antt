-- Answers as numbers: 256 + q for a call that question q refuses.
use Rattle.std.specs.Prelude.{ℕ, ◌+◌, ◌≡◌, List, Result, Ok, Err}
use Rattle.record_decoded.specs.declared.question.Question.{Question}
use Rattle.record_decoded.specs.Refusals.{question_number}
use Rattle.model.specs.Execution.{Execution}
use Rattle.model.specs.Search.{Verdict, allowed, forbidden, unfinished}
use Rattle.model.specs.Calls as calls
use Rattle.capi.specs.declared.SearchReply.{SearchReply}
use Rattle.capi.specs.declared.RecordReply.{RecordReply}
use Rattle.model.specs.Calls.{Answer, says, refuses, Judgement, legal, breaks, Done, done}
use Rattle.model.specs.Renumbering.{Comparison, equal, left_first, right_first, HandedBack, left_record, right_record, empty_part}

-- 0 for a call that is done and says no more
abbrev pub call_number : Result (Unit {0}) Question → ℕ
call_number (Ok u) = 0
call_number (Err q) = 256 + question_number q

-- 0 for a record that is accepted
abbrev pub check_number : Answer Execution → ℕ
check_number (says e) = 0
check_number (refuses q) = 256 + q

-- 0 for a legal order, else the rule
abbrev pub judge_number : Answer Judgement → ℕ
judge_number (says legal) = 0
judge_number (says (breaks k)) = k
judge_number (refuses q) = 256 + q

-- 0 for a table or a record that is written
abbrev pub done_number : Answer Done → ℕ
done_number (says done) = 0
done_number (refuses q) = 256 + q

-- 0 unfinished, 1 allowed, 2 forbidden
abbrev pub search_number : Answer Verdict → ℕ
search_number (says unfinished) = 0
search_number (says allowed) = 1
search_number (says forbidden) = 2
search_number (refuses q) = 256 + q

-- 0 equal, 1 the left record stands first, 2 the right one
abbrev pub compare_number : Answer Comparison → ℕ
compare_number (says equal) = 0
compare_number (says left_first) = 1
compare_number (says right_first) = 2
compare_number (refuses q) = 256 + q

-- 0 the empty part of the left record, 1 the left record, 2 the right one
abbrev pub handed_number : HandedBack → ℕ
handed_number empty_part = 0
handed_number left_record = 1
handed_number right_record = 2

-- the reply as numbers, and the buffer as it is left
pub record Searched (call : calls.SearchReply) (r : SearchReply) (buffer : List ℕ) : Type 0 where
  pub answer_is : r.answer ≡ search_number call.answer
  pub steps_are : r.steps ≡ call.steps
  pub length_is : r.length ≡ call.length
  pub buffer_is : buffer ≡ call.buffer

-- the same of a record that is written
pub record Recorded (call : calls.RecordReply) (r : RecordReply) (buffer : List ℕ) : Type 0 where
  pub answer_is : r.answer ≡ done_number call.answer
  pub length_is : r.length ≡ call.length
  pub buffer_is : buffer ≡ call.buffer
