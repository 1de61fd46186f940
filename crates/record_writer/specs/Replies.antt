-- The reply of a call that writes a record as the model's.
use Rattle.std.specs.Prelude.{ℕ, List, Result, Ok, Err}
use Rattle.model.specs.Calls as calls
use Rattle.record_decoded.specs.declared.question.Question.{Question}
use Rattle.record_decoded.specs.Refusals.{question_number}

-- the length of the record that is written, and the buffer as it is left; a refusal has length 0
abbrev pub reply_of : Result ℕ Question → List ℕ → calls.RecordReply
reply_of (Ok n) buffer = record { answer = calls.says calls.done; length = n; buffer = buffer }
reply_of (Err q) buffer = record { answer = calls.refuses (question_number q); length = 0; buffer = buffer }
