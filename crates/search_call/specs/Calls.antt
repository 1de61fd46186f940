-- The search's reply as the model's.
use Rattle.std.specs.Prelude.{ℕ, List, Result, Ok, Err}
use Rattle.model.specs.Calls as calls
use Rattle.model.specs.Calls.{says, refuses}
use Rattle.record_decoded.specs.declared.question.Question.{Question}
use Rattle.record_decoded.specs.Refusals.{question_number}
use Rattle.search_resume.specs.Replies.{verdict_meant}
use Rattle.search_call.specs.declared.call.SearchReply.{SearchReply}

-- the reply, and the buffer as it is left; a refusal makes no step and has the saved length
abbrev pub reply_of : ℕ → Result SearchReply Question → List ℕ → calls.SearchReply
reply_of saved (Ok r) buffer = record { answer = says (verdict_meant r.verdict); steps = r.steps; length = r.length; buffer = buffer }
reply_of saved (Err q) buffer = record { answer = refuses (question_number q); steps = 0; length = saved; buffer = buffer }
