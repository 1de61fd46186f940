-- What the calls came to, as the model's reply.
use Rattle.std.specs.Prelude.{◌≡◌, Result, Ok, Err}
use Rattle.model.specs.Calls as calls
use Rattle.record_decoded.specs.declared.question.Question.{Question}
use Rattle.record_decoded.specs.Refusals.{question_number}
use Rattle.search_resume.specs.Replies.{verdict_meant}
use Rattle.verdict.specs.declared.calls.Total.{Total}

abbrev pub total_of : Total → calls.SearchReply
total_of t = record { answer = calls.says (verdict_meant t.verdict); steps = t.steps; length = t.length; buffer = t.buffer }

-- the total, or the question that refused a call
abbrev pub Came : calls.SearchReply → Result Total Question → Type 0
Came r (Ok t) = total_of t ≡ r
Came r (Err q) = calls.refuses (question_number q) ≡ r.answer
