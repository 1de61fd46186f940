-- The answer of the chain table's call and the table as it is left, as the model's reply.
use Rattle.std.specs.Prelude.{ℕ, List, Result, Ok, Err}
use Rattle.model.specs.Calls as calls
use Rattle.record_decoded.specs.declared.question.Question.{Question}
use Rattle.record_decoded.specs.Refusals.{question_number}

abbrev pub reply_of : Result (Unit {0}) Question → List ℕ → calls.TableReply
reply_of (Ok done) table = record { answer = calls.says calls.done; table = table }
reply_of (Err q) table = record { answer = calls.refuses (question_number q); table = table }
