-- The judge's answer as the model's.
use Rattle.std.specs.Prelude.{ℕ, Option, Some, None, Result, Ok, Err}
use Rattle.model.specs.Calls as calls
use Rattle.record_decoded.specs.declared.question.Question.{Question}
use Rattle.record_decoded.specs.Refusals.{question_number}

-- none is legal, else the order breaks a rule
abbrev pub judgement_meant : Result (Option ℕ) Question → calls.Answer calls.Judgement
judgement_meant (Ok None) = calls.says calls.legal
judgement_meant (Ok (Some rule)) = calls.says (calls.breaks rule)
judgement_meant (Err q) = calls.refuses (question_number q)
