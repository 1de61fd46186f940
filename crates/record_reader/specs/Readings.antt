-- What the reader of a record answers, and the walk over what follows the lines and the programs.
use Rattle.std.specs.Prelude.{ℕ, List, Result, Ok, Err}
use Rattle.model.specs.Execution as model
use Rattle.model.specs.Questions.{Reader, pure, ◌>>=◌, ◌>>◌, question15, line_attributes, read_instructions, read_pairs}
use Rattle.model.specs.Calls as calls
use Rattle.record_decoded.specs.declared.question.Question.{Question}
use Rattle.record_decoded.specs.declared.types.Execution.{Execution}
use Rattle.record_decoded.specs.Refusals.{question_number}
use Rattle.record_decoded.specs.Decoded.{execution_of}

-- the answer of the code as the model's; the initial bytes are the record's
abbrev pub reading_of : List ℕ → Result Execution Question → calls.Answer model.Execution
reading_of bytes (Ok x) = calls.says (execution_of bytes x)
reading_of bytes (Err q) = calls.refuses (question_number q)

-- the walk after the programs, and after the lines
unfoldable pub after_instructions : ℕ → List model.Line → List model.Instruction → Reader model.Execution
after_instructions processors lines is = do
  pairs ← read_pairs is
  question15
  pure (record { processors = processors; lines = lines; instructions = is; pairs = pairs })

unfoldable pub after_lines : ℕ → List model.Line → Reader model.Execution
after_lines processors lines = do
  is ← read_instructions processors (line_attributes lines)
  after_instructions processors lines is
