-- What a function that reads a part of the record promises.
use Rattle.std.specs.Prelude.{ℕ, ◌+◌, ◌*◌, ◌≤◌, ◌≡◌, List, [], ◌∷◌, ◌++◌, Result, Ok, Err, length, get_or}
use Rattle.std.specs.Borrow.{Bor}
use Rattle.model.specs.Questions.{Found, no_to, found, entry_length, more_length, written_from}
use Rattle.model.specs.Execution.{kind_of, Instruction, operation_count}
use Rattle.record_decoded.specs.Decoded.{instructions_of}
use Rattle.record_decoded.specs.Refusals.{question_number}
use Rattle.record_decoded.specs.declared.question.Question.{Question}
use Rattle.record_decoded.specs.declared.types.Instructions.{Instructions}

module _ {A B : Type 0} where
  -- what was read, by its meaning, and the bytes after it; or the question that fails: as the model's walk has them
  abbrev pub found_by : (B → A) → Result (B × Bor (List ℕ)) Question → Found A
  found_by value (Ok r) = found (value r.0) r.1.now
  found_by value (Err q) = no_to (question_number q)

-- The bytes of an instruction's entry are as many as its kind and its size say, and what it saw and wrote, of the size that it gives, lies among its data bytes.
pub record Entry (x : List ℕ) : Type 0 where
  pub whole : length x ≡ entry_length + more_length (kind_of (get_or x 0 0)) (get_or x 2 0)
  pub data_within : 3 + written_from (kind_of (get_or x 0 0)) + get_or x 2 0 ≤ length x

-- One instruction more: the arrays hold it after those before it, and count its operations.
pub record InstructionMore (processors : ℕ) (x r : Instructions) (i : Instruction) : Type 0 where
  pub one : r.count ≡ x.count + 1
  pub holds : instructions_of r ≡ instructions_of x ++ (i ∷ [])
  pub counted : r.operations ≡ operation_count processors (instructions_of r)
  pub bounded : r.operations ≤ 10 * r.count
