-- What holds of an execution whose record is accepted, for contracts that ask for one: instructions and operations are numbered one after the other, and each instruction passed questions 7, 8, 26 and 27.
use Rattle.std.specs.Prelude.{ℕ, suc, ◌+◌, ◌≤◌, ◌<◌, ◌≡◌, true, List, [], ◌∷◌, length}
use Rattle.model.specs.Execution.{Attribute, Instruction, Execution, roles, operations}
use Rattle.model.specs.Questions.{question7, question8, question26, question27, line_attributes}

-- instructions numbered from n on, their operations from `at` on
abbrev pub Consecutive : ℕ → ℕ → ℕ → List Instruction → Type 0
Consecutive p at n [] = Unit {0}
Consecutive p at n (i ∷ is) = (i.first ≡ at) × (i.number ≡ n) × Consecutive p (at + length (roles p i.kind)) (suc n) is

-- an instruction that passed questions 7 and 8
pub record Sound (processors lines : ℕ) (i : Instruction) : Type 0 where
  pub own : i.processor < processors
  pub size_passed : question7 i.kind i.size ≡ true
  pub address_passed : question8 lines i.kind i.size i.address ≡ true

-- and questions 26 and 27, by the attributes of the lines
pub record SoundLines (lines : List Attribute) (i : Instruction) : Type 0 where
  pub semaphore_passed : question26 lines i.kind i.address ≡ true
  pub lines_passed : question27 lines i.size i.address ≡ true

module _ {A : Type 0} where
  -- each element has the property
  abbrev pub Each : (A → Type 0) → List A → Type 0
  Each P [] = Unit {0}
  Each P (x ∷ xs) = P x × Each P xs

-- the first instruction of a pair is the earlier one
abbrev pub Rises : ℕ × ℕ → Type 0
Rises p = p.0 < p.1

-- What an accepted record gives. (That it does is the law `accepted`.)
pub record Accepted (e : Execution) : Type 0 where
  pub processors_few : e.processors ≤ 8
  pub lines_some : 1 ≤ length e.lines
  pub lines_few : length e.lines ≤ 8
  pub instructions_few : length e.instructions ≤ 40
  pub operations_few : operations e ≤ 128
  pub pairs_few : length e.pairs ≤ 40
  pub consecutive : Consecutive e.processors 0 0 e.instructions
  pub sound : Each (Sound e.processors (length e.lines)) e.instructions
  pub sound_lines : Each (SoundLines (line_attributes e.lines)) e.instructions
  pub rising : Each Rises e.pairs
