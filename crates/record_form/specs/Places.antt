-- Where programs begin in a record, and the pairs of a processor as bytes.
use Rattle.std.specs.Prelude.{ℕ, ◌+◌, ◌*◌, ◌≤◌, ◌≡◌, List, length, get_or}
use Rattle.model.specs.Execution.{Instruction}
use Rattle.model.specs.Questions.{line_length}
use Rattle.model.specs.SolversCopy.{entries_length}
use Rattle.model.specs.Renumbering.{lower_instructions, local_pairs}
use Rattle.record_renumbering.specs.Keys.{pairs_key}
use Rattle.record_form.specs.declared.processors.Starts.{Starts}

-- where the program of processor p begins: behind P, the count of lines, the lines, and the programs of lower processors, each with its count
abbrev pub program_place : ℕ → List Instruction → ℕ → ℕ
program_place lines is p = 2 + line_length * lines + p + entries_length (lower_instructions is p)

pub record StartsMean (processors lines : ℕ) (is : List Instruction) (s : Starts) : Type 0 where
  pub places_are : (p : ℕ) → p ≤ processors → get_or s.places p 0 ≡ program_place lines is p
  pub firsts_are : (p : ℕ) → p ≤ processors → get_or s.firsts p 0 ≡ length (lower_instructions is p)

-- what stands behind the program in the key of processor p
abbrev pub key_end : List Instruction → List (ℕ × ℕ) → ℕ → List ℕ
key_end is pairs p = pairs_key (local_pairs is pairs p)
