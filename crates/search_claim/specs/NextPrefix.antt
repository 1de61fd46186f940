-- The walk in document 01's terms. Its contract (`Walked`) speaks of rows, and of any test of prefixes that they decide; for an accepted record and its rows, 'consistent' is such a test.
use Rattle.std.specs.Prelude.{ℕ, Option, ◌≡◌, true, List}
use Rattle.model.specs.Execution.{operations}
use Rattle.model.specs.Rules.{consistent}
use Rattle.model.specs.Calls.{says, read_all}
use Rattle.record_decoded.specs.declared.types.Execution.{Execution}
use Rattle.record_decoded.specs.Decoded.{execution_of}
use Rattle.relation_links.specs.declared.operations.Operations.{Operations}
use Rattle.search_admit.specs.Rows.{RowsMean}
use Rattle.search_walk.specs.declared.Level.{Level}
use Rattle.search_walk.specs.Walks.{Means, Walked}

-- From xs, a consistent prefix of an accepted record's execution, the walk's contract is kept over the rows of that execution: r is the answer, and the lists
-- behind it are what the walk leaves.
pub record WalkedFrom (bytes : List ℕ) (x : Execution) (t : Operations) (marks : List (List ℕ)) (rows xs : List ℕ) (r : Option ℕ)
    (position places : List ℕ) (levels : List Level) (words replaced : List ℕ) : Type 0 where
  pub accepted : read_all bytes ≡ says (execution_of bytes x)
  pub rows_mean : RowsMean bytes x t marks rows
  pub consists : consistent (execution_of bytes x) xs ≡ true
  pub walked : Walked (operations (execution_of bytes x)) rows xs r position places levels words replaced

-- Wherever that is so, the answer gives the next consistent prefix of that execution in lexicographic order, or says that none comes after xs.
abbrev pub NextPrefix : Type 0
NextPrefix =
    (bytes : List ℕ) (x : Execution) (t : Operations) (marks : List (List ℕ)) (rows xs : List ℕ) (r : Option ℕ)
    → (position places : List ℕ) (levels : List Level) (words replaced : List ℕ)
    → WalkedFrom bytes x t marks rows xs r position places levels words replaced
    → Means (consistent (execution_of bytes x)) (operations (execution_of bytes x)) xs r position
