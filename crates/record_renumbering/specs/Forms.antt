-- Document 02, P9: the claims about renumbered records, for every accepted record.
use Rattle.std.specs.Prelude.{ℕ, ◌+◌, ◌*◌, ◌<◌, ◌≡◌, cond, List, ◌++◌, ◌⊎◌, ◌↔◌, length, get_or, take, drop, replicate}
use Rattle.base.specs.Lists.{for, below, same}
use Rattle.base.specs.Orders.{OrderOf}
use Rattle.model.specs.Execution.{Instruction, Execution, operations}
use Rattle.model.specs.Questions.{line_length}
use Rattle.model.specs.Calls.{says, read_all}
use Rattle.model.specs.Sections.{line_bytes}
use Rattle.model.specs.Renumbering.{processor_at, touched, line_taken, renumbered, is_equal, smallest_form, equal, left_first, right_first, compare_call}
use Rattle.record_renumbering.specs.Keys.{sorted_processors}

-- the bytes of line k in a record with these instructions; zeros where no access touches it
abbrev pub line_in : List ℕ → List Instruction → ℕ → List ℕ
line_in bytes is k = cond (touched is k) (take line_length (drop (2 + line_length * k) bytes)) (replicate line_length 0)

-- The renumbering that changes nothing gives the record itself, byte for byte, with untouched lines taken as zero.
abbrev pub OwnForm : Type 0
OwnForm =
    (bytes : List ℕ) (e : Execution) → read_all bytes ≡ says e
    → renumbered e (below e.processors) ≡ take 2 bytes ++ (for (below (length e.lines)) (line_in bytes e.instructions) ++ drop (2 + line_length * length e.lines) bytes)

-- The execution of a renumbered form: its processor k is the record's processor order[k], with its program and its pairs; lines as they were taken, as many pairs and
-- operations.
pub record RenumberedRecord (e : Execution) (order : List ℕ) (f : Execution) : Type 0 where
  pub processors_same : f.processors ≡ e.processors
  pub processor_is : (k : ℕ) → k < e.processors → processor_at f.instructions f.pairs k ≡ processor_at e.instructions e.pairs (get_or order k 0)
  pub lines_same : length f.lines ≡ length e.lines
  pub lines_are : for f.lines line_bytes ≡ for (below (length e.lines)) (line_taken e)
  pub pairs_same : length f.pairs ≡ length e.pairs
  pub operations_same : operations f ≡ operations e

-- Every renumbered form is itself an accepted record: with its instructions numbered anew and its pairs program by program it passes all questions, 13 and 14 too.
abbrev pub RenumberedIsAccepted : Type 0
RenumberedIsAccepted =
    (bytes : List ℕ) (e : Execution) → read_all bytes ≡ says e → (order : List ℕ) → OrderOf e.processors order
    → (f : Execution) × (read_all (renumbered e order) ≡ says f) × RenumberedRecord e order f

-- The processors sorted by their keys give the smallest form.
abbrev pub SortedIsSmallest : Type 0
SortedIsSmallest = (bytes : List ℕ) (e : Execution) → read_all bytes ≡ says e → smallest_form e ≡ renumbered e (sorted_processors e)

-- Two records are equal exactly when they have the same smallest form: so equality and the order by smallest forms agree.
abbrev pub FormsDecide : Type 0
FormsDecide = (left right : List ℕ) (e f : Execution) → read_all left ≡ says e → read_all right ≡ says f → is_equal e f ≡ same (smallest_form e) (smallest_form f)

-- What the call answers of two records

abbrev pub IsAccepted : List ℕ → Type 0
IsAccepted bytes = (e : Execution) × (read_all bytes ≡ says e)

abbrev pub Equal : List ℕ → List ℕ → Type 0
Equal left right = compare_call left right ≡ says equal

abbrev pub LeftFirst : List ℕ → List ℕ → Type 0
LeftFirst left right = compare_call left right ≡ says left_first

abbrev pub RightFirst : List ℕ → List ℕ → Type 0
RightFirst left right = compare_call left right ≡ says right_first

-- Being equal is an equivalence of accepted records.
pub record EqualIsEquivalence : Type 0 where
  pub reflexive : (a : List ℕ) → IsAccepted a → Equal a a
  pub symmetric : (a b : List ℕ) → Equal a b → Equal b a
  pub transitive : (a b c : List ℕ) → Equal a b → Equal b c → Equal a c

-- Standing first is a strict total order of accepted records, up to equality.
pub record OrderIsTotal : Type 0 where
  pub one_of_three : (a b : List ℕ) → IsAccepted a → IsAccepted b → Equal a b ⊎ (LeftFirst a b ⊎ RightFirst a b)
  pub never_two : (a b : List ℕ) → (Equal a b → LeftFirst a b → ⊥) × (Equal a b → RightFirst a b → ⊥) × (LeftFirst a b → RightFirst a b → ⊥)
  pub turned : (a b : List ℕ) → LeftFirst a b ↔ RightFirst b a
  pub irreflexive : (a : List ℕ) → LeftFirst a a → ⊥
  pub transitive : (a b c : List ℕ) → LeftFirst a b → LeftFirst b c → LeftFirst a c
  pub equal_before : (a b c : List ℕ) → Equal a b → LeftFirst b c → LeftFirst a c
  pub equal_behind : (a b c : List ℕ) → LeftFirst a b → Equal b c → LeftFirst a c
