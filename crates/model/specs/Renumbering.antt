-- Document 02, P9: a record under a renumbering of its processors, equal records, their order, and the calls that compare two of them.
use Rattle.std.specs.Prelude.{ℕ, ◌+◌, ◌-◌, Bool, cond, List, [], ◌∷◌, ◌++◌, map, length, get_or, replicate, eqb, ltb}
use Rattle.base.specs.Lists.{any, keep, for, below, member, same}
use Rattle.base.specs.Orders.{orders_below}
use Rattle.base.specs.Lex.{lex_less, least}
use Rattle.model.specs.Execution.{Instruction, Execution, no_line, lines_from}
use Rattle.model.specs.Questions.{at, line_length, no_instruction}
use Rattle.model.specs.Calls.{Answer, says, refuses, ◌>>=◌, read_all}
use Rattle.model.specs.Sections.{line_bytes, entry_bytes, pair_bytes}

-- A processor: the bytes of its program from the count on, and its pairs, by instruction numbers within the program.
pub record Processor : Type 0 where
  pub program : List ℕ
  pub pairs : List (ℕ × ℕ)

-- a program in the record: its count, then its entries
abbrev pub bytes_of_program : List Instruction → List ℕ
bytes_of_program is = length is ∷ for is entry_bytes

-- The processors of an execution, by its instructions and its pairs
module _ (is : List Instruction) where
  -- the instructions of processor p
  unfoldable pub own_instructions : ℕ → List Instruction
  own_instructions p = keep (λ i. eqb i.processor p) is

  -- those that stand before them: the instructions of lower processors
  unfoldable pub lower_instructions : ℕ → List Instruction
  lower_instructions p = keep (λ i. ltb i.processor p) is

  -- of some pairs those of processor p. (Both instructions of a pair are in one program.)
  unfoldable pub own_pairs : List (ℕ × ℕ) → ℕ → List (ℕ × ℕ)
  own_pairs pairs p = keep (λ q. eqb (get_or is q.0 no_instruction).processor p) pairs

  -- the same by numbers within the program
  unfoldable pub local_pairs : List (ℕ × ℕ) → ℕ → List (ℕ × ℕ)
  local_pairs pairs p =
      let n = length (lower_instructions p) in
      map (λ q. (q.0 - n, q.1 - n)) (own_pairs pairs p)

  unfoldable pub processor_at : List (ℕ × ℕ) → ℕ → Processor
  processor_at pairs p = record { program = bytes_of_program (own_instructions p); pairs = local_pairs pairs p }

-- The pairs of processors one after the other, where n instructions stand before the first: each number is raised by the instructions before its program.
unfoldable pub pairs_from : ℕ → List Processor → List ℕ
pairs_from n [] = []
pairs_from n (c ∷ cs) = map (λ k. n + k) (for c.pairs pair_bytes) ++ pairs_from (n + at c.program 0) cs

-- some access touches line k: an mf touches none, an access of 16 bytes two
unfoldable pub touched : List Instruction → ℕ → Bool
touched is k = any (λ i. member (lines_from i.address i.size) k) is

-- the bytes of line k; of one that no access touches zeros
unfoldable pub line_taken : Execution → ℕ → List ℕ
line_taken e k = cond (touched e.instructions k) (line_bytes (get_or e.lines k no_line)) (replicate line_length 0)

-- what stands before the programs: P, the count of lines, the lines
unfoldable pub head_taken : Execution → List ℕ
head_taken e = e.processors ∷ length e.lines ∷ for (below (length e.lines)) (line_taken e)

-- a record from its head, the number of its pairs and its processors
unfoldable pub record_from : List ℕ → ℕ → List Processor → List ℕ
record_from head n cs = head ++ (for cs (λ c. c.program) ++ (n ∷ pairs_from 0 cs))

-- The record with its processors numbered anew, untouched lines taken as zero: number k is now the processor that had number order[k]. Programs and pairs are carried
-- along; instructions are numbered through the record, so pairs come program by program, those of one in their order, which is how question 14 wants them.
unfoldable pub renumbered : Execution → List ℕ → List ℕ
renumbered e order = record_from (head_taken e) (length e.pairs) (map (processor_at e.instructions e.pairs) order)

-- Two records are equal when some renumbering turns the one into the other.
unfoldable pub is_equal : Execution → Execution → Bool
is_equal e f = any (λ order. same (renumbered e order) (renumbered f (below f.processors))) (orders_below e.processors)

-- the smallest renumbered form, byte by byte
unfoldable pub smallest_form : Execution → List ℕ
smallest_form e = least (map (renumbered e) (orders_below e.processors))

-- The first call: equal, or which record stands first, by the smallest forms

pub data Comparison : Type 0 where
  equal left_first right_first : Comparison

unfoldable pub comparison : Execution → Execution → Comparison
comparison e f = cond (is_equal e f) equal (cond (lex_less (smallest_form e) (smallest_form f)) left_first right_first)

-- an execution and the right record
unfoldable pub comparing : Execution → List ℕ → Answer Comparison
comparing e right = do
  f ← read_all right
  says (comparison e f)

-- The left record's refusal, else the right one's.
unfoldable pub compare_call : List ℕ → List ℕ → Answer Comparison
compare_call left right = do
  e ← read_all left
  comparing e right

-- The second call: the record that stands first, the left one where they are equal; where either is refused the empty part of the left one

pub data HandedBack : Type 0 where
  left_record right_record empty_part : HandedBack

unfoldable pub stands_first : Answer Comparison → HandedBack
stands_first (refuses q) = empty_part
stands_first (says equal) = left_record
stands_first (says left_first) = left_record
stands_first (says right_first) = right_record

unfoldable pub handed : List ℕ → List ℕ → HandedBack → List ℕ
handed left right left_record = left
handed left right right_record = right
handed left right empty_part = []

unfoldable pub first_call : List ℕ → List ℕ → List ℕ
first_call left right = handed left right (stands_first (compare_call left right))
