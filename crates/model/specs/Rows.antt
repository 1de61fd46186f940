-- What a row of a table of examples is: a call, and what it must answer.
use Rattle.std.specs.Prelude.{ℕ, ◌≡◌, List, [], ◌∷◌, ◌++◌, map, length, take, drop, replicate}
use Rattle.base.specs.Lists.{below}
use Rattle.model.specs.Search.{Verdict}
use Rattle.model.specs.Calls.{Answer, says, refuses, Judgement, judge_call, SearchReply, search_call, done, TableReply, table_call, RecordReply}
use Rattle.model.specs.Courses.{Call, Course, start, course}
use Rattle.model.specs.Verdict.{verdict_lines}
use Rattle.model.specs.Sections.{Sections, write_call}
use Rattle.model.specs.SolversCopy.{solvers_copy_call}
use Rattle.model.specs.Renumbering.{Comparison, compare_call, first_call}

-- a buffer to lend, and the same with a position at its front
abbrev pub lent : List ℕ
lent = replicate 12 99

abbrev pub written : List ℕ → List ℕ
written position = position ++ drop (length position) lent

pub data Row : Type 0 where
  judged : List ℕ → List ℕ → Judgement → Row  -- record and order; the judgement
  judged_no : List ℕ → List ℕ → ℕ → Row  -- record and order; the question that refuses them
  searched : List ℕ → List ℕ → ℕ → Verdict → ℕ → List ℕ → Row  -- record, position and allowance; verdict, steps, position
  searched_no : List ℕ → List ℕ → ℕ → ℕ → Row  -- record, buffer and saved length; the question that refuses them
  tabled : List ℕ → List ℕ → Row  -- record; the marks written into a longer table
  tabled_no : List ℕ → List ℕ → ℕ → Row  -- record and table; the question that refuses them
  printed : List ℕ → List ℕ → Row  -- input of the verdict program; its output
  followed : List ℕ → List Call → Course → Row  -- record and list of search calls over the buffer; how far they come
  composed : Sections → List ℕ → Row  -- sections; the record written into a longer buffer
  composed_no : Sections → List ℕ → ℕ → Row  -- sections and buffer; the question that refuses them
  copied : List ℕ → List ℕ → Row  -- record; its solvers' copy, in a longer buffer
  copied_no : List ℕ → List ℕ → ℕ → Row  -- record and buffer; the question that refuses the copy
  compared : List ℕ → List ℕ → Comparison → List ℕ → Row  -- two records; how they compare, and the one handed back
  compared_no : List ℕ → List ℕ → ℕ → Row  -- two records; the question that refuses them
  cut : List ℕ → ℕ → Row  -- record; the question that refuses each shorter part from its start

pub data Result : Type 0 where
  judgements : List (Answer Judgement) → Result
  replied : SearchReply → Result
  filled : TableReply → Result
  output : List ℕ → Result
  followed_to : Course → Result
  recorded : RecordReply → Result
  compares : Answer Comparison → List ℕ → Result

-- what the call answers
unfoldable pub made : Row → Result
made (judged bytes order j) = judgements (judge_call bytes order ∷ [])
made (judged_no bytes order q) = judgements (judge_call bytes order ∷ [])
made (searched bytes position allowance v s p) = replied (search_call bytes (written position) (length position) allowance)
made (searched_no bytes buffer saved q) = replied (search_call bytes buffer saved 5)
made (tabled bytes marks) = filled (table_call bytes (replicate (length marks) 7 ++ lent))
made (tabled_no bytes table q) = filled (table_call bytes table)
made (printed input text) = output (verdict_lines input)
made (followed bytes calls t) = followed_to (course bytes calls (start lent))
made (composed s bytes) = recorded (write_call s (replicate (length bytes) 7 ++ lent))
made (composed_no s buffer q) = recorded (write_call s buffer)
made (copied bytes copy) = recorded (solvers_copy_call bytes (replicate (length copy) 7 ++ lent))
made (copied_no bytes buffer q) = recorded (solvers_copy_call bytes buffer)
made (compared left right c first) = compares (compare_call left right) (first_call left right)
made (compared_no left right q) = compares (compare_call left right) (first_call left right)
made (cut bytes q) = judgements (map (λ n. judge_call (take n bytes) []) (below (length bytes)))

-- what it must answer
unfoldable pub wanted : Row → Result
wanted (judged bytes order j) = judgements (says j ∷ [])
wanted (judged_no bytes order q) = judgements (refuses q ∷ [])
wanted (searched bytes position allowance v s p) =
    replied (record { answer = says v; steps = s; length = length p; buffer = p ++ drop (length p) (written position) })
wanted (searched_no bytes buffer saved q) =
    replied (record { answer = refuses q; steps = 0; length = saved; buffer = buffer })
wanted (tabled bytes marks) = filled (record { answer = says done; table = marks ++ lent })
wanted (tabled_no bytes table q) = filled (record { answer = refuses q; table = table })
wanted (printed input text) = output text
wanted (followed bytes calls t) = followed_to t
wanted (composed s bytes) = recorded (record { answer = says done; length = length bytes; buffer = bytes ++ lent })
wanted (composed_no s buffer q) = recorded (record { answer = refuses q; length = 0; buffer = buffer })
wanted (copied bytes copy) = recorded (record { answer = says done; length = length copy; buffer = copy ++ lent })
wanted (copied_no bytes buffer q) = recorded (record { answer = refuses q; length = 0; buffer = buffer })
wanted (compared left right c first) = compares (says c) first
wanted (compared_no left right q) = compares (refuses q) []
wanted (cut bytes q) = judgements (replicate (length bytes) (refuses q))

-- every row of a table holds
abbrev pub RowsHold : List Row → Type 0
RowsHold rows = map made rows ≡ map wanted rows
