-- Document 02, P12: the solvers' copy of a record, in which all that was seen is zero, and the call that writes it.
use Rattle.std.specs.Prelude.{ℕ, ◌+◌, ◌*◌, cond, List, [], ◌∷◌, map, length, take}
use Rattle.base.specs.Lists.{for, count, below, member}
use Rattle.model.specs.Execution.{Kind, is_load, is_semaphore, Instruction, Execution}
use Rattle.model.specs.Questions.{at, line_length, entry_length, more_length}
use Rattle.model.specs.Calls.{Answer, says, ◌>>=◌, ◌>>◌, asks, read_all, question25, RecordReply, record_reply}

-- the bytes that instructions have in the record
unfoldable pub entries_length : List Instruction → ℕ
entries_length [] = 0
entries_length (i ∷ is) = entry_length + more_length i.kind i.size + entries_length is

-- Where the data bytes of an instruction begin in its record, which has so many lines and these instructions: behind P and the count of lines, the lines, the counts
-- of the programs up to its own, the instructions before it, and its kind, address and size.
unfoldable pub data_place : ℕ → List Instruction → Instruction → ℕ
data_place lines is i = 2 + line_length * lines + (1 + i.processor) + entries_length (take i.number is) + 3

-- how many of them are what was seen: all of a load's, the first eight of a semaphore's
unfoldable pub seen_length : Kind → ℕ → ℕ
seen_length k size = cond (is_semaphore k) 8 (cond (is_load k) (8 + more_length k size) 0)

-- the places of all that was seen
unfoldable pub seen_places : ℕ → List Instruction → List ℕ
seen_places lines is = for is (λ i. count (data_place lines is i) (seen_length i.kind i.size))

-- the same of an execution
abbrev pub seen_in : Execution → List ℕ
seen_in e = seen_places (length e.lines) e.instructions

-- bytes with zeros at these places, and all others as they are
unfoldable pub zeroed : List ℕ → List ℕ → List ℕ
zeroed places bytes = map (λ k. cond (member places k) 0 (at bytes k)) (below (length bytes))

-- The call: the record's own questions, then 25
unfoldable pub copying : List ℕ → List ℕ → Answer (List ℕ)
copying bytes buffer = do
  e ← read_all bytes
  asks 25 (question25 bytes buffer)
  says (zeroed (seen_in e) bytes)

unfoldable pub solvers_copy_call : List ℕ → List ℕ → RecordReply
solvers_copy_call bytes buffer = record_reply buffer (copying bytes buffer)
