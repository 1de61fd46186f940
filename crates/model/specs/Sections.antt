-- Document 02, P1: the separate sections of an execution, which the paper calls sheets, the record that is written from them, and the call that writes it.
use Rattle.std.specs.Prelude.{ℕ, zero, suc, ◌+◌, ◌-◌, ◌/◌, ◌%◌, Bool, not, cond, ◌&&◌, List, [], ◌∷◌, ◌++◌, length, take, drop, replicate, eqb, ltb}
use Rattle.base.specs.Lists.{all, keep, for, below}
use Rattle.model.specs.Execution.{kind_of, kind_number, is_fence, is_semaphore, attribute_number, Line, Instruction, Execution}
use Rattle.model.specs.Questions.{at, line_length, entry_length, more_length, pair_length, question6}
use Rattle.model.specs.Calls.{Answer, says, ◌>>=◌, ◌>>◌, asks, read_all, question25, RecordReply, record_reply}

-- P, and the bytes of three sections without counts: lines, instructions each behind the number of its processor, pairs.
pub record Sections : Type 0 where
  pub processors : ℕ
  pub lines : List ℕ
  pub instructions : List ℕ
  pub pairs : List ℕ

abbrev pub sections_from : ℕ → List ℕ → List ℕ → List ℕ → Sections
sections_from p lines instructions pairs = record { processors = p; lines = lines; instructions = instructions; pairs = pairs }

-- The bytes of an entry of the section of instructions, by its kind and size: a processor number, then as many as in a record. A kind that is not known counts as
-- twelve bytes, and so does an mf, at any size.
unfoldable pub section_entry_length : List ℕ → ℕ
section_entry_length x =
    let kind = kind_of (at x 1) in
    1 + entry_length + cond (question6 (at x 1) && not (is_fence kind)) (more_length kind (at x 3)) 0

-- the entries of the section of instructions, walked from its front: at most so many. The last may be shorter than its kind and size want.
unfoldable pub entries_up_to : ℕ → List ℕ → List (List ℕ)
entries_up_to zero bytes = []
entries_up_to (suc most) [] = []
entries_up_to (suc most) (b ∷ bytes) =
    let n = section_entry_length (b ∷ bytes) in
    take n (b ∷ bytes) ∷ entries_up_to most (drop n (b ∷ bytes))

-- all of them: no more than there are bytes
unfoldable pub entries_of : List ℕ → List (List ℕ)
entries_of bytes = entries_up_to (length bytes) bytes

unfoldable pub is_whole : List ℕ → Bool
is_whole x = eqb (length x) (section_entry_length x)

unfoldable pub all_whole : List ℕ → Bool
all_whole instructions = all is_whole (entries_of instructions)

-- 23: is each section a whole number of entries?
unfoldable pub question23 : Sections → Bool
question23 s = eqb (length s.lines % line_length) 0 && all_whole s.instructions && eqb (length s.pairs % pair_length) 0

-- 24: is each processor number below P?
unfoldable pub question24 : ℕ → List ℕ → Bool
question24 processors instructions = all (λ x. ltb (at x 0) processors) (entries_of instructions)

-- the entries of processor p, in their order
unfoldable pub program_of : List ℕ → ℕ → List (List ℕ)
program_of instructions p = keep (λ x. eqb (at x 0) p) (entries_of instructions)

-- a program in the record: its count, then its entries without the processor number
unfoldable pub program_bytes : List (List ℕ) → List ℕ
program_bytes program = length program ∷ for program (drop 1)

-- The record to be written. A count is the number that it is: over 255 it is no byte, and fails 3, 5 or 12 where the walk meets it.
unfoldable pub record_of : Sections → List ℕ
record_of s =
    s.processors ∷ length s.lines / line_length ∷ s.lines
    ++ for (below s.processors) (λ p. program_bytes (program_of s.instructions p))
    ++ (length s.pairs / pair_length ∷ s.pairs)

-- A record into a buffer: its own questions, then 25.
unfoldable pub write_record : List ℕ → List ℕ → Answer (List ℕ)
write_record bytes buffer = do
  e ← read_all bytes
  asks 25 (question25 bytes buffer)
  says bytes

-- The call: questions 23 and 24, then the record's
unfoldable pub writing : Sections → List ℕ → Answer (List ℕ)
writing s buffer = do
  asks 23 (question23 s)
  asks 24 (question24 s.processors s.instructions)
  write_record (record_of s) buffer

unfoldable pub write_call : Sections → List ℕ → RecordReply
write_call s buffer = record_reply buffer (writing s buffer)

-- The same sections, grouped: the instructions by processor, keeping their order within each.
unfoldable pub grouped : Sections → Sections
grouped s = record {
  processors = s.processors;
  lines = s.lines;
  instructions = for (below s.processors) (λ p. for (program_of s.instructions p) (λ x. x));
  pairs = s.pairs;
}

-- The sections of an execution

unfoldable pub line_bytes : Line → List ℕ
line_bytes l = attribute_number l.attribute ∷ l.initial

-- a value with zeros behind it, up to so many bytes
unfoldable pub padded : ℕ → List ℕ → List ℕ
padded n bytes = bytes ++ replicate (n - length bytes) 0

-- the data bytes of an entry: of a semaphore the value seen and the value written, else the one value
unfoldable pub data_bytes : Instruction → List ℕ
data_bytes i =
    cond (is_semaphore i.kind)
    (padded 8 i.seen ++ padded 8 i.wrote)
    (padded (8 + more_length i.kind i.size) (i.seen ++ i.wrote))

unfoldable pub entry_bytes : Instruction → List ℕ
entry_bytes i = kind_number i.kind ∷ i.address ∷ i.size ∷ data_bytes i

abbrev pub section_entry : Instruction → List ℕ
section_entry i = i.processor ∷ entry_bytes i

abbrev pub pair_bytes : ℕ × ℕ → List ℕ
pair_bytes p = p.0 ∷ p.1 ∷ []

unfoldable pub sections_of : Execution → Sections
sections_of e = record {
  processors = e.processors;
  lines = for e.lines line_bytes;
  instructions = for e.instructions section_entry;
  pairs = for e.pairs pair_bytes;
}
