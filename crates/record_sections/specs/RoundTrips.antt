-- Document 02, P1: both round trips between separate sections, the paper's sheets, and records.
use Rattle.std.specs.Prelude.{ℕ, ◌≤◌, ◌≡◌, List, ◌++◌, length, take, drop}
use Rattle.model.specs.Execution.{Execution}
use Rattle.model.specs.Calls.{says, read_all, done}
use Rattle.model.specs.Sections.{Sections, write_call, grouped, sections_of}

-- 'Reading what it wrote must yield the same sheets, grouped': the bytes at the front of the buffer are an accepted record, whose execution has the sections given,
-- its instructions by processor in the order that they had within each.
abbrev pub WrittenIsRead : Type 0
WrittenIsRead =
    (s : Sections) (buffer : List ℕ) → (write_call s buffer).answer ≡ says done
    → (e : Execution)
    × (read_all (take (write_call s buffer).length (write_call s buffer).buffer) ≡ says e)
    × (sections_of e ≡ grouped s)

-- 'Writing the sheets of any accepted record must yield that record', byte for byte, at the front of every buffer that has room for it.
abbrev pub ReadIsWritten : Type 0
ReadIsWritten =
    (bytes : List ℕ) (e : Execution) → read_all bytes ≡ says e
    → (buffer : List ℕ) → length bytes ≤ length buffer
    → write_call (sections_of e) buffer ≡ record { answer = says done; length = length bytes; buffer = bytes ++ drop (length bytes) buffer }
