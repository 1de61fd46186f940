-- The count of processors and its question, the lines, then what follows them.
use Prim.Native.Nat.{ℕ}
use mathlib.Core.Path.{◌≡◌, ap₂, ◌∙◌}
use mathlib.Core.List.{List}
use Rattle.std.proofs.Common.{rules}
use lib.ListN.{get_or, drop}
use Rattle.model.specs.Questions.{Found, found, no_to, read_lines}
use Rattle.model.specs.Calls.{answer_of}
use Rattle.record_decoded.specs.Decoded.{lines_of}
use Rattle.record_decoded.specs.Refusals.{question_number}
use Rattle.record_reader.specs.Readings.{after_lines}
use Rattle.record_reader.proofs.ReadingLaws.{record_short, record_few, record_many, record_fails, record_read}
use Rattle.record_reader.proofs.reader.read.Goals as goal
use Rattle.record_reader.proofs.reader.read.Goals.{then-processors-lt1-via-then-processors-lt1, then-processors-lt1-via-else-processors-lt1+then-processors-gt-MOST_PROCESSORS}

pub returns-in_default : goal.returns-in_default
returns-in_default c = record_short c.args.bytes.now (search rules)

pub returns-then-processors-lt1 : goal.returns-then-processors-lt1
returns-then-processors-lt1 c =
    elim c.then-processors-lt1.branch [
      | then-processors-lt1-via-then-processors-lt1 w ↦ record_few c.args.bytes.now (search rules) (search rules)
      | then-processors-lt1-via-else-processors-lt1+then-processors-gt-MOST_PROCESSORS w ↦ record_many c.args.bytes.now (search rules) (search rules)
    ]

pub returns-in_err-lines : goal.returns-in_err-lines
returns-in_err-lines c =
    let bytes = c.args.bytes.now in
    let part : c.in-Some.part.now ≡ drop 1 bytes = search rules in
    let read : read_lines (drop 1 bytes) ≡ no_to (question_number c.in_err-lines.field-0.0) = search rules in
    let fails = record_fails bytes (search rules) (search rules) (search rules) read in
    search rules

pub returns : goal.returns
returns c =
    let bytes = c.args.bytes.now in
    let lines = c.in_ok-lines.lines in
    let rest = c.in_ok-lines.rest.now in
    let part : c.in-Some.part.now ≡ drop 1 bytes = search rules in
    let read : read_lines (drop 1 bytes) ≡ found (lines_of (drop 1 bytes) lines) rest = search rules in
    let p : get_or bytes 0 0 ≡ c.wide.result = search rules in
    record_read bytes (search rules) (search rules) (search rules) read
    ∙ ap₂ (λ (p : ℕ) (l : List ℕ). answer_of (after_lines p (lines_of (drop 1 bytes) lines) l)) p (search rules)
    ∙ c.read_rest.ensures bytes
