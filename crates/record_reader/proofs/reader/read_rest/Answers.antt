-- The programs, then what follows them.
use mathlib.Core.Path.{◌∙◌}
use Rattle.std.proofs.Common.{rules}
use lib.ListN.{drop}
use Rattle.record_decoded.proofs.Arrays.{attributes_are}
use Rattle.record_decoded.specs.Decoded.{lines_of, attributes_of}
use Rattle.record_reader.proofs.ReadingLaws.{rest_fails, rest_read}
use Rattle.record_reader.proofs.reader.read_rest.Goals as goal

pub returns-in_err-instructions : goal.returns-in_err-instructions
returns-in_err-instructions c = λ bytes.
    let a = c.args in
    let fails = rest_fails a.processors (lines_of (drop 1 bytes) a.lines) (attributes_of a.lines) (attributes_are (drop 1 bytes) a.lines) a.part.now c.in_err-instructions.ensures.walked in
    search rules

pub returns : goal.returns
returns c = λ bytes.
    let a = c.args in
    rest_read a.processors (lines_of (drop 1 bytes) a.lines) (attributes_of a.lines) (attributes_are (drop 1 bytes) a.lines) a.part.now c.in_ok-instructions.ensures.walked
    ∙ c.read_end.ensures bytes
