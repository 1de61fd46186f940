-- Past the lines there is no byte, and past the record none; else it is the one of its address.
use Rattle.std.proofs.Common.{rules}
use mathlib.Core.Path.{sym, ◌∙◌}
use Rattle.record_decoded.proofs.InitialBytes.{initial_past, initial_there}
use Rattle.record_decoded.proofs.initial.initial_byte.Goals as goal

pub returns-then-count-line : goal.returns-then-count-line
returns-then-count-line c = let a = c.args in initial_past a.bytes.now a.count a.address c.if-count-line.true

pub returns : goal.returns
returns c =
    let a = c.args in
    let there = initial_there a.bytes.now a.count a.address c.if-count-line.false in
    search rules
