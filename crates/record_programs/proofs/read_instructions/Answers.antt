-- The programs, then question 11.
use native.Mathlib.Omega.{arith}
use Rattle.std.proofs.Common.{rules}
use Rattle.record_decoded.specs.Decoded.{attributes_of}
use Rattle.record_programs.proofs.ProgramLaws.{instructions_fail, instructions_many, instructions_read}
use Rattle.record_programs.proofs.read_instructions.Goals as goal

pub returns-in_err-instructions-clause-walked : goal.returns-in_err-instructions-clause-walked
returns-in_err-instructions-clause-walked c =
    let fails = instructions_fail c.args.processors (attributes_of c.args.lines) c.args.part.now c.in_err-instructions.ensures.walked in
    search rules

pub returns-then-instructions-gt-LIMIT-clause-walked : goal.returns-then-instructions-gt-LIMIT-clause-walked
returns-then-instructions-gt-LIMIT-clause-walked c =
    let read = c.in_ok-instructions.ensures in
    instructions_many c.args.processors (attributes_of c.args.lines) c.args.part.now read.walked (omega (arith, read.counted.counted))

pub returns-clause-walked : goal.returns-clause-walked
returns-clause-walked c =
    let read = c.in_ok-instructions.ensures in
    instructions_read c.args.processors (attributes_of c.args.lines) c.args.part.now read.walked (omega (arith, read.counted.counted))
