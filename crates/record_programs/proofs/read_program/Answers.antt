-- The count and its question, then one instruction more each turn.
use native.Mathlib.Omega.{arith}
use mathlib.Core.Path.{◌≡◌, refl, ◌∙◌}
use lib.ListN.{get_or}
use Rattle.std.proofs.Common.{rules}
use Rattle.record_decoded.specs.Decoded.{attributes_of, instructions_of}
use Rattle.record_decoded.proofs.Arrays.{instructions_length}
use Rattle.record_decoded.proofs.Items.{going_starts, going_on, going_fails, going_ends}
use Rattle.record_programs.proofs.ProgramLaws.{program_short, program_many, program_counted}
use Rattle.record_programs.proofs.read_program.Goals as goal

pub returns-in_default-clause-walked : goal.returns-in_default-clause-walked
returns-in_default-clause-walked c =
    let a = c.args in
    program_short a.processors (attributes_of a.lines) a.p (instructions_of a.is) a.part.now (search rules)

pub returns-then-is-wide-clause-walked : goal.returns-then-is-wide-clause-walked
returns-then-is-wide-clause-walked c =
    let a = c.args in
    let byte : get_or a.part.now 0 0 ≡ c.wide.result = search rules in
    program_many a.processors (attributes_of a.lines) a.p (instructions_of a.is) a.part.now (search rules) (omega (arith, instructions_length a.is, byte))

pub loop-init : goal.loop-init
loop-init c = (going_starts refl (search rules), c.requires.counted, omega arith)

pub returns-in_err-entry-clause-walked : goal.returns-in_err-entry-clause-walked
returns-in_err-entry-clause-walked c =
    let a = c.args in
    let byte : get_or a.part.now 0 0 ≡ c.wide.result = search rules in
    let counted = program_counted a.processors (attributes_of a.lines) a.p (instructions_of a.is) a.part.now (search rules) (omega (arith, instructions_length a.is, byte)) in
    let fails = going_fails c.loop.invariant.0 c.loop-test.true (c.in_err-entry.ensures.walked a.processors a.p _) in
    search rules

pub with_instruction-instructions-requires : goal.with_instruction-instructions-requires
with_instruction-instructions-requires c =
    let inv = c.loop.invariant in
    (omega (arith, inv.2), c.in_ok-entry.ensures.entry, c.requires.few.1, inv.1.bounded, inv.1.counted)

pub loop-preserved : goal.loop-preserved
loop-preserved c =
    let a = c.args in
    let inv = c.loop.invariant in
    let more = c.with_instruction-instructions.ensures in (
      going_on inv.0 c.loop-test.true (c.in_ok-entry.ensures.walked a.processors a.p _) more.holds,
      record { few = omega (arith, more.one, inv.2); counted = more.counted; bounded = more.bounded },
      omega (arith, more.one, inv.2),
    )

pub returns-clause-walked : goal.returns-clause-walked
returns-clause-walked c =
    let a = c.args in
    let byte : get_or a.part.now 0 0 ≡ c.wide.result = search rules in
    let counted = program_counted a.processors (attributes_of a.lines) a.p (instructions_of a.is) a.part.now (search rules) (omega (arith, instructions_length a.is, byte)) in
    counted ∙ search rules ∙ going_ends c.loop.invariant.0 c.loop-test.false
