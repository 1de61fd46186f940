-- Each turn reads one program more; what is left decides the whole.
use Rattle.std.proofs.Common.{rules}
use Rattle.record_programs.proofs.ProgramLaws.{counted_none, programs_start, programs_on, programs_fail, programs_end}
use Rattle.record_programs.proofs.read_programs.Goals as goal

pub loop-p-init : goal.loop-p-init
loop-p-init c =
    let none = c.no_instructions-instructions.ensures in
    (programs_start none.2, counted_none none.0 none.1 none.2)

pub returns-in_err-more-clause-walked : goal.returns-in_err-more-clause-walked
returns-in_err-more-clause-walked c =
    let fails = programs_fail c.loop-p.invariant.0 c.loop-p-test.true c.in_err-more.ensures.walked in
    search rules

pub loop-p-preserved : goal.loop-p-preserved
loop-p-preserved c =
    (programs_on c.loop-p.invariant.0 c.loop-p-test.true c.in_ok-more.ensures.walked, c.in_ok-more.ensures.counted)

pub returns-clause-walked : goal.returns-clause-walked
returns-clause-walked c = programs_end c.loop-p.invariant.0 c.loop-p-test.false
