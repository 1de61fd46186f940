-- The count and its question, then one line more each turn.
use native.Mathlib.Omega.{arith}
use Prim.Native.Nat.{ℕ, ◌+◌, ◌*◌}
use mathlib.Core.Path.{◌≡◌, refl, sym, ap, ◌∙◌}
use mathlib.Core.List.{List}
use lib.ListN.{get_or, drop}
use Rattle.std.proofs.Common.{rules}
use Rattle.model.specs.Questions.{no_to, read_line, read_lines}
use Rattle.record_decoded.specs.Refusals.{question_number}
use Rattle.record_decoded.proofs.Items.{going_starts, going_on, going_fails, going_ends}
use Rattle.record_lines.proofs.LineLaws.{lines_short, lines_refused, lines_counted, line_turn, too_few, too_many, enough}
use Rattle.record_lines.proofs.read_lines.Goals as goal
use Rattle.record_lines.proofs.read_lines.Goals.{then-n-lt1-via-then-n-lt1, then-n-lt1-via-else-n-lt1+then-n-gt-MOST_LINES}

pub returns-in_default-clause-walked : goal.returns-in_default-clause-walked
returns-in_default-clause-walked c = lines_short c.args.part.now (search rules)

pub returns-then-n-lt1-clause-walked : goal.returns-then-n-lt1-clause-walked
returns-then-n-lt1-clause-walked c =
    let part = c.args.part.now in
    lines_refused part (search rules)
    (elim c.then-n-lt1.branch [
      | then-n-lt1-via-then-n-lt1 w ↦ too_few (get_or part 0 0) (search rules)
      | then-n-lt1-via-else-n-lt1+then-n-gt-MOST_LINES w ↦ too_many (get_or part 0 0) (search rules)
    ])

pub loop-init : goal.loop-init
loop-init c = (going_starts (c.no_lines-lines.ensures.1 _) (search rules), c.no_lines-lines.ensures.0, search rules)

pub returns-in_err-attribute-clause-walked : goal.returns-in_err-attribute-clause-walked
returns-in_err-attribute-clause-walked c =
    let part = c.args.part.now in
    let counted = lines_counted part (search rules) (enough (get_or part 0 0) (search rules) (search rules)) in
    let fails = going_fails c.loop.invariant.0 c.loop-test.true (c.in_err-attribute.ensures.walked) in
    search rules

pub loop-preserved : goal.loop-preserved
loop-preserved c =
    let inv = c.loop.invariant in
    let read = c.in_ok-attribute.ensures in
    let more = c.with_line-lines.ensures in
    line_turn c.args.part.now c.loop.lines _ _ _ _ inv.0 inv.1 inv.2 c.loop-test.true read.walked read.front.0 read.front.1 more.counted (more.holds _)

pub returns-clause-walked : goal.returns-clause-walked
returns-clause-walked c =
    let part = c.args.part.now in
    let counted = lines_counted part (search rules) (enough (get_or part 0 0) (search rules) (search rules)) in
    counted ∙ search rules ∙ going_ends c.loop.invariant.0 c.loop-test.false
