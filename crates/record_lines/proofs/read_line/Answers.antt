-- Each way out is one answer of the line's questions.
use native.Mathlib.Omega.{arith}
use Rattle.std.proofs.Common.{rules}
use Rattle.record_lines.proofs.LineLaws.{line_short, line_unknown, line_passes}
use Rattle.record_lines.proofs.read_line.Goals as goal

pub returns-in_default-clause-walked : goal.returns-in_default-clause-walked
returns-in_default-clause-walked c = line_short c.args.part.now (search rules)

pub returns-then-not-is_attribute-clause-walked : goal.returns-then-not-is_attribute-clause-walked
returns-then-not-is_attribute-clause-walked c = line_unknown c.args.part.now (search rules) (search rules)

pub returns-clause-walked : goal.returns-clause-walked
returns-clause-walked c = let passes = line_passes c.args.part.now (search rules) (search rules) in search rules
