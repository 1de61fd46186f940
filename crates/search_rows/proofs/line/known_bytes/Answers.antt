-- Each turn looks at one byte; past the end there is 0.
use native.Mathlib.Omega.{arith}
use Rattle.search_rows.proofs.LineLaws.{known_more, known_all}
use Rattle.search_rows.proofs.line.known_bytes.Goals as goal

pub loop-j-init : goal.loop-j-init
loop-j-init c = (omega arith, λ i h. absurd (omega arith))

pub loop-j-smaller : goal.loop-j-smaller
loop-j-smaller c = omega (arith, c.loop-j-test.true)

pub loop-j-preserved : goal.loop-j-preserved
loop-j-preserved c = (omega (arith, c.loop-j-test.true), known_more c.args.bytes.now c.loop-j.j c.loop-j.invariant.1 (omega (arith, c.wide.ensures.0, c.wide.ensures.1)))

pub returns : goal.returns
returns c = known_all c.args.bytes.now c.loop-j.j c.loop-j.invariant.1 c.loop-j-test.false
