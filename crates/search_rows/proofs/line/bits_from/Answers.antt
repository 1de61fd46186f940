-- Each turn puts in the bits of one byte.
use Prim.Native.Nat.{◌%◌}
use native.Mathlib.Omega.{arith}
use mathlib.Core.Path.{◌∙◌}
use mathlib.Core.Bool.{and-true}
use Rattle.search_rows.proofs.LineLaws.{ones_bit, bytes_none, bytes_more, bytes_in}
use Rattle.search_rows.proofs.line.bits_from.Goals as goal

pub loop-j-init : goal.loop-j-init
loop-j-init c = bytes_none

pub loop-j-smaller : goal.loop-j-smaller
loop-j-smaller c = omega (arith, c.loop-j-test.true)

pub loop-j-preserved : goal.loop-j-preserved
loop-j-preserved c = bytes_more c.loop-j.invariant c.loop-j-test.true c.with_byte-word.result 255 c.with_byte-word.ensures (λ i s e. ones_bit (i % 8) (omega arith))

pub returns : goal.returns
returns c = λ i s. bytes_in c.loop-j.invariant c.loop-j-test.false i s ∙ and-true _
