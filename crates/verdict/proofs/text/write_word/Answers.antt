-- Each turn writes one byte.
use native.Mathlib.Omega.{arith}
use mathlib.Core.Path.{refl}
use Rattle.verdict.proofs.TextLaws.{writes_start, writes_turn, writes_end, appends_same, for_bytes}
use Rattle.verdict.proofs.text.write_word.Goals as goal

pub loop-byte-init : goal.loop-byte-init
loop-byte-init c = (refl, writes_start)

pub loop-byte-preserved : goal.loop-byte-preserved
loop-byte-preserved c = (refl, writes_turn c.loop-byte.invariant.1 (omega arith) c.write_byte-next.auto.out c.write_byte-next.ensures)

pub returns : goal.returns
returns c = appends_same (for_bytes _) (writes_end c.loop-byte.invariant.1 (omega arith))
