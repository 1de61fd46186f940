-- No line stands in arrays whose count is 0.
use mathlib.Core.Path.{refl}
use Rattle.base.specs.Lists.{below, count}
use Rattle.record_decoded.specs.Decoded.{lines_of}
use Rattle.record_lines.proofs.no_lines.Goals as goal

pub returns : goal.returns
unfolding lines_of below count
returns c = (refl, λ part. refl)
