-- No instruction stands in arrays whose count is 0.
use mathlib.Core.Path.{refl}
use Rattle.base.specs.Lists.{below, count}
use Rattle.record_decoded.specs.Decoded.{instructions_of}
use Rattle.record_programs.proofs.no_instructions.Goals as goal

pub returns : goal.returns
unfolding instructions_of below count
returns c = (refl, refl, refl)
