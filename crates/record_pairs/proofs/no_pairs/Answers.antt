-- No pair stands in arrays whose count is 0.
use mathlib.Core.Path.{refl}
use Rattle.base.specs.Lists.{below, count}
use Rattle.record_decoded.specs.Decoded.{pairs_of}
use Rattle.record_pairs.proofs.no_pairs.Goals as goal

pub returns : goal.returns
unfolding pairs_of below count
returns c = (refl, refl)
