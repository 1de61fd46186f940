-- The count and its question, then one pair more each turn.
use native.Mathlib.Omega.{arith}
use mathlib.Core.Path.{◌∙◌}
use Rattle.std.proofs.Common.{rules}
use Rattle.record_decoded.specs.Decoded.{instructions_of}
use Rattle.record_decoded.proofs.Items.{going_starts, going_on, going_fails, going_ends}
use Rattle.record_pairs.proofs.PairLaws.{pairs_short, pairs_many, pairs_counted}
use Rattle.record_pairs.proofs.read_pairs.Goals as goal

pub returns-in_default : goal.returns-in_default
returns-in_default c = pairs_short (instructions_of c.args.is) c.args.part.now (search rules)

pub returns-then-n-gt-MOST_PAIRS : goal.returns-then-n-gt-MOST_PAIRS
returns-then-n-gt-MOST_PAIRS c = pairs_many (instructions_of c.args.is) c.args.part.now (search rules) (search rules)

pub loop-init : goal.loop-init
loop-init c = (going_starts c.no_pairs-pairs.ensures.1 (search rules), c.no_pairs-pairs.ensures.0)

pub returns-in_err-pair : goal.returns-in_err-pair
returns-in_err-pair c =
    let counted = pairs_counted (instructions_of c.args.is) c.args.part.now (search rules) (search rules) in
    let fails = going_fails c.loop.invariant.0 c.loop-test.true c.in_err-pair.ensures in
    search rules

pub loop-preserved : goal.loop-preserved
loop-preserved c =
    let more = c.with_pair-pairs.ensures in
    (going_on c.loop.invariant.0 c.loop-test.true c.in_ok-pair.ensures more.1, omega (arith, c.loop.invariant.1, more.0))

pub returns : goal.returns
returns c =
    let counted = pairs_counted (instructions_of c.args.is) c.args.part.now (search rules) (search rules) in
    counted ∙ search rules ∙ going_ends c.loop.invariant.0 c.loop-test.false
