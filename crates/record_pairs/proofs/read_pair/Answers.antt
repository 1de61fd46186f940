-- Each way out is one answer of the pair's questions.
use Rattle.std.proofs.Common.{rules}
use Rattle.record_decoded.specs.Decoded.{instructions_of, pairs_of}
use Rattle.record_pairs.proofs.PairLaws.{pair_short, pair_refused, pair_low, pair_good}
use Rattle.record_pairs.proofs.read_pair.Goals as goal

pub returns-in_default : goal.returns-in_default
returns-in_default c = pair_short (instructions_of c.args.is) (pairs_of c.args.x) c.args.part.now (search rules)

pub returns-then-not-pair_passes : goal.returns-then-not-pair_passes
returns-then-not-pair_passes c =
    pair_refused (instructions_of c.args.is) (pairs_of c.args.x) c.args.part.now (search rules) c.wide.result c.wide-2.result (search rules) (search rules) (search rules)

pub returns-then-not-pair_above : goal.returns-then-not-pair_above
returns-then-not-pair_above c =
    pair_low (instructions_of c.args.is) (pairs_of c.args.x) c.args.part.now (search rules) c.wide.result c.wide-2.result (search rules) (search rules) (search rules) (search rules)

pub returns : goal.returns
returns c =
    let good = pair_good (instructions_of c.args.is) (pairs_of c.args.x) c.args.part.now (search rules) c.wide.result c.wide-2.result (search rules) (search rules) (search rules) (search rules) in
    search rules
