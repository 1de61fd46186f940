-- The last pair decides; with none, any pair passes.
use Rattle.std.proofs.Common.{rules}
use Rattle.record_pairs.proofs.PairLaws.{pair_alone, pair_after}
use Rattle.record_pairs.proofs.pair_above.Goals as goal

pub returns-then-k-eq0 : goal.returns-then-k-eq0
returns-then-k-eq0 c = pair_alone c.args.x c.args.earlier.0 c.args.later.0 c.if-k-eq0.true

pub returns-then-m-earlier : goal.returns-then-m-earlier
returns-then-m-earlier c = let after = pair_after c.args.x c.args.earlier.0 c.args.later.0 c.if-k-eq0.false in search rules

pub returns-then-m-earlier-2 : goal.returns-then-m-earlier-2
returns-then-m-earlier-2 c = let after = pair_after c.args.x c.args.earlier.0 c.args.later.0 c.if-k-eq0.false in search rules

pub returns-else-m-earlier-2 : goal.returns-else-m-earlier-2
returns-else-m-earlier-2 c = let after = pair_after c.args.x c.args.earlier.0 c.args.later.0 c.if-k-eq0.false in search rules
