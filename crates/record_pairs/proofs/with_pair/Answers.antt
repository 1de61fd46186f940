-- The pair's numbers go to the next place of each array: one pair more.
use mathlib.Core.Path.{◌≡◌, refl}
use lib.ListN.{length}
use Rattle.std.proofs.Common.{rules}
use Rattle.record_pairs.proofs.PairLaws.{pair_more}
use Rattle.record_pairs.proofs.with_pair.Goals as goal

pub returns : goal.returns
returns c =
    let x = c.args.x in
    let long : length x.earlier ≡ 40 = search rules in
    let long_later : length x.later ≡ 40 = search rules in
    (refl, pair_more x _ _ _ c.requires long long_later refl refl refl)
