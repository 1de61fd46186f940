-- The first rule that is broken, or none.
use mathlib.Core.Path.{◌≡◌}
use mathlib.Core.Bool.{true, false}
use Rattle.std.proofs.Common.{rules}
use Rattle.std.proofs.lemmas.Iterator.{first_from_Range}
use Rattle.record_decoded.specs.Decoded.{execution_of}
use Rattle.judge_rules.proofs.LowestLaws.{breaks, lowest_is}
use Rattle.judge_rules.proofs.lowest.lowest_broken.Goals as goal

pub returns : goal.returns
returns c = λ n xs p.
    let e = execution_of c.args.bytes.now c.args.x in
    lowest_is e xs c.find.result
    (first_from_Range _ _ _ c.find.result (λ rule. breaks e xs rule ≡ true) (λ rule. breaks e xs rule ≡ false) c.find.ensures.ran (λ rule q k. search rules) (λ rule q k. search rules))
