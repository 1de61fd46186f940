-- Some entry of the arrays is the pair.
use mathlib.Core.Path.{refl, ◌∙◌}
use mathlib.Core.Bool.{◌&&◌}
use native.Mathlib.Omega.{arith}
use lib.ListN.{get_or}
use lib.Dec.{eqb}
use borrow.Author.Tests.{tests}
use Rattle.std.proofs.Common.{rules}
use Rattle.std.proofs.lemmas.Iterator.{YieldsList-from_range}
use Rattle.std.proofs.lemmas.Iterator.Search.{any_from_yields_List}
use Rattle.base.proofs.Chains.{any_range}
use Rattle.relation_marks.proofs.MarkLaws.{pair_by_index}
use Rattle.relation_marks.proofs.memory.is_pair.Goals as goal

pub returns : goal.returns
returns c =
    let a = c.args in
    any_from_yields_List (λ k. eqb (get_or a.pairs.earlier k 0) a.earlier.0 && eqb (get_or a.pairs.later k 0) a.later.0) _ _ c.any.result c.any.ensures.ran
    (YieldsList-from_range 0 a.pairs.count a.pairs.count refl (omega arith)) (λ x b q k. search (rules, tests))
    ∙ any_range _ _
    ∙ pair_by_index a.pairs a.earlier.0 a.later.0
