-- Some instruction touches the line.
use native.Mathlib.Omega.{arith}
use mathlib.Core.Path.{refl, ◌∙◌}
use borrow.Author.Tests.{tests}
use Rattle.std.proofs.Common.{rules}
use Rattle.std.proofs.lemmas.Iterator.{YieldsList-from_range}
use Rattle.std.proofs.lemmas.Iterator.Search.{any_from_yields_List}
use Rattle.base.proofs.Chains.{any_range}
use Rattle.record_form.proofs.LineLaws.{touches_at, touched_numbered}
use Rattle.record_form.proofs.form.is_touched.Goals as goal

pub returns : goal.returns
returns c =
    let a = c.args in
    any_from_yields_List (touches_at a.is a.line) _ _ c.any.result c.any.ensures.ran (YieldsList-from_range 0 a.is.count a.is.count refl (omega arith))
    (λ x b q k. search (rules, tests))
    ∙ any_range (touches_at a.is a.line) a.is.count ∙ touched_numbered a.is a.line
