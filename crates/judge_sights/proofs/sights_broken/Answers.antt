-- Some instruction is a load that breaks the rule.
use borrow.Author.Tests.{tests}
use mathlib.Core.Path.{sym, ◌∙◌}
use Rattle.std.proofs.Common.{rules}
use Rattle.relation_places.proofs.Ranges.{any_over_range}
use Rattle.judge_sights.specs.Sights.{load_broken}
use Rattle.judge_sights.proofs.RuleLaws.{rule_by}
use Rattle.judge_sights.proofs.sights_broken.Goals as goal

pub returns : goal.returns
returns c = λ n xs h.
    any_over_range (load_broken c.args.bytes.now c.args.x.now c.args.places.now) _ _ _ c.any.result c.any.ensures.ran (λ x b q k. search (rules, tests))
    ∙ sym (rule_by h c.args.bytes.now c.args.x.now)
