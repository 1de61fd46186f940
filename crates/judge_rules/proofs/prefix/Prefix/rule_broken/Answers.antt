-- Each rule by its arm.
use native.Mathlib.Omega.{arith}
use mathlib.Core.Path.{◌∙◌}
use Rattle.std.proofs.Common.{rules}
use mathlib.Core.List.{[]}
use Rattle.relation_links.proofs.CompiledLaws.{owner_there}
use Rattle.judge_rules.proofs.RuleMeaning.{means11, means_pairs, means_links}
use Rattle.judge_rules.proofs.prefix.Prefix.rule_broken.Goals as goal

pub links_broken-requires : goal.links_broken-requires
links_broken-requires c =
    let pre = c.requires in
    (pre.bounds.5, λ o l. omega (arith, pre.bounds.2, owner_there (pre.compiled []) o l))

pub returns-in-11 : goal.returns-in-11
returns-in-11 c = λ n xs p. c.sights_broken.ensures n xs p ∙ means11 (c.requires.compiled c.args.self.now.bytes.now) p c.args.rule (omega arith)

pub returns-in-9 : goal.returns-in-9
returns-in-9 c = λ n xs p.
    c.pairs_broken.ensures
    ∙ means_pairs (c.requires.compiled c.args.self.now.bytes.now) p c.args.rule (search rules) (omega arith) (λ e. search rules) (λ e. search rules) (λ e. search rules)

pub returns-in_default : goal.returns-in_default
returns-in_default c = λ n xs p.
    let pre = c.requires in
    c.links_broken.ensures
    ∙ means_links (pre.compiled c.args.self.now.bytes.now) p c.args.rule pre.bounds.0 pre.bounds.1
    (λ e. search rules) (λ e. search rules) (λ e. search rules) (λ e. search rules) (λ e. search rules) (λ e. search rules)
