-- Copied whole, or left.
use mathlib.Core.Path.{sym, ap, ◌∙◌}
use mathlib.Core.Bool.{Bool, cond}
use Rattle.search_resume.proofs.ReplayLaws.{pasted_whole}
use Rattle.search_resume.proofs.steps.keep_if.Goals as goal

pub returns-then-last : goal.returns-then-last
returns-then-last c =
    c.copy_bytes.ensures ∙ pasted_whole c.args.reached.now c.args.entries.now c.requires.0 c.requires.1
    ∙ ap (λ (b : Bool). cond b c.args.entries.now c.args.reached.now) (sym c.if-last.true)

pub returns-else-last : goal.returns-else-last
returns-else-last c =
    let a = c.args in
    ap (λ (b : Bool). cond b a.entries.now a.reached.now) (sym c.if-last.false)
