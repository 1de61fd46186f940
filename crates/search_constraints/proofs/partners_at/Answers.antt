-- Not an RV, not of a release to WB, and else the RVs of the instruction.
use mathlib.Core.Path.{ap, ◌∙◌}
use mathlib.Core.Bool.{Bool, ◌||◌, not}
use Rattle.search_sets.proofs.Loops.{holds_none}
use Rattle.search_constraints.specs.Rows.{is_remote}
use Rattle.search_constraints.proofs.PartnerLaws.{no_remote, no_atomic, atomic_remotes}
use Rattle.record_decoded.specs.Kinds.{meant}
use Rattle.search_constraints.proofs.partners_at.Goals as goal

pub returns-then-role-lt-ROLE_RV : goal.returns-then-role-lt-ROLE_RV
returns-then-role-lt-ROLE_RV c = λ k l.
    let a = c.args in
    holds_none k ∙ no_remote a.marks a.role (meant a.kind) a.first.0 a.processors k c.if-role-lt-ROLE_RV.true

pub returns-then-not-has_mark : goal.returns-then-not-has_mark
returns-then-not-has_mark c = λ k l.
    let a = c.args in
    holds_none k ∙ no_atomic a.marks a.role (meant a.kind) a.first.0 a.processors k c.has_mark.ensures (ap not c.if-not-has_mark.true)

pub returns : goal.returns
returns c = λ k l.
    let a = c.args in
    c.with_every_remote.ensures k l ∙ ap (λ (b : Bool). b || is_remote (meant a.kind) a.first.0 a.processors k) (holds_none k)
    ∙ atomic_remotes a.marks a.role (meant a.kind) a.first.0 a.processors k c.has_mark.ensures c.if-role-lt-ROLE_RV.false (ap not c.if-not-has_mark.false)
