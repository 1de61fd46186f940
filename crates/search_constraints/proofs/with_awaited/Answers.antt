-- An R, neither, and an RV.
use Rattle.search_constraints.proofs.SetLaws.{awaited_R, awaited_none, awaited_RV}
use Rattle.record_decoded.specs.Kinds.{meant}
use Rattle.search_constraints.proofs.with_awaited.Goals as goal

pub returns-then-role-eq-ROLE_R : goal.returns-then-role-eq-ROLE_R
returns-then-role-eq-ROLE_R c = λ k l.
    let a = c.args in
    awaited_R a.set.lo a.set.hi a.marks a.role (meant a.kind) a.first.0 a.processor k
    c.if-role-eq-ROLE_R.true c.number_of-own.ensures c.has_mark.ensures (c.insert_if.ensures k l)

pub returns-then-role-lt-ROLE_RV : goal.returns-then-role-lt-ROLE_RV
returns-then-role-lt-ROLE_RV c = λ k l.
    let a = c.args in
    awaited_none a.set.lo a.set.hi a.marks a.role (meant a.kind) a.first.0 a.processor k c.if-role-eq-ROLE_R.false c.if-role-lt-ROLE_RV.true

pub returns : goal.returns
returns c = λ k l.
    let a = c.args in
    awaited_RV a.set.lo a.set.hi a.marks a.role (meant a.kind) a.first.0 a.processor k
    c.if-role-eq-ROLE_R.false c.if-role-lt-ROLE_RV.false c.wide-to.ensures.0 c.number_of-remote.ensures c.has_mark-2.ensures (c.insert_if-2.ensures k l)
