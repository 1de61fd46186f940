-- Each turn fills one operation; after all, the table holds the instruction's operations behind those before it.
use Prim.Native.Nat.{ℕ, ◌+◌, ◌≤◌}
use native.Mathlib.Omega.{arith}
use mathlib.Core.Path.{◌≡◌, ap, ◌∙◌, subst}
use lib.ListN.{length}
use Rattle.model.specs.Execution.{Kind, roles}
use Rattle.record_decoded.specs.Kinds.{meant}
use Rattle.relation_links.proofs.OperationLaws.{Filled, filled_none, filled_more, table_more}
use borrow.Author.Rules.{rules}
use Rattle.relation_links.proofs.operations.with_operations.Goals as goal

-- the operations fit the table
room : (count processors : ℕ) {n : ℕ} {k j : Kind} → n ≡ length (roles processors k) → k ≡ j → count + length (roles processors j) ≤ 128 → count + n ≤ 128
room count processors e f h = omega (arith, h, e ∙ ap (λ (k : Kind). length (roles processors k)) f)

pub loop-place-init : goal.loop-place-init
loop-place-init c =
    let long : length c.args.t.owners ≡ 128 = search rules in
    let long_roles : length c.args.t.roles ≡ 128 = search rules in
    filled_none long long_roles

pub loop-place-preserved : goal.loop-place-preserved
loop-place-preserved c = filled_more c.loop-place.invariant c.role_of.result (omega (arith, room c.args.t.count c.args.processors c.operation_count-n.ensures c.kind_of-kind.ensures c.requires.room)) c.role_of.ensures

pub overflow_add-result : goal.overflow_add-result
overflow_add-result c =
    let a = c.args in
    let n = c.operation_count-n.ensures ∙ ap (λ (k : Kind). length (roles a.processors k)) c.kind_of-kind.ensures in
    omega (arith, n, c.requires.room)

pub returns : goal.returns
returns c =
    let a = c.args in
    let kind = meant c.kind_of-kind.result in
    let inv = c.loop-place.invariant in
    let n : c.operation_count-n.result ≡ length (roles a.processors kind) = c.operation_count-n.ensures in
    let all : c.loop-place.place ≡ length (roles a.processors kind) = omega (arith, n, c.loop-place.auto.place-end, c.loop-place-test.false) in
    record {
      holds = table_more a.is a.t (record { count = a.t.count + c.operation_count-n.result; owners = c.loop-place.owners; roles = c.loop-place.roles }) a.instruction.0 a.processors kind c.kind_of-kind.ensures c.requires.next.2
          (ap (λ (k : ℕ). a.t.count + k) n)
          (subst (λ (k : ℕ). Filled a.t.owners a.t.roles a.t.count a.instruction.0 kind k c.loop-place.owners c.loop-place.roles) all inv);
      counts = ap (λ (k : ℕ). a.t.count + k) n ∙ ap (λ (k : Kind). a.t.count + length (roles a.processors k)) c.kind_of-kind.ensures;
    }
