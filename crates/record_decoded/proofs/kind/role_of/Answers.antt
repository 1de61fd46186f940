-- The first role, where two come before the RVs LV as the second, then the RVs.
use Prim.Native.Nat.{ℕ, ◌+◌, ◌-◌, ◌<◌, ◌≤◌}
use native.Mathlib.Omega.{arith}
use mathlib.Core.Path.{◌≡◌, sym, ap, ◌∙◌}
use lib.ListN.{length, get_or}
use Rattle.model.specs.Execution as model
use Rattle.model.specs.Execution.{Kind, F, kind_row, roles, remotes_at}
use Rattle.model.proofs.Numbers.{some_before_remotes, second_role, role_before_remotes, remote_role}
use Rattle.record_decoded.specs.Kinds.{meant, role_numbered}
use Rattle.record_decoded.proofs.RoleNumbers.{remote_numbered}
use Rattle.record_decoded.proofs.kind.role_of.Goals as goal

first : (p : ℕ) (k : Kind) (place r : ℕ) → place ≡ 0 → role_numbered r ≡ get_or (kind_row k).before_remotes 0 F → role_numbered r ≡ get_or (roles p k) place F
first p k place r e h = h ∙ sym (role_before_remotes p k 0 (omega (arith, (some_before_remotes k).0))) ∙ ap (λ (n : ℕ). get_or (roles p k) n F) (sym e)

second : (p : ℕ) (k : Kind) (place : ℕ) → (place ≡ 0 → ⊥) → place < remotes_at k → model.LV ≡ get_or (roles p k) place F
second p k place other l =
    let one : place ≡ 1 = omega (arith, (some_before_remotes k).1, other) in
    sym (second_role k (omega arith)) ∙ sym (role_before_remotes p k 1 (omega arith)) ∙ ap (λ (n : ℕ). get_or (roles p k) n F) (sym one)

remote : (p : ℕ) (k : Kind) (place before : ℕ) → before ≡ remotes_at k → before ≤ place → place < length (roles p k) → role_numbered (3 + (place - before)) ≡ get_or (roles p k) place F
remote p k place before e l h =
    remote_numbered (place - before) ∙ ap (λ (n : ℕ). model.RV (place - n)) e ∙ sym (remote_role p k place (omega arith) h)

pub returns-then-place-eq0 : goal.returns-then-place-eq0
returns-then-place-eq0 c processors l =
    first processors (meant c.args.k) c.args.place c.first_role.result c.if-place-eq0.true c.first_role.ensures

pub returns-then-place-before : goal.returns-then-place-before
returns-then-place-before c processors l =
    second processors (meant c.args.k) c.args.place c.if-place-eq0.false (omega (arith, c.before_remotes-before.ensures.0))

pub returns : goal.returns
returns c processors l =
    remote processors (meant c.args.k) c.args.place c.before_remotes-before.result c.before_remotes-before.ensures.0 (omega arith) l
