-- Roles by their numbers, and what a rule past the table asks of them.
use Prim.Native.Nat.{ℕ, zero, suc, ◌<◌, ◌≤◌}
use native.Mathlib.Omega.{arith}
use mathlib.Core.Path.{◌≡◌, refl}
use mathlib.Core.Bool.{Bool, false}
use lib.ListN.{get_or-eq_default}
use Rattle.model.specs.Execution.{Role, has_role_RV}
use Rattle.record_decoded.specs.Kinds.{role_numbered}
use Rattle.relation_links.specs.Links.{roles_link}

-- below 3 no number is an RV
pub not_rv : (k : ℕ) (p : ℕ → Bool) → k < 3 → false ≡ has_role_RV (role_numbered k) p
not_rv zero p h = refl
not_rv (suc zero) p h = refl
not_rv (suc (suc zero)) p h = refl
not_rv (suc (suc (suc q))) p h = absurd (omega arith)

-- past the table no rule asks for roles
pub roles_past : (rule m p : ℕ) (a b : Role) → 16 ≤ rule → false ≡ roles_link rule m p a b
unfolding roles_link
roles_past rule m p a b h = rw get_or-eq_default
