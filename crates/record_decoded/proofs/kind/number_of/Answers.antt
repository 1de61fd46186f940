-- R and F come first, LV last before the RVs, and the RVs behind these.
use Prim.Native.Nat.{ℕ, ◌<◌}
use native.Mathlib.Omega.{arith}
use mathlib.Core.Path.{◌≡◌, ap}
use Rattle.model.proofs.Numbers.{R_place, F_place, LV_place}
use Rattle.record_decoded.specs.Kinds.{meant, role_processor}
use Rattle.record_decoded.specs.declared.kind.Role.{Role}
use Rattle.record_decoded.specs.declared.kind.Role.TheVariants.{RV}
use Rattle.record_decoded.proofs.kind.number_of.Goals as goal

bounded : (role : Role) (q : ℕ) → role ≡ RV q → role_processor role < 65536 → q < 65536
bounded role q e l = omega (arith, ap role_processor e)

pub overflow_add-place : goal.overflow_add-place
overflow_add-place c =
    omega (arith, c.before_remotes.ensures.2, c.requires.0, bounded c.args.role c.in-RV.q c.in-RV.is c.requires.1)

pub overflow_add-result-in-RV : goal.overflow_add-result-in-RV
overflow_add-result-in-RV c =
    omega (arith, c.before_remotes.ensures.2, c.requires.0, bounded c.args.role c.in-RV.q c.in-RV.is c.requires.1)

pub returns-in-R : goal.returns-in-R
returns-in-R c =
    rw c.in-R.is (omega (arith, R_place (meant c.args.k)))

pub returns-in-LV : goal.returns-in-LV
returns-in-LV c =
    rw c.in-LV.is (omega (arith, c.before_remotes-place.ensures.0, LV_place (meant c.args.k)))

pub returns-in-F : goal.returns-in-F
returns-in-F c =
    rw c.in-F.is (omega (arith, F_place (meant c.args.k)))

pub returns-in-RV : goal.returns-in-RV
returns-in-RV c = rw c.in-RV.is (omega (arith, c.before_remotes.ensures.0))
