-- Each number below 6 names its kind; all others are a releasing semaphore, as in the model's list.
use native.Mathlib.Omega.{arith}
use mathlib.Core.Path.{sym}
use mathlib.Core.List.{[], ◌∷◌}
use lib.ListN.{get_or-eq_default}
use Rattle.model.specs.Execution.{ld, ld_acq, st, st_rel, mf, sem_acq, sem_rel}
use Rattle.record_decoded.proofs.kind.kind_of.Goals as goal

pub returns-in_default : goal.returns-in_default
returns-in_default c =
    let r = c.in_default.in_default-own.rest in
    sym (get_or-eq_default (ld ∷ ld_acq ∷ st ∷ st_rel ∷ mf ∷ sem_acq ∷ []) sem_rel {n = c.args.k}
    (omega (arith, r.1, r.0.1, r.0.0.1, r.0.0.0.1, r.0.0.0.0.1, r.0.0.0.0.0.1)))
