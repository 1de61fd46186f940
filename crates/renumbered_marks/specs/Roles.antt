-- What a renumbering of the processors makes of a role.
use Rattle.std.specs.Prelude.{ℕ}
use Rattle.model.specs.Execution.{Role, R, LV, F, RV}

-- the role, with the processor that it names under its new number
abbrev pub role_to : (ℕ → ℕ) → Role → Role
role_to to R = R
role_to to LV = LV
role_to to F = F
role_to to (RV q) = RV (to q)
