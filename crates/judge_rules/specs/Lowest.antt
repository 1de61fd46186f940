-- The number of the lowest broken rule, as the model's.
use Rattle.std.specs.Prelude.{ℕ, Option, Some, None}
use Rattle.std.proofs.Math.Option as math
use Rattle.std.proofs.Math.Option.{none, some}

abbrev pub lowest_meant : Option ℕ → math.Option ℕ
lowest_meant None = none
lowest_meant (Some rule) = some rule
