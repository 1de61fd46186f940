-- A position of the code as a list of operations.
use Rattle.std.specs.Prelude.{ℕ, List, take}
use Rattle.record_decoded.specs.declared.position.Position.{Position}

abbrev pub position_of : Position → List ℕ
position_of p = take p.length p.entries
