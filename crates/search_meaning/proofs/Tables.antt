-- An execution, its record's bytes among it, with what is compiled of it.
use mathlib.Core.List.{List}
use Prim.Native.Nat.{ℕ}
use Rattle.record_decoded.specs.declared.types.Execution.{Execution}
use Rattle.relation_links.specs.declared.operations.Operations.{Operations}
use Rattle.search_admit.specs.Rows as rows

pub record Tables : Type 0 where
  pub bytes : List ℕ
  pub execution : Execution
  pub operations : Operations
  pub marks : List (List ℕ)
  pub rows : List ℕ

-- the rows hold what they should
abbrev pub TablesMean : Tables → Type 0
TablesMean t = rows.RowsMean t.bytes t.execution t.operations t.marks t.rows
