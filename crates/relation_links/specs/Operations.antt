-- What the table of operations holds, in the model's terms.
use Rattle.std.specs.Prelude.{ℕ, ◌≡◌, List, map, get_or}
use Rattle.base.specs.Lists.{below}
use Rattle.model.specs.Execution as model
use Rattle.record_decoded.specs.Kinds.{role_numbered}
use Rattle.record_decoded.specs.Decoded.{instruction_at}
use Rattle.record_decoded.specs.declared.types.Instructions.{Instructions}
use Rattle.relation_links.specs.declared.operations.Operations.{Operations}

-- operation o
unfoldable pub operation_at : Instructions → Operations → ℕ → model.Operation
operation_at is t o = record {
  number = o;
  instruction = instruction_at is (get_or t.owners o 0);
  role = role_numbered (get_or t.roles o 0);
}

unfoldable pub table_of : Instructions → Operations → List model.Operation
table_of is t = map (operation_at is t) (below t.count)

-- the table holds these operations, so many
pub record Tabled (is : Instructions) (t : Operations) (operations : List model.Operation) (count : ℕ) : Type 0 where
  pub holds : table_of is t ≡ operations
  pub counts : t.count ≡ count
