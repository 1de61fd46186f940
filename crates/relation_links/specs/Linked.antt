-- Whether some rule links two operations, by the tables.
use Rattle.std.specs.Prelude.{ℕ, Bool, List, get_or}
use Rattle.base.specs.Below.{any_below}
use Rattle.model.specs.Execution.{Role}
use Rattle.record_decoded.specs.Kinds.{role_numbered}
use Rattle.record_decoded.specs.declared.types.Instructions.{Instructions}
use Rattle.relation_marks.specs.Marks.{mark_at}
use Rattle.relation_links.specs.declared.operations.Operations.{Operations}
use Rattle.relation_links.specs.Links.{link_by}

-- some rule links two operations, by the marks of their instructions and their roles, the first of processor p
unfoldable pub linked_by : ℕ → ℕ → Role → Role → Bool
linked_by marks p a b = any_below 16 (λ rule. link_by rule marks p a b)

-- some rule links operation a to operation b
unfoldable pub linked_at : Instructions → Operations → List (List ℕ) → ℕ → ℕ → Bool
linked_at is t marks a b =
    linked_by (mark_at marks (get_or t.owners a 0) (get_or t.owners b 0)) (get_or is.processors (get_or t.owners a 0) 0)
    (role_numbered (get_or t.roles a 0)) (role_numbered (get_or t.roles b 0))
