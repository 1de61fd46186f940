-- What must stand before an operation, by the tables, is what some rule links to it.
use Prim.Native.Nat.{ℕ, ◌<◌}
use mathlib.Core.Path.{◌≡◌, refl}
use mathlib.Core.Bool.{Bool, true, false, ◌&&◌}
use mathlib.Core.List.{List}
use lib.Dec.{ltb}
use borrow.Author.Tests.{ltb-true}
use Rattle.model.specs.Rules.{linked}
use Rattle.model.specs.Accepted.{Accepted}
use Rattle.record_decoded.specs.declared.types.Execution.{Execution}
use Rattle.record_decoded.specs.Decoded.{execution_of}
use Rattle.relation_links.specs.declared.operations.Operations.{Operations}
use Rattle.relation_links.specs.Operations.{operation_at}
use Rattle.relation_links.specs.Compiled.{CompiledIn}
use Rattle.relation_links.specs.Linked.{linked_at}
use Rattle.relation_links.proofs.LinkedLaws.{linked_means}

-- two tests that agree where a third passes
guarded : (t : Bool) {x y : Bool} → (t ≡ true → x ≡ y) → (t && x) ≡ (t && y)
guarded true f = f refl
guarded false f = refl

module _ {bytes : List ℕ} {x : Execution} {t : Operations} {marks : List (List ℕ)} (h : CompiledIn bytes x t marks) (accepted : Accepted (execution_of bytes x)) where
  pub preds_mean : (o a : ℕ) → o < t.count
      → (ltb a t.count && linked_at x.instructions t marks a o)
      ≡ (ltb a t.count && linked (execution_of bytes x) (operation_at x.instructions t a) (operation_at x.instructions t o))
  preds_mean o a lo = guarded (ltb a t.count) (λ y. linked_means h accepted.consecutive a o (ltb-true a t.count y) lo)
