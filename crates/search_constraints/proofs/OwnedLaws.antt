-- The operations of each instruction, together, are those of the table.
use Prim.Native.Nat.{ℕ, ◌+◌, ◌-◌, ◌<◌}
use native.Mathlib.Omega.{arith}
use mathlib.Core.Path.{◌≡◌, sym, ap, ap₂, ◌∙◌, subst}
use mathlib.Core.Bool.{Bool, true, ◌&&◌}
use mathlib.Core.List.{List, Memᴰ}
use lib.ListN.{length, get_or}
use lib.Dec.{leb, ltb}
use borrow.Author.Tests.{le-leb, leb-true, lt-ltb, ltb-true}
use Rattle.base.specs.Lists.{below}
use Rattle.base.specs.Below.{any_below}
use Rattle.base.proofs.Bools.{agree, and_parts, and_both}
use Rattle.base.proofs.Lists.{in_for, in_below, of_below, getD_member, place_of}
use Rattle.base.proofs.Tests.{any_passes, some_at}
use Rattle.model.specs.Execution as model
use Rattle.model.specs.Execution.{kind_of, Role, F, roles, number_of, Operation, operations_of, all_operations}
use Rattle.model.proofs.Numbers.{role_number_lem}
use Rattle.model.proofs.Ownership.{operation_of, operation_role, operation_number}
use Rattle.record_decoded.specs.Kinds.{role_numbered}
use Rattle.record_decoded.specs.declared.types.Execution.{Execution}
use Rattle.record_decoded.specs.Decoded.{instruction_at, instructions_of, execution_of}
use Rattle.relation_marks.specs.Marks.{mark_at}
use Rattle.relation_links.specs.declared.operations.Operations.{Operations}
use Rattle.relation_links.specs.Operations.{operation_at, table_of}
use Rattle.relation_links.specs.Compiled.{CompiledIn}
use Rattle.relation_links.specs.Linked.{linked_by, linked_at}
use Rattle.relation_links.proofs.CompiledLaws.{operation_there, owner_there}
use Rattle.search_constraints.specs.Rows.{linked_from, linked_of}

module _ {bytes : List ℕ} {x : Execution} {t : Operations} {marks : List (List ℕ)} (h : CompiledIn bytes x t marks) where
  abbrev its : ℕ → model.Instruction
  its v = instruction_at x.instructions v

  abbrev roles_of : ℕ → List Role
  roles_of v = roles x.processors (kind_of (get_or x.instructions.kinds v 0))

  -- an operation of an instruction stands in the table, at its number
  listed : (v : ℕ) → v < x.instructions.count → (r : Role) → Memᴰ r (roles_of v) → (a : ℕ) → number_of (its v) r ≡ a
      → (a < t.count) × (operation_at x.instructions t a ≡ operation_of (its v) r)
  unfolding table_of operation_at execution_of instructions_of instruction_at all_operations operations_of
  listed v l r mr a e =
      let m : Memᴰ (operation_of (its v) r) (all_operations (execution_of bytes x)) =
      in_for (operations_of x.processors) (mathlib.Core.List.Memᴰ.map (instruction_at x.instructions) (in_below x.instructions.count v l)) (mathlib.Core.List.Memᴰ.map (operation_of (its v)) mr) in
      let (k, mk, q) = mathlib.Core.List.Memᴰ.of_map (operation_at x.instructions t) (below t.count) (subst (Memᴰ (operation_of (its v) r)) (sym h.tabled.holds) m) in
      let z : k ≡ a = ap (λ (o : Operation). o.number) q ∙ e in
      subst (λ (j : ℕ). (j < t.count) × (operation_at x.instructions t j ≡ operation_of (its v) r)) z (of_below t.count mk, q)

  module _ (o a : ℕ) where
    abbrev owner : ℕ
    owner = get_or t.owners a 0

    abbrev from_its : ℕ → Bool
    from_its v = linked_of x.processors x.instructions.kinds x.instructions.firsts x.instructions.processors marks (get_or t.owners o 0) (get_or t.roles o 0) v a

    -- linked, as an operation of instruction v with role r
    abbrev linked_as : ℕ → Role → Bool
    linked_as v r = linked_by (mark_at marks v (get_or t.owners o 0)) (get_or x.instructions.processors v 0) r (role_numbered (get_or t.roles o 0))

    by_instruction : any_below x.instructions.count from_its ≡ true → (ltb a t.count && linked_at x.instructions t marks a o) ≡ true
    unfolding linked_from linked_at operation_at instruction_at
    by_instruction k =
        let (v, l, u) = some_at from_its x.instructions.count k in
        let first = get_or x.instructions.firsts v 0 in
        let (u1, u2) = and_parts (leb first a) _ u in
        let (u3, u4) = and_parts (ltb a (first + length (roles_of v))) _ u2 in
        let l1 = leb-true first a u1 in
        let l2 = ltb-true a (first + length (roles_of v)) u3 in
        let r = get_or (roles_of v) (a - first) F in
        let short : a - first < length (roles_of v) = omega arith in
        let (there, q) = listed v l r (getD_member (roles_of v) (a - first) F short) a (role_number_lem x.processors (its v) (a - first) short ∙ omega arith) in
        and_both (lt-ltb a t.count there)
        (ap₂ linked_as (ap (λ (b : Operation). b.instruction.number) q) (ap (λ (b : Operation). b.role) q) ∙ u4)

    by_table : (ltb a t.count && linked_at x.instructions t marks a o) ≡ true → any_below x.instructions.count from_its ≡ true
    unfolding linked_from linked_at operation_at instruction_at execution_of
    by_table k =
        let (k1, k2) = and_parts (ltb a t.count) _ k in
        let there = ltb-true a t.count k1 in
        let m = operation_there h a there in
        let (j, short, e) = place_of F (operation_role (execution_of bytes x) (operation_at x.instructions t a) m) in
        let first = get_or x.instructions.firsts owner 0 in
        let n : a ≡ first + j =
        operation_number (execution_of bytes x) (operation_at x.instructions t a) m ∙ ap (number_of (its owner)) (sym e)
        ∙ role_number_lem x.processors (its owner) j short in
        let z : a - first ≡ j = omega arith in
        any_passes from_its x.instructions.count owner (owner_there h a there)
        (and_both (le-leb first a (omega arith))
        (and_both (lt-ltb a (first + length (roles_of owner)) (omega arith))
        (ap (linked_as owner) (ap (λ (i : ℕ). get_or (roles_of owner) i F) z ∙ e) ∙ k2)))

    pub each_linked : any_below x.instructions.count from_its ≡ (ltb a t.count && linked_at x.instructions t marks a o)
    each_linked = agree (any_below x.instructions.count from_its) (ltb a t.count && linked_at x.instructions t marks a o) by_instruction by_table
