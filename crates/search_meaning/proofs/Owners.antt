-- The instruction and the role of an operation: no other operation has its number.
use Prim.Native.Nat.{ℕ, ◌<◌}
use native.Mathlib.Omega.{arith}
use mathlib.Core.Path.{◌≡◌, sym, ap, ◌∙◌, subst}
use mathlib.Core.List.Memᴰ
use mathlib.Core.List.{Memᴰ}
use lib.ListN.{get_or}
use Rattle.base.specs.Lists.{below}
use Rattle.base.proofs.Lists.{in_below, of_below}
use Rattle.model.specs.Execution as model
use Rattle.model.specs.Execution.{Instruction, Role, roles, number_of, operations, all_operations}
use Rattle.model.specs.Accepted.{Accepted}
use Rattle.record_decoded.specs.Kinds.{role_numbered}
use Rattle.record_decoded.specs.Decoded.{instruction_at, instructions_of, execution_of}
use Rattle.relation_links.specs.Operations.{operation_at, table_of}
use Rattle.relation_links.proofs.CompiledLaws as compiled
use Rattle.model.proofs.Ownership.{one_owner, one_role}
use Rattle.search_meaning.proofs.Tables.{Tables, TablesMean}

module _ {t : Tables} (h : TablesMean t) (accepted : Accepted (execution_of t.bytes t.execution)) (x : ℕ) (low : x < operations (execution_of t.bytes t.execution)) where
  abbrev e : model.Execution
  e = execution_of t.bytes t.execution

  abbrev owner : ℕ
  owner = get_or t.operations.owners x 0

  abbrev its : Instruction
  its = instruction_at t.execution.instructions owner

  abbrev role : Role
  role = role_numbered (get_or t.operations.roles x 0)

  there : x < t.operations.count
  there = omega (arith, h.compiled.tabled.counts)

  pub owner_in : Memᴰ its e.instructions
  owner_in = compiled.owner_in h.compiled x there

  pub role_in : Memᴰ role (roles e.processors its.kind)
  role_in = compiled.role_in h.compiled x there

  -- its number
  pub number_is : number_of its role ≡ x
  number_is = sym (compiled.number_is h.compiled x there)

  -- an operation with its number is it
  pub owner_is : {j : Instruction} {s : Role} → Memᴰ j e.instructions → Memᴰ s (roles e.processors j.kind) → x ≡ number_of j s → (j ≡ its) × (s ≡ role)
  owner_is {j} {s} mj ms q =
      let same = one_owner e accepted mj owner_in ms role_in (sym q ∙ sym number_is) in (
        same,
        one_role e.processors its (subst (λ (i : Instruction). Memᴰ s (roles e.processors i.kind)) same ms) role_in
            (ap (λ (i : Instruction). number_of i s) (sym same) ∙ sym q ∙ sym number_is),
      )

-- an instruction of the execution by its number
pub by_number : (t : Tables) {i : Instruction} → Memᴰ i (execution_of t.bytes t.execution).instructions
    → (k : ℕ) × (k < t.execution.instructions.count) × (instruction_at t.execution.instructions k ≡ i)
unfolding execution_of instructions_of
by_number t m =
    let (k, mk, q) = Memᴰ.of_map (instruction_at t.execution.instructions) (below t.execution.instructions.count) m in
    (k, of_below t.execution.instructions.count mk, q)

pub numbered_in : (t : Tables) (k : ℕ) → k < t.execution.instructions.count → Memᴰ (instruction_at t.execution.instructions k) (execution_of t.bytes t.execution).instructions
unfolding execution_of instructions_of
numbered_in t k l = Memᴰ.map (instruction_at t.execution.instructions) (in_below t.execution.instructions.count k l)

-- the number of an operation is below their count
pub number_low : {t : Tables} → TablesMean t → {a : model.Operation} → Memᴰ a (all_operations (execution_of t.bytes t.execution)) → a.number < operations (execution_of t.bytes t.execution)
unfolding table_of operation_at
number_low {t} h {a} m =
    let (k, mk, q) = Memᴰ.of_map _ (below t.operations.count) (subst (Memᴰ a) (sym h.compiled.tabled.holds) m) in
    omega (arith, of_below t.operations.count mk, ap (λ (o : model.Operation). o.number) q, h.compiled.tabled.counts)
