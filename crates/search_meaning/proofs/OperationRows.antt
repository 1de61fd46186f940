-- The rows of the operations of a store, by the store.
use Prim.Native.Nat.{ℕ, ◌+◌, ◌≤◌, ◌<◌}
use native.Mathlib.Omega.{arith}
use mathlib.Core.Path.{◌≡◌, sym, ap, ◌∙◌}
use mathlib.Core.Bool.{Bool, true, false, cond, ◌&&◌, ◌||◌, or-true}
use mathlib.Core.List.{Memᴰ}
use lib.ListN.{get_or}
use lib.Dec.{eqb}
use borrow.Author.Tests.{le-leb}
use Rattle.model.specs.Execution as model
use Rattle.model.specs.Execution.{is_semaphore, Instruction, R, LV, RV, number_of, stores, operations}
use Rattle.model.specs.Rules.{RV_own}
use Rattle.model.specs.Accepted.{Accepted}
use Rattle.model.proofs.Roles.{RV_role}
use Rattle.record_decoded.specs.Decoded.{instruction_at, execution_of}
use Rattle.record_decoded.proofs.RoleNumbers.{number_RV}
use Rattle.model.proofs.Ownership.{is_store_lem, RV_in}
use Rattle.search_admit.specs.Rows.{own_of, local_of, read_of, writes}
use Rattle.search_meaning.proofs.Tables.{Tables, TablesMean}
use Rattle.search_meaning.proofs.Owners.{owner_is, number_low}

-- an RV writes
pub RV_writes : (k : ℕ) → 3 ≤ k → writes k ≡ true
RV_writes k h = ap (λ (b : Bool). eqb k 1 || b) (le-leb 3 k h) ∙ or-true (eqb k 1)

module _ {t : Tables} (h : TablesMean t) (accepted : Accepted (execution_of t.bytes t.execution)) where
  abbrev e : model.Execution
  e = execution_of t.bytes t.execution

  abbrev instruction : ℕ → Instruction
  instruction i = instruction_at t.execution.instructions i

  abbrev owner : ℕ → ℕ
  owner o = get_or t.operations.owners o 0

  abbrev role_of : ℕ → ℕ
  role_of o = get_or t.operations.roles o 0

  -- operation o is the RV to q of store w
  pub record IsRV (w : Instruction) (q o : ℕ) : Type 0 where
    pub low : o < operations e
    pub owner_is : w ≡ instruction (owner o)
    pub role_is : role_of o ≡ 3 + q
    pub own : own_of t.rows o ≡ RV_own w
    pub local : local_of t.rows o ≡ number_of w LV
    pub read : read_of t.rows o ≡ cond (is_semaphore w.kind) (number_of w R) o

  -- what writes, by its owner
  pub own_by_lem : (o : ℕ) → o < operations e → writes (role_of o) ≡ true → own_of t.rows o ≡ RV_own (instruction (owner o))
  own_by_lem o l w = (h.rowed o l).own_is ∙ ap (λ (b : Bool). cond b (RV_own (instruction (owner o))) o) w

  pub local_by_lem : (o : ℕ) → o < operations e → writes (role_of o) ≡ true → local_of t.rows o ≡ number_of (instruction (owner o)) LV
  local_by_lem o l w = (h.rowed o l).local_is ∙ ap (λ (b : Bool). cond b (number_of (instruction (owner o)) LV) o) w

  read_by_lem : (o : ℕ) → o < operations e → writes (role_of o) ≡ true
      → read_of t.rows o ≡ cond (is_semaphore (instruction (owner o)).kind) (number_of (instruction (owner o)) R) o
  unfolding instruction_at
  read_by_lem o l w =
      (h.rowed o l).read_is ∙ ap (λ (b : Bool). cond (b && is_semaphore (instruction (owner o)).kind) (number_of (instruction (owner o)) R) o) w

  -- what does not write is alone
  pub own_itself : (o : ℕ) → o < operations e → writes (role_of o) ≡ false → own_of t.rows o ≡ o
  own_itself o l w = (h.rowed o l).own_is ∙ ap (λ (b : Bool). cond b (RV_own (instruction (owner o))) o) w

  pub local_itself : (o : ℕ) → o < operations e → writes (role_of o) ≡ false → local_of t.rows o ≡ o
  local_itself o l w = (h.rowed o l).local_is ∙ ap (λ (b : Bool). cond b (number_of (instruction (owner o)) LV) o) w

  pub is_RV : {w : Instruction} → Memᴰ w (stores e) → (q : ℕ) → q < e.processors → (o : ℕ) → o ≡ number_of w (RV q) → IsRV w q o
  is_RV {w} mw q few o at =
      let low : o < operations e = omega (arith, number_low h (RV_in e mw q few)) in
      let (iw, sw) = is_store_lem e mw in
      let (same, role) = owner_is h accepted o low iw (RV_role e.processors w.kind q few sw) at in
      let number : role_of o ≡ 3 + q = number_RV (role_of o) q (sym role) in
      let written = RV_writes (role_of o) (omega arith) in
      record {
        low = low;
        owner_is = same;
        role_is = number;
        own = own_by_lem o low written ∙ ap RV_own (sym same);
        local = local_by_lem o low written ∙ ap (λ (i : Instruction). number_of i LV) (sym same);
        read = read_by_lem o low written ∙ ap (λ (i : Instruction). cond (is_semaphore i.kind) (number_of i R) o) (sym same);
      }
