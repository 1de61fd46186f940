-- The operations of an execution whose processors are numbered anew: each has a new number, and no two the same.
use Prim.Native.Nat.{ℕ, suc, ◌+◌, ◌-◌, ◌<◌, ◌≤◌}
use native.Mathlib.Omega.{arith}
use native.Mathlib.Decide.{dec_lt}
use mathlib.Core.Path.{◌≡◌, sym, ap, ap₂, ◌∙◌, subst}
use mathlib.Core.List.Memᴰ
use mathlib.Core.List.{List, [], ◌∷◌, map, Memᴰ}
use lib.ListN.{length, get_or}
use lib.Dec.{ltb}
use borrow.Author.Tests.{ltb-true, ltb-false}
use Rattle.base.specs.Lists.{for}
use Rattle.base.proofs.Bools.{split}
use Rattle.base.proofs.Lists.{in_for, getD_member}
use Rattle.model.specs.Execution.{Kind, Instruction, Execution, Role, R, LV, F, RV, roles, number_of, Operation, operations, operation_count, operations_of, all_operations}
use Rattle.model.specs.Rules.{byte_of}
use Rattle.model.specs.Accepted.{Consecutive, Accepted}
use Rattle.model.proofs.Numbers.{role_number_lem, number_below, one_numbered}
use Rattle.model.proofs.Roles.{RV_role, RV_store, RV_few}
use Rattle.model.proofs.Ownership.{operation_of, operation_of_lem, operation_role, operation_number, one_owner, one_role}
use Rattle.renumbered_marks.specs.Roles.{role_to}
use Rattle.renumbered_marks.proofs.Renumbers.{moved, Renumbers}
use Rattle.renumbered_marks.proofs.Carries.{table, byte_there, byte_none}

-- each number below the count is that of an operation
number_taken : (p at n : ℕ) (is : List Instruction) (a : ℕ) → Consecutive p at n is → at ≤ a → a < at + operation_count p is
    → (o : Operation) × Memᴰ o (for is (operations_of p)) × (o.number ≡ a)
unfolding for operation_count operations_of
number_taken p at n [] a l h k = absurd (omega arith)
number_taken p at n (i ∷ is) a l h k = split (ltb a (at + length (roles p i.kind)))
    (λ t.
    let near : a - at < length (roles p i.kind) = omega (arith, ltb-true a (at + length (roles p i.kind)) t) in (
      operation_of i (get_or (roles p i.kind) (a - at) F),
      Memᴰ.append_left (for is (operations_of p)) (Memᴰ.map (operation_of i) (getD_member (roles p i.kind) (a - at) F near)),
      omega (arith, role_number_lem p i (a - at) near, l.0),
    ))
    (λ f.
    let (o, m, e) = number_taken p (at + length (roles p i.kind)) (suc n) is a l.2 (ltb-false a (at + length (roles p i.kind)) f) (omega arith) in
    (o, Memᴰ.append_right (map (operation_of i) (roles p i.kind)) m, e))

module _ (e : Execution) (accepted : Accepted e) where
  pub number_low : {o : Operation} → Memᴰ o (all_operations e) → o.number < operations e
  unfolding all_operations operations
  number_low {o} m = omega (arith, number_below e.processors 0 0 e.instructions o accepted.consecutive m)

  -- the operation of a number
  pub operation_at_lem : (a : ℕ) → a < operations e → (o : Operation) × Memᴰ o (all_operations e) × (o.number ≡ a)
  unfolding all_operations operations
  operation_at_lem a l = number_taken e.processors 0 0 e.instructions a accepted.consecutive (omega arith) (omega arith)

  -- operations of one number are one
  pub one_operation : {o q : Operation} → Memᴰ o (all_operations e) → Memᴰ q (all_operations e) → o.number ≡ q.number → o ≡ q
  one_operation {o} {q} mo mq h =
      let numbers : number_of o.instruction o.role ≡ number_of q.instruction q.role = sym (operation_number e o mo) ∙ h ∙ operation_number e q mq in
      let same = one_owner e accepted (operation_of_lem e o mo) (operation_of_lem e q mq) (operation_role e o mo) (operation_role e q mq) numbers in
      let role = one_role e.processors q.instruction
      (subst (λ (i : Instruction). Memᴰ o.role (roles e.processors i.kind)) same (operation_role e o mo)) (operation_role e q mq)
      (ap (λ (i : Instruction). number_of i o.role) (sym same) ∙ numbers) in
      λ x. record { number = h x; instruction = same x; role = role x }

module _ (to : ℕ → ℕ) where
  role_one : ((p q : ℕ) → to p ≡ to q → p ≡ q) → (r s : Role) → role_to to r ≡ role_to to s → r ≡ s
  role_one one R R h = h
  role_one one R LV h = h
  role_one one R F h = h
  role_one one R (RV q) h = cc
  role_one one LV R h = h
  role_one one LV LV h = h
  role_one one LV F h = h
  role_one one LV (RV q) h = cc
  role_one one F R h = h
  role_one one F LV h = h
  role_one one F F h = h
  role_one one F (RV q) h = cc
  role_one one (RV q) R h = cc
  role_one one (RV q) LV h = cc
  role_one one (RV q) F h = cc
  role_one one (RV q) (RV p) h = ap RV (one q p (cc))

  -- the roles of a kind stay its roles
  roles_to : (p : ℕ) → ((q : ℕ) → q < p → to q < p) → (k : Kind) (r : Role) → Memᴰ r (roles p k) → Memᴰ (role_to to r) (roles p k)
  roles_to p low k R m = m
  roles_to p low k LV m = m
  roles_to p low k F m = m
  roles_to p low k (RV q) m = RV_role p k (to q) (low q (RV_few p q k m)) (RV_store p q k m)

-- f, with e's number of processors, which is its own
abbrev pub with : Execution → Execution → Execution
with e f = record { processors = e.processors; lines = f.lines; instructions = f.instructions; pairs = f.pairs }

module _ (e f : Execution) (r : Renumbers e f) where
  abbrev pub move : Instruction → Instruction
  move i = moved r.to r.number r.first i

  -- an operation under its new number
  abbrev pub move_op : Operation → Operation
  move_op o = operation_of (move o.instruction) (role_to r.to o.role)

  -- the new number of operation k; from N on each stays
  pub anew : ℕ → ℕ
  anew k = byte_of (table (λ o. o.number) (λ o. (move_op o).number) (all_operations e)) k k

  pub moved_in : {o : Operation} → Memᴰ o (all_operations e) → Memᴰ (move_op o) (all_operations (with e f))
  unfolding all_operations operations_of
  moved_in {o} m =
      in_for (operations_of e.processors) (r.into o.instruction (operation_of_lem e o m))
      (Memᴰ.map (operation_of (move o.instruction)) (roles_to r.to e.processors r.to_low o.instruction.kind o.role (operation_role e o m)))

  module _ (accepted : Accepted e) where
    -- the new number of an operation is that of its instruction, moved, and its role
    pub anew_is : {o : Operation} → Memᴰ o (all_operations e) → anew o.number ≡ (move_op o).number
    unfolding anew
    anew_is {o} m = byte_there (λ o. o.number) (λ o. (move_op o).number) m o.number (λ u mu h. ap (λ (x : Operation). (move_op x).number) (one_operation e accepted mu m h))

    anew_high : (a : ℕ) → operations e ≤ a → anew a ≡ a
    unfolding anew
    anew_high a l = byte_none (λ o. o.number) (λ o. (move_op o).number) (all_operations e) a a (λ o m h. omega (arith, number_low e accepted m))

    module _ (accepted' : Accepted (with e f)) (same : operations e ≡ operations (with e f)) where
      pub anew_low : (a : ℕ) → a < operations e → anew a < operations e
      anew_low a l =
          let (o, m, h) = operation_at_lem e accepted a l in
          omega (arith, ap anew h, anew_is m, number_low (with e f) accepted' (moved_in m))

      moved_one : {o q : Operation} → Memᴰ o (all_operations e) → Memᴰ q (all_operations e) → (move_op o).number ≡ (move_op q).number → o.number ≡ q.number
      moved_one {o} {q} mo mq h =
          let whole : move_op o ≡ move_op q = one_operation (with e f) accepted' (moved_in mo) (moved_in mq) h in
          let io = operation_of_lem e o mo in
          let iq = operation_of_lem e q mq in
          let instruction : o.instruction ≡ q.instruction = one_numbered e.processors 0 0 e.instructions o.instruction q.instruction accepted.consecutive io iq
          (r.number_one o.instruction q.instruction io iq (ap (λ (x : Operation). x.instruction.number) whole)) in
          let role : o.role ≡ q.role = role_one r.to r.to_one o.role q.role (ap (λ (x : Operation). x.role) whole) in
          operation_number e o mo ∙ ap₂ number_of instruction role ∙ sym (operation_number e q mq)

      -- no two have one number
      pub anew_one : (a b : ℕ) → anew a ≡ anew b → a ≡ b
      anew_one a b w = go (dec_lt a (operations e)) (dec_lt b (operations e))
        where
          go : Dec (a < operations e) → Dec (b < operations e) → a ≡ b
          go (yes la) (yes lb) =
              let (o, mo, ho) = operation_at_lem e accepted a la in
              let (q, mq, hq) = operation_at_lem e accepted b lb in
              sym ho ∙ moved_one mo mq (sym (anew_is mo) ∙ ap anew ho ∙ w ∙ sym (ap anew hq) ∙ anew_is mq) ∙ hq
          go (yes la) (no lb) = absurd (omega (arith, anew_low a la, anew_high b (omega arith)))
          go (no la) (yes lb) = absurd (omega (arith, anew_low b lb, anew_high a (omega arith)))
          go (no la) (no lb) = omega (arith, anew_high a (omega arith), anew_high b (omega arith))
