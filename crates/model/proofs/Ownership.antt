-- The operations of an accepted record: which there are, and that a number is an operation of one instruction only.
use Prim.Native.Nat.{ℕ, suc, ◌+◌, ◌≤◌, ◌<◌}
use native.Mathlib.Omega.{arith}
use mathlib.Core.Path.{◌≡◌, refl, sym, ap, ◌∙◌, subst}
use mathlib.Core.Bool.{true}
use mathlib.Core.List.Memᴰ
use mathlib.Core.List.{List, [], ◌∷◌, Memᴰ}
use lib.ListN.{length, get_or}
use Rattle.base.proofs.Bools.{and_parts}
use Rattle.base.proofs.Lists.{in_keep, of_keep, in_for, of_for, in_below, of_below, place_of}
use Rattle.model.specs.Execution.{is_load, is_store, is_semaphore, Instruction, Execution, Role, R, LV, F, RV, roles, number_of, Operation, operations_of, all_operations, loads, stores, semaphores, every_processor}
use Rattle.model.specs.Rules.{remote_of}
use Rattle.model.specs.Accepted.{Consecutive, Each, Accepted}
use Rattle.model.proofs.Numbers.{role_number_lem, before_remotes_lem}
use Rattle.model.proofs.Roles.{LV_role, RV_role, R_role}

module _ {A : Type 0} where
  -- what holds of each element holds of this one
  pub each_in : (P : A → Type 0) {a : A} {l : List A} → Each P l → Memᴰ a l → P a
  each_in P h (Memᴰ.head e) = subst P (sym e) h.0
  each_in P h (Memᴰ.tail m) = each_in P h.1 m

module _ (p : ℕ) where
  -- an operation's number lies among those of its instruction
  span : (i : Instruction) (r : Role) → Memᴰ r (roles p i.kind) → (i.first ≤ number_of i r) × (number_of i r < i.first + length (roles p i.kind))
  span i r m =
      let (k, l, e) = place_of F m in
      let n = role_number_lem p i k l in
      subst (λ (s : Role). (i.first ≤ number_of i s) × (number_of i s < i.first + length (roles p i.kind))) e (omega arith, omega arith)

  -- two operations of one instruction with one number have one role
  pub one_role : (i : Instruction) {r s : Role} → Memᴰ r (roles p i.kind) → Memᴰ s (roles p i.kind) → number_of i r ≡ number_of i s → r ≡ s
  one_role i mr ms e =
      let (j, lj, ej) = place_of F mr in
      let (k, lk, ek) = place_of F ms in
      let same : j ≡ k = omega (arith, role_number_lem p i j lj, role_number_lem p i k lk, ap (number_of i) ej, ap (number_of i) ek) in
      sym ej ∙ ap (λ (n : ℕ). get_or (roles p i.kind) n F) same ∙ ek

  -- Instructions numbered one after the other

  consecutive_from : (at n : ℕ) (is : List Instruction) → Consecutive p at n is → {i : Instruction} → Memᴰ i is → at ≤ i.first
  consecutive_from at n [] l {i = i} m = elim m [ ]
  consecutive_from at n (j ∷ is) l {i} (Memᴰ.head e) = let f : i.first ≡ j.first = ap (λ (k : Instruction). k.first) e in omega (arith, l.0)
  consecutive_from at n (j ∷ is) l (Memᴰ.tail m) = let h = consecutive_from (at + length (roles p j.kind)) (suc n) is l.2 m in omega arith

  -- a number that lies among those of two instructions: they are one
  one_instruction : (at n : ℕ) (is : List Instruction) → Consecutive p at n is → {i j : Instruction} → Memᴰ i is → Memᴰ j is → (a : ℕ)
      → i.first ≤ a → a < i.first + length (roles p i.kind) → j.first ≤ a → a < j.first + length (roles p j.kind) → i ≡ j
  one_instruction at n [] l {i = i} {j = j} m _ a h1 h2 h3 h4 = elim m [ ]
  one_instruction at n (k ∷ is) l (Memᴰ.head e) (Memᴰ.head f) a h1 h2 h3 h4 = e ∙ sym f
  one_instruction at n (k ∷ is) l {i} {j} (Memᴰ.head e) (Memᴰ.tail m) a h1 h2 h3 h4 =
      let h : a < k.first + length (roles p k.kind) = subst (λ (i : Instruction). a < i.first + length (roles p i.kind)) e h2 in
      absurd (omega (arith, l.0, consecutive_from (at + length (roles p k.kind)) (suc n) is l.2 m))
  one_instruction at n (k ∷ is) l {i} {j} (Memᴰ.tail m) (Memᴰ.head e) a h1 h2 h3 h4 =
      let h : a < k.first + length (roles p k.kind) = subst (λ (i : Instruction). a < i.first + length (roles p i.kind)) e h4 in
      absurd (omega (arith, l.0, consecutive_from (at + length (roles p k.kind)) (suc n) is l.2 m))
  one_instruction at n (k ∷ is) l (Memᴰ.tail m) (Memᴰ.tail m') a h1 h2 h3 h4 =
      one_instruction (at + length (roles p k.kind)) (suc n) is l.2 m m' a h1 h2 h3 h4

-- The operations of an accepted record

abbrev pub operation_of : Instruction → Role → Operation
operation_of i r = record { number = number_of i r; instruction = i; role = r }

module _ (e : Execution) where
  pub processor_in : (q : ℕ) → q < e.processors → Memᴰ q (every_processor e)
  unfolding every_processor
  processor_in q h = in_below e.processors q h

  pub in_processors : {q : ℕ} → Memᴰ q (every_processor e) → q < e.processors
  unfolding every_processor
  in_processors m = of_below e.processors m

  -- a number among those of a store's RVs
  pub RV_of : (w : Instruction) {a : ℕ} → Memᴰ a (remote_of e w) → (q : ℕ) × (q < e.processors) × (number_of w (RV q) ≡ a)
  unfolding remote_of
  RV_of w m = let (q, mq, k) = Memᴰ.of_map (λ q. number_of w (RV q)) (every_processor e) m in (q, in_processors mq, k)

  -- stores and loads are instructions
  pub is_store_lem : {w : Instruction} → Memᴰ w (stores e) → Memᴰ w e.instructions × (is_store w.kind ≡ true)
  unfolding stores
  is_store_lem m = of_keep (λ i. is_store i.kind) e.instructions m

  pub is_load_lem : {l : Instruction} → Memᴰ l (loads e) → Memᴰ l e.instructions × (is_load l.kind ≡ true)
  unfolding loads
  is_load_lem m = of_keep (λ i. is_load i.kind) e.instructions m

  -- a semaphore is an instruction, a load and a store
  pub is_semaphore_lem : {s : Instruction} → Memᴰ s (semaphores e) → Memᴰ s e.instructions × (is_semaphore s.kind ≡ true)
  unfolding semaphores
  is_semaphore_lem m = of_keep (λ i. is_semaphore i.kind) e.instructions m

  pub semaphore_load : {s : Instruction} → Memᴰ s (semaphores e) → Memᴰ s (loads e)
  unfolding loads
  semaphore_load {s} m = let (i, k) = is_semaphore_lem m in in_keep (λ i. is_load i.kind) i (and_parts (is_load s.kind) (is_store s.kind) k).0

  pub semaphore_store : {s : Instruction} → Memᴰ s (semaphores e) → Memᴰ s (stores e)
  unfolding stores
  semaphore_store {s} m = let (i, k) = is_semaphore_lem m in in_keep (λ i. is_store i.kind) i (and_parts (is_load s.kind) (is_store s.kind) k).1

  -- operations by instruction and role
  operation_in : {i : Instruction} {r : Role} → Memᴰ i e.instructions → Memᴰ r (roles e.processors i.kind) → Memᴰ (operation_of i r) (all_operations e)
  unfolding all_operations operations_of
  operation_in {i} m k = in_for (operations_of e.processors) m (Memᴰ.map (operation_of i) k)

  pub R_in : {l : Instruction} → Memᴰ l (loads e) → Memᴰ (operation_of l R) (all_operations e)
  R_in {l} m = operation_in (is_load_lem m).0 (R_role e.processors l.kind (is_load_lem m).1)

  pub LV_in : {w : Instruction} → Memᴰ w (stores e) → Memᴰ (operation_of w LV) (all_operations e)
  LV_in {w} m = operation_in (is_store_lem m).0 (LV_role e.processors w.kind (is_store_lem m).1)

  pub RV_in : {w : Instruction} → Memᴰ w (stores e) → (q : ℕ) → q < e.processors → Memᴰ (operation_of w (RV q)) (all_operations e)
  RV_in {w} m q h = operation_in (is_store_lem m).0 (RV_role e.processors w.kind q h (is_store_lem m).1)

  -- an operation has a role of its instruction's kind
  pub operation_role : (a : Operation) → Memᴰ a (all_operations e) → Memᴰ a.role (roles e.processors a.instruction.kind)
  unfolding all_operations operations_of
  operation_role a m =
      let (i, mi, ma) = of_for (operations_of e.processors) e.instructions m in
      let (r, mr, h) = Memᴰ.of_map _ (roles e.processors i.kind) ma in
      subst (λ (o : Operation). Memᴰ o.role (roles e.processors o.instruction.kind)) h mr

  -- an operation has the number of its instruction's role
  pub operation_number : (a : Operation) → Memᴰ a (all_operations e) → a.number ≡ number_of a.instruction a.role
  unfolding all_operations operations_of
  operation_number a m =
      let (i, mi, ma) = of_for (operations_of e.processors) e.instructions m in
      let (r, mr, h) = Memᴰ.of_map _ (roles e.processors i.kind) ma in
      subst (λ (o : Operation). o.number ≡ number_of o.instruction o.role) h refl

  -- an operation is of an instruction of the execution
  pub operation_of_lem : (a : Operation) → Memᴰ a (all_operations e) → Memᴰ a.instruction e.instructions
  unfolding all_operations operations_of
  operation_of_lem a m =
      let (i, mi, ma) = of_for (operations_of e.processors) e.instructions m in
      let (r, mr, h) = Memᴰ.of_map _ (roles e.processors i.kind) ma in
      subst (λ (o : Operation). Memᴰ o.instruction e.instructions) h mi

  module _ (accepted : Accepted e) where
    -- the processor of an instruction is one of them
    own_below : {i : Instruction} → Memᴰ i e.instructions → i.processor < e.processors
    own_below m = (each_in _ accepted.sound m).own

    pub store_processor : {w : Instruction} → Memᴰ w (stores e) → w.processor < e.processors
    store_processor m = own_below (is_store_lem m).0

    pub load_processor : {l : Instruction} → Memᴰ l (loads e) → l.processor < e.processors
    load_processor m = own_below (is_load_lem m).0

    -- a number is an operation of one instruction only
    pub one_owner : {i j : Instruction} {r s : Role} → Memᴰ i e.instructions → Memᴰ j e.instructions
        → Memᴰ r (roles e.processors i.kind) → Memᴰ s (roles e.processors j.kind) → number_of i r ≡ number_of j s → i ≡ j
    one_owner {i} {j} {r} {s} mi mj mr ms h =
        let (h1, h2) = span e.processors i r mr in
        let (h3, h4) = span e.processors j s ms in
        one_instruction e.processors 0 0 e.instructions accepted.consecutive mi mj (number_of i r) h1 h2 (omega arith) (omega arith)

    module _ {v w : Instruction} (mv : Memᴰ v (stores e)) (mw : Memᴰ w (stores e)) (other : v.number ≡ w.number → ⊥) where
      -- two stores share no operation
      stores_differ : {r s : Role} → Memᴰ r (roles e.processors v.kind) → Memᴰ s (roles e.processors w.kind) → number_of v r ≡ number_of w s → ⊥
      stores_differ mr ms h = other (ap (λ (i : Instruction). i.number) (one_owner (is_store_lem mv).0 (is_store_lem mw).0 mr ms h))

      pub RV_differ : {p q : ℕ} → p < e.processors → q < e.processors → number_of v (RV p) ≡ number_of w (RV q) → ⊥
      RV_differ {p} {q} hp hq h =
          stores_differ (RV_role e.processors v.kind p hp (is_store_lem mv).1) (RV_role e.processors w.kind q hq (is_store_lem mw).1) h

      pub LV_differ : {q : ℕ} → q < e.processors → number_of v LV ≡ number_of w (RV q) → ⊥
      LV_differ {q} hq h =
          stores_differ (LV_role e.processors v.kind (is_store_lem mv).1) (RV_role e.processors w.kind q hq (is_store_lem mw).1) h

    -- nor is an R an RV
    pub R_differ : {l w : Instruction} → Memᴰ l (loads e) → Memᴰ w (stores e) → {q : ℕ} → q < e.processors → number_of l R ≡ number_of w (RV q) → ⊥
    R_differ {l} {w} ml mw {q} hq h =
        let (il, kl) = is_load_lem ml in
        let (iw, kw) = is_store_lem mw in
        let same = one_owner il iw (R_role e.processors l.kind kl) (RV_role e.processors w.kind q hq kw) h in
        let one : number_of w R ≡ number_of w (RV q) = ap (λ (i : Instruction). number_of i R) (sym same) ∙ h in
        omega (arith, before_remotes_lem w.kind R refl)
