-- The tests of instructions and operations under other numbers: what links two operations links them moved.
use Prim.Native.Nat.{ℕ, ◌+◌, ◌<◌}
use native.Mathlib.Omega.{arith}
use mathlib.Core.Path.{◌≡◌, refl, sym, ap, ◌∙◌, subst}
use mathlib.Core.Bool.{Bool, true, false, not, ◌&&◌, ◌||◌, false≢true}
use mathlib.Core.List.{Memᴰ}
use lib.Dec.{eqb, ltb}
use borrow.Author.Tests.{lt-ltb, ltb-true, le-leb, eq-eqb, eqb-true}
use Rattle.base.specs.Lists.{all}
use Rattle.base.proofs.Bools.{split, agree, and_parts, and_left, and_both}
use Rattle.base.proofs.Lists.{any_witness, any_member, all_member, member_in}
use Rattle.model.specs.Execution.{Kind, is_fence, is_semaphore, Line, Instruction, Execution, Role, R, LV, F, RV, has_role_R, has_role_LV, has_role_F, has_role_RV, roles, Operation, all_operations, stores, line_at, attribute_at}
use Rattle.model.specs.Questions.{question7, sizes_of}
use Rattle.model.specs.Rules.{same_visibility, is_R, is_LV, is_F, is_own_RV, is_other_RV, is_R_or_LV, is_end, earlier, overlap, shared_bytes, addresses, accesses, link1, link2, link3, link4, link5, link6, link7, paired, link8, link13, link15, conflict}
use Rattle.model.specs.Accepted.{Accepted}
use Rattle.model.proofs.Numbers.{one_numbered}
use Rattle.model.proofs.Roles.{R_load, LV_store, RV_store, load_no_fence, store_no_fence}
use Rattle.model.proofs.Ownership.{each_in, is_store_lem, operation_of_lem, operation_role}
use Rattle.renumbered_marks.specs.Roles.{role_to}
use Rattle.renumbered_marks.proofs.Renumbers.{Renumbers}
use Rattle.renumbered_marks.proofs.Carried.{eqb_carried}
use Rattle.renumbered_marks.proofs.Moves.{with, move, move_op}

-- Roles

module _ (to : ℕ → ℕ) where
  -- a test that is one of all RVs
  role_to_lem : (t : Role → Bool) → ((p q : ℕ) → t (RV p) ≡ t (RV q)) → (s : Role) → t (role_to to s) ≡ t s
  role_to_lem t h R = refl
  role_to_lem t h LV = refl
  role_to_lem t h F = refl
  role_to_lem t h (RV q) = h (to q) q

  remote_to : (t u : ℕ → Bool) → ((q : ℕ) → t (to q) ≡ u q) → (s : Role) → has_role_RV (role_to to s) t ≡ has_role_RV s u
  remote_to t u h R = refl
  remote_to t u h LV = refl
  remote_to t u h F = refl
  remote_to t u h (RV q) = h q

  visibility_to : ((p q : ℕ) → to p ≡ to q → p ≡ q) → (s t : Role) → same_visibility (role_to to s) (role_to to t) ≡ same_visibility s t
  visibility_to one R t = refl
  visibility_to one LV t = role_to_lem has_role_LV (λ p q. refl) t
  visibility_to one F t = refl
  visibility_to one (RV q) t = remote_to (eqb (to q)) (eqb q) (eqb_carried to one q) t

-- R and LV are of no mf
no_fence : (p : ℕ) (k : Kind) (s : Role) → Memᴰ s (roles p k) → (has_role_R s || has_role_LV s) ≡ true → is_fence k ≡ false
no_fence p k R m h = load_no_fence k (R_load p k m)
no_fence p k LV m h = store_no_fence k (LV_store p k m)
no_fence p k F m h = absurd (false≢true h)
no_fence p k (RV q) m h = store_no_fence k (RV_store p q k m)

-- an instruction that is no mf has a size
size_positive : (k : Kind) (size : ℕ) → is_fence k ≡ false → question7 k size ≡ true → 0 < size
unfolding question7 all
size_positive k size h q =
    ltb-true 0 size (all_member (ltb 0) (member_in (sizes_of k) size q) (rw h (split (is_semaphore k) (λ t. rw t) (λ t. rw t))))

module _ (e f : Execution) (r : Renumbers e f) (accepted : Accepted e) where
  abbrev g : Execution
  g = with e f

  abbrev go : Instruction → Instruction
  go = move e f r

  -- Instructions

  pub processor_to : (i j : Instruction) → eqb (r.to i.processor) (r.to j.processor) ≡ eqb i.processor j.processor
  processor_to i j = eqb_carried r.to r.to_one i.processor j.processor

  pub overlap_to : (i j : Instruction) → overlap (go i) (go j) ≡ overlap i j
  unfolding overlap shared_bytes addresses accesses
  overlap_to i j = refl

  module _ {i j : Instruction} (mi : Memᴰ i e.instructions) (mj : Memᴰ j e.instructions) where
    pub number_to : eqb (r.number i) (r.number j) ≡ eqb i.number j.number
    number_to = agree (eqb (r.number i) (r.number j)) (eqb i.number j.number)
        (λ h. eq-eqb i.number j.number (r.number_one i j mi mj (eqb-true (r.number i) (r.number j) h)))
        (λ h. eq-eqb (r.number i) (r.number j)
        (ap r.number (one_numbered e.processors 0 0 e.instructions i j accepted.consecutive mi mj (eqb-true i.number j.number h))))

    -- an earlier one of its program stays earlier
    earlier_to : (eqb i.processor j.processor && ltb i.number j.number) ≡ true
        → (eqb (r.to i.processor) (r.to j.processor) && ltb (r.number i) (r.number j)) ≡ true
    earlier_to h =
        let (p, n) = and_parts (eqb i.processor j.processor) (ltb i.number j.number) h in
        and_both (processor_to i j ∙ p)
        (lt-ltb (r.number i) (r.number j) (r.number_rises i j mi mj (eqb-true i.processor j.processor p) (ltb-true i.number j.number n)))

  -- the attribute of an access is what it was
  pub attribute_to : {i : Instruction} → Memᴰ i e.instructions → is_fence i.kind ≡ false → attribute_at g (go i) ≡ attribute_at e i
  unfolding attribute_at line_at accesses
  attribute_to {i} m h =
      let some = size_positive i.kind i.size h (each_in _ accepted.sound m).size_passed in
      ap (λ (l : Line). l.attribute)
      (r.same_lines i m i.address (and_both (le-leb i.address i.address (omega arith)) (lt-ltb i.address (i.address + i.size) (omega arith))))

  pub store_attribute : {w : Instruction} → Memᴰ w (stores e) → attribute_at g (go w) ≡ attribute_at e w
  store_attribute {w} m = let (i, k) = is_store_lem e m in attribute_to i (store_no_fence w.kind k)

  pub conflict_to : {v w : Instruction} → Memᴰ v (stores e) → Memᴰ w (stores e) → conflict g (go v) (go w) ≡ conflict e v w
  unfolding conflict
  conflict_to {v} {w} mv mw = rw (number_to (is_store_lem e mv).0 (is_store_lem e mw).0, overlap_to v w, store_attribute mv, store_attribute mw)

  -- Operations

  R_to : (o : Operation) → is_R (move_op e f r o) ≡ is_R o
  R_to o = role_to_lem r.to has_role_R (λ p q. refl) o.role

  LV_to : (o : Operation) → is_LV (move_op e f r o) ≡ is_LV o
  LV_to o = role_to_lem r.to has_role_LV (λ p q. refl) o.role

  F_to : (o : Operation) → is_F (move_op e f r o) ≡ is_F o
  F_to o = role_to_lem r.to has_role_F (λ p q. refl) o.role

  own_to : (o : Operation) → is_own_RV (move_op e f r o) ≡ is_own_RV o
  own_to o = remote_to r.to _ _ (λ q. eqb_carried r.to r.to_one q o.instruction.processor) o.role

  other_to : (o : Operation) → is_other_RV (move_op e f r o) ≡ is_other_RV o
  other_to o = remote_to r.to _ _ (λ q. ap not (eqb_carried r.to r.to_one q o.instruction.processor)) o.role

  -- Links

  module _ (a b : Operation) (ma : Memᴰ a (all_operations e)) (mb : Memᴰ b (all_operations e)) where
    abbrev a' : Operation
    a' = move_op e f r a

    abbrev b' : Operation
    b' = move_op e f r b

    ia : Memᴰ a.instruction e.instructions
    ia = operation_of_lem e a ma

    ib : Memᴰ b.instruction e.instructions
    ib = operation_of_lem e b mb

    earlier_goes : earlier a b ≡ true → earlier a' b' ≡ earlier a b
    earlier_goes h = earlier_to ia ib h ∙ sym h

    pub goes_1 : link1 a b ≡ true → link1 a' b' ≡ true
    unfolding link1
    goes_1 h = rw (number_to ia ib, LV_to a, own_to a, own_to b, other_to b) h

    pub goes_2 : link2 a b ≡ true → link2 a' b' ≡ true
    unfolding link2
    goes_2 h = rw (earlier_goes (and_left _ _ h), R_to a) h

    pub goes_3 : link3 a b ≡ true → link3 a' b' ≡ true
    unfolding link3
    goes_3 h = rw (earlier_goes (and_left _ _ h), R_to a, visibility_to r.to r.to_one a.role b.role) h

    pub goes_4 : link4 a b ≡ true → link4 a' b' ≡ true
    unfolding link4
    goes_4 h = rw (earlier_goes (and_left _ _ h), F_to a, F_to b) h

    pub goes_5 : link5 a b ≡ true → link5 a' b' ≡ true
    unfolding link5
    goes_5 h = rw (earlier_goes (and_left _ _ (and_left _ _ h)), overlap_to a.instruction b.instruction, LV_to a, R_to b) h

    pub goes_6 : link6 a b ≡ true → link6 a' b' ≡ true
    unfolding link6
    goes_6 h = rw (earlier_goes (and_left _ _ (and_left _ _ h)), overlap_to a.instruction b.instruction, R_to a, LV_to b) h

    pub goes_7 : link7 a b ≡ true → link7 a' b' ≡ true
    unfolding link7
    goes_7 h = rw (earlier_goes (and_left _ _ (and_left _ _ h)), overlap_to a.instruction b.instruction, LV_to a, LV_to b) h

    pub goes_8 : link8 e a b ≡ true → link8 g a' b' ≡ true
    unfolding link8 paired
    goes_8 h =
        let (s, ends) = and_parts (paired e a b) (is_end a && is_end b) h in
        let (p, m, u) = any_witness _ e.pairs s in
        let (u0, u1) = and_parts (eqb p.0 a.instruction.number) (eqb p.1 b.instruction.number) u in
        let there : Memᴰ (a.instruction.number, b.instruction.number) e.pairs =
        subst (λ (q : ℕ × ℕ). Memᴰ q e.pairs) (λ x. (eqb-true p.0 a.instruction.number u0 x, eqb-true p.1 b.instruction.number u1 x)) m in
        and_both
        (any_member _ (r.pairs_go a.instruction b.instruction ia ib there)
        (and_both (eq-eqb (r.number a.instruction) (r.number a.instruction) refl) (eq-eqb (r.number b.instruction) (r.number b.instruction) refl)))
        (rw (R_to a, R_to b, LV_to a, LV_to b) ends)

    pub goes_13 : link13 e a b ≡ true → link13 g a' b' ≡ true
    unfolding link13
    goes_13 h =
        let (s, t) = and_parts _ (is_R_or_LV a && is_R_or_LV b) h in
        let (ta, tb) = and_parts (is_R_or_LV a) (is_R_or_LV b) t in
        rw (
          earlier_goes (and_left _ _ s),
          attribute_to ia (no_fence e.processors a.instruction.kind a.role (operation_role e a ma) ta),
          attribute_to ib (no_fence e.processors b.instruction.kind b.role (operation_role e b mb) tb),
          R_to a,
          R_to b,
          LV_to a,
          LV_to b,
        ) h

    pub goes_15 : link15 a b ≡ true → link15 a' b' ≡ true
    unfolding link15
    goes_15 h = rw (number_to ia ib, R_to a, LV_to b) h
