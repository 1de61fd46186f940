-- Marks and roles say what the rules say of two operations.
use Prim.Native.Nat.{ℕ, zero, suc, ◌^◌, ◌≤◌, ◌<◌}
use native.Mathlib.Omega.{arith}
use native.Mathlib.Decide.{dec_lt}
use mathlib.Core.Path.{◌≡◌, refl, sym, ap, ap₂, ◌∙◌}
use mathlib.Core.Bool.{Bool, true, false, not, ◌&&◌, ◌||◌, and-true, and-false, and_assoc, or-true, or-false}
use mathlib.Core.List.{Memᴰ}
use lib.ListN.{get_or, get_or-eq_default}
use lib.Dec.{eqb}
use borrow.Author.Tests.{eqb-true}
use Rattle.base.specs.Below.{any_below}
use Rattle.base.proofs.Bits.{bit_packed}
use Rattle.model.specs.Execution.{Kind, is_load, is_store, is_acquire, is_fence, is_release, Instruction, Execution, Role, R, LV, F, RV, roles, Operation, all_operations, has_role_R, has_role_LV, has_role_F, has_role_RV}
use Rattle.model.specs.Rules.{same_visibility, earlier, link1, link2, link3, link4, link5, link6, link7, paired, link8, link13, link15, linked}
use Rattle.model.proofs.Roles.{of_roles, R_load, LV_store, RV_store, load_no_fence, store_no_fence}
use Rattle.model.specs.Accepted.{Consecutive}
use Rattle.model.proofs.Numbers.{one_numbered}
use Rattle.model.proofs.Ownership.{operation_of_lem}
use Rattle.model.proofs.ProgramOrder.{marks_rule2, marks_rule3, marks_rule4}
use Rattle.relation_marks.specs.Marks.{has_mark, earlier_of, given_pair, marks_of, marks_between}
use Rattle.relation_links.specs.Links.{link_of, rule_mark, end_role, roles_link, link_by}
use Rattle.relation_links.proofs.RoleLaws.{roles_past}

-- operations of one instruction number are of one processor
pub operation_processor : (e : Execution) → Consecutive e.processors 0 0 e.instructions → (a b : Operation) → Memᴰ a (all_operations e) → Memᴰ b (all_operations e)
    → a.instruction.number ≡ b.instruction.number → a.instruction.processor ≡ b.instruction.processor
operation_processor e l a b ma mb h =
    ap (λ (i : Instruction). i.processor)
    (one_numbered e.processors 0 0 e.instructions a.instruction b.instruction l (operation_of_lem e a ma) (operation_of_lem e b mb) h)

-- an mf has only F; loads and stores have no F
module _ (p : ℕ) where
  fence_role : (k : Kind) (r : Role) → Memᴰ r (roles p k) → is_fence k ≡ has_role_F r
  fence_role k R m = load_no_fence k (R_load p k m)
  fence_role k LV m = store_no_fence k (LV_store p k m)
  fence_role k F m = of_roles p k m
  fence_role k (RV q) m = store_no_fence k (RV_store p q k m)

  -- R, and one visibility, are of loads and stores
  access_role : (k : Kind) (r s : Role) (x : Bool) → Memᴰ r (roles p k)
      → ((is_load k || is_store k) && x && (has_role_R r || same_visibility r s)) ≡ (x && (has_role_R r || same_visibility r s))
  access_role k R s x m = rw (R_load p k m)
  access_role k LV s x m = rw (LV_store p k m, or-true (is_load k))
  access_role k F s x m = and-false ((is_load k || is_store k) && x) ∙ sym (and-false x)
  access_role k (RV q) s x m = rw (RV_store p q k m, or-true (is_load k))

-- two tests that agree where a third passes
guarded : (t : Bool) {x y : Bool} → (t ≡ true → x ≡ y) → (t && x) ≡ (t && y)
guarded true f = f refl
guarded false f = refl

module _ (e : Execution) (a b : Operation) where
  abbrev between : ℕ
  between = marks_between e a.instruction b.instruction

  -- the mark at bit k
  marked : (k : ℕ) → has_mark between (2 ^ k) ≡ get_or (marks_of e a.instruction b.instruction) k false
  unfolding marks_between
  marked k = bit_packed (marks_of e a.instruction b.instruction) k

  -- where bit k is the mark x, the mark and the roles are x and the roles
  asks : (k : ℕ) (x asked : Bool) → get_or (marks_of e a.instruction b.instruction) k false ≡ x → (has_mark between (2 ^ k) && asked) ≡ (x && asked)
  asks k x asked h = ap (λ (t : Bool). t && asked) (marked k ∙ h)

  -- the rules one by one
  means_1 : (a.instruction.number ≡ b.instruction.number → a.instruction.processor ≡ b.instruction.processor)
      → link_by 1 between a.instruction.processor a.role b.role ≡ link1 a b
  unfolding link_by rule_mark roles_link marks_of link1
  means_1 one =
      asks 0 (eqb a.instruction.number b.instruction.number) _ refl
      ∙ guarded (eqb a.instruction.number b.instruction.number)
      (λ h. ap (λ (q : ℕ).
      has_role_LV a.role && has_role_RV b.role (λ r. eqb r q)
      || has_role_RV a.role (λ r. eqb r a.instruction.processor) && has_role_RV b.role (λ r. not (eqb r q)))
      (one (eqb-true a.instruction.number b.instruction.number h)))

  means_2 : link_by 2 between a.instruction.processor a.role b.role ≡ link2 a b
  unfolding link_by rule_mark roles_link marks_of earlier_of link2
  means_2 =
      asks 1 (earlier a b && is_acquire a.instruction.kind) _
      (ap (λ (t : Bool). earlier a b && t) (marks_rule2 a.instruction.kind b.instruction.kind))
      ∙ and_assoc (earlier a b) (is_acquire a.instruction.kind) (has_role_R a.role)

  means_3 : (p : ℕ) → Memᴰ a.role (roles p a.instruction.kind) → link_by 3 between a.instruction.processor a.role b.role ≡ link3 a b
  unfolding link_by rule_mark roles_link marks_of earlier_of link3
  means_3 p m =
      let releases : Bool = is_release b.instruction.kind in
      let accesses : Bool = is_load a.instruction.kind || is_store a.instruction.kind in
      asks 2 (earlier a b && (accesses && releases)) _
      (ap (λ (t : Bool). earlier a b && t) (marks_rule3 a.instruction.kind b.instruction.kind))
      ∙ and_assoc (earlier a b) (accesses && releases) (has_role_R a.role || same_visibility a.role b.role)
      ∙ ap (λ (t : Bool). earlier a b && t) (access_role p a.instruction.kind a.role b.role releases m)

  means_4 : (p : ℕ) → Memᴰ a.role (roles p a.instruction.kind) → Memᴰ b.role (roles p b.instruction.kind)
      → link_by 4 between a.instruction.processor a.role b.role ≡ link4 a b
  unfolding link_by rule_mark roles_link marks_of earlier_of link4
  means_4 p m n =
      asks 3 (earlier a b && (is_fence a.instruction.kind || is_fence b.instruction.kind)) true
      (ap (λ (t : Bool). earlier a b && t) (marks_rule4 a.instruction.kind b.instruction.kind))
      ∙ and-true (earlier a b && (is_fence a.instruction.kind || is_fence b.instruction.kind))
      ∙ ap₂ (λ (t u : Bool). earlier a b && (t || u))
      (fence_role p a.instruction.kind a.role m) (fence_role p b.instruction.kind b.role n)

  means_5 : link_by 5 between a.instruction.processor a.role b.role ≡ link5 a b
  unfolding link_by rule_mark roles_link marks_of earlier_of link5
  means_5 = asks 4 _ _ refl

  means_6 : link_by 6 between a.instruction.processor a.role b.role ≡ link6 a b
  unfolding link_by rule_mark roles_link marks_of earlier_of link6
  means_6 = asks 4 _ _ refl

  means_7 : link_by 7 between a.instruction.processor a.role b.role ≡ link7 a b
  unfolding link_by rule_mark roles_link marks_of earlier_of link7
  means_7 = asks 4 _ _ refl

  means_8 : link_by 8 between a.instruction.processor a.role b.role ≡ link8 e a b
  unfolding link_by rule_mark roles_link marks_of given_pair paired link8
  means_8 =
      asks 5 _ _ refl
      ∙ ap₂ (λ (s t : Bool). paired e a b && (end_role s a.role && end_role t b.role)) (marked 11) (marked 12)

  means_13 : link_by 13 between a.instruction.processor a.role b.role ≡ link13 e a b
  unfolding link_by rule_mark roles_link marks_of earlier_of link13
  means_13 = asks 6 _ _ refl

  means_15 : link_by 15 between a.instruction.processor a.role b.role ≡ link15 a b
  unfolding link_by rule_mark roles_link marks_of link15
  means_15 = asks 0 _ _ refl

  -- a rule without roles has no link
  means_none : (rule : ℕ) → false ≡ roles_link rule between a.instruction.processor a.role b.role
      → link_by rule between a.instruction.processor a.role b.role ≡ false
  unfolding link_by
  means_none rule h = ap (λ (t : Bool). has_mark between (rule_mark rule) && t) (sym h) ∙ and-false (has_mark between (rule_mark rule))

-- a claim about each number below n
abbrev First : ℕ → (ℕ → Type 0) → Type 0
First zero C = Unit {0}
First (suc n) C = C 0 × First n (λ k. C (suc k))

first_at : (n : ℕ) (C : ℕ → Type 0) → First n C → (k : ℕ) → k < n → C k
first_at zero C h k l = absurd (omega arith)
first_at (suc n) C h zero l = h.0
first_at (suc n) C h (suc k) l = first_at n (λ j. C (suc j)) h.1 k (omega arith)

-- the claims one after the other
infixr 5 ◌⨾◌
abbrev ◌⨾◌ : {A B : Type 0} → A → B → A × B
a ⨾ b = (a, b)

-- past the table no rule has a link
past_links : (e : Execution) (rule : ℕ) (a b : Operation) → 16 ≤ rule → link_of e rule a b ≡ false
unfolding link_of
past_links e rule a b h = rw get_or-eq_default

-- marks and roles say what the rules say, where one instruction number is of one processor
pub link_means : (e : Execution) (rule p : ℕ) (a b : Operation) → Memᴰ a.role (roles p a.instruction.kind) → Memᴰ b.role (roles p b.instruction.kind)
    → (a.instruction.number ≡ b.instruction.number → a.instruction.processor ≡ b.instruction.processor)
    → link_by rule (marks_between e a.instruction b.instruction) a.instruction.processor a.role b.role ≡ link_of e rule a b
unfolding link_of roles_link
link_means e rule p a b m n one = go (dec_lt rule 16)
  where
    C : ℕ → Type 0
    C k = link_by k (marks_between e a.instruction b.instruction) a.instruction.processor a.role b.role ≡ link_of e k a b

    go : Dec (rule < 16) → C rule
    go (yes h) = first_at 16 C (
        means_none e a b 0 refl
        ⨾ means_1 e a b one
        ⨾ means_2 e a b
        ⨾ means_3 e a b p m
        ⨾ means_4 e a b p m n
        ⨾ means_5 e a b
        ⨾ means_6 e a b
        ⨾ means_7 e a b
        ⨾ means_8 e a b
        ⨾ means_none e a b 9 refl
        ⨾ means_none e a b 10 refl
        ⨾ means_none e a b 11 refl
        ⨾ means_none e a b 12 refl
        ⨾ means_13 e a b
        ⨾ means_none e a b 14 refl
        ⨾ means_15 e a b
        ⨾ tt) rule h
    go (no h) = means_none e a b rule (roles_past rule (marks_between e a.instruction b.instruction) a.instruction.processor a.role b.role (omega arith)) ∙ sym (past_links e rule a b (omega arith))

-- some rule links a to b
pub linked_by_lem : (e : Execution) (a b : Operation) → linked e a b ≡ (any_below 16 (λ rule. link_of e rule a b))
unfolding linked link_of any_below
linked_by_lem e a b = simp or-false
