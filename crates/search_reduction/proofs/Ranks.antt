-- A rank of operations that rises along every link: the number of the instruction, then R and F, LV, the RV to the own processor, the other RVs. So no operation must stand before itself.
use Prim.Native.Nat.{ℕ, ◌+◌, ◌*◌, ◌<◌}
use native.Mathlib.Omega.{arith}
use mathlib.Core.Path.{◌≡◌, refl, sym, ap, ap₂, ◌∙◌, subst}
use mathlib.Core.Bool.{true, not, cond, ◌&&◌, ◌||◌}
use mathlib.Core.List.{Memᴰ}
use lib.Dec.{eqb, ltb}
use borrow.Author.Tests.{eqb-true, ltb-true}
use Rattle.base.proofs.Bools.{split, clash, and_parts, and_left, or_cases}
use Rattle.base.proofs.Lists.{any_witness}
use Rattle.model.specs.Execution.{Instruction, Execution, Role, R, LV, F, RV, has_role_R, has_role_LV, has_role_RV, roles, number_of, Operation, all_operations}
use Rattle.model.specs.Rules.{is_R, is_LV, is_own_RV, is_other_RV, same_instruction, earlier, link1, link2, link3, link4, link5, link6, link7, paired, link8, link13, link15, linked}
use Rattle.model.specs.Accepted.{Rises, Accepted}
use Rattle.model.proofs.Ownership.{each_in, operation_of_lem, operation_role, operation_number, one_owner, one_role}

-- where an operation of a role stands among those of its instruction, whose processor is p
stage : Role → ℕ → ℕ
stage R p = 0
stage F p = 0
stage LV p = 1
stage (RV q) p = cond (eqb q p) 2 3

-- the rank of an operation
pub rank : Operation → ℕ
rank o = 4 * o.instruction.number + stage o.role o.instruction.processor

stage_small : (r : Role) (p : ℕ) → stage r p < 4
unfolding stage
stage_small R p = omega arith
stage_small F p = omega arith
stage_small LV p = omega arith
stage_small (RV q) p = split (eqb q p) (λ h. rw h (omega arith)) (λ h. rw h (omega arith))

stage_R : (r : Role) (p : ℕ) → has_role_R r ≡ true → stage r p ≡ 0
unfolding stage
stage_R R p h = refl
stage_R F p h = refl
stage_R LV p h = clash h refl
stage_R (RV q) p h = clash h refl

stage_LV : (r : Role) (p : ℕ) → has_role_LV r ≡ true → stage r p ≡ 1
unfolding stage
stage_LV R p h = clash h refl
stage_LV F p h = clash h refl
stage_LV LV p h = refl
stage_LV (RV q) p h = clash h refl

stage_own : (r : Role) (p : ℕ) → has_role_RV r (λ q. eqb q p) ≡ true → stage r p ≡ 2
unfolding stage
stage_own R p h = clash h refl
stage_own F p h = clash h refl
stage_own LV p h = clash h refl
stage_own (RV q) p h = rw h

stage_other : (r : Role) (p : ℕ) → has_role_RV r (λ q. not (eqb q p)) ≡ true → stage r p ≡ 3
unfolding stage
stage_other R p h = clash h refl
stage_other F p h = clash h refl
stage_other LV p h = clash h refl
stage_other (RV q) p h = split (eqb q p) (λ t. clash h (ap not t)) (λ f. rw f)

-- from an earlier instruction to a later one
number_rises : (a b : Operation) → a.instruction.number < b.instruction.number → rank a < rank b
unfolding rank
number_rises a b h = omega (arith, stage_small a.role a.instruction.processor)

earlier_rises : (a b : Operation) → earlier a b ≡ true → rank a < rank b
earlier_rises a b h =
    number_rises a b (ltb-true a.instruction.number b.instruction.number
    (and_parts (eqb a.instruction.processor b.instruction.processor) (ltb a.instruction.number b.instruction.number) h).1)

-- from a stage of an instruction to a later one
stage_rises : (a b : Operation) (s t : ℕ) → same_instruction a b ≡ true → stage a.role a.instruction.processor ≡ s
    → stage b.role b.instruction.processor ≡ t → s < t → rank a < rank b
unfolding rank
stage_rises a b s t same p q l = omega (arith, eqb-true a.instruction.number b.instruction.number same)

rises_1 : (a b : Operation) → link1 a b ≡ true → rank a < rank b
unfolding link1
rises_1 a b h =
    let (same, roles) = and_parts (same_instruction a b) (is_LV a && is_own_RV b || is_own_RV a && is_other_RV b) h in
    or_cases (is_LV a && is_own_RV b) (is_own_RV a && is_other_RV b) roles
    (λ t. let (first, second) = and_parts (is_LV a) (is_own_RV b) t in
    stage_rises a b 1 2 same (stage_LV a.role a.instruction.processor first) (stage_own b.role b.instruction.processor second) (omega arith))
    (λ t. let (first, second) = and_parts (is_own_RV a) (is_other_RV b) t in
    stage_rises a b 2 3 same (stage_own a.role a.instruction.processor first) (stage_other b.role b.instruction.processor second) (omega arith))

rises_15 : (a b : Operation) → link15 a b ≡ true → rank a < rank b
unfolding link15
rises_15 a b h =
    let (same, roles) = and_parts (same_instruction a b) (is_R a && is_LV b) h in
    let (first, second) = and_parts (is_R a) (is_LV b) roles in
    stage_rises a b 0 1 same (stage_R a.role a.instruction.processor first) (stage_LV b.role b.instruction.processor second) (omega arith)

module _ (e : Execution) (accepted : Accepted e) where
  -- the first instruction of a pair has the lower number
  rises_8 : (a b : Operation) → link8 e a b ≡ true → rank a < rank b
  unfolding link8 paired
  rises_8 a b h =
      let (t, ends) = and_parts (paired e a b) _ h in
      let (p, m, s) = any_witness (λ p. eqb p.0 a.instruction.number && eqb p.1 b.instruction.number) e.pairs t in
      let (s0, s1) = and_parts (eqb p.0 a.instruction.number) (eqb p.1 b.instruction.number) s in
      number_rises a b (omega (
        arith,
        eqb-true p.0 a.instruction.number s0,
        eqb-true p.1 b.instruction.number s1,
        each_in Rises accepted.rising m,
      ))

  pub linked_rises : (a b : Operation) → linked e a b ≡ true → rank a < rank b
  unfolding linked link2 link3 link4 link5 link6 link7 link13
  linked_rises a b h =
      or_cases _ (link15 a b) h
      (λ h. or_cases _ (link13 e a b) h
      (λ h. or_cases _ (link8 e a b) h
      (λ h. or_cases _ (link7 a b) h
      (λ h. or_cases _ (link6 a b) h
      (λ h. or_cases _ (link5 a b) h
      (λ h. or_cases _ (link4 a b) h
      (λ h. or_cases _ (link3 a b) h
      (λ h. or_cases (link1 a b) (link2 a b) h (rises_1 a b) (λ h. earlier_rises a b (and_left _ _ h)))
      (λ h. earlier_rises a b (and_left _ _ h)))
      (λ h. earlier_rises a b (and_left _ _ h)))
      (λ h. earlier_rises a b (and_left _ _ (and_left _ _ h))))
      (λ h. earlier_rises a b (and_left _ _ (and_left _ _ h))))
      (λ h. earlier_rises a b (and_left _ _ (and_left _ _ h))))
      (rises_8 a b))
      (λ h. earlier_rises a b (and_left _ _ (and_left _ _ h))))
      (rises_15 a b)

  -- operations of one number have one rank
  pub one_rank : {o q : Operation} → Memᴰ o (all_operations e) → Memᴰ q (all_operations e) → o.number ≡ q.number → rank o ≡ rank q
  unfolding rank
  one_rank {o} {q} mo mq h =
      let numbers : number_of o.instruction o.role ≡ number_of q.instruction q.role = sym (operation_number e o mo) ∙ h ∙ operation_number e q mq in
      let same = one_owner e accepted (operation_of_lem e o mo) (operation_of_lem e q mq) (operation_role e o mo) (operation_role e q mq) numbers in
      let role = one_role e.processors q.instruction
      (subst (λ (i : Instruction). Memᴰ o.role (roles e.processors i.kind)) same (operation_role e o mo)) (operation_role e q mq)
      (ap (λ (i : Instruction). number_of i o.role) (sym same) ∙ numbers) in
      ap₂ (λ (i : Instruction) (r : Role). 4 * i.number + stage r i.processor) same role

  pub not_linked : {a b : Operation} → Memᴰ a (all_operations e) → Memᴰ b (all_operations e) → a.number ≡ b.number → linked e a b ≡ true → ⊥
  not_linked {a} {b} ma mb same h = omega (arith, linked_rises a b h, one_rank ma mb same)
