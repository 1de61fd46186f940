-- The links of rules 1 to 8, 13 and 15 with the rule as a parameter: by the definitions of the rules, and by marks and roles.
use Rattle.std.specs.Prelude.{ℕ, Bool, true, false, not, ◌&&◌, ◌||◌, List, [], ◌∷◌, get_or, eqb}
use Rattle.model.specs.Execution.{Execution, Role, Operation, has_role_R, has_role_LV, has_role_RV}
use Rattle.model.specs.Rules.{same_visibility, link1, link2, link3, link4, link5, link6, link7, link8, link13, link15}
use Rattle.relation_marks.specs.Marks.{has_mark, first_semaphore_mark, second_semaphore_mark}

-- the link of a rule; no other rule has one
unfoldable pub link_of : Execution → ℕ → Operation → Operation → Bool
link_of e rule a b =
    get_or (
    false ∷ link1 a b ∷ link2 a b ∷ link3 a b ∷ link4 a b ∷ link5 a b ∷ link6 a b ∷ link7 a b ∷ link8 e a b
    ∷ false ∷ false ∷ false ∷ false ∷ link13 e a b ∷ false ∷ link15 a b ∷ [])
    rule false

-- the mark of two instructions that a rule asks for
abbrev pub rule_mark_table : List ℕ
rule_mark_table = 1 ∷ 1 ∷ 2 ∷ 4 ∷ 8 ∷ 16 ∷ 16 ∷ 16 ∷ 32 ∷ 1 ∷ 1 ∷ 1 ∷ 1 ∷ 64 ∷ 1 ∷ 1 ∷ []

unfoldable pub rule_mark : ℕ → ℕ
rule_mark rule = get_or rule_mark_table rule 1

-- what an end of a dependence pair stands for, by its role and whether it is a semaphore's
abbrev pub end_role : Bool → Role → Bool
end_role semaphore a = has_role_R a || has_role_LV a && not semaphore

-- what a rule asks of the roles of two operations, the first of processor p, by the marks m of their instructions
unfoldable pub roles_link : ℕ → ℕ → ℕ → Role → Role → Bool
roles_link rule m p a b =
    get_or (
    false
    ∷ (has_role_LV a && has_role_RV b (λ q. eqb q p) || has_role_RV a (λ q. eqb q p) && has_role_RV b (λ q. not (eqb q p)))
    ∷ has_role_R a
    ∷ (has_role_R a || same_visibility a b)
    ∷ true
    ∷ (has_role_LV a && has_role_R b)
    ∷ (has_role_R a && has_role_LV b)
    ∷ (has_role_LV a && has_role_LV b)
    ∷ (end_role (has_mark m first_semaphore_mark) a && end_role (has_mark m second_semaphore_mark) b)
    ∷ false ∷ false ∷ false ∷ false
    ∷ ((has_role_R a || has_role_LV a) && (has_role_R b || has_role_LV b))
    ∷ false
    ∷ (has_role_R a && has_role_LV b)
    ∷ [])
    rule false

unfoldable pub link_by : ℕ → ℕ → ℕ → Role → Role → Bool
link_by rule marks p a b = has_mark marks (rule_mark rule) && roles_link rule marks p a b
