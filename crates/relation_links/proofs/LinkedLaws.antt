-- Marks and roles say which operations are linked.
use Prim.Native.Nat.{ℕ, zero, suc, ◌/◌, ◌%◌, ◌≤◌, ◌<◌}
use native.Mathlib.Omega.{arith}
use mathlib.Core.Path.{◌≡◌, refl, sym, ap, ◌∙◌}
use mathlib.Core.Bool.{Bool, true, false, ◌||◌, and-false, or-true}
use mathlib.Core.List.{List, [], ◌∷◌}
use Rattle.std.specs.List.{list_any}
use lib.ListN.{get_or}
use borrow.Author.Tests.{ne_eqb}
use Rattle.base.specs.Below.{any_below}
use Rattle.base.proofs.Tests.{any_passes, any_below_same}
use Rattle.model.specs.Execution.{Role, RV}
use Rattle.model.specs.Rules.{linked}
use Rattle.model.specs.Accepted.{Consecutive}
use Rattle.record_decoded.specs.Kinds.{role_numbered}
use Rattle.record_decoded.specs.declared.types.Execution.{Execution}
use Rattle.record_decoded.specs.Decoded.{instruction_at, execution_of}
use Rattle.relation_marks.specs.Marks.{has_mark}
use Rattle.relation_links.specs.declared.operations.Operations.{Operations}
use Rattle.relation_links.specs.Operations.{operation_at}
use Rattle.relation_links.specs.Compiled.{CompiledIn}
use Rattle.relation_links.specs.Links.{rule_mark, roles_link, link_by}
use Rattle.model.proofs.Ownership.{operation_role}
use Rattle.relation_links.proofs.LinkLaws.{operation_processor, link_means, linked_by_lem}
use Rattle.relation_links.proofs.CompiledLaws.{operation_there, owner_there}
use Rattle.relation_links.specs.Linked.{linked_by, linked_at}

module _ (m p : ℕ) (a b : Role) where
  -- a rule that links
  pub rule_links : (rule : ℕ) → rule < 16 → link_by rule m p a b ≡ true → true ≡ linked_by m p a b
  unfolding linked_by
  rule_links rule l h = sym (any_passes (λ r. link_by r m p a b) 16 rule l h)

  -- rules without a link
  rule_0 : link_by 0 m p a b ≡ false
  unfolding link_by roles_link
  rule_0 = and-false (has_mark m (rule_mark 0))

  rule_9 : link_by 9 m p a b ≡ false
  unfolding link_by roles_link
  rule_9 = and-false (has_mark m (rule_mark 9))

  rule_10 : link_by 10 m p a b ≡ false
  unfolding link_by roles_link
  rule_10 = and-false (has_mark m (rule_mark 10))

  rule_11 : link_by 11 m p a b ≡ false
  unfolding link_by roles_link
  rule_11 = and-false (has_mark m (rule_mark 11))

  rule_12 : link_by 12 m p a b ≡ false
  unfolding link_by roles_link
  rule_12 = and-false (has_mark m (rule_mark 12))

  rule_14 : link_by 14 m p a b ≡ false
  unfolding link_by roles_link
  rule_14 = and-false (has_mark m (rule_mark 14))

  -- some rule links where one of those from any operation does, or one of the others
  pub linked_is : (list_any (λ rule. link_by rule m p a b) (1 ∷ 3 ∷ 4 ∷ []) || list_any (λ rule. link_by rule m p a b) (2 ∷ 5 ∷ 6 ∷ 7 ∷ 8 ∷ 13 ∷ 15 ∷ [])) ≡ linked_by m p a b
  unfolding linked_by any_below
  linked_is = rw (rule_0, rule_9, rule_10, rule_11, rule_12, rule_14) (sorted (link_by 1 m p a b) (link_by 3 m p a b) (link_by 4 m p a b) (link_by 2 m p a b) (link_by 5 m p a b) (link_by 6 m p a b) (link_by 7 m p a b) (link_by 8 m p a b) (link_by 13 m p a b) (link_by 15 m p a b))
    where
      sorted : (r1 r3 r4 r2 r5 r6 r7 r8 r13 r15 : Bool) → ((r1 || (r3 || (r4 || false))) || (r2 || (r5 || (r6 || (r7 || (r8 || (r13 || (r15 || false)))))))) ≡ ((((((((((((((((false || false) || r1) || r2) || r3) || r4) || r5) || r6) || r7) || r8) || false) || false) || false) || false) || r13) || false) || r15)
      sorted true r3 r4 r2 r5 r6 r7 r8 r13 r15 = refl
      sorted false true r4 r2 r5 r6 r7 r8 r13 r15 = simp or-true
      sorted false false true r2 r5 r6 r7 r8 r13 r15 = simp or-true
      sorted false false false true r5 r6 r7 r8 r13 r15 = refl
      sorted false false false false true r6 r7 r8 r13 r15 = refl
      sorted false false false false false true r7 r8 r13 r15 = refl
      sorted false false false false false false true r8 r13 r15 = refl
      sorted false false false false false false false true r13 r15 = refl
      sorted false false false false false false false false true r15 = refl
      sorted false false false false false false false false false true = refl
      sorted false false false false false false false false false false = refl

  -- without a mark below 128 no rule links
  pub no_mark : m % 128 ≡ 0 → false ≡ linked_by m p a b
  unfolding linked_by any_below link_by rule_mark
  no_mark h = sym (simp (
    ne_eqb (m / 1 % 2) 1 (λ e. omega arith),
    ne_eqb (m / 2 % 2) 1 (λ e. omega arith),
    ne_eqb (m / 4 % 2) 1 (λ e. omega arith),
    ne_eqb (m / 8 % 2) 1 (λ e. omega arith),
    ne_eqb (m / 16 % 2) 1 (λ e. omega arith),
    ne_eqb (m / 32 % 2) 1 (λ e. omega arith),
    ne_eqb (m / 64 % 2) 1 (λ e. omega arith),
  ))

-- from an RV only rules 1, 3 and 4 link
module _ (m p q : ℕ) (b : Role) where
  remote_2 : link_by 2 m p (RV q) b ≡ false
  unfolding link_by roles_link
  remote_2 = and-false (has_mark m (rule_mark 2))

  remote_5 : link_by 5 m p (RV q) b ≡ false
  unfolding link_by roles_link
  remote_5 = and-false (has_mark m (rule_mark 5))

  remote_6 : link_by 6 m p (RV q) b ≡ false
  unfolding link_by roles_link
  remote_6 = and-false (has_mark m (rule_mark 6))

  remote_7 : link_by 7 m p (RV q) b ≡ false
  unfolding link_by roles_link
  remote_7 = and-false (has_mark m (rule_mark 7))

  remote_8 : link_by 8 m p (RV q) b ≡ false
  unfolding link_by roles_link
  remote_8 = and-false (has_mark m (rule_mark 8))

  remote_13 : link_by 13 m p (RV q) b ≡ false
  unfolding link_by roles_link
  remote_13 = and-false (has_mark m (rule_mark 13))

  remote_15 : link_by 15 m p (RV q) b ≡ false
  unfolding link_by roles_link
  remote_15 = and-false (has_mark m (rule_mark 15))

  remote_others : list_any (λ rule. link_by rule m p (RV q) b) (2 ∷ 5 ∷ 6 ∷ 7 ∷ 8 ∷ 13 ∷ 15 ∷ []) ≡ false
  remote_others = rw (remote_2, remote_5, remote_6, remote_7, remote_8, remote_13, remote_15) refl

pub others_from_remote : (m p k : ℕ) (b : Role) → 3 ≤ k → list_any (λ rule. link_by rule m p (role_numbered k) b) (2 ∷ 5 ∷ 6 ∷ 7 ∷ 8 ∷ 13 ∷ 15 ∷ []) ≡ false
others_from_remote m p zero b l = absurd (omega arith)
others_from_remote m p (suc zero) b l = absurd (omega arith)
others_from_remote m p (suc (suc zero)) b l = absurd (omega arith)
others_from_remote m p (suc (suc (suc q))) b l = remote_others m p q b

pub from_remote : (m p k : ℕ) (b : Role) → 3 ≤ k → link_by 1 m p (role_numbered k) b ≡ false → link_by 3 m p (role_numbered k) b ≡ false
    → link_by 4 m p (role_numbered k) b ≡ false → false ≡ linked_by m p (role_numbered k) b
from_remote m p k b l h1 h3 h4 = sym (rw (h1, h3, h4, others_from_remote m p k b l) refl) ∙ linked_is m p (role_numbered k) b

-- the tables of an execution
-- the tables' test of two operations is whether some rule links them
pub linked_means : {bytes : List ℕ} {x : Execution} {t : Operations} {marks : List (List ℕ)} → CompiledIn bytes x t marks → Consecutive (execution_of bytes x).processors 0 0 (execution_of bytes x).instructions
    → (a o : ℕ) → a < t.count → o < t.count
    → linked_at x.instructions t marks a o ≡ linked (execution_of bytes x) (operation_at x.instructions t a) (operation_at x.instructions t o)
unfolding linked_at linked_by operation_at instruction_at
linked_means {bytes} {x} {t} {marks} h consecutive a o la lo =
    any_below_same _ _ 16 (λ rule l.
    ap (λ (k : ℕ). link_by rule k (get_or x.instructions.processors (get_or t.owners a 0) 0) (role_numbered (get_or t.roles a 0)) (role_numbered (get_or t.roles o 0)))
    (h.marked (get_or t.owners a 0) (get_or t.owners o 0) (owner_there h a la) (owner_there h o lo))
    ∙ link_means (execution_of bytes x) rule (execution_of bytes x).processors (operation_at x.instructions t a) (operation_at x.instructions t o)
    (operation_role (execution_of bytes x) (operation_at x.instructions t a) (operation_there h a la))
    (operation_role (execution_of bytes x) (operation_at x.instructions t o) (operation_there h o lo))
    (operation_processor (execution_of bytes x) consecutive (operation_at x.instructions t a) (operation_at x.instructions t o) (operation_there h a la) (operation_there h o lo)))
    ∙ sym (linked_by_lem (execution_of bytes x) (operation_at x.instructions t a) (operation_at x.instructions t o))
