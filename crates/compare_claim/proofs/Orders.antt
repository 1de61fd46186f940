-- A legal order of a record is, its operations renumbered, a legal order of an equal one.
use Prim.Native.Nat.{ℕ, ◌<◌}
use native.Mathlib.Omega.{arith}
use mathlib.Core.Path.{◌≡◌, refl, sym, ap, ◌∙◌}
use mathlib.Core.List.{List, Memᴰ}
use Rattle.model.specs.Execution.{Kind, Execution, Role, R, LV, F, RV, roles, Operation, operations, all_operations}
use Rattle.model.specs.Calls.{says, read_all}
use Rattle.model.specs.Accepted.{Accepted}
use Rattle.model.proofs.Accepted.{read_accepted}
use Rattle.model.proofs.Roles.{RV_few}
use Rattle.model.proofs.Ownership.{each_in, operation_of_lem, operation_role}
use Rattle.renumbered_marks.specs.Roles.{role_to}
use Rattle.renumbered_marks.proofs.Renumbers.{Renumbers}
use Rattle.renumbered_marks.proofs.Carried.{inverse, inverse_is, inverse_back}
use Rattle.renumbered_marks.proofs.Moves.{anew}
use Rattle.renumbered_marks.proofs.OneMark.{old, old_is, operation_back, legal_back}
use Rattle.compare_claim.specs.EqualMarks.{Becomes, CarriedOver}

-- f under the numbers of e, and back
module _ (e f : Execution) (r : Renumbers f e) (accepted : Accepted e) (accepted_other : Accepted f) where
  abbrev to : ℕ → ℕ
  to = inverse r.to f.processors

  to_back : (p : ℕ) → p < f.processors → to (r.to p) ≡ p
  to_back p l = inverse_back r.to r.to_one f.processors r.to_low p l

  to_one : (p q : ℕ) → p < e.processors → q < e.processors → to p ≡ to q → p ≡ q
  to_one p q lp lq h =
      let back : (p : ℕ) → p < e.processors → r.to (to p) ≡ p =
      λ p l. (inverse_is r.to r.to_one f.processors r.to_low p (omega (arith, r.same_processors))).1 in
      sym (back p lp) ∙ ap r.to h ∙ back q lq

  to_below : (p : ℕ) → p < e.processors → to p < f.processors
  to_below p l = (inverse_is r.to r.to_one f.processors r.to_low p (omega (arith, r.same_processors))).0

  number_one : (a b : ℕ) → a < operations e → b < operations e → old f e r a ≡ old f e r b → a ≡ b
  number_one a b la lb h =
      let back : (a : ℕ) → a < operations e → anew f e r (old f e r a) ≡ a = λ a l. (old_is f e r accepted_other accepted a (omega (arith, r.same_operations))).1 in
      sym (back a la) ∙ ap (anew f e r) h ∙ back b lb

  role_back : (k : Kind) (s : Role) → Memᴰ s (roles f.processors k) → role_to to (role_to r.to s) ≡ s
  role_back k R m = refl
  role_back k LV m = refl
  role_back k F m = refl
  role_back k (RV q) m = ap RV (to_back q (RV_few f.processors q k m))

  becomes : (a : Operation) → Memᴰ a (all_operations e) → (b : Operation) × Memᴰ b (all_operations f) × Becomes to (old f e r) a b
  becomes a m =
      let (b, mb, number, same) = operation_back f e r accepted_other accepted m in (
        b,
        mb,
        record {
          number_is = number;
          role_is = sym (role_back b.instruction.kind b.role (operation_role f b mb)) ∙ ap (λ (o : Operation). role_to to o.role) same;
          processor_is = sym (to_back b.instruction.processor (each_in _ accepted_other.sound (operation_of_lem f b mb)).own) ∙ ap (λ (o : Operation). to o.instruction.processor) same;
          kind_is = ap (λ (o : Operation). o.instruction.kind) same;
          address_is = ap (λ (o : Operation). o.instruction.address) same;
          size_is = ap (λ (o : Operation). o.instruction.size) same;
          seen_is = ap (λ (o : Operation). o.instruction.seen) same;
          wrote_is = ap (λ (o : Operation). o.instruction.wrote) same;
        },
      )

pub carried_over : (left right : List ℕ) (e f : Execution) → read_all left ≡ says e → read_all right ≡ says f → Renumbers f e → CarriedOver left right e f
carried_over left right e f he hf r =
    let a = read_accepted left e he in
    let b = read_accepted right f hf in
    record {
      new_processor = to e f r a b;
      new_operation = old f e r;
      processors_same = sym r.same_processors;
      processor_below = to_below e f r a b;
      processor_one = to_one e f r a b;
      operations_same = sym r.same_operations;
      operation_one = number_one e f r a b;
      becomes = becomes e f r a b;
      legal_too = λ order legal. (legal_back right left f e hf he r order legal).0;
    }
