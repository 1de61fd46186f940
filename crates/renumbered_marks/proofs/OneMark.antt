-- Records with processors numbered anew have one mark: a legal order of the one is, under the old numbers, a legal order of the other.
use Prim.Native.Nat.{ℕ, ◌<◌}
use native.Mathlib.Omega.{arith}
use mathlib.Core.Path.{◌≡◌, sym, ap, ◌∙◌, subst}
use mathlib.Core.Bool.{true}
use mathlib.Core.List.{List, [], map, map-id, Memᴰ}
use mathlib.Core.Logic.{◌↔◌}
use lib.ListN.{length-map}
use Rattle.base.specs.Lists.{distinct}
use Rattle.base.specs.Orders.{OrderOf}
use Rattle.base.proofs.Lists.{map_map, map_same, distinct_in}
use Rattle.model.specs.Execution.{Execution, Operation, operations, all_operations}
use Rattle.model.specs.Rules.{consistent}
use Rattle.model.specs.Calls.{says, read_all, Legal, NoneLegal}
use Rattle.model.specs.Accepted.{Accepted}
use Rattle.model.proofs.Accepted.{read_found, read_accepted}
use Rattle.model.proofs.Legal.{legal_passes, legal_consistent}
use Rattle.renumbered_marks.proofs.Renumbers.{Renumbers}
use Rattle.renumbered_marks.proofs.Carried.{inverse, distinct_carried, inverse_is}
use Rattle.renumbered_marks.proofs.Moves.{number_low, operation_at_lem, one_operation, with, move_op, anew, moved_in, anew_is, anew_low, anew_one}
use Rattle.renumbered_marks.proofs.Demands.{consistent_back}

module _ (e f : Execution) (r : Renumbers e f) where
  abbrev n : ℕ
  n = operations e

  abbrev π : ℕ → ℕ
  π = anew e f r

  -- the old number of an operation
  abbrev pub old : ℕ → ℕ
  old = inverse (anew e f r) (operations e)

  module _ (accepted : Accepted e) (accepted_other : Accepted f) where
    whole : with e f ≡ f
    whole = λ x. record { processors = r.same_processors x; lines = f.lines; instructions = f.instructions; pairs = f.pairs }

    accepted' : Accepted (with e f)
    accepted' = subst Accepted (sym whole) accepted_other

    same : n ≡ operations (with e f)
    same = r.same_operations ∙ sym (ap operations whole)

    one : (a b : ℕ) → π a ≡ π b → a ≡ b
    one = anew_one e f r accepted accepted' same

    pub old_is : (a : ℕ) → a < operations e → (old a < operations e) × (anew e f r (old a) ≡ a)
    old_is a l = inverse_is π one n (anew_low e f r accepted accepted' same) a l

    -- an operation of f is the one of its old number, moved
    pub operation_back : {a : Operation} → Memᴰ a (all_operations f) → (b : Operation) × Memᴰ b (all_operations e) × (b.number ≡ old a.number) × (move_op e f r b ≡ a)
    operation_back {a} m =
        let (less, is) = old_is a.number (omega (arith, r.same_operations, number_low f accepted_other m)) in
        let (b, mb, h) = operation_at_lem e accepted (old a.number) less in
        let there : Memᴰ (move_op e f r b) (all_operations f) = subst (λ (g : Execution). Memᴰ (move_op e f r b) (all_operations g)) whole (moved_in e f r mb) in
        (b, mb, h, one_operation f accepted_other there m (sym (anew_is e f r accepted mb) ∙ ap π h ∙ is))

    module _ (ys : List ℕ) (order : OrderOf (operations f) ys) where
      low : {a : ℕ} → Memᴰ a ys → a < n
      low m = omega (arith, r.same_operations, distinct_in (operations f) [] ys order.1 m)

      -- the old numbers of an order, under the new ones again
      back_forth : map π (map old ys) ≡ ys
      back_forth = map_map π old ys ∙ map_same (λ a. π (old a)) (λ a. a) ys (λ a m. (old_is a (low m)).1) ∙ map-id ys

      order_back : OrderOf n (map old ys)
      order_back = (
        length-map ys old ∙ order.0 ∙ sym r.same_operations,
        sym (distinct_carried π one n [] (map old ys) kept) ∙ ap (distinct n []) back_forth ∙ ap (λ (n : ℕ). distinct n [] ys) r.same_operations ∙ order.1,
      )
        where
          kept : (a : ℕ) → Memᴰ a (map old ys) → (a < n) × (π a < n)
          kept a m =
              let (y, my, h) = mathlib.Core.List.Memᴰ.of_map old ys m in
              let (less, is) = old_is y (low my) in
              subst (λ (a : ℕ). (a < n) × (π a < n)) h (less, omega (arith, low my))

      -- a consistent order of f's operations is one of e's under the old numbers
      pub consistent_order_back : consistent f ys ≡ true → OrderOf (operations e) (map old ys) × (consistent e (map old ys) ≡ true) × (map π (map old ys) ≡ ys)
      consistent_order_back h = (
        order_back,
        consistent_back e f r accepted accepted' same (map old ys) (ap (consistent (with e f)) back_forth ∙ ap (λ (x : Execution). consistent x ys) whole ∙ h),
        back_forth,
      )

-- a legal order of f is, under the old numbers, one of e
pub legal_back : (bytes other : List ℕ) (e f : Execution) → read_all bytes ≡ says e → read_all other ≡ says f → (r : Renumbers e f)
    → (ys : List ℕ) → Legal other ys → Legal bytes (map (old e f r) ys) × (map (anew e f r) (map (old e f r) ys) ≡ ys)
legal_back bytes other e f h k r ys legal =
    let (rest, read) = read_found bytes e h in
    let (rest', read') = read_found other f k in
    let o = legal_passes other f rest' read' ys legal in
    let (o', consists, forth) = consistent_order_back e f r (read_accepted bytes e h) (read_accepted other f k) ys o ((legal_consistent other f rest' read' ys o).0 legal) in
    ((legal_consistent bytes e rest read (map (old e f r) ys) o').1 consists, forth)

-- of two accepted records, each the other with its processors numbered anew, both have a legal order or neither
pub one_mark : (bytes other : List ℕ) (e f : Execution) → read_all bytes ≡ says e → read_all other ≡ says f → Renumbers e f → Renumbers f e
    → NoneLegal bytes ↔ NoneLegal other
one_mark bytes other e f h k r s = (
  λ none ys legal. none _ (legal_back bytes other e f h k r ys legal).0,
  λ none ys legal. none _ (legal_back other bytes f e k h s ys legal).0,
)
