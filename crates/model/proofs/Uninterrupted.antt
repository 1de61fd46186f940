-- The lines of an access have one attribute. A semaphore reads and writes without interruption: in an order that the judge calls legal none is local for a byte it reads.
use Prim.Native.Nat.{ℕ, ◌+◌, ◌/◌}
use native.Mathlib.Omega.{arith}
use mathlib.Core.Path.{◌≡◌, refl, sym, ap, ◌∙◌, subst}
use mathlib.Core.Bool.{true, false, not, ◌&&◌}
use mathlib.Core.List.Memᴰ
use mathlib.Core.List.{List, [], Memᴰ}
use lib.Dec.{eqb}
use lib.ListN.{get_or, get_or-map}
use borrow.Author.Tests.{eq-eqb, eqb-true, eqb-false, ne_eqb}
use Rattle.base.specs.Lists.{keep, member}
use Rattle.base.specs.Orders.{OrderOf}
use Rattle.base.proofs.Bools.{split, clash, is_false, and_parts, and_both, not_both}
use Rattle.base.proofs.Lists.{any_map, any_witness, all_member, in_member, in_count, length_count, getD_member, of_keep, in_for, in_when}
use Rattle.base.proofs.Orders.{order_has}
use Rattle.model.specs.Execution.{Instruction, Execution, R, LV, RV, number_of, WC, attribute_number, attribute_of, is_WB, no_line, line_at, lines_from, attribute_at, operations, all_operations, stores, semaphores}
use Rattle.model.specs.Questions.{question26, question27, line_attributes}
use Rattle.model.specs.Rules.{before, accesses, in_WB, link15, must, RV_own, links_of, conflict, for_conflicts, rule9, sight_of, rule16, rules, local, broken, consistent}
use Rattle.model.specs.Accepted.{Accepted}
use Rattle.model.specs.Claims.{NoSemaphoreLocal, EitherLine}
use Rattle.model.proofs.Accepted.{read_found, read_accepted}
use Rattle.model.proofs.Accesses.{accessed, one_byte, on_lines, fitting}
use Rattle.model.proofs.Before.{before_past, before_other}
use Rattle.model.proofs.Consistent.{unbroken}
use Rattle.model.proofs.Legal.{legal_passes, legal_consistent}
use Rattle.model.proofs.Numbers.{one_numbered, number_below}
use Rattle.model.proofs.Uncacheable.{attribute_numbers}
use Rattle.model.proofs.Ownership.{each_in, is_store_lem, is_semaphore_lem, semaphore_load, semaphore_store, R_in, LV_in, RV_in, store_processor, RV_differ}

-- a store that makes a load local for a byte: of the load's processor, with LV before R before RV
record Local (e : Execution) (xs : List ℕ) (l : Instruction) (b : ℕ) (w : Instruction) : Type 0 where
  stores_it : Memᴰ w (stores e)
  there : accesses w b ≡ true
  own : w.processor ≡ l.processor
  LV_first : before xs (number_of w LV) (number_of l R) ≡ true
  RV_later : before xs (number_of l R) (number_of w (RV l.processor)) ≡ true

local_by_lem : (e : Execution) (xs : List ℕ) (l : Instruction) (b : ℕ) → local xs (sight_of e l b) ≡ true → (w : Instruction) × Local e xs l b w
unfolding local sight_of
local_by_lem e xs l b h =
    let (w, m, t) = any_witness (λ w. eqb w.processor l.processor && (before xs (number_of w LV) (number_of l R) && before xs (number_of l R) (number_of w (RV l.processor))))
    (keep (λ w. accesses w b) (stores e)) (sym (any_map _ _ (keep (λ w. accesses w b) (stores e))) ∙ h) in
    let (mw, at) = of_keep (λ w. accesses w b) (stores e) m in
    let (own, t1) = and_parts (eqb w.processor l.processor) _ t in
    let (first, later) = and_parts (before xs (number_of w LV) (number_of l R)) (before xs (number_of l R) (number_of w (RV l.processor))) t1 in
    (w, record { stores_it = mw; there = at; own = eqb-true w.processor l.processor own; LV_first = first; RV_later = later })

module _ (e : Execution) (accepted : Accepted e) where
  -- a semaphore's line is WB
  pub semaphore_WB : {s : Instruction} → Memᴰ s (semaphores e) → in_WB e s ≡ true
  unfolding question26 attribute_at line_at
  semaphore_WB {s} m =
      let (i, k) = is_semaphore_lem e m in
      let q = (each_in _ accepted.sound_lines i).semaphore_passed in
      sym (ap is_WB (get_or-map (λ l. l.attribute) e.lines (s.address / 8) no_line)) ∙ rw k at q

  -- the line of a byte is one of its access
  line_of_lem : {i : Instruction} → Memᴰ i e.instructions → (b : ℕ) → accesses i b ≡ true → Memᴰ (b / 8) (lines_from i.address i.size)
  unfolding lines_from
  line_of_lem {i} m b h =
      let its = accessed i b h in
      in_count (i.address / 8) ((i.size + 7) / 8) (b / 8) (omega (arith, its.0)) (omega (arith, its.1, (on_lines (each_in _ accepted.sound m)).0))

  -- the lines of an access have one attribute
  pub one_attribute : {i : Instruction} → Memᴰ i e.instructions → (b : ℕ) → accesses i b ≡ true → (line_at e b).attribute ≡ attribute_at e i
  unfolding question27 attribute_at line_at
  one_attribute {i} m b h =
      sym (numbered (b / 8))
      ∙ ap attribute_of (eqb-true (number (b / 8)) (number (i.address / 8)) (all_member _ (line_of_lem m b h) (each_in _ accepted.sound_lines m).lines_passed))
      ∙ numbered (i.address / 8)
    where
      number : ℕ → ℕ
      number k = attribute_number (get_or (line_attributes e.lines) k WC)

      numbered : (k : ℕ) → attribute_of (number k) ≡ (get_or e.lines k no_line).attribute
      numbered k = attribute_numbers.0 _ ∙ get_or-map (λ l. l.attribute) e.lines k no_line

  -- accesses of one byte are to memory of one attribute
  pub same_memory : {i j : Instruction} → Memᴰ i e.instructions → Memᴰ j e.instructions → (b : ℕ) → accesses i b ≡ true → accesses j b ≡ true
      → in_WB e i ≡ in_WB e j
  same_memory mi mj b hi hj = ap is_WB (sym (one_attribute mi b hi) ∙ one_attribute mj b hj)

  module _ (xs : List ℕ) (consists : consistent e xs ≡ true) {s : Instruction} (ms : Memᴰ s (semaphores e)) where
    -- rule 15 for a semaphore
    rule15_kept : before xs (number_of s LV) (number_of s R) ≡ false
    unfolding rules links_of link15 broken
    rule15_kept =
        unbroken e xs consists (getD_member (rules e) 14 [] (omega arith))
        (Memᴰ.map must (in_for _ (R_in e (semaphore_load e ms)) (in_for _ (LV_in e (semaphore_store e ms))
        (in_when (and_both (eq-eqb s.number s.number refl) refl) (Memᴰ.head refl)))))

    -- another store that makes the semaphore local
    module _ {b : ℕ} (hs : accesses s b ≡ true) {w : Instruction} (l : Local e xs s b w) (other : w.number ≡ s.number → ⊥) where
      conflicts : conflict e w s ≡ true
      unfolding conflict
      conflicts =
          rw (ne_eqb w.number s.number other, one_byte w s b l.there hs, same_memory (is_store_lem e l.stores_it).0 (is_semaphore_lem e ms).0 b l.there hs, semaphore_WB ms)

      -- rules 15 and 9: its RV is not behind the semaphore's
      rule9_kept : before xs (RV_own s) (number_of w (RV s.processor)) ≡ false
      unfolding rules rule9 for_conflicts broken
      rule9_kept =
          subst (λ (p : ℕ). before xs (RV_own s) (number_of w (RV p)) ≡ false) l.own
          (not_both (unbroken e xs consists (getD_member (rules e) 8 [] (omega arith))
          (in_for _ l.stores_it (in_for _ (semaphore_store e ms) (in_when conflicts (in_when (eq-eqb w.processor s.processor l.own) (Memᴰ.head refl))))))
          (before_past xs (number_of w LV) (number_of s R) (number_of s LV) l.LV_first rule15_kept))

      -- rule 16: nor before it
      rule16_kept : before xs (number_of w (RV s.processor)) (RV_own s) ≡ false
      unfolding rules rule16 broken
      rule16_kept =
          not_both (unbroken e xs consists (getD_member (rules e) 15 [] (omega arith))
          (in_for _ ms (in_for _ l.stores_it (in_when
          (and_both (ap not (ne_eqb s.number w.number (λ q. other (sym q)))) (one_byte s w b hs l.there)) (Memᴰ.head refl))))) l.RV_later

      -- so the semaphore's does not stand
      other_fails : member xs (RV_own s) ≡ true → ⊥
      other_fails stands =
          let low = store_processor e accepted (semaphore_store e ms) in
          clash (before_other xs (RV_own s) (number_of w (RV s.processor)) stands
          (RV_differ e accepted (semaphore_store e ms) l.stores_it (λ q. other (sym q)) low low) rule9_kept) rule16_kept

    -- no store makes a semaphore local whose own RV stands
    none_local : {b : ℕ} → accesses s b ≡ true → {w : Instruction} → Local e xs s b w → member xs (RV_own s) ≡ true → ⊥
    none_local hs {w} l stands =
        split (eqb w.number s.number)
        (λ t.
        let same : w ≡ s = one_numbered e.processors 0 0 e.instructions w s accepted.consecutive
        (is_store_lem e l.stores_it).0 (is_semaphore_lem e ms).0 (eqb-true w.number s.number t) in
        clash (rw same at l.LV_first) rule15_kept)
        (λ f. other_fails hs l (eqb-false w.number s.number f) stands)

-- an order of all operations has the own RV of each store
own_stands : (e : Execution) → Accepted e → (order : List ℕ) → OrderOf (operations e) order
    → {w : Instruction} → Memᴰ w (stores e) → member order (RV_own w) ≡ true
unfolding operations all_operations
own_stands e accepted order all {w} m =
    order_has (operations e) order all (RV_own w)
    (omega (arith, number_below e.processors 0 0 e.instructions _ accepted.consecutive (RV_in e m w.processor (store_processor e accepted m))))

pub no_semaphore_local : NoSemaphoreLocal
no_semaphore_local bytes e h order legal s m b there =
    let accepted = read_accepted bytes e h in
    let (rest, f) = read_found bytes e h in
    let all = legal_passes bytes e rest f order legal in
    let consists = (legal_consistent bytes e rest f order all).0 legal in
    is_false (local order (sight_of e s b)) (λ t.
    none_local e accepted order consists m there (local_by_lem e order s b t).1 (own_stands e accepted order all (semaphore_store e m)))

pub either_line : EitherLine
unfolding lines_from
either_line bytes e h i m =
    let accepted = read_accepted bytes e h in (
      omega (arith, length_count (i.address / 8) ((i.size + 7) / 8), (fitting (each_in _ accepted.sound m)).few),
      λ b there. (in_member (line_of_lem e accepted m b there), one_attribute e accepted m b there),
    )
