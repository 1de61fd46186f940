-- Two records are equal exactly when they have the same smallest form.
use Prim.Native.Nat.{ℕ, ◌<◌}
use native.Mathlib.Omega.{arith}
use mathlib.Core.Path.{◌≡◌, sym, ap, ◌∙◌, subst}
use mathlib.Core.Bool.{true}
use mathlib.Core.List.{List, map}
use lib.ListN.{length, get_or, length-map, get_or-map}
use Rattle.base.specs.Lists.{below, same}
use Rattle.base.specs.Orders.{OrderOf, orders_below}
use Rattle.base.proofs.Bools.{agree}
use Rattle.base.proofs.Lists.{any_witness, any_member, getD_there, map_map, map_same, of_below, same_true, same_itself}
use Rattle.base.proofs.Lex.{AtMost, most_both}
use Rattle.base.proofs.Orders.{in_orders, of_orders}
use Rattle.base.proofs.Permutations.{Alike, place, order_place, straight, across, across_order}
use Rattle.model.specs.Execution.{Execution}
use Rattle.model.specs.Renumbering.{Processor, processor_at, head_taken, record_from, renumbered, is_equal, smallest_form}
use Rattle.record_renumbering.specs.Keys.{sorted_processors}
use Rattle.record_renumbering.specs.Forms.{FormsDecide}
use Rattle.record_renumbering.proofs.Parts.{Parts, parts}
use Rattle.record_renumbering.proofs.Decoding.{Head, record_same}
use Rattle.record_renumbering.proofs.Straight.{head_length}
use Rattle.record_renumbering.proofs.Smallest.{numbered, numbered_proper, numbered_alike, ascending_most, sorted_order_of, sorted_smallest}

pub head_is : {bytes : List ℕ} {e : Execution} → Parts bytes e → Head (head_taken e)
unfolding head_taken
head_is r = head_length r

pub head_counted : (e : Execution) (order : List ℕ) → OrderOf e.processors order → get_or (head_taken e) 0 0 ≡ length (numbered e order)
unfolding head_taken
head_counted e order o = sym (length-map order (processor_at e.instructions e.pairs) ∙ o.0)

-- the processor that has a number anew
pub numbered_at : (e : Execution) (order : List ℕ) (k : ℕ) (none : Processor) → k < length order → get_or (numbered e order) k none ≡ processor_at e.instructions e.pairs (get_or order k 0)
numbered_at e order k none l =
    getD_there (numbered e order) k none (processor_at e.instructions e.pairs 0) (omega (arith, length-map order (processor_at e.instructions e.pairs)))
    ∙ get_or-map (processor_at e.instructions e.pairs) order k 0

module _ {left right : List ℕ} {e f : Execution} (r : Parts left e) (s : Parts right f) where
  -- the bytes of two renumbered records tell what they have in common
  pub renumbered_same : (order other : List ℕ) → OrderOf e.processors order → OrderOf f.processors other → renumbered e order ≡ renumbered f other
      → (head_taken e ≡ head_taken f) × (length e.pairs ≡ length f.pairs)
      × (map (processor_at e.instructions e.pairs) order ≡ map (processor_at f.instructions f.pairs) other)
  unfolding renumbered
  renumbered_same order other o q h =
      record_same (head_taken e) (head_taken f) (length e.pairs) (length f.pairs) (numbered e order) (numbered f other)
      (head_is r) (head_is s) (numbered_proper r order) (numbered_proper s other) (head_counted e order o) (head_counted f other q) h

  -- the same head, the same number of pairs and the same processors: the sorted form of the one is at most that of the other
  sorted_most : head_taken e ≡ head_taken f → length e.pairs ≡ length f.pairs → Alike (numbered e (sorted_processors e)) (numbered f (sorted_processors f))
      → AtMost (renumbered e (sorted_processors e)) (renumbered f (sorted_processors f))
  unfolding renumbered
  sorted_most head n alike =
      subst (λ (form : List ℕ). AtMost (renumbered e (sorted_processors e)) form) (λ i. record_from (head i) (n i) (numbered f (sorted_processors f)))
      (ascending_most (head_taken e) (length e.pairs) (numbered e (sorted_processors e)) (numbered f (sorted_processors f))
      (numbered_proper r (sorted_processors e)) (numbered_proper s (sorted_processors f)) (sorted_order_of e).1 alike)

module _ {left right : List ℕ} {e f : Execution} (r : Parts left e) (s : Parts right f) where
  equal_forms : is_equal e f ≡ true → smallest_form e ≡ smallest_form f
  unfolding is_equal
  equal_forms h =
      let (order, m, t) = any_witness (λ order. same (renumbered e order) (renumbered f (below f.processors))) (orders_below e.processors) h in
      let o = of_orders e.processors m in
      let all = straight f.processors in
      let (head, n, cs) = renumbered_same r s order (below f.processors) o all (same_true (renumbered e order) (renumbered f (below f.processors)) t) in
      let alike : Alike (numbered e (sorted_processors e)) (numbered f (sorted_processors f)) =
      λ g. subst (λ (l : List Processor). Alike (numbered e (sorted_processors e)) l) cs (numbered_alike e (sorted_processors e) order (sorted_order_of e).0 o) g
      ∙ numbered_alike f (below f.processors) (sorted_processors f) all (sorted_order_of f).0 g in
      sorted_smallest r
      ∙ most_both (renumbered e (sorted_processors e)) (renumbered f (sorted_processors f))
      (sorted_most r s head n alike) (sorted_most s r (sym head) (sym n) (λ g. sym (alike g)))
      ∙ sym (sorted_smallest s)

  -- from one to the other by way of what both come to
  numbered_across : (order other : List ℕ) → e.processors ≡ f.processors → OrderOf e.processors order → OrderOf e.processors other
      → numbered e order ≡ numbered f other → numbered e (map (across order other) (below e.processors)) ≡ numbered f (below f.processors)
  numbered_across order other n o q h =
      map_map (processor_at e.instructions e.pairs) (across order other) (below e.processors)
      ∙ map_same (λ k. processor_at e.instructions e.pairs (across order other k)) (processor_at f.instructions f.pairs) (below e.processors) (λ k m. here k (of_below e.processors m))
      ∙ ap (λ (i : ℕ). numbered f (below i)) n
    where
      here : (k : ℕ) → k < e.processors → processor_at e.instructions e.pairs (across order other k) ≡ processor_at f.instructions f.pairs k
      here k l =
          let (there, g) = order_place e.processors other q k l in
          let none = processor_at f.instructions f.pairs 0 in
          sym (numbered_at e order (place other k) none (omega (arith, o.0)))
          ∙ ap (λ (t : List Processor). get_or t (place other k) none) h
          ∙ numbered_at f other (place other k) none (omega (arith, q.0))
          ∙ ap (processor_at f.instructions f.pairs) g

  forms_equal : smallest_form e ≡ smallest_form f → is_equal e f ≡ true
  unfolding is_equal renumbered head_taken
  forms_equal h =
      let order = sorted_processors e in
      let other = sorted_processors f in
      let o = (sorted_order_of e).0 in
      let (head, n, cs) = renumbered_same r s order other o (sorted_order_of f).0 (sym (sorted_smallest r) ∙ h ∙ sorted_smallest s) in
      let processors : e.processors ≡ f.processors = ap (λ (l : List ℕ). get_or l 0 0) head in
      let q : OrderOf e.processors other = subst (λ (i : ℕ). OrderOf i other) (sym processors) (sorted_order_of f).0 in
      let whole = map (across order other) (below e.processors) in
      let one : renumbered e whole ≡ renumbered f (below f.processors) = λ i. record_from (head i) (n i) (numbered_across order other processors o q cs i) in
      any_member (λ order. same (renumbered e order) (renumbered f (below f.processors))) (in_orders e.processors whole (across_order e.processors order other o q))
      (subst (λ (form : List ℕ). same (renumbered e whole) form ≡ true) one (same_itself (renumbered e whole)))

  pub forms_agree : is_equal e f ≡ same (smallest_form e) (smallest_form f)
  forms_agree =
      agree (is_equal e f) (same (smallest_form e) (smallest_form f))
      (λ h. subst (λ (form : List ℕ). same (smallest_form e) form ≡ true) (equal_forms h) (same_itself (smallest_form e)))
      (λ h. forms_equal (same_true (smallest_form e) (smallest_form f) h))

pub forms_decide : FormsDecide
forms_decide left right e f h k = forms_agree (parts left e h) (parts right f k)
