-- The processors in the order of their keys give the smallest form of a record.
use Prim.Native.Nat.{ℕ}
use mathlib.Core.Path.{◌≡◌, sym, ap, ◌∙◌, subst}
use mathlib.Core.List.Memᴰ
use mathlib.Core.List.{List, [], ◌∷◌, ◌++◌, map, Memᴰ}
use mathlib.Core.Logic.{inl, inr}
use lib.ListN.{length}
use Rattle.base.specs.Lists.{for}
use Rattle.base.specs.Lex.{least}
use Rattle.base.specs.Orders.{OrderOf, orders_below}
use Rattle.base.proofs.Bools.{is_false}
use Rattle.base.proofs.Lex.{AtMost, most_both, not_less, least_is, less_irreflexive, less_transitive}
use Rattle.base.proofs.Orders.{Sorted, sorted_is, in_orders, of_orders}
use Rattle.base.proofs.Permutations.{Alike, alike_map, order_sums}
use Rattle.model.specs.Execution.{Execution}
use Rattle.model.specs.Renumbering.{Processor, processor_at, pairs_from, head_taken, record_from, renumbered, smallest_form}
use Rattle.record_renumbering.specs.Keys.{key, key_less, sorted_processors}
use Rattle.record_renumbering.specs.Forms.{SortedIsSmallest}
use Rattle.record_renumbering.proofs.Parts.{Parts, parts}
use Rattle.record_renumbering.proofs.Words.{less_behind, most_behind, joined}
use Rattle.record_renumbering.proofs.Programs.{Proper, proper_at}
use Rattle.record_renumbering.proofs.Ascending.{AllProper, Ascending, programs_joined, Outcome, compare}

-- the processors of an execution in some order
abbrev pub numbered : Execution → List ℕ → List Processor
numbered e order = map (processor_at e.instructions e.pairs) order

pub numbered_proper : {bytes : List ℕ} {e : Execution} → Parts bytes e → (order : List ℕ) → AllProper (numbered e order)
numbered_proper {bytes} {e} r order c m = let (k, w, h) = Memᴰ.of_map (processor_at e.instructions e.pairs) order m in subst Proper h (proper_at r k)

pub numbered_alike : (e : Execution) (order other : List ℕ) → OrderOf e.processors order → OrderOf e.processors other → Alike (numbered e order) (numbered e other)
numbered_alike e order other o q =
    alike_map (processor_at e.instructions e.pairs) order other (λ f. order_sums e.processors order o f ∙ sym (order_sums e.processors other q f))

-- records of the same processors in two orders
record_most : (head : List ℕ) (n : ℕ) (l m : List Processor) → Outcome l m → AtMost (record_from head n l) (record_from head n m)
unfolding record_from
record_most head n l m (inl r) =
    let programs : List Processor → List ℕ = λ cs. for cs (λ c. c.program) in
    inr (less_behind head (programs l ++ (n ∷ pairs_from 0 l)) (programs m ++ (n ∷ pairs_from 0 m))
    (rw (programs_joined l, programs_joined m) (r (n ∷ pairs_from 0 l) (n ∷ pairs_from 0 m))))
record_most head n l m (inr (e, f)) =
    let programs : List Processor → List ℕ = λ cs. for cs (λ c. c.program) in
    most_behind head (programs l ++ (n ∷ pairs_from 0 l)) (programs m ++ (n ∷ pairs_from 0 m))
    (subst (λ (w : List ℕ). AtMost (programs l ++ (n ∷ pairs_from 0 l)) (w ++ (n ∷ pairs_from 0 m))) (programs_joined l ∙ ap joined e ∙ sym (programs_joined m))
    (most_behind (programs l) (n ∷ pairs_from 0 l) (n ∷ pairs_from 0 m) (most_behind (n ∷ []) (pairs_from 0 l) (pairs_from 0 m) (f 0))))

pub ascending_most : (head : List ℕ) (n : ℕ) (l m : List Processor) → AllProper l → AllProper m → Ascending l → Alike l m → AtMost (record_from head n l) (record_from head n m)
ascending_most head n l m p q s h = record_most head n l m (compare l m p q s h)

-- sorted by their keys they ascend
ascends : (e : Execution) (order : List ℕ) → Sorted (key_less e.instructions e.pairs) order → Ascending (numbered e order)
ascends e [] s = tt
ascends e (k ∷ order) s = (
  (λ d m. let (j, w, h) = Memᴰ.of_map (processor_at e.instructions e.pairs) order m in
      let at : ℕ → Processor = processor_at e.instructions e.pairs in
      subst (λ (c : Processor). AtMost (key (at k)) (key c)) h (not_less (key (at k)) (key (at j)) (s.0 j w))),
  ascends e order s.1,
)

pub sorted_order_of : (e : Execution) → OrderOf e.processors (sorted_processors e) × Ascending (numbered e (sorted_processors e))
sorted_order_of e =
    let key_of : ℕ → List ℕ = λ a. key (processor_at e.instructions e.pairs a) in
    let (o, s) = sorted_is (key_less e.instructions e.pairs)
    (λ a b c. less_transitive (key_of a) (key_of b) (key_of c))
    (λ a. is_false (key_less e.instructions e.pairs a a) (less_irreflexive (key_of a))) e.processors in
    (o, ascends e (sorted_processors e) s)

-- the least of some lists, one of which is known
least_of : (l : List (List ℕ)) {x : List ℕ} → Memᴰ x l → Memᴰ (least l) l × AtMost (least l) x
least_of [] m = absurd (Memᴰ.not-nil m)
least_of (y ∷ l) {x} m = let (w, low) = least_is y l in (w, low x m)

pub sorted_smallest : {bytes : List ℕ} {e : Execution} → Parts bytes e → smallest_form e ≡ renumbered e (sorted_processors e)
unfolding smallest_form renumbered
sorted_smallest {bytes} {e} r =
    let (o, s) = sorted_order_of e in
    let form : List ℕ → List ℕ = renumbered e in
    let forms = map form (orders_below e.processors) in
    let (m, low) = least_of forms (Memᴰ.map form (in_orders e.processors (sorted_processors e) o)) in
    let (other, w, h) = Memᴰ.of_map form (orders_below e.processors) m in
    let high : AtMost (form (sorted_processors e)) (form other) =
    ascending_most (head_taken e) (length e.pairs) (numbered e (sorted_processors e)) (numbered e other) (numbered_proper r (sorted_processors e)) (numbered_proper r other) s
    (numbered_alike e (sorted_processors e) other o (of_orders e.processors w)) in
    most_both (least forms) (form (sorted_processors e)) low (subst (AtMost (form (sorted_processors e))) h high)

pub sorted_is_smallest : SortedIsSmallest
sorted_is_smallest bytes e h = sorted_smallest (parts bytes e h)
