-- Equal records have the same mark: their legal orders carry over, and their searches agree.
use Prim.Native.Nat.{ℕ}
use native.Mathlib.Omega.{arith}
use mathlib.Core.Path.{◌≡◌, refl}
use mathlib.Core.Bool.{Bool, true, false, cond}
use mathlib.Core.List.{List}
use Rattle.base.specs.Lists.{below, same}
use Rattle.base.specs.Lex.{lex_less}
use Rattle.base.specs.Orders.{orders_below}
use Rattle.base.proofs.Lists.{any_witness, same_true}
use Rattle.base.proofs.Orders.{of_orders}
use Rattle.base.proofs.Permutations.{straight}
use Rattle.model.specs.Execution.{Execution}
use Rattle.model.specs.Calls.{says, and_then, read_all}
use Rattle.model.specs.Renumbering.{renumbered, is_equal, smallest_form, equal, left_first, right_first, comparison, comparing, compare_call}
use Rattle.record_sections.proofs.WrittenIsRead.{said}
use Rattle.record_renumbering.proofs.Parts.{parts}
use Rattle.record_renumbering.proofs.FormsDecide.{renumbered_same}
use Rattle.record_renumbering.proofs.CallsOrder.{equal_is_equivalence}
use Rattle.renumbered_marks.proofs.Renumbers.{Renumbers}
use Rattle.renumbered_marks.proofs.OneMark.{one_mark}
use Rattle.compare_claim.specs.EqualMarks.{EqualOneMark, OrdersCarriedOver, EqualSearchesAgree}
use Rattle.compare_claim.proofs.Renumbered.{renumbers}
use Rattle.compare_claim.proofs.Orders.{carried_over}
use Rattle.compare_claim.proofs.Searches.{search_says, says_agree}

-- both records are accepted
both_read : (left right : List ℕ) → compare_call left right ≡ says equal → (e : Execution) × (f : Execution) × (read_all left ≡ says e) × (read_all right ≡ says f)
unfolding comparing compare_call
both_read left right h =
    let (e, he, k) = said (read_all left) _ equal h in
    let (f, hf, _) = said (read_all right) _ equal k in
    (e, f, he, hf)

-- the comparison says 'equal' only where some renumbering turns the one into the other
found_equal : (e f : Execution) → comparison e f ≡ equal → is_equal e f ≡ true
unfolding comparison
found_equal e f h = go (is_equal e f) (lex_less (smallest_form e) (smallest_form f)) h
  where
    go : (b c : Bool) → cond b equal (cond c left_first right_first) ≡ equal → b ≡ true
    go true c k = refl
    go false true k = let z : ◌≡◌ {A = ℕ} 0 1 = cc in absurd (omega arith)
    go false false k = let z : ◌≡◌ {A = ℕ} 0 1 = cc in absurd (omega arith)

-- of equal records the right one's execution is the left one's, its processors numbered anew
equal_renumbers : (left right : List ℕ) (e f : Execution) → read_all left ≡ says e → read_all right ≡ says f → compare_call left right ≡ says equal → Renumbers e f
unfolding comparing compare_call and_then is_equal
equal_renumbers left right e f he hf h =
    let k = rw (he, hf) at h in
    let told : comparison e f ≡ equal = cc in
    let (order, m, t) = any_witness (λ order. same (renumbered e order) (renumbered f (below f.processors))) (orders_below e.processors) (found_equal e f told) in
    let o = of_orders e.processors m in
    let r = parts left e he in
    let s = parts right f hf in
    let (heads, _, processors) = renumbered_same r s order (below f.processors) o (straight f.processors) (same_true (renumbered e order) (renumbered f (below f.processors)) t) in
    renumbers r s order o heads processors

pub equal_one_mark : EqualOneMark
equal_one_mark left right h =
    let (e, f, he, hf) = both_read left right h in
    one_mark left right e f he hf (equal_renumbers left right e f he hf h) (equal_renumbers right left f e hf he (equal_is_equivalence.symmetric left right h))

pub orders_carried_over : OrdersCarriedOver
orders_carried_over left right e f he hf h =
    carried_over left right e f he hf (equal_renumbers right left f e hf he (equal_is_equivalence.symmetric left right h))

pub equal_searches_agree : EqualSearchesAgree
equal_searches_agree left right e f he hf h b c room_e room_f calls others refused_e refused_f ends_e ends_f =
    says_agree left right _ _ (equal_one_mark left right h)
    (search_says left e he b room_e calls refused_e ends_e) (search_says right f hf c room_f others refused_f ends_f) ends_e
