-- Two records compared by their smallest forms, what a refusal of either makes of it, and the record handed back.
use Prim.Native.Nat.{ℕ}
use mathlib.Core.Path.{◌≡◌, refl, sym, ap, ◌∙◌}
use mathlib.Core.List.{List, []}
use Rattle.model.specs.Execution.{Execution}
use Rattle.model.specs.Calls.{says, refuses, read_all}
use Rattle.model.specs.Renumbering.{smallest_form, Comparison, equal, left_first, right_first, comparison, comparing, compare_call, left_record, right_record, empty_part, stands_first, handed, first_call}
use Rattle.model.proofs.Asking.{after_says, after_refuses}
use Rattle.record_renumbering.proofs.CallsOrder.{by_forms, forms_equal, forms_left, forms_right, comparison_by_forms}
use Rattle.std.specs.declared.cmp.Ordering.{Ordering}
use Rattle.std.specs.declared.cmp.Ordering.TheVariants as cases
use Rattle.record_form.specs.Lexical.{LexOrdered}
use Rattle.record_form.proofs.LexLaws.{less_when, same_when, greater_when}
use Rattle.record_compare.specs.Compared.{ordering_meant}

-- by how the smallest forms compare
module _ (left right : List ℕ) (e f : Execution) (h : read_all left ≡ says e) (k : read_all right ≡ says f)
    (r : Ordering) (s t : List ℕ) (ordered : LexOrdered r s t) (es : s ≡ smallest_form e) (et : t ≡ smallest_form f) where
  compares : by_forms (smallest_form e) (smallest_form f) ≡ comparison e f
  compares = sym (comparison_by_forms left right e f h k)

  pub by_order : ordering_meant r ≡ comparison e f
  by_order = go r refl
    where
      go : (o : Ordering) → r ≡ o → ordering_meant r ≡ comparison e f
      go cases.Less told = ap ordering_meant told ∙ sym (forms_left (smallest_form e) (smallest_form f) (sym (less_when r s t ordered es et told))) ∙ compares
      go cases.Equal told = ap ordering_meant told ∙ sym (forms_equal (smallest_form e) (smallest_form f) (same_when r s t ordered es et told)) ∙ compares
      go cases.Greater told = ap ordering_meant told ∙ sym (forms_right (smallest_form e) (smallest_form f) (greater_when r s t ordered es et told)) ∙ compares

-- refusals, the left one first
pub left_refused : {q : ℕ} (left right : List ℕ) → read_all left ≡ refuses q → refuses q ≡ compare_call left right
unfolding compare_call
left_refused left right h = after_refuses (λ e. comparing e right) h

pub left_accepted : {e : Execution} (left right : List ℕ) → read_all left ≡ says e → comparing e right ≡ compare_call left right
unfolding compare_call
left_accepted left right h = after_says (λ e. comparing e right) h

pub right_refused : {q : ℕ} (e : Execution) (right : List ℕ) → read_all right ≡ refuses q → refuses q ≡ comparing e right
unfolding comparing
right_refused e right h = after_refuses (λ f. says (comparison e f)) h

pub right_accepted : {f : Execution} (e : Execution) (right : List ℕ) → read_all right ≡ says f → says (comparison e f) ≡ comparing e right
unfolding comparing
right_accepted e right h = after_says (λ f. says (comparison e f)) h

-- which is handed back
pub handed_equal : left_record ≡ stands_first (says equal)
unfolding stands_first
handed_equal = refl

pub handed_left : left_record ≡ stands_first (says left_first)
unfolding stands_first
handed_left = refl

pub handed_right : right_record ≡ stands_first (says right_first)
unfolding stands_first
handed_right = refl

pub handed_none : (q : ℕ) → empty_part ≡ stands_first (refuses q)
unfolding stands_first
handed_none q = refl

module _ (left right : List ℕ) where
  pub left_handed : left_record ≡ stands_first (compare_call left right) → left ≡ first_call left right
  unfolding first_call handed
  left_handed h = ap (handed left right) h

  pub right_handed : right_record ≡ stands_first (compare_call left right) → right ≡ first_call left right
  unfolding first_call handed
  right_handed h = ap (handed left right) h

  pub none_handed : empty_part ≡ stands_first (compare_call left right) → [] ≡ first_call left right
  unfolding first_call handed
  none_handed h = ap (handed left right) h
