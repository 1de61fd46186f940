-- What the call says of two records, by their smallest forms: equality is an equivalence, and standing first a total order.
use Prim.Native.Nat.{ℕ}
use native.Mathlib.Omega.{arith}
use mathlib.Core.Path.{◌≡◌, refl, sym, ap, ◌∙◌, subst}
use mathlib.Core.Bool.{Bool, true, false, cond}
use mathlib.Core.List.{List}
use mathlib.Core.Logic.{◌⊎◌, inl, inr, ⊎_elim}
use Rattle.base.specs.Lists.{same}
use Rattle.base.specs.Lex.{lex_less, Less}
use Rattle.base.proofs.Bools.{is_false}
use Rattle.base.proofs.Lists.{same_true, same_itself}
use Rattle.base.proofs.Lex.{less_irreflexive, less_transitive, less_asymmetric, less_total}
use Rattle.model.specs.Execution.{Execution}
use Rattle.model.specs.Calls.{says, and_then, read_all}
use Rattle.model.specs.Renumbering.{smallest_form, Comparison, equal, left_first, right_first, comparison, comparing, compare_call}
use Rattle.model.proofs.Asking.{after_says}
use Rattle.record_sections.proofs.WrittenIsRead.{said}
use Rattle.record_renumbering.specs.Forms.{IsAccepted, EqualIsEquivalence, OrderIsTotal}
use Rattle.record_renumbering.proofs.FormsDecide.{forms_decide}

-- The comparison of two records, by their smallest forms
unfoldable pub by_forms : List ℕ → List ℕ → Comparison
by_forms s t = cond (same s t) equal (cond (lex_less s t) left_first right_first)

pub forms_equal : (s t : List ℕ) → s ≡ t → by_forms s t ≡ equal
unfolding by_forms
forms_equal s t h = rw (subst (λ (u : List ℕ). same s u ≡ true) h (same_itself s))

differ : (s t : List ℕ) → Less s t ⊎ Less t s → same s t ≡ false
differ s t h = is_false (same s t) (λ k. let e = same_true s t k in ⊎_elim
    (λ l. less_irreflexive t (subst (λ (u : List ℕ). Less u t) e l))
    (λ l. less_irreflexive t (subst (Less t) e l)) h)

pub forms_left : (s t : List ℕ) → Less s t → by_forms s t ≡ left_first
unfolding by_forms
forms_left s t h = rw (differ s t (inl h), h)

pub forms_right : (s t : List ℕ) → Less t s → by_forms s t ≡ right_first
unfolding by_forms
forms_right s t h = rw (differ s t (inr h), is_false (lex_less s t) (λ k. less_asymmetric s t k h))

-- what the comparison tells
forms_tell : {C : Type 0} (s t : List ℕ) (c : Comparison) → by_forms s t ≡ c → (s ≡ t → c ≡ equal → C) → (Less s t → c ≡ left_first → C) → (Less t s → c ≡ right_first → C) → C
forms_tell s t c h f g k =
    ⊎_elim (λ l. g l (sym h ∙ forms_left s t l)) (λ u. ⊎_elim (λ e. f e (sym h ∙ forms_equal s t e)) (λ l. k l (sym h ∙ forms_right s t l)) u) (less_total s t)

tells_equal : (s t : List ℕ) → by_forms s t ≡ equal → s ≡ t
tells_equal s t h = forms_tell s t equal h (λ e c. e) (λ l c. let z : ◌≡◌ {A = ℕ} 0 1 = cc in absurd (omega arith)) (λ l c. let z : ◌≡◌ {A = ℕ} 0 1 = cc in absurd (omega arith))

tells_left : (s t : List ℕ) → by_forms s t ≡ left_first → Less s t
tells_left s t h = forms_tell s t left_first h (λ e c. let z : ◌≡◌ {A = ℕ} 0 1 = cc in absurd (omega arith)) (λ l c. l) (λ l c. let z : ◌≡◌ {A = ℕ} 0 1 = cc in absurd (omega arith))

tells_right : (s t : List ℕ) → by_forms s t ≡ right_first → Less t s
tells_right s t h = forms_tell s t right_first h (λ e c. let z : ◌≡◌ {A = ℕ} 0 1 = cc in absurd (omega arith)) (λ l c. let z : ◌≡◌ {A = ℕ} 0 1 = cc in absurd (omega arith)) (λ l c. l)

-- The smallest form of an accepted record

pub record FormOf (bytes : List ℕ) (form : List ℕ) : Type 0 where
  pub execution : Execution
  pub read : read_all bytes ≡ says execution
  pub form_is : smallest_form execution ≡ form

form_of : (bytes : List ℕ) → IsAccepted bytes → (form : List ℕ) × FormOf bytes form
form_of bytes (e, h) = (smallest_form e, record { execution = e; read = h; form_is = refl })

one_form : {bytes s t : List ℕ} → FormOf bytes s → FormOf bytes t → s ≡ t
one_form {bytes} {s} {t} a b = let z : a.execution ≡ b.execution = cc in sym a.form_is ∙ ap smallest_form z ∙ b.form_is

pub comparison_by_forms : (left right : List ℕ) (e f : Execution) → read_all left ≡ says e → read_all right ≡ says f → comparison e f ≡ by_forms (smallest_form e) (smallest_form f)
unfolding comparison by_forms
comparison_by_forms left right e f h k =
    ap (λ (u : Bool). cond u equal (cond (lex_less (smallest_form e) (smallest_form f)) left_first right_first)) (forms_decide left right e f h k)

-- the call compares the forms
pub compared : {a b s t : List ℕ} → FormOf a s → FormOf b t → compare_call a b ≡ says (by_forms s t)
unfolding comparing compare_call
compared {a} {b} {s} {t} x y =
    let e = x.execution in
    let f = y.execution in
    sym (after_says (λ e. and_then (read_all b) (λ f. says (comparison e f))) x.read)
    ∙ sym (after_says (λ f. says (comparison e f)) y.read)
    ∙ ap says (comparison_by_forms a b e f x.read y.read ∙ (λ i. by_forms (x.form_is i) (y.form_is i)))

-- a call that said something compared two forms
pub record Compared (a b : List ℕ) (c : Comparison) : Type 0 where
  pub left : List ℕ
  pub right : List ℕ
  pub left_form : FormOf a left
  pub right_form : FormOf b right
  pub told : by_forms left right ≡ c

pub compared_by : {a b : List ℕ} {c : Comparison} → compare_call a b ≡ says c → Compared a b c
unfolding comparing compare_call
compared_by {a} {b} {c} h =
    let (e, he, k) = said (read_all a) _ c h in
    let (f, hf, l) = said (read_all b) _ c k in
    let x : FormOf a (smallest_form e) = record { execution = e; read = he; form_is = refl } in
    let y : FormOf b (smallest_form f) = record { execution = f; read = hf; form_is = refl } in
    let z = compared x y in
    record { left = smallest_form e; right = smallest_form f; left_form = x; right_form = y; told = cc }

-- one record is the right one of the first call and the left one of the second
join : {a b c : List ℕ} {d f : Comparison} (x : Compared a b d) (y : Compared b c f) → x.right ≡ y.left
join x y = one_form x.right_form y.left_form

pub equal_is_equivalence : EqualIsEquivalence
equal_is_equivalence = record {
  reflexive = λ a h. let (s, x) = form_of a h in compared x x ∙ ap says (forms_equal s s refl);
  symmetric = λ a b h.
      let x = compared_by h in
      compared x.right_form x.left_form ∙ ap says (forms_equal x.right x.left (sym (tells_equal x.left x.right x.told)));
  transitive = λ a b c h k.
      let x = compared_by h in
      let y = compared_by k in
      compared x.left_form y.right_form
      ∙ ap says (forms_equal x.left y.right (tells_equal x.left x.right x.told ∙ join x y ∙ tells_equal y.left y.right y.told));
}

pub order_is_total : OrderIsTotal
order_is_total = record {
  one_of_three = λ a b h k.
      let (s, x) = form_of a h in
      let (t, y) = form_of b k in
      let z = compared x y in
      forms_tell s t (by_forms s t) refl (λ e c. inl (z ∙ ap says c)) (λ l c. inr (inl (z ∙ ap says c))) (λ l c. inr (inr (z ∙ ap says c)));
  never_two = λ a b. (
    (λ h k. let z : ◌≡◌ {A = ℕ} 0 1 = cc in omega arith),
    (λ h k. let z : ◌≡◌ {A = ℕ} 0 1 = cc in omega arith),
    λ h k. let z : ◌≡◌ {A = ℕ} 0 1 = cc in omega arith,
  );
  turned = λ a b. (
    (λ h. let x = compared_by h in compared x.right_form x.left_form ∙ ap says (forms_right x.right x.left (tells_left x.left x.right x.told))),
    λ h. let x = compared_by h in compared x.right_form x.left_form ∙ ap says (forms_left x.right x.left (tells_right x.left x.right x.told)),
  );
  irreflexive = λ a h.
      let x = compared_by h in
      less_irreflexive x.right (subst (λ (s : List ℕ). Less s x.right) (one_form x.left_form x.right_form) (tells_left x.left x.right x.told));
  transitive = λ a b c h k.
      let x = compared_by h in
      let y = compared_by k in
      compared x.left_form y.right_form
      ∙ ap says (forms_left x.left y.right
      (less_transitive x.left x.right y.right (tells_left x.left x.right x.told)
      (subst (λ (s : List ℕ). Less s y.right) (sym (join x y)) (tells_left y.left y.right y.told))));
  equal_before = λ a b c h k.
      let x = compared_by h in
      let y = compared_by k in
      compared x.left_form y.right_form
      ∙ ap says (forms_left x.left y.right
      (subst (λ (s : List ℕ). Less s y.right) (sym (tells_equal x.left x.right x.told ∙ join x y)) (tells_left y.left y.right y.told)));
  equal_behind = λ a b c h k.
      let x = compared_by h in
      let y = compared_by k in
      compared x.left_form y.right_form
      ∙ ap says (forms_left x.left y.right (subst (Less x.left) (join x y ∙ tells_equal y.left y.right y.told) (tells_left x.left x.right x.told)));
}
