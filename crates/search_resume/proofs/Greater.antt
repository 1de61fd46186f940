-- What an ascending list has greater than a position: nothing after the last one, else the next one and what is greater than that.
use Prim.Native.Nat.{ℕ}
use mathlib.Core.Path.{◌≡◌, refl, sym, ap, subst}
use mathlib.Core.Bool.{Bool, true}
use mathlib.Core.List.Memᴰ
use mathlib.Core.List.{List, [], ◌∷◌, Memᴰ}
use mathlib.Core.Logic.{◌⊎◌, inl, inr, ⊎_elim}
use Rattle.base.specs.Lists.{keep}
use Rattle.base.specs.Lex.{lex_less, Less}
use Rattle.base.proofs.Bools.{is_false}
use Rattle.base.proofs.Lex.{less_irreflexive, less_transitive, less_asymmetric}
use Rattle.model.specs.Claims.{Ascending}

-- nothing is kept where nothing passes
pub keep_none : {A : Type 0} (p : A → Bool) (l : List A) → ((a : A) → Memᴰ a l → p a ≡ true → ⊥) → keep p l ≡ []
unfolding keep
keep_none p [] h = refl
keep_none p (x ∷ l) h = rw (is_false (p x) (h x (Memᴰ.head refl))) (keep_none p l (λ a m. h a (Memᴰ.tail m)))

-- tests that both pass all elements keep the same
keep_both : {A : Type 0} (p q : A → Bool) (l : List A) → ((a : A) → Memᴰ a l → (p a ≡ true) × (q a ≡ true)) → keep p l ≡ keep q l
unfolding keep
keep_both {A} p q [] h = refl
keep_both {A} p q (x ∷ l) h =
    rw ((h x (Memᴰ.head refl)).0, (h x (Memᴰ.head refl)).1)
    (ap (λ (m : List A). x ∷ m) (keep_both p q l (λ a m. h a (Memᴰ.tail m))))

module _ (xs ys : List ℕ) (less : Less xs ys) where
  -- at the head of an ascending list
  keep_head : (l : List (List ℕ)) → ((z : List ℕ) → Memᴰ z l → Less ys z) → keep (lex_less xs) (ys ∷ l) ≡ ys ∷ keep (lex_less ys) (ys ∷ l)
  unfolding keep
  keep_head l up =
      rw (less, is_false (lex_less ys ys) (less_irreflexive ys))
      (ap (λ (m : List (List ℕ)). ys ∷ m) (keep_both (lex_less xs) (lex_less ys) l (λ z m. (less_transitive xs ys z less (up z m), up z m))))

  -- the least member greater than xs comes first, and then what is greater than it
  pub keep_next : (l : List (List ℕ)) → Ascending l → Memᴰ ys l → ((z : List ℕ) → Memᴰ z l → Less xs z → (z ≡ ys) ⊎ Less ys z)
      → keep (lex_less xs) l ≡ ys ∷ keep (lex_less ys) l
  unfolding keep
  keep_next [] up m first = absurd (Memᴰ.not-nil m)
  keep_next (x ∷ l) up m first = go (Memᴰ.cases_cons m) (λ k. keep_next l up.1 k (λ z mz. first z (Memᴰ.tail mz)))
    where
      go : (ys ≡ x) ⊎ Memᴰ ys l → (Memᴰ ys l → keep (lex_less xs) l ≡ ys ∷ keep (lex_less ys) l)
          → keep (lex_less xs) (x ∷ l) ≡ ys ∷ keep (lex_less ys) (x ∷ l)
      go (inl e) ih =
          subst (λ (y : List ℕ). keep (lex_less xs) (y ∷ l) ≡ ys ∷ keep (lex_less ys) (y ∷ l)) e
          (keep_head l (λ z mz. subst (λ (y : List ℕ). Less y z) (sym e) (up.0 z mz)))
      go (inr k) ih = rw (is_false (lex_less xs x) before, is_false (lex_less ys x) (less_asymmetric x ys (up.0 ys k))) (ih k)
        where
          before : Less xs x → ⊥
          before t =
              ⊎_elim (λ e. less_irreflexive ys (subst (λ (y : List ℕ). Less y ys) e (up.0 ys k))) (λ h. less_asymmetric x ys (up.0 ys k) h)
              (first x (Memᴰ.head refl) t)
