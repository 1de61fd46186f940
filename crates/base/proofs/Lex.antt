-- The lexicographic order is strict and total, how it goes with appended lists, and the least of some lists.
use Prim.Native.Nat.{ℕ, ◌<◌}
use native.Mathlib.Omega.{arith}
use mathlib.Core.Path.{◌≡◌, refl, sym, subst}
use mathlib.Core.Bool.{Bool, true, false, cond, ◌&&◌, ◌||◌, or-true, false≢true}
use mathlib.Core.List.Memᴰ
use mathlib.Core.List.{List, [], ◌∷◌, ◌++◌, Memᴰ}
use mathlib.Core.Logic.{◌⊎◌, inl, inr, ⊎_elim}
use lib.Dec.{eqb, ltb}
use borrow.Author.Tests.{lt-ltb, eq-eqb, ltb-true, ltb-false, eqb-true}
use Rattle.base.specs.Lex.{lex_less, Less, least}
use Rattle.base.proofs.Bools.{clash}

-- the two ways to be less at the heads
pub less_cases : {C : Type 0} (x y : ℕ) (xs ys : List ℕ) → Less (x ∷ xs) (y ∷ ys) → (x < y → C) → (x ≡ y → Less xs ys → C) → C
unfolding lex_less
less_cases {C} x y xs ys h f g = go (ltb x y) (eqb x y) refl refl h
  where
    go : (p q : Bool) → ltb x y ≡ p → eqb x y ≡ q → (p || (q && lex_less xs ys)) ≡ true → C
    go true q d e k = f (ltb-true x y d)
    go false true d e k = g (eqb-true x y e) k
    go false false d e k = absurd (false≢true k)

pub less_head : (x y : ℕ) (xs ys : List ℕ) → x < y → Less (x ∷ xs) (y ∷ ys)
unfolding lex_less
less_head x y xs ys h = rw (lt-ltb x y h)

pub less_tail : (x y : ℕ) (xs ys : List ℕ) → x ≡ y → Less xs ys → Less (x ∷ xs) (y ∷ ys)
unfolding lex_less
less_tail x y xs ys e h = simp (eq-eqb x y e, h, or-true)

pub less_nil : (xs : List ℕ) → Less xs [] → ⊥
unfolding lex_less
less_nil xs h = false≢true h

pub nil_less : (y : ℕ) (ys : List ℕ) → Less [] (y ∷ ys)
unfolding lex_less
nil_less y ys = refl

pub less_irreflexive : (xs : List ℕ) → Less xs xs → ⊥
less_irreflexive [] h = less_nil [] h
less_irreflexive (x ∷ xs) h = less_cases x x xs xs h (λ l. omega arith) (λ e k. less_irreflexive xs k)

pub less_transitive : (a b c : List ℕ) → Less a b → Less b c → Less a c
less_transitive a [] c h k = absurd (less_nil a h)
less_transitive a (y ∷ b) [] h k = absurd (less_nil (y ∷ b) k)
less_transitive [] (y ∷ b) (z ∷ c) h k = nil_less z c
less_transitive (x ∷ a) (y ∷ b) (z ∷ c) h k =
    less_cases x y a b h
    (λ p. less_cases y z b c k (λ q. less_head x z a c (omega arith)) (λ q r. less_head x z a c (omega arith)))
    (λ p r. less_cases y z b c k (λ q. less_head x z a c (omega arith)) (λ q s. less_tail x z a c (omega arith) (less_transitive a b c r s)))

pub less_asymmetric : (a b : List ℕ) → Less a b → Less b a → ⊥
less_asymmetric a b h k = less_irreflexive a (less_transitive a b a h k)

pub less_total : (a b : List ℕ) → Less a b ⊎ ((a ≡ b) ⊎ Less b a)
less_total [] [] = inr (inl refl)
less_total [] (y ∷ b) = inl (nil_less y b)
less_total (x ∷ a) [] = inr (inr (nil_less x a))
less_total (x ∷ a) (y ∷ b) = go (ltb x y) (ltb y x) refl refl (less_total a b)
  where
    go : (p q : Bool) → ltb x y ≡ p → ltb y x ≡ q → Less a b ⊎ ((a ≡ b) ⊎ Less b a)
        → Less (x ∷ a) (y ∷ b) ⊎ ((x ∷ a ≡ y ∷ b) ⊎ Less (y ∷ b) (x ∷ a))
    go true q d e t = inl (less_head x y a b (ltb-true x y d))
    go false true d e t = inr (inr (less_head y x b a (ltb-true y x e)))
    go false false d e t =
        let h : x ≡ y = (let l = ltb-false x y d in let m = ltb-false y x e in omega arith) in
        tails h t
      where
        tails : x ≡ y → Less a b ⊎ ((a ≡ b) ⊎ Less b a) → Less (x ∷ a) (y ∷ b) ⊎ ((x ∷ a ≡ y ∷ b) ⊎ Less (y ∷ b) (x ∷ a))
        tails h (inl k) = inl (less_tail x y a b h k)
        tails h (inr (inl k)) = inr (inl (cc))
        tails h (inr (inr k)) = inr (inr (less_tail y x b a (sym h) k))

-- a list before its extensions
pub less_extension : (xs : List ℕ) (o : ℕ) (w : List ℕ) → Less xs (xs ++ o ∷ w)
less_extension [] o w = nil_less o w
less_extension (x ∷ xs) o w = less_tail x x xs (xs ++ o ∷ w) refl (less_extension xs o w)

-- two lists that part after xs
pub less_fork : (xs : List ℕ) (o p : ℕ) (v w : List ℕ) → o < p → Less (xs ++ o ∷ v) (xs ++ p ∷ w)
less_fork [] o p v w h = less_head o p v w h
less_fork (x ∷ xs) o p v w h = less_tail x x (xs ++ o ∷ v) (xs ++ p ∷ w) refl (less_fork xs o p v w h)

-- the first list is the second, or less
abbrev pub AtMost : List ℕ → List ℕ → Type 0
AtMost xs ys = (xs ≡ ys) ⊎ Less xs ys

pub most_both : (xs ys : List ℕ) → AtMost xs ys → AtMost ys xs → xs ≡ ys
most_both xs ys h k = ⊎_elim (λ e. e) (λ l. ⊎_elim sym (λ m. absurd (less_asymmetric xs ys l m)) k) h

pub not_less : (xs ys : List ℕ) → lex_less ys xs ≡ false → AtMost xs ys
not_less xs ys h = ⊎_elim inr (λ t. ⊎_elim inl (λ l. clash l h) t) (less_total xs ys)

most_transitive : (xs ys zs : List ℕ) → AtMost xs ys → AtMost ys zs → AtMost xs zs
most_transitive xs ys zs (inl e) k = subst (λ (l : List ℕ). AtMost l zs) (sym e) k
most_transitive xs ys zs (inr l) (inl e) = inr (subst (Less xs) e l)
most_transitive xs ys zs (inr l) (inr m) = inr (less_transitive xs ys zs l m)

-- the least of some lists is one of them, and at most each
pub least_is : (x : List ℕ) (l : List (List ℕ)) → Memᴰ (least (x ∷ l)) (x ∷ l) × ((y : List ℕ) → Memᴰ y (x ∷ l) → AtMost (least (x ∷ l)) y)
unfolding least
least_is x [] = (Memᴰ.head refl, λ y m. inl (sym (Memᴰ.eq_of_singleton m)))
least_is x (z ∷ l) = go (lex_less (least (z ∷ l)) x) refl (least_is z l)
  where
    go : (b : Bool) → lex_less (least (z ∷ l)) x ≡ b → Memᴰ (least (z ∷ l)) (z ∷ l) × ((y : List ℕ) → Memᴰ y (z ∷ l) → AtMost (least (z ∷ l)) y)
        → Memᴰ (cond b (least (z ∷ l)) x) (x ∷ z ∷ l) × ((y : List ℕ) → Memᴰ y (x ∷ z ∷ l) → AtMost (cond b (least (z ∷ l)) x) y)
    go true h (m, low) = (
      Memᴰ.tail m,
      λ y w. ⊎_elim (λ e. inr (subst (Less (least (z ∷ l))) (sym e) h)) (low y) (Memᴰ.cases_cons w),
    )
    go false h (m, low) = (
      Memᴰ.head refl,
      λ y w. ⊎_elim (λ e. inl (sym e)) (λ k. most_transitive x (least (z ∷ l)) y (not_less x (least (z ∷ l)) h) (low y k)) (Memᴰ.cases_cons w),
    )
