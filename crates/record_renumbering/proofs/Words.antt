-- Words of a prefix code: of all orders of some words, the sorted one gives the least concatenation.
use Prim.Native.Nat.{ℕ}
use native.Mathlib.Omega.{arith}
use mathlib.Core.Path.{◌≡◌, refl, sym, ap, ◌∙◌, subst}
use mathlib.Core.List.Memᴰ
use mathlib.Core.List.{List, [], ◌∷◌, ◌++◌, append_assoc, Memᴰ}
use mathlib.Core.Logic.{◌⊎◌, inl, inr, ⊎_elim}
use Rattle.base.specs.Lists.{for, same}
use Rattle.base.specs.Lex.{Less}
use Rattle.base.proofs.Lists.{same_true, same_itself}
use Rattle.base.proofs.Lex.{AtMost, less_cases, less_head, less_tail, less_nil, less_irreflexive, less_asymmetric, less_total}
use Rattle.base.proofs.Permutations.{Alike, alike_rest, alike_passing, alike_none, alike_nothing}

-- Less with something before and behind

pub less_behind : (w xs ys : List ℕ) → Less xs ys → Less (w ++ xs) (w ++ ys)
less_behind [] xs ys h = h
less_behind (x ∷ w) xs ys h = less_tail x x (w ++ xs) (w ++ ys) refl (less_behind w xs ys h)

pub less_cancel : (w xs ys : List ℕ) → Less (w ++ xs) (w ++ ys) → Less xs ys
less_cancel [] xs ys h = h
less_cancel (x ∷ w) xs ys h = less_cases x x (w ++ xs) (w ++ ys) h (λ l. absurd (omega arith)) (λ e k. less_cancel w xs ys k)

pub most_behind : (w xs ys : List ℕ) → AtMost xs ys → AtMost (w ++ xs) (w ++ ys)
most_behind w xs ys h = ⊎_elim (λ e. inl (ap (λ (t : List ℕ). w ++ t) e)) (λ l. inr (less_behind w xs ys l)) h

-- less whatever follows
abbrev pub Parted : List ℕ → List ℕ → Type 0
Parted xs ys = (u v : List ℕ) → Less (xs ++ u) (ys ++ v)

-- less, and no prefix
pub parts : (xs ys : List ℕ) → Less xs ys → ((r : List ℕ) → ys ≡ xs ++ r → ⊥) → Parted xs ys
parts xs [] h n u v = absurd (less_nil xs h)
parts [] (y ∷ ys) h n u v = absurd (n (y ∷ ys) refl)
parts (x ∷ xs) (y ∷ ys) h n u v =
    less_cases x y xs ys h
    (λ l. less_head x y (xs ++ u) (ys ++ v) l)
    (λ e k. less_tail x y (xs ++ u) (ys ++ v) e (parts xs ys k (λ r q. n r (cc)) u v))

pub parted_before : (xs ys u v : List ℕ) → Parted xs ys → Parted (xs ++ u) (ys ++ v)
parted_before xs ys u v h s t = rw (append_assoc xs u s, append_assoc ys v t) (h (u ++ s) (v ++ t))

pub parted_behind : (w xs ys : List ℕ) → Parted xs ys → Parted (w ++ xs) (w ++ ys)
parted_behind w xs ys h u v = rw (append_assoc w xs u, append_assoc w ys v) (less_behind w (xs ++ u) (ys ++ v) (h u v))

-- A prefix code: no word is a proper prefix of another.
abbrev pub PrefixCode : (List ℕ → Type 0) → Type 0
PrefixCode Word = (v w r : List ℕ) → Word v → Word w → w ≡ v ++ r → w ≡ v

module _ {Word : List ℕ → Type 0} (code : PrefixCode Word) where
  pub code_parts : (v w : List ℕ) → Word v → Word w → Less v w → Parted v w
  code_parts v w a b h = parts v w h (λ r e. less_irreflexive v (subst (Less v) (code v w r a b e) h))

  -- words with something behind them are equal, or less, by the words first
  pub code_equal : (v w s t : List ℕ) → Word v → Word w → v ++ s ≡ w ++ t → v ≡ w
  code_equal v w s t a b h =
      ⊎_elim (λ l. absurd (less_irreflexive (w ++ t) (subst (λ (x : List ℕ). Less x (w ++ t)) h (code_parts v w a b l s t))))
      (λ k. ⊎_elim (λ e. e) (λ l. absurd (less_irreflexive (w ++ t) (subst (Less (w ++ t)) h (code_parts w v b a l t s)))) k)
      (less_total v w)

  pub code_less : (v w s t : List ℕ) → Word v → Word w → Less (v ++ s) (w ++ t) → Less v w ⊎ ((v ≡ w) × Less s t)
  code_less v w s t a b h =
      ⊎_elim inl
      (λ k. ⊎_elim (λ e. inr (e, less_cancel w s t (subst (λ (x : List ℕ). Less (x ++ s) (w ++ t)) e h)))
      (λ l. absurd (less_asymmetric (v ++ s) (w ++ t) h (code_parts w v b a l t s))) k)
      (less_total v w)

-- the words one after the other
abbrev pub joined : List (List ℕ) → List ℕ
joined ws = for ws (λ w. w)

abbrev pub AscendingWords : List (List ℕ) → Type 0
AscendingWords [] = Unit {0}
AscendingWords (v ∷ vs) = ((w : List ℕ) → Memᴰ w vs → AtMost v w) × AscendingWords vs

-- the first of ascending words is at most the first of the same words in another order
first_most : (v : List ℕ) (vs : List (List ℕ)) (w : List ℕ) (ws : List (List ℕ)) → AscendingWords (v ∷ vs) → Alike (v ∷ vs) (w ∷ ws) → AtMost v w
first_most v vs w ws s h =
    let (a, m, t) = alike_passing (same w) (v ∷ vs) w ws h (same_itself w) in
    let e = same_true w a t in
    ⊎_elim (λ (q : a ≡ v). inl (sym (e ∙ q))) (λ k. subst (AtMost v) (sym e) (s.0 a k)) (Memᴰ.cases_cons m)

module _ {Word : List ℕ → Type 0} (code : PrefixCode Word) where
  -- Of all orders of words of a prefix code the ascending one gives the least concatenation, and no other gives the same.
  pub least_joined : (vs ws : List (List ℕ)) → ((w : List ℕ) → Memᴰ w vs → Word w) → ((w : List ℕ) → Memᴰ w ws → Word w)
      → AscendingWords vs → Alike vs ws → Parted (joined vs) (joined ws) ⊎ (vs ≡ ws)
  unfolding for
  least_joined [] [] a b s h = inr refl
  least_joined [] (w ∷ ws) a b s h = absurd (alike_none w ws h)
  least_joined (v ∷ vs) [] a b s h = absurd (alike_nothing v vs h)
  least_joined (v ∷ vs) (w ∷ ws) a b s h =
      ⊎_elim
      (λ e. ⊎_elim
      (λ p. inl (subst (λ (x : List ℕ). Parted (v ++ joined vs) (x ++ joined ws)) e (parted_behind v (joined vs) (joined ws) p)))
      (λ q. inr (cc))
      (least_joined vs ws (λ x m. a x (Memᴰ.tail m)) (λ x m. b x (Memᴰ.tail m)) s.1 (alike_rest v w vs ws e h)))
      (λ l. inl (parted_before v w (joined vs) (joined ws) (code_parts code v w (a v (Memᴰ.head refl)) (b w (Memᴰ.head refl)) l)))
      (first_most v vs w ws s h)
