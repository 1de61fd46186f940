-- Lists in order by a relation; those that rise by a number of each element: the elements of one number stand together.
use Prim.Native.Nat.{ℕ, suc, ◌+◌, ◌-◌, ◌≤◌, ◌<◌}
use native.Mathlib.Omega.{arith}
use mathlib.Core.Path.{◌≡◌, refl, sym, ap, ap₂, ◌∙◌, subst}
use mathlib.Core.Bool.{Bool}
use mathlib.Core.List.Memᴰ
use mathlib.Core.List.{List, [], ◌∷◌, ◌++◌, map, Memᴰ}
use mathlib.Core.Logic.{⊎_elim}
use lib.Dec.{eqb}
use borrow.Author.Tests.{eq-eqb, ne_eqb}
use Rattle.base.specs.Lists.{keep, for, count, below}
use Rattle.base.proofs.Bools.{split}
use Rattle.base.proofs.Lists.{for_append, for_same, of_count, of_keep, count_split}

-- the numbers from `from` on, up to one of them, that one, and those behind it
pub count_at : (from n a : ℕ) → from ≤ a → a < from + n → count from n ≡ count from (a - from) ++ (a ∷ count (suc a) (from + n - suc a))
unfolding count
count_at from n a h k =
    ap (count from) (let z : n ≡ a - from + suc (from + n - suc a) = omega arith in z)
    ∙ count_split from (a - from) (suc (from + n - suc a))
    ∙ ap (λ (m : ℕ). count from (a - from) ++ (m ∷ count (suc m) (from + n - suc a))) (let z : from + (a - from) ≡ a = omega arith in z)

pub below_at : (n a : ℕ) → a < n → below n ≡ below a ++ (a ∷ count (suc a) (n - suc a))
unfolding below
below_at n a h =
    count_at 0 n a (omega arith) (omega arith)
    ∙ (let y : a - 0 ≡ a = omega arith in let z : 0 + n - suc a ≡ n - suc a = omega arith in λ i. count 0 (y i) ++ (a ∷ count (suc a) (z i)))

module _ {A B : Type 0} where
  pub for_none : (f : A → List B) (l : List A) → ((a : A) → Memᴰ a l → f a ≡ []) → for l f ≡ []
  unfolding for
  for_none f [] h = refl
  for_none f (a ∷ l) h = ap₂ (λ (s t : List B). s ++ t) (h a (Memᴰ.head refl)) (for_none f l (λ b m. h b (Memᴰ.tail m)))

module _ {A : Type 0} (R : A → A → Type 0) where
  -- each element stands so to all behind it
  abbrev pub Ordered : List A → Type 0
  Ordered [] = Unit {0}
  Ordered (x ∷ xs) = ((y : A) → Memᴰ y xs → R x y) × Ordered xs

  pub ordered_append : (l m : List A) → Ordered l → Ordered m → ((x y : A) → Memᴰ x l → Memᴰ y m → R x y) → Ordered (l ++ m)
  ordered_append [] m a b h = b
  ordered_append (x ∷ l) m (low, a) b h = (
    (λ y k. ⊎_elim (low y) (h x y (Memᴰ.head refl)) (Memᴰ.append_cases l k)),
    ordered_append l m a b (λ y z k. h y z (Memᴰ.tail k)),
  )

  pub ordered_keep : (p : A → Bool) (l : List A) → Ordered l → Ordered (keep p l)
  unfolding keep
  ordered_keep p [] o = tt
  ordered_keep p (x ∷ l) (low, o) =
      split (p x) (λ t. rw t ((λ y m. low y (of_keep p l m).0), ordered_keep p l o)) (λ t. rw t (ordered_keep p l o))

-- by one relation, so by another that follows
pub ordered_along : {A : Type 0} (R S : A → A → Type 0) (l : List A) → ((x y : A) → Memᴰ x l → Memᴰ y l → R x y → S x y) → Ordered R l → Ordered S l
ordered_along R S [] h o = tt
ordered_along R S (x ∷ l) h (low, o) = (
  (λ y m. h x y (Memᴰ.head refl) (Memᴰ.tail m) (low y m)),
  ordered_along R S l (λ y z my mz. h y z (Memᴰ.tail my) (Memᴰ.tail mz)) o,
)

pub ordered_map : {A B : Type 0} (R : B → B → Type 0) (f : A → B) (l : List A) → Ordered (λ x y. R (f x) (f y)) l → Ordered R (map f l)
ordered_map R f [] o = tt
ordered_map R f (x ∷ l) (low, o) = ((λ y m. let (a, w, h) = Memᴰ.of_map f l m in subst (R (f x)) h (low a w)), ordered_map R f l o)

module _ {A : Type 0} (by : A → ℕ) where
  -- no element has a lower number than one before it
  abbrev pub Rising : List A → Type 0
  Rising l = Ordered (λ x y. by x ≤ by y) l

  -- the elements of number q
  abbrev pub group : List A → ℕ → List A
  group l q = keep (λ x. eqb (by x) q) l

  pub group_none : (l : List A) (q : ℕ) → ((x : A) → Memᴰ x l → by x ≡ q → ⊥) → group l q ≡ []
  unfolding keep
  group_none [] q h = refl
  group_none (x ∷ l) q h = rw (ne_eqb (by x) q (h x (Memᴰ.head refl))) (group_none l q (λ y m. h y (Memᴰ.tail m)))

  group_own : (x : A) (l : List A) (q : ℕ) → by x ≡ q → group (x ∷ l) q ≡ x ∷ group l q
  unfolding keep
  group_own x l q e = rw (eq-eqb (by x) q e)

  group_other : (x : A) (l : List A) (q : ℕ) → (by x ≡ q → ⊥) → group (x ∷ l) q ≡ group l q
  unfolding keep
  group_other x l q e = rw (ne_eqb (by x) q e)

  group_parts : (m : List A) (a : ℕ) (s t : List ℕ) → for (s ++ a ∷ t) (group m) ≡ for s (group m) ++ (group m a ++ for t (group m))
  unfolding for
  group_parts m a s t = for_append s (a ∷ t) (group m)

  -- the groups one after the other are a list that rises
  pub grouped : (from n : ℕ) (l : List A) → Rising l → ((x : A) → Memᴰ x l → (from ≤ by x) × (by x < from + n)) → for (count from n) (group l) ≡ l
  grouped from n [] r h = for_none (group []) (count from n) (λ q m. group_none [] q (λ x w. absurd (Memᴰ.not-nil w)))
  grouped from n (x ∷ l) (low, r) h =
      let (above, under) = h x (Memᴰ.head refl) in
      let a = by x in
      let s = count from (a - from) in
      let t = count (suc a) (from + n - suc a) in
      let whole = count_at from n a above under in
      let before : (m : List A) → ((y : A) → Memᴰ y m → a ≤ by y) → for s (group m) ≡ [] =
      λ m k. for_none (group m) s (λ q w. group_none m q (λ y v e. omega (arith, of_count from (a - from) w, k y v))) in
      let later : for t (group (x ∷ l)) ≡ for t (group l) =
      for_same (group (x ∷ l)) (group l) t (λ q w. group_other x l q (λ e. omega (arith, (of_count (suc a) (from + n - suc a) w).0))) in
      let rest : group l a ++ for t (group l) ≡ l =
      sym (ap (λ (u : List A). u ++ (group l a ++ for t (group l))) (before l low)) ∙ sym (group_parts l a s t) ∙ ap (λ (c : List ℕ). for c (group l)) (sym whole) ∙ grouped from n l r (λ y m. h y (Memᴰ.tail m)) in
      ap (λ (c : List ℕ). for c (group (x ∷ l))) whole
      ∙ group_parts (x ∷ l) a s t
      ∙ ap₂ (λ (u v : List A). u ++ v) (before (x ∷ l) (λ y m. ⊎_elim (λ (e : y ≡ x). omega (arith, ap by e)) (low y) (Memᴰ.cases_cons m)))
      (ap₂ (λ (u v : List A). u ++ v) (group_own x l a refl) later)
      ∙ ap (λ (u : List A). x ∷ u) rest
