-- Orders of the numbers below n against each other: they give one sum for every function, each number has its place, one after the inverse of another is an order.
use Prim.Native.Nat.{ℕ, zero, suc, ◌+◌, ◌<◌}
use native.Mathlib.Omega.{arith}
use mathlib.Core.Path.{◌≡◌, refl, sym, ap, ◌∙◌, subst}
use mathlib.Core.Bool.{Bool, true, false, not, cond, ◌&&◌}
use mathlib.Core.List.Memᴰ
use mathlib.Core.List.{List, [], ◌∷◌, ◌++◌, map, Memᴰ}
use mathlib.Core.Logic.{⊎_elim}
use lib.ListN.{length, get_or, length-append, length-map}
use lib.Dec.{eqb, ltb}
use borrow.Author.Tests.{eq-eqb, eqb-true, not-true}
use Rattle.base.specs.Lists.{for, below, count, member, distinct}
use Rattle.base.specs.Orders.{OrderOf}
use Rattle.base.proofs.Bools.{and_parts, clash}
use Rattle.base.proofs.Lists.{in_member, member_in, distinct_in, below_more, getD_member, length_count, of_count, of_below}
use Rattle.base.proofs.Orders.{order_has, Apart, apart_distinct}

module _ {A : Type 0} where
  -- f summed over a list
  unfoldable pub sum : (A → ℕ) → List A → ℕ
  sum f [] = 0
  sum f (x ∷ xs) = f x + sum f xs

  pub sum_append : (f : A → ℕ) (s t : List A) → sum f (s ++ t) ≡ sum f s + sum f t
  unfolding sum
  sum_append f [] t = omega arith
  sum_append f (x ∷ s) t = omega (arith, sum_append f s t)

  -- the elements before and after one
  around : {a : A} {l : List A} → Memᴰ a l → (s : List A) × (t : List A) × (l ≡ s ++ a ∷ t)
  around (Memᴰ.head {xs = xs} e) = ([], xs, ap (λ (x : A). x ∷ xs) (sym e))
  around (Memᴰ.tail {x = x} m) = let (s, t, h) = around m in (x ∷ s, t, ap (λ (l : List A). x ∷ l) h)

  in_around : {a : A} (b : A) (s t : List A) → Memᴰ a (s ++ t) → Memᴰ a (s ++ b ∷ t)
  in_around b s t m = ⊎_elim (Memᴰ.append_left (b ∷ t)) (λ w. Memᴰ.append_right s (Memᴰ.tail w)) (Memᴰ.append_cases s m)

  -- lists that give one sum for every function: one is the other in another order
  abbrev pub Alike : List A → List A → Type 0
  Alike l m = (f : A → ℕ) → sum f l ≡ sum f m

-- different numbers, one of them left out
apart_around : (s : List ℕ) (k : ℕ) (t : List ℕ) → Apart (s ++ k ∷ t) → Apart (s ++ t) × (Memᴰ k (s ++ t) → ⊥)
apart_around [] k t h = (h.1, h.0)
apart_around (x ∷ s) k t h =
    let (r, out) = apart_around s k t h.1 in (
      ((λ m. h.0 (in_around k s t m)), r),
      λ m. ⊎_elim (λ e. h.0 (Memᴰ.append_right s (Memᴰ.head (sym e)))) out (Memᴰ.cases_cons m),
    )

pub distinct_apart : (n : ℕ) (passed xs : List ℕ) → distinct n passed xs ≡ true → Apart xs × ((a : ℕ) → Memᴰ a xs → Memᴰ a passed → ⊥)
unfolding distinct
distinct_apart n passed [] h = (tt, λ a m w. Memᴰ.not-nil m)
distinct_apart n passed (x ∷ xs) h =
    let (h1, h2) = and_parts (ltb x n && not (member passed x)) (distinct n (passed ++ (x ∷ [])) xs) h in
    let (h3, h4) = and_parts (ltb x n) (not (member passed x)) h1 in
    let (r, new) = distinct_apart n (passed ++ (x ∷ [])) xs h2 in (
      ((λ m. new x m (Memᴰ.append_right passed (Memᴰ.head refl))), r),
      λ a m w. ⊎_elim
          (λ e. clash (in_member (subst (λ (i : ℕ). Memᴰ i passed) e w)) (not-true (member passed x) h4))
          (λ k. new a k (Memᴰ.append_left (x ∷ []) w)) (Memᴰ.cases_cons m),
    )

module _ (f : ℕ → ℕ) where
  -- all numbers below n, in any order
  counted : (n : ℕ) (xs : List ℕ) → length xs ≡ n → Apart xs → ((a : ℕ) → Memᴰ a xs → a < n) → sum f xs ≡ sum f (below n)
  unfolding sum below count
  counted zero [] l h low = refl
  counted zero (x ∷ xs) l h low = absurd (omega arith)
  counted (suc n) xs l h low =
      let m = member_in xs n (order_has (suc n) xs (l, apart_distinct (suc n) [] xs (λ a m. (low a m, λ w. Memᴰ.not-nil w)) h) n (omega arith)) in
      let (s, t, e) = around m in
      let (r, out) = apart_around s n t (subst Apart e h) in
      let ih = counted n (s ++ t) (omega (arith, ap length e, length-append s (n ∷ t), length-append s t)) r
      (λ a w. lower s t e out a w) in
      omega (arith, ap (sum f) e, sum_append f s (n ∷ t), sum_append f s t, ap (sum f) (below_more n), sum_append f (below n) (n ∷ []))
    where
      lower : (s t : List ℕ) → xs ≡ s ++ n ∷ t → (Memᴰ n (s ++ t) → ⊥) → (a : ℕ) → Memᴰ a (s ++ t) → a < n
      lower s t e out a w =
          let l1 = low a (subst (Memᴰ a) (sym e) (in_around n s t w)) in
          let l2 : a ≡ n → ⊥ = λ q. out (subst (λ (i : ℕ). Memᴰ i (s ++ t)) q w) in
          omega arith

-- every order gives the sum of the numbers below n
pub order_sums : (n : ℕ) (order : List ℕ) → OrderOf n order → Alike order (below n)
order_sums n order h f =
    counted f n order h.0 (distinct_apart n [] order h.1).0 (λ a m. distinct_in n [] order h.1 m)

module _ {A B : Type 0} where
  pub sum_map : (f : B → ℕ) (g : A → B) (l : List A) → sum f (map g l) ≡ sum (λ a. f (g a)) l
  unfolding sum
  sum_map f g [] = refl
  sum_map f g (x ∷ l) = omega (arith, sum_map f g l)

  pub alike_map : (g : A → B) (l m : List A) → Alike l m → Alike (map g l) (map g m)
  alike_map g l m h f = sum_map f g l ∙ h (λ a. f (g a)) ∙ sym (sum_map f g m)

module _ {A B : Type 0} (g : A → List B) where
  sum_for : (f : B → ℕ) (l : List A) → sum f (for l g) ≡ sum (λ a. sum f (g a)) l
  unfolding sum for
  sum_for f [] = refl
  sum_for f (x ∷ l) = omega (arith, sum_append f (g x) (for l g), sum_for f l)

  pub alike_for : (l m : List A) → Alike l m → Alike (for l g) (for m g)
  alike_for l m h f = sum_for f l ∙ h (λ a. sum f (g a)) ∙ sym (sum_for f m)

unit : Bool → ℕ
unit b = cond b 1 0

module _ {A : Type 0} where
  -- without the first, where it is one
  pub alike_rest : (x y : A) (l m : List A) → x ≡ y → Alike (x ∷ l) (y ∷ m) → Alike l m
  unfolding sum
  alike_rest x y l m e h f = omega (arith, h f, ap f e)

  -- an element that passes a test
  passing : (p : A → Bool) (l : List A) → 0 < sum (λ a. unit (p a)) l → (a : A) × Memᴰ a l × (p a ≡ true)
  unfolding sum unit
  passing p [] h = absurd (omega arith)
  passing p (x ∷ l) h = go (p x) refl (passing p l) h
    where
      go : (b : Bool) → p x ≡ b → (0 < sum (λ a. unit (p a)) l → (a : A) × Memᴰ a l × (p a ≡ true)) → 0 < cond b 1 0 + sum (λ a. unit (p a)) l
          → (a : A) × Memᴰ a (x ∷ l) × (p a ≡ true)
      go true e ih k = (x, Memᴰ.head refl, e)
      go false e ih k = let (a, m, t) = ih (omega arith) in (a, Memᴰ.tail m, t)

  -- where the first of the one passes, some element of the other does
  pub alike_passing : (p : A → Bool) (l : List A) (y : A) (m : List A) → Alike l (y ∷ m) → p y ≡ true → (a : A) × Memᴰ a l × (p a ≡ true)
  unfolding sum unit
  alike_passing p l y m h t = passing p l (omega (arith, h (λ a. unit (p a)), ap unit t))

  pub alike_none : (y : A) (m : List A) → Alike [] (y ∷ m) → ⊥
  unfolding sum
  alike_none y m h = omega (arith, h (λ a. 1))

  pub alike_nothing : (x : A) (l : List A) → Alike (x ∷ l) [] → ⊥
  unfolding sum
  alike_nothing x l h = omega (arith, h (λ a. 1))

-- Places

-- different entries stand at different places
apart_at : (l : List ℕ) → Apart l → (i j d : ℕ) → i < length l → j < length l → get_or l i d ≡ get_or l j d → i ≡ j
apart_at [] h i j d li lj e = absurd (omega arith)
apart_at (x ∷ l) h zero zero d li lj e = refl
apart_at (x ∷ l) h zero (suc j) d li lj e = absurd (h.0 (subst (λ (k : ℕ). Memᴰ k l) (sym e) (getD_member l j d (omega arith))))
apart_at (x ∷ l) h (suc i) zero d li lj e = absurd (h.0 (subst (λ (k : ℕ). Memᴰ k l) e (getD_member l i d (omega arith))))
apart_at (x ∷ l) h (suc i) (suc j) d li lj e = ap suc (apart_at l h.1 i j d (omega arith) (omega arith) e)

-- the place of a number
pub place : List ℕ → ℕ → ℕ
place [] a = 0
place (x ∷ xs) a = cond (eqb x a) 0 (suc (place xs a))

place_there : {a : ℕ} {l : List ℕ} → Memᴰ a l → (place l a < length l) × (get_or l (place l a) 0 ≡ a)
unfolding place
place_there {a} (Memᴰ.head {x = x} {xs = xs} e) = rw (eq-eqb x a (sym e)) (omega arith, sym e)
place_there {a} (Memᴰ.tail {x = x} {xs = xs} m) = go (eqb x a) refl (place_there m)
  where
    go : (b : Bool) → eqb x a ≡ b → (place xs a < length xs) × (get_or xs (place xs a) 0 ≡ a)
        → (cond b 0 (suc (place xs a)) < suc (length xs)) × (get_or (x ∷ xs) (cond b 0 (suc (place xs a))) 0 ≡ a)
    go true e h = (omega arith, eqb-true x a e)
    go false e h = (omega arith, h.1)

module _ (n : ℕ) (order : List ℕ) (o : OrderOf n order) where
  pub order_low : (i : ℕ) → i < n → get_or order i 0 < n
  order_low i l = distinct_in n [] order o.1 (getD_member order i 0 (omega (arith, o.0)))

  pub order_one : (i j : ℕ) → i < n → j < n → get_or order i 0 ≡ get_or order j 0 → i ≡ j
  order_one i j li lj e = apart_at order (distinct_apart n [] order o.1).0 i j 0 (omega (arith, o.0)) (omega (arith, o.0)) e

  pub order_place : (a : ℕ) → a < n → (place order a < n) × (get_or order (place order a) 0 ≡ a)
  order_place a l =
      let (h, e) = place_there (member_in order a (order_has n order o a l)) in
      (omega (arith, o.0), e)

count_apart : (from n : ℕ) → Apart (count from n)
unfolding count
count_apart from zero = tt
count_apart from (suc n) = ((λ m. let (h, k) = of_count (suc from) n m in omega arith), count_apart (suc from) n)

map_apart : (f : ℕ → ℕ) (l : List ℕ) → ((a b : ℕ) → Memᴰ a l → Memᴰ b l → f a ≡ f b → a ≡ b) → Apart l → Apart (map f l)
map_apart f [] one h = tt
map_apart f (x ∷ l) one h = (
  (λ m. let (a, w, e) = Memᴰ.of_map f l m in
      h.0 (subst (λ (k : ℕ). Memᴰ k l) (one a x (Memᴰ.tail w) (Memᴰ.head refl) e) w)),
  map_apart f l (λ a b ma mb. one a b (Memᴰ.tail ma) (Memᴰ.tail mb)) h.1,
)

-- an order by a function that takes the numbers below n to different numbers below n
pub mapped_order : (n : ℕ) (f : ℕ → ℕ) → ((a : ℕ) → a < n → f a < n) → ((a b : ℕ) → a < n → b < n → f a ≡ f b → a ≡ b)
    → (order : List ℕ) → OrderOf n order → OrderOf n (map f order)
mapped_order n f low one order o = (
  length-map order f ∙ o.0,
  apart_distinct n [] (map f order)
      (λ a m. (let (k, w, e) = Memᴰ.of_map f order m in subst (λ (i : ℕ). i < n) e (low k (below_n k w)), λ w. Memᴰ.not-nil w))
      (map_apart f order (λ a b ma mb. one a b (below_n a ma) (below_n b mb)) (distinct_apart n [] order o.1).0),
)
  where
    below_n : (a : ℕ) → Memᴰ a order → a < n
    below_n a m = distinct_in n [] order o.1 m

-- the numbers as they are
pub straight : (n : ℕ) → OrderOf n (below n)
unfolding below
straight n = (length_count 0 n, apart_distinct n [] (below n) (λ a m. (of_below n m, λ w. Memᴰ.not-nil w)) (count_apart 0 n))

-- the entry of one order where another has a
abbrev pub across : List ℕ → List ℕ → ℕ → ℕ
across order other a = get_or order (place other a) 0

pub across_order : (n : ℕ) (order other : List ℕ) → OrderOf n order → OrderOf n other → OrderOf n (map (across order other) (below n))
across_order n order other o q =
    mapped_order n (across order other)
    (λ a l. order_low n order o (place other a) (order_place n other q a l).0)
    (λ a b la lb e.
    let (pa, ea) = order_place n other q a la in
    let (pb, eb) = order_place n other q b lb in
    sym ea ∙ ap (λ (i : ℕ). get_or other i 0) (order_one n order o (place other a) (place other b) pa pb e) ∙ eb)
    (below n) (straight n)
