-- What stands in an order of the numbers below n; all orders; the one sorted by a strict comparison.
use Prim.Native.Nat.{ℕ, zero, suc, ◌<◌}
use native.Mathlib.Omega.{arith}
use mathlib.Core.Path.{◌≡◌, refl, sym, ap, ◌∙◌, subst}
use mathlib.Core.Bool.{Bool, true, false, not, cond}
use mathlib.Core.List.Memᴰ
use mathlib.Core.List.{List, [], ◌∷◌, ◌++◌, map, Memᴰ}
use mathlib.Core.Logic.{◌⊎◌, inl, inr, ⊎_elim}
use lib.ListN.{length, length-append}
use borrow.Author.Tests.{lt-ltb}
use Rattle.base.specs.Lists.{below, member, distinct}
use Rattle.base.specs.Orders.{OrderOf, lists_below, orders_below, insert, sorted}
use Rattle.base.proofs.Bools.{split, clash, is_false, and_both}
use Rattle.base.proofs.Lists.{member_in, distinct_append, distinct_length, distinct_in, in_for, of_for, in_keep, of_keep, in_below}

-- each number below n stands in an order of them
pub order_has : (n : ℕ) (order : List ℕ) → OrderOf n order → (a : ℕ) → a < n → member order a ≡ true
order_has n order (long, different) a l =
    split (member order a) (λ t. t)
    (λ f.
    let more : distinct n [] (order ++ (a ∷ [])) ≡ true = distinct_append n [] order a ∙ and_both different (and_both (lt-ltb a n l) (ap not f)) in
    absurd (omega (arith, distinct_length n (order ++ (a ∷ [])) more, length-append order (a ∷ []))))

-- no number stands twice
abbrev pub Apart : List ℕ → Type 0
Apart [] = Unit {0}
Apart (x ∷ xs) = (Memᴰ x xs → ⊥) × Apart xs

-- no number is less than one that stands before it
abbrev pub Sorted : (ℕ → ℕ → Bool) → List ℕ → Type 0
Sorted less [] = Unit {0}
Sorted less (x ∷ xs) = ((y : ℕ) → Memᴰ y xs → less y x ≡ false) × Sorted less xs

pub apart_distinct : (n : ℕ) (passed xs : List ℕ) → ((a : ℕ) → Memᴰ a xs → (a < n) × (Memᴰ a passed → ⊥)) → Apart xs → distinct n passed xs ≡ true
unfolding distinct
apart_distinct n passed [] new h = refl
apart_distinct n passed (x ∷ xs) new h =
    let (low, first) = new x (Memᴰ.head refl) in
    and_both
    (and_both (lt-ltb x n low) (ap not (is_false (member passed x) (λ t. first (member_in passed x t)))))
    (apart_distinct n (passed ++ (x ∷ [])) xs (λ a m. ((new a (Memᴰ.tail m)).0, other a m)) h.1)
  where
    other : (a : ℕ) → Memᴰ a xs → Memᴰ a (passed ++ (x ∷ [])) → ⊥
    other a m w =
        ⊎_elim (new a (Memᴰ.tail m)).1 (λ s. h.0 (subst (λ (k : ℕ). Memᴰ k xs) (Memᴰ.eq_of_singleton s) m)) (Memᴰ.append_cases passed w)

module _ (less : ℕ → ℕ → Bool) where
  insert_length : (x : ℕ) (xs : List ℕ) → length (insert less x xs) ≡ suc (length xs)
  unfolding insert
  insert_length x [] = refl
  insert_length x (y ∷ ys) = go (less x y) (insert_length x ys)
    where
      go : (b : Bool) → length (insert less x ys) ≡ suc (length ys) → length {A = ℕ} (cond b (x ∷ y ∷ ys) (y ∷ insert less x ys)) ≡ suc (suc (length ys))
      go true h = refl
      go false h = ap suc h

  of_insert : {a : ℕ} (x : ℕ) (xs : List ℕ) → Memᴰ a (insert less x xs) → (a ≡ x) ⊎ Memᴰ a xs
  unfolding insert
  of_insert x [] m = Memᴰ.cases_cons m
  of_insert {a} x (y ∷ ys) m = go (less x y) (of_insert x ys) m
    where
      go : (b : Bool) → (Memᴰ a (insert less x ys) → (a ≡ x) ⊎ Memᴰ a ys) → Memᴰ a (cond b (x ∷ y ∷ ys) (y ∷ insert less x ys)) → (a ≡ x) ⊎ Memᴰ a (y ∷ ys)
      go true f w = Memᴰ.cases_cons w
      go false f (Memᴰ.head e) = inr (Memᴰ.head e)
      go false f (Memᴰ.tail w) = ⊎_elim inl (λ k. inr (Memᴰ.tail k)) (f w)

  insert_apart : (x : ℕ) (xs : List ℕ) → (Memᴰ x xs → ⊥) → Apart xs → Apart (insert less x xs)
  unfolding insert
  insert_apart x [] new h = (λ m. Memᴰ.not-nil m, tt)
  insert_apart x (y ∷ ys) new h = go (less x y) (insert_apart x ys (λ m. new (Memᴰ.tail m)) h.1)
    where
      go : (b : Bool) → Apart (insert less x ys) → Apart (cond b (x ∷ y ∷ ys) (y ∷ insert less x ys))
      go true k = (new, h)
      go false k = (λ m. ⊎_elim (λ e. new (Memᴰ.head (sym e))) h.0 (of_insert x ys m), k)

  pub sorted_below : (n : ℕ) {a : ℕ} → Memᴰ a (sorted less n) → a < n
  unfolding sorted
  sorted_below zero m = absurd (Memᴰ.not-nil m)
  sorted_below (suc n) {a} m = ⊎_elim (λ (e : a ≡ n). omega arith) (λ w. omega (arith, sorted_below n w)) (of_insert n (sorted less n) m)

  sorted_apart : (n : ℕ) → Apart (sorted less n)
  unfolding sorted
  sorted_apart zero = tt
  sorted_apart (suc n) = insert_apart n (sorted less n) (λ m. omega (arith, sorted_below n m)) (sorted_apart n)

  sorted_length : (n : ℕ) → length (sorted less n) ≡ n
  unfolding sorted
  sorted_length zero = refl
  sorted_length (suc n) = insert_length n (sorted less n) ∙ ap suc (sorted_length n)

  module _ (transitive : (a b c : ℕ) → less a b ≡ true → less b c ≡ true → less a c ≡ true) (irreflexive : (a : ℕ) → less a a ≡ false) where
    insert_sorts : (x : ℕ) (xs : List ℕ) → Sorted less xs → Sorted less (insert less x xs)
    unfolding insert
    insert_sorts x [] h = (λ y m. absurd (Memᴰ.not-nil m), tt)
    insert_sorts x (y ∷ ys) h = go (less x y) refl (insert_sorts x ys h.1)
      where
        not_less : (z : ℕ) → (z ≡ y) ⊎ Memᴰ z ys → less x y ≡ true → less z x ≡ true → ⊥
        not_less z (inl e) k t = clash (transitive x y x k (ap (λ (i : ℕ). less i x) (sym e) ∙ t)) (irreflexive x)
        not_less z (inr m) k t = clash (transitive z x y t k) (h.0 z m)

        go : (b : Bool) → less x y ≡ b → Sorted less (insert less x ys) → Sorted less (cond b (x ∷ y ∷ ys) (y ∷ insert less x ys))
        go true k s = (λ z m. is_false (less z x) (not_less z (Memᴰ.cases_cons m) k), h)
        go false k s = (λ z m. ⊎_elim (λ e. ap (λ (i : ℕ). less i y) e ∙ k) (h.0 z) (of_insert x ys m), s)

    sorted_sorts : (n : ℕ) → Sorted less (sorted less n)
    unfolding sorted
    sorted_sorts zero = tt
    sorted_sorts (suc n) = insert_sorts n (sorted less n) (sorted_sorts n)

    -- the numbers below n, sorted, are a sorted order
    pub sorted_is : (n : ℕ) → OrderOf n (sorted less n) × Sorted less (sorted less n)
    sorted_is n =
        let low : (a : ℕ) → Memᴰ a (sorted less n) → (a < n) × (Memᴰ a [] → ⊥) = λ a m. (sorted_below n m, λ w. Memᴰ.not-nil w) in
        ((sorted_length n, apart_distinct n [] (sorted less n) low (sorted_apart n)), sorted_sorts n)

    -- there is a sorted order
    pub sorted_order : (n : ℕ) → (order : List ℕ) × OrderOf n order × Sorted less order
    sorted_order n = (sorted less n, (sorted_is n).0, (sorted_is n).1)

-- All orders

in_lists : (n : ℕ) (l : List ℕ) → ((a : ℕ) → Memᴰ a l → a < n) → Memᴰ l (lists_below n (length l))
unfolding lists_below
in_lists n [] low = Memᴰ.head refl
in_lists n (a ∷ l) low =
    in_for (λ b. map (λ m. b ∷ m) (lists_below n (length l))) (in_below n a (low a (Memᴰ.head refl)))
    (Memᴰ.map (λ m. a ∷ m) (in_lists n l (λ b m. low b (Memᴰ.tail m))))

of_lists : (n k : ℕ) {l : List ℕ} → Memᴰ l (lists_below n k) → length l ≡ k
unfolding lists_below
of_lists n zero m = ap length (Memᴰ.eq_of_singleton m)
of_lists n (suc k) m =
    let (a, ma, w) = of_for (λ b. map (λ t. b ∷ t) (lists_below n k)) (below n) m in
    let (t, mt, e) = Memᴰ.of_map (λ t. a ∷ t) (lists_below n k) w in
    ap length (sym e) ∙ ap suc (of_lists n k mt)

pub in_orders : (n : ℕ) (order : List ℕ) → OrderOf n order → Memᴰ order (orders_below n)
unfolding orders_below
in_orders n order (long, different) =
    in_keep (distinct n []) (subst (λ (k : ℕ). Memᴰ order (lists_below n k)) long (in_lists n order (λ a m. distinct_in n [] order different m))) different

pub of_orders : (n : ℕ) {order : List ℕ} → Memᴰ order (orders_below n) → OrderOf n order
unfolding orders_below
of_orders n m = let (w, different) = of_keep (distinct n []) (lists_below n n) m in (of_lists n n w, different)
