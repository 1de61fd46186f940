-- Links along which a rank rises: where no path leads from a to b, a linear extension puts b before a.
use Prim.Native.Nat.{ℕ, suc, ◌+◌, ◌<◌}
use native.Mathlib.Omega.{arith}
use mathlib.Core.Path.{◌≡◌, refl, sym, ap}
use mathlib.Core.Bool.{Bool, true, false, cond}
use mathlib.Core.List.Memᴰ
use mathlib.Core.List.{List, [], ◌∷◌, Memᴰ}
use lib.Dec.{eqb, ltb}
use borrow.Author.Tests.{lt-ltb, ltb-true, ltb-false, eq-eqb, ne_eqb}
use Rattle.base.specs.Orders.{OrderOf}
use Rattle.base.proofs.Bools.{clash, is_false, or_right}
use Rattle.base.proofs.Lists.{member_in}
use Rattle.base.proofs.Orders.{order_has, Sorted, sorted_order}
use Rattle.model.specs.Rules.{Link, before}
use Rattle.relation_chain_table.specs.Paths.{Path, one, more, Within}

-- in a list sorted by key, a number stands before all of greater key
sorted_before : (key : ℕ → ℕ) (xs : List ℕ) → Sorted (λ a b. ltb (key a) (key b)) xs → (a b : ℕ) → Memᴰ a xs → key a < key b → before xs a b ≡ true
unfolding before
sorted_before key [] s a b m l = absurd (Memᴰ.not-nil m)
sorted_before key (x ∷ xs) s a b (Memᴰ.head e) l =
    rw (ne_eqb x b (λ q. omega (arith, ap key e, ap key q)), eq-eqb x a (sym e))
sorted_before key (x ∷ xs) s a b (Memᴰ.tail m) l =
    rw (ne_eqb x b (λ q. omega (arith, ap key q, ltb-false (key a) (key x) (s.0 a m))))
    (or_right (eqb x a) (before xs a b) (sorted_before key xs s.1 a b m l))

-- the numbers below n by key
by_key : (n : ℕ) (key : ℕ → ℕ) → (order : List ℕ) × OrderOf n order × ((a b : ℕ) → a < n → key a < key b → before order a b ≡ true)
by_key n key =
    let (order, o, s) = sorted_order (λ a b. ltb (key a) (key b))
    (λ a b c h k. lt-ltb (key a) (key c) (omega (arith, ltb-true (key a) (key b) h, ltb-true (key b) (key c) k)))
    (λ a. is_false (ltb (key a) (key a)) (λ h. omega (arith, ltb-true (key a) (key a) h))) n in
    (order, o, λ a b l k. sorted_before key order s a b (member_in order a (order_has n order o a l)) k)

module _ (links : List Link) (rank : ℕ → ℕ) (rises : (x y : ℕ) → Memᴰ (x, y) links → rank x < rank y) where
  -- it rises along a path; so none comes back
  pub path_rises : {a b : ℕ} → Path links a b → rank a < rank b
  path_rises {a} {b} (one m) = rises a b m
  path_rises {a} {b} (more {b = c} m p) = omega (arith, rises a c m, path_rises p)

  -- of some numbers, b and not a among them, and with each number all from which links lead to it
  module _ (n : ℕ) (within : Within n links) (a b : ℕ) (b_below : b < n)
      (among : ℕ → Bool) (closed : (x y : ℕ) → Memᴰ (x, y) links → among y ≡ true → among x ≡ true)
      (b_among : among b ≡ true) (a_apart : among a ≡ false) where
    -- the rank; for the others, more than the rank of b is added
    key : ℕ → ℕ
    key x = rank x + cond (among x) 0 (suc (rank b))

    link_key : (x y : ℕ) → Memᴰ (x, y) links → key x < key y
    unfolding key
    link_key x y m = go (among x) (among y) refl refl
      where
        go : (s t : Bool) → among x ≡ s → among y ≡ t → rank x + cond s 0 (suc (rank b)) < rank y + cond t 0 (suc (rank b))
        go true t d e = omega (arith, rises x y m)
        go false true d e = clash (closed x y m e) d
        go false false d e = omega (arith, rises x y m)

    turned_key : key b < key a
    unfolding key
    turned_key = rw (b_among, a_apart) (omega arith)

    pub extension : (order : List ℕ) × OrderOf n order × ((x y : ℕ) → Memᴰ (x, y) links → before order x y ≡ true) × (before order b a ≡ true)
    extension = let (order, o, f) = by_key n key in (order, o, λ x y m. f x y (within x y m).0 (link_key x y m), f b a b_below turned_key)
