-- Orders of the numbers below n: what one is, the list of all, and the one that a comparison sorts.
use Rattle.std.specs.Prelude.{ℕ, zero, suc, ◌≡◌, Bool, true, cond, List, [], ◌∷◌, map, length}
use Rattle.base.specs.Lists.{keep, for, below, distinct}

-- n numbers, each below n and different from those before it. (So each number below n stands in it, once.)
abbrev pub OrderOf : ℕ → List ℕ → Type 0
OrderOf n order = (length order ≡ n) × (distinct n [] order ≡ true)

-- all lists of k numbers below n
unfoldable pub lists_below : ℕ → ℕ → List (List ℕ)
lists_below n zero = [] ∷ []
lists_below n (suc k) = for (below n) (λ a. map (λ l. a ∷ l) (lists_below n k))

-- all orders of the numbers below n
unfoldable pub orders_below : ℕ → List (List ℕ)
orders_below n = keep (distinct n []) (lists_below n n)

module _ (less : ℕ → ℕ → Bool) where
  -- x before the first number that it is less than
  unfoldable pub insert : ℕ → List ℕ → List ℕ
  insert x [] = x ∷ []
  insert x (y ∷ ys) = cond (less x y) (x ∷ y ∷ ys) (y ∷ insert x ys)

  -- the numbers below n, sorted
  unfoldable pub sorted : ℕ → List ℕ
  sorted zero = []
  sorted (suc n) = insert n (sorted n)
