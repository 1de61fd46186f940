-- Functions and tests on lists.
use Rattle.std.specs.Prelude.{ℕ, zero, suc, Bool, true, false, not, cond, ◌&&◌, ◌||◌, List, [], ◌∷◌, ◌++◌, eqb, ltb}

module _ {A : Type 0} where
  -- every element passes the test
  unfoldable pub all : (A → Bool) → List A → Bool
  all p [] = true
  all p (x ∷ xs) = p x && all p xs

  -- some element passes the test
  unfoldable pub any : (A → Bool) → List A → Bool
  any p [] = false
  any p (x ∷ xs) = p x || any p xs

  -- the elements that pass the test, in their order
  unfoldable pub keep : (A → Bool) → List A → List A
  keep p [] = []
  keep p (x ∷ xs) = cond (p x) (x ∷ keep p xs) (keep p xs)

  -- the list where the test holds, else nothing
  unfoldable pub when : Bool → List A → List A
  when true xs = xs
  when false xs = []

module _ {A B : Type 0} where
  -- f x for each x of the list, one list after the other
  unfoldable pub for : List A → (A → List B) → List B
  for [] f = []
  for (x ∷ xs) f = f x ++ for xs f

-- n numbers: from, from + 1, ..
unfoldable pub count : ℕ → ℕ → List ℕ
count from zero = []
count from (suc n) = from ∷ count (suc from) n

-- 0 to n - 1
unfoldable pub below : ℕ → List ℕ
below n = count 0 n

-- a is an element of the list
unfoldable pub member : List ℕ → ℕ → Bool
member [] a = false
member (x ∷ xs) a = eqb x a || member xs a

-- the lists are the same
unfoldable pub same : List ℕ → List ℕ → Bool
same [] [] = true
same [] (y ∷ ys) = false
same (x ∷ xs) [] = false
same (x ∷ xs) (y ∷ ys) = eqb x y && same xs ys

-- each element is below n, different from those of `passed`, and different from those before it
unfoldable pub distinct : ℕ → List ℕ → List ℕ → Bool
distinct n passed [] = true
distinct n passed (x ∷ xs) = ltb x n && not (member passed x) && distinct n (passed ++ (x ∷ [])) xs
