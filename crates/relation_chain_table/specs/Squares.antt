-- Squares of marks, as lists of rows: the links of the tables, the closure to chains, and the rows written one after the other.
use Rattle.std.specs.Prelude.{ℕ, zero, suc, ◌<◌, ◌≡◌, Bool, cond, ◌&&◌, ◌||◌, List, [], map, get_or, eqb}
use Rattle.base.specs.Lists.{for, below}

-- a test as a mark
abbrev pub mark_of : Bool → ℕ
mark_of b = cond b 1 0

-- the cell of row a and column b
abbrev pub cell : List (List ℕ) → ℕ → ℕ → ℕ
cell m a b = get_or (get_or m a []) b 0

-- it is 1
abbrev pub marked : List (List ℕ) → ℕ → ℕ → Bool
marked m a b = eqb (cell m a b) 1

-- the marks of the first n rows and columns are a relation
abbrev pub MarksAre : ℕ → List (List ℕ) → (ℕ → ℕ → Bool) → Type 0
MarksAre n m r = (a b : ℕ) → a < n → b < n → marked m a b ≡ r a b

-- a leads to b, or to k, which leads to b
unfoldable pub via : ℕ → (ℕ → ℕ → Bool) → ℕ → ℕ → Bool
via k r a b = r a b || (r a k && r k b)

-- the relation by way of each number below k, in order
unfoldable pub closed_by : ℕ → (ℕ → ℕ → Bool) → ℕ → ℕ → Bool
closed_by zero r = r
closed_by (suc k) r = via k (closed_by k r)

-- the n marks of row a
unfoldable pub row_marks : List (List ℕ) → ℕ → ℕ → List ℕ
row_marks m n a = map (λ b. mark_of (marked m a b)) (below n)

-- those of the first k rows
unfoldable pub square_marks : List (List ℕ) → ℕ → ℕ → List ℕ
square_marks m n k = for (below k) (row_marks m n)
