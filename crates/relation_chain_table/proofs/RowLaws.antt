-- Rows of marks written one after the other.
use Prim.Native.Nat.{ℕ, zero, suc, ◌+◌, ◌*◌, ◌<◌, ◌≤◌}
use native.Mathlib.Nat.{le_antisymm, le_of_eq, mul-le-mul_right, suc-mul, zero-mul}
use native.Mathlib.Decide.{dec_lt}
use native.Mathlib.Numerals.{add-one}
use native.Mathlib.Omega.{arith}
use mathlib.Core.Path.{◌≡◌, refl, sym, ap, ap₂, ◌∙◌}
use mathlib.Core.List.{List, [], ◌∷◌, ◌++◌}
use lib.ListN.{length, get_or, take, drop, length-append, length-map, get_or-append}
use lib.Seq.{paste, take_all, take_at, drop-drop, drop-append-add, get_or-append-add, length-paste}
use Rattle.base.specs.Lists.{for, below, count}
use Rattle.base.proofs.Lists.{length_count, getD_below, below_more, for_append, for_one}
use Rattle.relation_chain_table.specs.Squares.{mark_of, marked, row_marks, square_marks}

-- the place of row a and column b
pub in_square : (a b n : ℕ) → a < n → b < n → a * n + b < n * n
in_square a b n l h = omega (arith, mul-le-mul_right n l, suc-mul a n)

-- rows of one length, one after the other
module _ (row : ℕ → List ℕ) (n : ℕ) (long : (a : ℕ) → length (row a) ≡ n) where
  pub rows_more : (k : ℕ) → for (below (suc k)) row ≡ for (below k) row ++ row k
  rows_more k =
      ap (λ (l : List ℕ). for l row) (below_more k) ∙ for_append (below k) (k ∷ []) row
      ∙ ap (λ (l : List ℕ). for (below k) row ++ l) (for_one k row)

  pub rows_length : (k : ℕ) → length (for (below k) row) ≡ k * n
  unfolding for below count
  rows_length zero = sym (zero-mul n)
  rows_length (suc k) =
      ap length (rows_more k) ∙ length-append (for (below k) row) (row k)
      ∙ ap₂ (λ (i j : ℕ). i + j) (rows_length k) (long k) ∙ sym (suc-mul k n)

  pub rows_at : (k a b : ℕ) → a < k → b < n → get_or (for (below k) row) (a * n + b) 0 ≡ get_or (row a) b 0
  rows_at zero a b h l = absurd (omega arith)
  rows_at (suc k) a b h l = ap (λ (t : List ℕ). get_or t (a * n + b) 0) (rows_more k) ∙ go (rows_at k) (dec_lt a k)
    where
      go : ((a b : ℕ) → a < k → b < n → get_or (for (below k) row) (a * n + b) 0 ≡ get_or (row a) b 0)
          → Dec (a < k) → get_or (for (below k) row ++ row k) (a * n + b) 0 ≡ get_or (row a) b 0
      go rec (yes m) =
          get_or-append (for (below k) row) (row k) 0 (a * n + b) (omega (arith, rows_length k, mul-le-mul_right n m, suc-mul a n)) ∙ rec a b m l
      go rec (no m) =
          let e : a ≡ k = omega arith in
          ap (λ (i : ℕ). get_or (for (below k) row ++ row k) (i + b) 0) (ap (λ (i : ℕ). i * n) e ∙ sym (rows_length k))
          ∙ get_or-append-add (for (below k) row) (row k) b 0 ∙ ap (λ (i : ℕ). get_or (row i) b 0) (sym e)

-- the marks of a square
module _ (m : List (List ℕ)) (n : ℕ) where
  pub row_length_lem : (a : ℕ) → length (row_marks m n a) ≡ n
  unfolding row_marks below
  row_length_lem a = length-map (below n) (λ b. mark_of (marked m a b)) ∙ length_count 0 n

  pub row_at : (a b : ℕ) → b < n → get_or (row_marks m n a) b 0 ≡ mark_of (marked m a b)
  unfolding row_marks
  row_at a b l = getD_below (λ b. mark_of (marked m a b)) 0 n b l

  square_none : square_marks m n 0 ≡ []
  unfolding square_marks below count for
  square_none = refl

  square_more : (a : ℕ) → square_marks m n (suc a) ≡ square_marks m n a ++ row_marks m n a
  unfolding square_marks
  square_more a = rows_more (row_marks m n) n row_length_lem a

  pub square_length : (a : ℕ) → length (square_marks m n a) ≡ a * n
  unfolding square_marks
  square_length a = rows_length (row_marks m n) n row_length_lem a

-- The invariant: the first a rows are written at the front of the table, and the rest is as it came.
pub record Written (m : List (List ℕ)) (n : ℕ) (came : List ℕ) (a : ℕ) (table : List ℕ) : Type 0 where
  pub within : a ≤ n
  pub long : length table ≡ length came
  pub made : table ≡ square_marks m n a ++ drop (a * n) came

pub written_none : {m : List (List ℕ)} {n : ℕ} {came : List ℕ} → Written m n came 0 came
written_none {m} {n} {came} = record {
  within = omega arith;
  long = refl;
  made = sym (ap₂ (λ (s : List ℕ) (k : ℕ). s ++ drop k came) (square_none m n) (zero-mul n));
}

module _ {m : List (List ℕ)} {n : ℕ} {came : List ℕ} {a : ℕ} {table : List ℕ} (inv : Written m n came a table) where
  pub written_more : {next : List ℕ} → a < n → n * n ≤ length came → next ≡ paste table (a * n) (row_marks m n a) n → Written m n came (a + 1) next
  written_more {next} l room e = record {
    within = omega arith;
    long =
        ap length e
        ∙ length-paste table (a * n) (row_marks m n a) n (omega (arith, mul-le-mul_right n l, suc-mul a n, inv.long)) (le_of_eq (sym (row_length_lem m n a)))
        ∙ inv.long;
    made = e ∙ pasted ∙ sym (ap (λ (k : ℕ). square_marks m n k ++ drop (k * n) came) (add-one a));
  }
    where
      front : take (a * n) table ≡ square_marks m n a
      front = ap (take (a * n)) inv.made ∙ take_at (square_marks m n a) (drop (a * n) came) (a * n) (square_length m n a)

      back : drop (a * n + n) table ≡ drop (suc a * n) came
      back =
          ap (drop (a * n + n)) inv.made
          ∙ ap (λ (k : ℕ). drop (k + n) (square_marks m n a ++ drop (a * n) came)) (sym (square_length m n a))
          ∙ drop-append-add (square_marks m n a) (drop (a * n) came) n ∙ drop-drop n (a * n) came
          ∙ ap (λ (k : ℕ). drop k came) (sym (suc-mul a n))

      pasted : paste table (a * n) (row_marks m n a) n ≡ square_marks m n (suc a) ++ drop (suc a * n) came
      pasted = cc (front, back, take_all n (row_marks m n a) (le_of_eq (row_length_lem m n a)), square_more m n a)

  -- the end of the loop
  pub written_all : n ≤ a → table ≡ square_marks m n n ++ drop (n * n) came
  written_all h = inv.made ∙ ap (λ (k : ℕ). square_marks m n k ++ drop (k * n) came) (le_antisymm inv.within h)
