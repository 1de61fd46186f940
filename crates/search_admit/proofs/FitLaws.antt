-- What may follow as far as rule 12 goes, by the last entry.
use Prim.Native.Nat.{ℕ, ◌<◌}
use mathlib.Core.Path.{◌≡◌, refl, ap, ap₂, ◌∙◌}
use mathlib.Core.Bool.{Bool, true, cond}
use mathlib.Core.List.{List, [], ◌∷◌, ◌++◌}
use borrow.Author.Tests.{lt-ltb}
use Rattle.search_admit.specs.Fits.{last_entry, due_after, due_of}

-- the last of a list, one longer
pub last_more : (xs : List ℕ) (x : ℕ) → last_entry (xs ++ (x ∷ [])) ≡ x
unfolding last_entry
last_more [] x = refl
last_more (y ∷ []) x = refl
last_more (y ∷ z ∷ xs) x = last_more (z ∷ xs) x

module _ (rows : List ℕ) (lo hi i : ℕ) where
  -- at first all may
  pub due_first : due_of rows [] lo hi i ≡ true
  unfolding due_of last_entry
  due_first = refl

  -- behind one entry more
  pub due_more : (xs : List ℕ) (x : ℕ) → x < 128 → due_of rows (xs ++ (x ∷ [])) lo hi i ≡ due_after rows x lo hi i
  unfolding due_of
  due_more xs x l = ap₂ (λ (y : ℕ) (b : Bool). cond b (due_after rows y lo hi i) true) (last_more xs x) (ap (λ (y : ℕ). lib.Dec.ltb y 128) (last_more xs x) ∙ lt-ltb x 128 l)
