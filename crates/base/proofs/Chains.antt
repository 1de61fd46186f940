-- The tests of std's chains of iterators, of each element of a list or of each number of a range, as the tests of this repository.
use Prim.Native.Nat.{ℕ, zero, suc, ◌+◌}
use native.Mathlib.Omega.{arith}
use native.Mathlib.Nat.{zero-add}
use native.Mathlib.Numerals.{add-one}
use mathlib.Core.Path.{◌≡◌, refl, sym, ap, ap₂, ◌∙◌}
use mathlib.Core.Bool.{Bool, true, false, ◌&&◌, ◌||◌}
use mathlib.Core.List.{List, [], ◌∷◌}
use Rattle.std.specs.List.{list_all, list_any, range_with_len}
use Rattle.base.specs.Lists.{all, any, count, below}
use Rattle.base.specs.Below.{all_below, any_below}
use Rattle.base.proofs.Tests.{all_count, all_same, any_below_same, any_below_lem}

module _ {A : Type 0} (p : A → Bool) where
  pub all_list : (l : List A) → list_all p l ≡ all p l
  unfolding all
  all_list [] = refl
  all_list (x ∷ l) = ap (λ (b : Bool). p x && b) (all_list l)

  pub any_list : (l : List A) → list_any p l ≡ any p l
  unfolding any
  any_list [] = refl
  any_list (x ∷ l) = ap (λ (b : Bool). p x || b) (any_list l)

-- the numbers of a range
pub range_is : (from n : ℕ) → range_with_len from n ≡ count from n
unfolding count
range_is from zero = refl
range_is from (suc n) = ap (λ (l : List ℕ). from ∷ l) (ap (λ (k : ℕ). range_with_len k n) (add-one from) ∙ range_is (suc from) n)

module _ (p : ℕ → Bool) (n : ℕ) where
  pub all_range : list_all p (range_with_len 0 n) ≡ all_below n p
  all_range =
      all_list p (range_with_len 0 n) ∙ ap (all p) (range_is 0 n) ∙ sym (all_count p 0 n) ∙ all_same (λ i. p (0 + i)) p n (λ k l. ap p (zero-add k))

  pub any_range : list_any p (range_with_len 0 n) ≡ any_below n p
  unfolding below
  any_range = any_list p (range_with_len 0 n) ∙ ap (any p) (range_is 0 n) ∙ any_below_lem p n
