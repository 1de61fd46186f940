-- Loops that copy a list into another from an index on; parts of a slice.
use Prim.Native.Nat.{ℕ, ◌+◌, ◌-◌, ◌<◌, ◌≤◌}
use native.Mathlib.Nat.{le_antisymm, le_of_eq}
use native.Mathlib.Numerals.{add-one}
use native.Mathlib.Omega.{arith}
use mathlib.Core.Path.{◌≡◌, refl, sym, ap, ◌∙◌}
use mathlib.Core.List.{List}
use lib.ListN.{length, get_or, set, take, drop, length-set, length-drop}
use lib.Seq.{paste, paste-zero, paste-suc, take_all}

-- The invariant: x is d with the first j of s from `at` on.
pub record Pasted (d : List ℕ) (at : ℕ) (s : List ℕ) (j : ℕ) (x : List ℕ) : Type 0 where
  pub within : j ≤ length s
  pub long : length x ≡ length d
  pub made : x ≡ paste d at s j

pub none_yet : {d : List ℕ} {at : ℕ} {s : List ℕ} → Pasted d at s 0 d
none_yet {d} {at} {s} = record { within = omega arith; long = refl; made = paste-zero d at s }

module _ {d : List ℕ} {at : ℕ} {s : List ℕ} {j : ℕ} {x : List ℕ} (inv : Pasted d at s j x) where
  pub one_more : j < length s → at + j < length d → Pasted d at s (j + 1) (set x (at + j) (get_or s j 0))
  one_more l room =
      record {
        within = omega arith;
        long = length-set x (at + j) (get_or s j 0) ∙ inv.long;
        made = ap (λ (y : List ℕ). set y (at + j) (get_or s j 0)) inv.made ∙ (paste-suc d at s j 0 room l ∙ ap (paste d at s) (sym (add-one j)));
      }

  -- the end of a loop over the first n
  pub copied : (n : ℕ) → n ≤ j → j ≤ n → x ≡ paste d at s n
  copied n h k = inv.made ∙ ap (paste d at s) (le_antisymm k h)

-- the part of a slice from an index to its end
pub rest : {A : Type 0} (at : ℕ) (s : List A) → take (length s - at) (drop at s) ≡ drop at s
rest at s = take_all (length s - at) (drop at s) (le_of_eq (length-drop at s))
