-- The data bytes of an instruction, pasted into those of all: the new ones, and the others as they were.
use Prim.Native.Nat.{ℕ, zero, suc, ◌+◌, ◌*◌, ◌≤◌, ◌<◌}
use native.Mathlib.Omega.{arith}
use native.Mathlib.Nat.{zero-add}
use mathlib.Core.Path.{◌≡◌, refl, sym, ap, ◌∙◌}
use mathlib.Core.List.{List, [], ◌∷◌, ◌++◌, append_assoc}
use lib.ListN.{length, take, drop, length-drop, take-append-drop}
use lib.Seq.{paste, take_at, drop_at, take-append-le, drop-append-le, length-take-le, take-nil}
use Rattle.record_decoded.specs.Decoded.{data_of}

-- a part of a part
pub drop_take : (j n : ℕ) (l : List ℕ) → drop j (take (j + n) l) ≡ take n (drop j l)
drop_take zero n l = ap (λ (k : ℕ). take k l) (zero-add n)
drop_take (suc j) n [] = ap (drop (suc j)) (take-nil (suc j + n)) ∙ sym (take-nil n)
drop_take (suc j) n (a ∷ l) = ap (λ (k : ℕ). drop (suc j) (take k (a ∷ l))) (let z : suc j + n ≡ suc (j + n) = omega arith in z) ∙ drop_take j n l

pub take_less : (n m : ℕ) (l : List ℕ) → n ≤ m → take n (take m l) ≡ take n l
take_less zero m l h = refl
take_less (suc n) zero l h = absurd (omega arith)
take_less (suc n) (suc m) [] h = ap (take (suc n)) (take-nil (suc m))
take_less (suc n) (suc m) (a ∷ l) h = ap (λ (r : List ℕ). a ∷ r) (take_less n m l (omega arith))

-- lists with the same n bytes at their front have the same parts within these
pub same_part : (from size n : ℕ) (l m : List ℕ) → from + size ≤ n → take n l ≡ take n m → take size (drop from l) ≡ take size (drop from m)
same_part from size n l m h e = short l ∙ ap (λ (k : List ℕ). drop from (take (from + size) k)) e ∙ sym (short m)
  where
    short : (l : List ℕ) → take size (drop from l) ≡ drop from (take (from + size) (take n l))
    short l = sym (drop_take from size l) ∙ ap (drop from) (sym (take_less (from + size) n l h))

module _ (l : List ℕ) (k : ℕ) (s : List ℕ) (n : ℕ) (few : n ≤ 16) (room : 16 * k + 16 ≤ length l) where
  front : length (take (16 * k) l) ≡ 16 * k
  front = length-take-le (16 * k) l (omega arith)

  pub data_new : n ≤ length s → take n (data_of (paste l (16 * k) s n) k) ≡ take n s
  unfolding data_of
  data_new h =
      take_less n 16 (drop (16 * k) (paste l (16 * k) s n)) few
      ∙ ap (λ (t : List ℕ). take n (drop (16 * k) t)) (append_assoc (take (16 * k) l) (take n s) (drop (16 * k + n) l))
      ∙ ap (take n) (drop_at (take (16 * k) l) (take n s ++ drop (16 * k + n) l) (16 * k) front)
      ∙ take_at (take n s) (drop (16 * k + n) l) n (length-take-le n s h)

  -- what stands before is as it was
  early : (j : ℕ) (t : List ℕ) → j < k → take 16 (drop (16 * j) (take (16 * k) l ++ t)) ≡ take 16 (drop (16 * j) (take (16 * k) l))
  early j t h =
      ap (take 16) (drop-append-le (16 * j) (take (16 * k) l) t (omega (arith, front)))
      ∙ take-append-le 16 (drop (16 * j) (take (16 * k) l)) t (omega (arith, front, length-drop (16 * j) (take (16 * k) l)))

  pub data_old : (j : ℕ) → j < k → data_of (paste l (16 * k) s n) j ≡ data_of l j
  unfolding data_of
  data_old j h =
      ap (λ (t : List ℕ). take 16 (drop (16 * j) t)) (append_assoc (take (16 * k) l) (take n s) (drop (16 * k + n) l))
      ∙ early j (take n s ++ drop (16 * k + n) l) h
      ∙ sym (early j (drop (16 * k) l) h)
      ∙ ap (λ (t : List ℕ). take 16 (drop (16 * j) t)) (take-append-drop (16 * k) l)
