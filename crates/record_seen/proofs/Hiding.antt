-- Bytes hidden by a mask, one mark a byte: zeros where it is set. Behind the mask nothing is hidden.
use Prim.Native.Nat.{ℕ, zero, suc}
use native.Mathlib.Omega.{arith}
use mathlib.Core.Path.{◌≡◌, refl, ap}
use mathlib.Core.Bool.{Bool, true, false, cond}
use mathlib.Core.List.{List, [], ◌∷◌, ◌++◌}
use lib.ListN.{length, get_or, take, drop, replicate}
use lib.Dec.{eqb}
use Rattle.base.specs.Lists.{all}
use Rattle.base.proofs.Bools.{and_parts, and_both}

unfoldable pub hide : List Bool → List ℕ → List ℕ
hide [] l = l
hide (m ∷ ms) [] = []
hide (m ∷ ms) (b ∷ l) = cond m 0 b ∷ hide ms l

pub hide_length : (ms : List Bool) (l : List ℕ) → length (hide ms l) ≡ length l
unfolding hide
hide_length [] l = refl
hide_length (m ∷ ms) [] = refl
hide_length (m ∷ ms) (b ∷ l) = ap suc (hide_length ms l)

pub hide_append : (ms ns : List Bool) (x y : List ℕ) → length ms ≡ length x → hide (ms ++ ns) (x ++ y) ≡ hide ms x ++ hide ns y
unfolding hide
hide_append [] ns [] y h = refl
hide_append [] ns (b ∷ x) y h = absurd (omega arith)
hide_append (m ∷ ms) ns [] y h = absurd (omega arith)
hide_append (m ∷ ms) ns (b ∷ x) y h = ap (λ (l : List ℕ). cond m 0 b ∷ l) (hide_append ms ns x y (omega arith))

pub hide_take : (k : ℕ) (ms : List Bool) (l : List ℕ) → take k (hide ms l) ≡ hide (take k ms) (take k l)
unfolding hide
hide_take zero ms l = refl
hide_take (suc k) [] l = refl
hide_take (suc k) (m ∷ ms) [] = refl
hide_take (suc k) (m ∷ ms) (b ∷ l) = ap (λ (l : List ℕ). cond m 0 b ∷ l) (hide_take k ms l)

pub hide_drop : (k : ℕ) (ms : List Bool) (l : List ℕ) → drop k (hide ms l) ≡ hide (drop k ms) (drop k l)
unfolding hide
hide_drop zero ms l = refl
hide_drop (suc k) [] l = refl
hide_drop (suc k) (m ∷ ms) [] = none (drop k ms)
  where
    none : (ns : List Bool) → [] ≡ hide ns []
    none [] = refl
    none (n ∷ ns) = refl
hide_drop (suc k) (m ∷ ms) (b ∷ l) = hide_drop k ms l

pub hide_none : (n : ℕ) (l : List ℕ) → hide (replicate n false) l ≡ l
unfolding hide
hide_none zero l = refl
hide_none (suc n) [] = refl
hide_none (suc n) (b ∷ l) = ap (λ (l : List ℕ). b ∷ l) (hide_none n l)

pub hide_all : (l : List ℕ) → hide (replicate (length l) true) l ≡ replicate (length l) 0
unfolding hide
hide_all [] = refl
hide_all (b ∷ l) = ap (λ (l : List ℕ). 0 ∷ l) (hide_all l)

-- a byte that is not hidden
pub hide_other : (ms : List Bool) (l : List ℕ) (k : ℕ) → get_or ms k false ≡ false → get_or (hide ms l) k 0 ≡ get_or l k 0
unfolding hide
hide_other [] l k h = refl
hide_other (m ∷ ms) [] k h = refl
hide_other (m ∷ ms) (b ∷ l) zero h = rw h
hide_other (m ∷ ms) (b ∷ l) (suc k) h = hide_other ms l k h

pub hide_zeros : (ms : List Bool) (l : List ℕ) → all (eqb 0) l ≡ true → all (eqb 0) (hide ms l) ≡ true
unfolding hide all
hide_zeros [] l h = h
hide_zeros (m ∷ ms) [] h = h
hide_zeros (m ∷ ms) (b ∷ l) h =
    let (z, t) = and_parts (eqb 0 b) (all (eqb 0) l) h in
    and_both (zero_or m b z) (hide_zeros ms l t)
  where
    zero_or : (m : Bool) (b : ℕ) → eqb 0 b ≡ true → eqb 0 (cond m 0 b) ≡ true
    zero_or true b z = refl
    zero_or false b z = z
