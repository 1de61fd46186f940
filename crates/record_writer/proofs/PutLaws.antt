-- Bytes put into an array, piece after piece.
use Prim.Native.Nat.{ℕ, ◌+◌, ◌≤◌, ◌<◌}
use native.Mathlib.Numerals.{add-one}
use native.Mathlib.Omega.{arith}
use mathlib.Core.Path.{◌≡◌, refl, sym, ap, ◌∙◌, subst}
use mathlib.Core.List.{List, [], ◌∷◌, ◌++◌, append-nil, append_assoc}
use lib.ListN.{length, take, set, length-set, length-append}
use lib.Seq.{take-suc-set, length-take-le, paste, take-paste, length-paste}
use Rattle.record_writer.specs.Puts.{Puts}

pub puts_none : {x : List ℕ} {at : ℕ} → at ≤ length x → Puts x at [] x at
puts_none {x} {at} h = record { front = sym (append-nil (take at x)); within = h; long = refl }

pub puts_byte : {x : List ℕ} {at : ℕ} (b : ℕ) → at < length x → Puts x at (b ∷ []) (set x at b) (at + 1)
puts_byte {x} {at} b h = record {
  front = ap (λ (k : ℕ). take k (set x at b)) (add-one at) ∙ take-suc-set x at b h;
  within = omega (arith, length-set x at b);
  long = length-set x at b;
}

-- the first n bytes of a list, as they are copied
pub puts_part : {x y : List ℕ} {at : ℕ} (s : List ℕ) (n : ℕ) → at + n ≤ length x → n ≤ length s → y ≡ paste x at s n → Puts x at (take n s) y (at + n)
puts_part {x} {y} {at} s n room there e =
    subst (λ (z : List ℕ). Puts x at (take n s) z (at + n)) (sym e)
    (record {
      front = take-paste x at s n (omega arith) there;
      within = omega (arith, length-paste x at s n room there);
      long = length-paste x at s n room there;
    })

-- one piece after the other
pub puts_both : {x y z v w : List ℕ} {i j k : ℕ} → Puts x i v y j → Puts y j w z k → Puts x i (v ++ w) z k
puts_both {x} {y} {z} {v} {w} {i} {j} {k} a b = record {
  front = b.front ∙ ap (λ (l : List ℕ). l ++ w) a.front ∙ append_assoc (take i x) v w;
  within = b.within;
  long = b.long ∙ a.long;
}

-- the same bytes by another name
pub puts_same : {x y v w : List ℕ} {i j : ℕ} → v ≡ w → Puts x i v y j → Puts x i w y j
puts_same {x} {y} {v} {w} {i} {j} e a = subst (λ (l : List ℕ). Puts x i l y j) e a

-- where the next byte goes
pub puts_next : {x y v : List ℕ} {i j : ℕ} → i ≤ length x → Puts x i v y j → j ≡ i + length v
puts_next {x} {y} {v} {i} {j} h a =
    omega (arith, length-take-le j y a.within, ap length a.front, length-append (take i x) v, length-take-le i x h)

-- bytes put from the front on
pub puts_front : {x y v : List ℕ} {n : ℕ} → Puts x 0 v y n → take n y ≡ v
puts_front a = a.front
