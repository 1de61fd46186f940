-- Loops that write the entries of an array, one after the other.
use Prim.Native.Nat.{ℕ, ◌+◌, ◌≤◌, ◌<◌}
use native.Mathlib.Omega.{arith}
use native.Mathlib.Decide.{dec_lt}
use mathlib.Core.Path.{◌≡◌, sym, ◌∙◌, subst}
use mathlib.Core.List.{List}
use lib.ListN.{length, get_or, set, take, length-set}
use lib.Seq.{get_or-set_same, get_or-set_other, get_or-take, ext_get_or, length-take-le}

-- The invariant: each of the first k entries is as it should be.
pub record Entered {A : Type 0} (size : ℕ) (d : A) (P : ℕ → A → Type 0) (k : ℕ) (x : List A) : Type 0 where
  pub long : length x ≡ size
  pub holds : (i : ℕ) → i < k → P i (get_or x i d)

pub entered_none : {A : Type 0} {size : ℕ} {d : A} {P : ℕ → A → Type 0} {x : List A} → length x ≡ size → Entered size d P 0 x
entered_none {A} {size} {d} {P} {x} l = record { long = l; holds = λ i h. absurd (omega arith) }

pub entered_more : {A : Type 0} {size : ℕ} {d : A} {P : ℕ → A → Type 0} {k : ℕ} {x : List A} → Entered size d P k x → (a : A) → k < size → P k a
    → Entered size d P (k + 1) (set x k a)
entered_more {A} {size} {d} {P} {k} {x} inv a room h = record {
  long = length-set x k a ∙ inv.long;
  holds = λ i l. go i l (dec_lt i k);
}
  where
    go : (i : ℕ) → i < k + 1 → Dec (i < k) → P i (get_or (set x k a) i d)
    go i l (yes m) = subst (P i) (sym (get_or-set_other x k i a d (omega arith))) (inv.holds i m)
    go i l (no m) =
        let e : i ≡ k = omega arith in
        subst (λ (j : ℕ). P j (get_or (set x k a) j d)) (sym e) (subst (P k) (sym (get_or-set_same x k a d (omega (arith, inv.long)))) h)

-- entries copied from another list
pub entered_copy : {A : Type 0} {size : ℕ} (d : A) (from : List A) (k : ℕ) (x : List A) → Entered size d (λ i a. a ≡ get_or from i d) k x → k ≤ size → k ≤ length from
    → take k x ≡ take k from
entered_copy d from k x inv few there =
    ext_get_or d (take k x) (take k from) (length-take-le k x (omega (arith, inv.long)) ∙ sym (length-take-le k from there)) (λ i h.
    let l : i < k = omega (arith, h, length-take-le k x (omega (arith, inv.long))) in
    get_or-take k x i d l ∙ inv.holds i l ∙ sym (get_or-take k from i d l))
