-- Text written piece after piece, and what stands in the buffer in the end.
use Prim.Native.Nat.{ℕ, suc, ◌+◌, ◌≤◌, ◌<◌, min}
use native.Mathlib.Numerals.{add-one}
use native.Mathlib.Omega.{arith}
use mathlib.Core.Path.{◌≡◌, refl, sym, ap, ap₂, ◌∙◌}
use mathlib.Core.Bool.{Bool, cond}
use mathlib.Core.List.{List, [], ◌∷◌, ◌++◌, append-nil, append_assoc}
use lib.ListN.{length, take, drop, set, get_or, length-set, take-append-drop}
use lib.Seq.{take_all, take-suc-set, drop-set-lt, append_snoc, take-append-le, take-suc}
use lib.Dec.{ltb}
use borrow.Author.Tests.{lt-ltb, le-ltb, ltb-true, ltb-false}
use Rattle.base.specs.Lists.{for}
use Rattle.base.proofs.Bools.{split}
use Rattle.base.proofs.Lists.{for_append, for_one}
use Rattle.verdict.specs.Texts.{printed, Text, with_byte, with_bytes, Appends}

abbrev text : List ℕ → ℕ → Text
text x at = record { buffer = x; next = at }

bytes_append : (t : Text) (v w : List ℕ) → with_bytes t (v ++ w) ≡ with_bytes (with_bytes t v) w
unfolding with_bytes
bytes_append t [] w = refl
bytes_append t (b ∷ v) w = bytes_append (with_byte t b) v w

pub appends_none : {x : List ℕ} {at : ℕ} → Appends x at [] x at
unfolding with_bytes
appends_none {x} {at} = record { leaves = refl }

-- one piece after the other
pub appends_both : {x y z v w : List ℕ} {i j k : ℕ} → Appends x i v y j → Appends y j w z k → Appends x i (v ++ w) z k
appends_both {x} {y} {z} {v} {w} {i} {j} {k} a b =
    record { leaves = b.leaves ∙ ap (λ (t : Text). with_bytes t w) a.leaves ∙ sym (bytes_append (text x i) v w) }

-- the same bytes by another name
pub appends_same : {x y v w : List ℕ} {i j : ℕ} → v ≡ w → Appends x i v y j → Appends x i w y j
appends_same {x} {y} {v} {w} {i} {j} e a = record { leaves = a.leaves ∙ ap (with_bytes (text x i)) e }

-- one byte, with room and without
byte_fits : (x : List ℕ) (at b : ℕ) → at < length x → with_byte (text x at) b ≡ text (set x at b) (suc at)
unfolding with_byte
byte_fits x at b h = ap (λ (t : Bool). cond t (text (set x at b) (suc at)) (text x at)) (lt-ltb at (length x) h)

byte_left : (x : List ℕ) (at b : ℕ) → length x ≤ at → with_byte (text x at) b ≡ text x at
unfolding with_byte
byte_left x at b h = ap (λ (t : Bool). cond t (text (set x at b) (suc at)) (text x at)) (le-ltb at (length x) h)

pub appends_byte : {x : List ℕ} {at : ℕ} (b : ℕ) → at < length x → Appends x at (b ∷ []) (set x at b) (at + 1)
unfolding with_bytes
appends_byte {x} {at} b h = record { leaves = ap (text (set x at b)) (let z : at + 1 ≡ suc at = omega arith in z) ∙ sym (byte_fits x at b h) }

pub appends_no_room : {x : List ℕ} {at : ℕ} (b : ℕ) → length x ≤ at → Appends x at (b ∷ []) x at
unfolding with_bytes
appends_no_room {x} {at} b h = record { leaves = sym (byte_left x at b h) }

-- What stands in the buffer in the end

full : (bytes x : List ℕ) (at : ℕ) → length x ≤ at → with_bytes (text x at) bytes ≡ text x at
unfolding with_bytes
full [] x at h = refl
full (b ∷ bytes) x at h = ap (λ (t : Text). with_bytes t bytes) (byte_left x at b h) ∙ full bytes x at h

abbrev shown : List ℕ → ℕ → List ℕ → List ℕ
shown x at bytes = take (length x) (take at x ++ bytes ++ drop (at + length bytes) x)

reaches : (bytes x : List ℕ) (at : ℕ) → at ≤ length x → with_bytes (text x at) bytes ≡ text (shown x at bytes) (min (at + length bytes) (length x))
unfolding with_bytes
reaches [] x at h =
    ap₂ text
    (sym (
    ap (take (length x)) (
    ap₂ ◌++◌ (append-nil (take at x)) (ap (λ (k : ℕ). drop k x) (let z : at + 0 ≡ at = omega arith in z)) ∙ take-append-drop at x)
    ∙ take_all (length x) x (omega arith)))
    (omega arith)
reaches (b ∷ bytes) x at h =
    split (ltb at (length x)) (λ t. room (ltb-true at (length x) t) (reaches bytes (set x at b) (suc at) (omega (arith, ltb-true at (length x) t, length-set x at b))))
    (λ f. spent (ltb-false at (length x) f))
  where
    more : at + length (b ∷ bytes) ≡ suc at + length bytes
    more = omega arith

    room : at < length x
        → with_bytes (text (set x at b) (suc at)) bytes ≡ text (shown (set x at b) (suc at) bytes) (min (suc at + length bytes) (length (set x at b)))
        → with_bytes (with_byte (text x at) b) bytes ≡ text (shown x at (b ∷ bytes)) (min (at + length (b ∷ bytes)) (length x))
    room l rest =
        ap (λ (t : Text). with_bytes t bytes) (byte_fits x at b l)
        ∙ rest
        ∙ ap₂ text
        (ap₂ take (length-set x at b) (
        ap₂ ◌++◌
        (ap (λ (l : List ℕ). l ++ bytes) (take-suc-set x at b l) ∙ append_snoc (take at x) b bytes)
        (drop-set-lt (suc at + length bytes) x at b (omega arith) ∙ ap (λ (k : ℕ). drop k x) (sym more))))
        (ap₂ min (sym more) (length-set x at b))

    spent : length x ≤ at → with_bytes (with_byte (text x at) b) bytes ≡ text (shown x at (b ∷ bytes)) (min (at + length (b ∷ bytes)) (length x))
    spent l =
        ap (λ (t : Text). with_bytes t bytes) (byte_left x at b l)
        ∙ full bytes x at l
        ∙ ap₂ text
        (sym (
        ap (take (length x)) (append_assoc (take at x) (b ∷ bytes) (drop (at + length (b ∷ bytes)) x))
        ∙ ap (λ (l : List ℕ). take (length x) (l ++ ((b ∷ bytes) ++ drop (at + length (b ∷ bytes)) x))) (take_all at x l)
        ∙ take-append-le (length x) x ((b ∷ bytes) ++ drop (at + length (b ∷ bytes)) x) (omega arith)
        ∙ take_all (length x) x (omega arith)))
        (omega arith)

pub appends_printed : {x bytes y : List ℕ} {n : ℕ} → Appends x 0 bytes y n → (y ≡ printed x bytes) × (n ≡ min (length bytes) (length x))
unfolding printed
appends_printed {x} {bytes} {y} {n} a =
    let e : text y n ≡ text (shown x 0 bytes) (min (0 + length bytes) (length x)) = a.leaves ∙ reaches bytes x 0 (omega arith) in
    let z : 0 + length bytes ≡ length bytes = omega arith in (
      ap (λ (t : Text). t.buffer) e ∙ ap (λ (k : ℕ). take (length x) (bytes ++ drop k x)) z,
      ap (λ (t : Text). t.next) e ∙ ap (λ (k : ℕ). min k (length x)) z,
    )

-- The invariant of a loop that writes something for each element of a list: it is written for the first i.
pub record Writing (x : List ℕ) (at : ℕ) (l : List ℕ) (f : ℕ → List ℕ) (i : ℕ) (y : List ℕ) (next : ℕ) : Type 0 where
  pub within : i ≤ length l
  pub long : length y ≡ length x
  pub so_far : Appends x at (for (take i l) f) y next

pub writes_start : {x : List ℕ} {at : ℕ} {l : List ℕ} {f : ℕ → List ℕ} → Writing x at l f 0 x at
unfolding for
writes_start {x} {at} {l} {f} = record { within = omega arith; long = refl; so_far = appends_none }

module _ {x : List ℕ} {at : ℕ} {l : List ℕ} {f : ℕ → List ℕ} {i : ℕ} {y : List ℕ} {next : ℕ} (inv : Writing x at l f i y next) where
  pub writes_turn : {z : List ℕ} {k : ℕ} → i < length l → length z ≡ length y → Appends y next (f (get_or l i 0)) z k → Writing x at l f (i + 1) z k
  writes_turn {z} {k} h e a = record {
    within = omega arith;
    long = e ∙ inv.long;
    so_far =
        appends_same
        (sym (
        ap (λ (j : ℕ). for (take j l) f) (add-one i)
        ∙ ap (λ (t : List ℕ). for t f) (take-suc l i 0 h)
        ∙ for_append (take i l) (get_or l i 0 ∷ []) f
        ∙ ap (λ (t : List ℕ). for (take i l) f ++ t) (for_one (get_or l i 0) f)))
        (appends_both inv.so_far a);
  }

  pub writes_end : length l ≤ i → Appends x at (for l f) y next
  writes_end h = appends_same (ap (λ (t : List ℕ). for t f) (take_all i l h)) inv.so_far

-- bytes one by one
pub for_bytes : (l : List ℕ) → for l (λ b. b ∷ []) ≡ l
unfolding for
for_bytes [] = refl
for_bytes (b ∷ l) = ap (λ (t : List ℕ). b ∷ t) (for_bytes l)
