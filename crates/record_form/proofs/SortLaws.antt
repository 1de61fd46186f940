-- A number put among sorted ones.
use Prim.Native.Nat.{ℕ, suc, ◌+◌, ◌-◌, ◌≤◌, ◌<◌}
use native.Mathlib.Numerals.{add-one}
use native.Mathlib.Decide.{dec_lt}
use native.Mathlib.Omega.{arith}
use mathlib.Core.Path.{◌≡◌, refl, sym, ap, ap₂, ◌∙◌, subst}
use mathlib.Core.Bool.{Bool, true, false, cond}
use mathlib.Core.List.{List, [], ◌∷◌, ◌++◌, append_assoc, Memᴰ}
use lib.ListN.{length, get_or, take, drop, set, length-drop, take-append-drop, drop_of_length-le}
use lib.Seq.{length-take-le, take-suc, take-take, take-add, take-set-lt, drop-cons, drop_at, set_at, paste, take-paste, get_or-take}
use Rattle.base.specs.Orders.{insert, sorted}
use Rattle.base.proofs.Lists.{getD_member}
use Rattle.base.proofs.Orders.{sorted_below}
use Rattle.record_form.specs.Sorting.{place_for}

-- An element at a place among the first n

pub put_among : (l : List ℕ) (n at x : ℕ) → n < length l → at ≤ n
    → take (n + 1) (set (paste l (at + 1) (drop at l) (n - at)) at x) ≡ take at (take n l) ++ (x ∷ drop at (take n l))
put_among l n at x long low =
    let shifted = paste l (at + 1) (drop at l) (n - at) in
    take-set-lt (n + 1) shifted at x (omega arith)
    ∙ ap (λ (t : List ℕ). set t at x)
    (ap (λ (k : ℕ). take k shifted) (let z : n + 1 ≡ at + 1 + (n - at) = omega arith in z)
    ∙ take-paste l (at + 1) (drop at l) (n - at) (omega arith) (omega (arith, length-drop at l))
    ∙ ap (λ (t : List ℕ). t ++ rest) (ap (λ (k : ℕ). take k l) (add-one at) ∙ take-suc l at 0 (omega arith))
    ∙ append_assoc (take at l) (get_or l at 0 ∷ []) rest)
    ∙ set_at (take at l) (get_or l at 0) rest x at (length-take-le at l (omega arith))
    ∙ ap₂ (λ (s t : List ℕ). s ++ (x ∷ t)) (sym (take-take at n l low)) (sym dropped)
  where
    rest : List ℕ
    rest = take (n - at) (drop at l)

    dropped : drop at (take n l) ≡ rest
    dropped =
        ap (drop at) (ap (λ (k : ℕ). take k l) (let z : n ≡ at + (n - at) = omega arith in z) ∙ take-add at (n - at) l)
        ∙ drop_at (take at l) rest at (length-take-le at l (omega arith))

-- The place of a number

module _ (less : ℕ → ℕ → Bool) where
  -- insertion is at the place
  pub insert_at : (x : ℕ) (l : List ℕ) → insert less x l ≡ take (place_for less x l) l ++ (x ∷ drop (place_for less x l) l)
  unfolding insert place_for
  insert_at x [] = refl
  insert_at x (y ∷ l) = go (less x y) (insert_at x l)
    where
      go : (b : Bool) → insert less x l ≡ take (place_for less x l) l ++ (x ∷ drop (place_for less x l) l)
          → cond b (x ∷ y ∷ l) (y ∷ insert less x l) ≡ take (cond b 0 (suc (place_for less x l))) (y ∷ l) ++ (x ∷ drop (cond b 0 (suc (place_for less x l))) (y ∷ l))
      go true h = refl
      go false h = ap (λ (t : List ℕ). y ∷ t) h

  -- it lies behind all that x is not less than
  pub place_behind : (x : ℕ) (s t : List ℕ) → ((i : ℕ) → i < length s → less x (get_or s i 0) ≡ false) → place_for less x (s ++ t) ≡ length s + place_for less x t
  unfolding place_for
  place_behind x [] t h = omega arith
  place_behind x (y ∷ s) t h = rw (h 0 (omega arith)) (omega (arith, place_behind x s t (λ i l. h (suc i) (omega arith))))

  pub place_here : (x y : ℕ) (t : List ℕ) → less x y ≡ true → place_for less x (y ∷ t) ≡ 0
  unfolding place_for
  place_here x y t h = rw h

-- The invariant: x is less than none of the first j.
pub record NotLess (less : ℕ → ℕ → Bool) (x : ℕ) (l : List ℕ) (n j : ℕ) : Type 0 where
  pub within : j ≤ n
  pub passed : (i : ℕ) → i < j → less x (get_or l i 0) ≡ false

pub none_passed : {less : ℕ → ℕ → Bool} {x : ℕ} {l : List ℕ} {n : ℕ} → NotLess less x l n 0
none_passed = record { within = omega arith; passed = λ i h. absurd (omega arith) }

module _ {less : ℕ → ℕ → Bool} {x : ℕ} {l : List ℕ} {n j : ℕ} (inv : NotLess less x l n j) where
  pub one_passed : {r : Bool} → j < n → r ≡ less x (get_or l j 0) → r ≡ false → NotLess less x l n (j + 1)
  one_passed {r} h e f = record { within = omega arith; passed = λ i k. go i k (dec_lt i j) }
    where
      go : (i : ℕ) → i < j + 1 → Dec (i < j) → less x (get_or l i 0) ≡ false
      go i k (yes m) = inv.passed i m
      go i k (no m) = ap (λ (q : ℕ). less x (get_or l q 0)) (let z : i ≡ j = omega arith in z) ∙ sym e ∙ f

  passed_front : j ≤ length l → place_for less x (take j l ++ drop j (take n l)) ≡ j + place_for less x (drop j (take n l))
  passed_front h =
      let long = length-take-le j l h in
      place_behind less x (take j l) (drop j (take n l)) (λ i k. ap (less x) (get_or-take j l i 0 (omega arith)) ∙ inv.passed i (omega arith))
      ∙ ap (λ (k : ℕ). k + place_for less x (drop j (take n l))) long

  split_place : j ≤ length l → place_for less x (take n l) ≡ j + place_for less x (drop j (take n l))
  split_place h =
      ap (place_for less x) (sym (take-append-drop j (take n l)) ∙ ap (λ (t : List ℕ). t ++ drop j (take n l)) (take-take j n l inv.within))
      ∙ passed_front h

  -- x is less than the next
  pub place_found : {r : Bool} → n ≤ length l → j < n → r ≡ less x (get_or l j 0) → r ≡ true → j ≡ place_for less x (take n l)
  place_found {r} few h e t =
      let there = drop-cons (take n l) j 0 (omega (arith, length-take-le n l few)) in
      let here = place_here less x (get_or (take n l) j 0) (drop (suc j) (take n l)) (ap (less x) (get_or-take n l j 0 h) ∙ sym e ∙ t) in
      omega (arith, split_place (omega arith), ap (place_for less x) there, here)

  -- x is less than none
  pub place_last : n ≤ length l → n ≤ j → n ≡ place_for less x (take n l)
  unfolding place_for
  place_last few h =
      let none = drop_of_length-le (take n l) {i = j} (omega (arith, length-take-le n l few)) in
      omega (arith, split_place (omega (arith, inv.within)), ap (place_for less x) none, inv.within)

-- The invariant: the first n processors are sorted.
pub record SortedSoFar (less : ℕ → ℕ → Bool) (processors n : ℕ) (l : List ℕ) : Type 0 where
  pub turns : n ≤ processors
  pub long : length l ≡ 8
  pub made : take n l ≡ sorted less n

pub sorted_none : {less : ℕ → ℕ → Bool} {processors : ℕ} {l : List ℕ} → length l ≡ 8 → SortedSoFar less processors 0 l
unfolding sorted
sorted_none h = record { turns = omega arith; long = h; made = refl }

module _ {less : ℕ → ℕ → Bool} {processors n : ℕ} {l : List ℕ} (inv : SortedSoFar less processors n l) where
  -- each entry is a processor
  pub sorted_low : processors ≤ 8 → (j : ℕ) → j < n → get_or l j 0 < processors
  sorted_low few j h =
      let there = getD_member (take n l) j 0 (omega (arith, length-take-le n l (omega (arith, inv.turns, inv.long)))) in
      let member = subst (λ (t : List ℕ). Memᴰ (get_or (take n l) j 0) t) inv.made there in
      omega (arith, sorted_below less n member, get_or-take n l j 0 h, inv.turns)

  pub sorted_more : {at : ℕ} {after : List ℕ} → n < processors → at ≡ place_for less n (take n l) → take (n + 1) after ≡ take at (take n l) ++ (n ∷ drop at (take n l))
      → length after ≡ 8 → SortedSoFar less processors (n + 1) after
  unfolding sorted
  sorted_more {at} {after} h place made long = record {
    turns = omega arith;
    long = long;
    made =
        made ∙ ap (λ (k : ℕ). take k (take n l) ++ (n ∷ drop k (take n l))) place ∙ sym (insert_at less n (take n l)) ∙ ap (insert less n) inv.made
        ∙ ap (sorted less) (sym (add-one n));
  }

  pub sorted_all : processors ≤ n → take processors l ≡ sorted less processors
  sorted_all h = let z : processors ≡ n = omega (arith, inv.turns) in ap (λ (k : ℕ). take k l) z ∙ inv.made ∙ ap (sorted less) (sym z)
