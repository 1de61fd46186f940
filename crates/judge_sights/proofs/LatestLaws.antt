-- The latest operation before R, found one operation at a time by places.
use Prim.Native.Nat.{ℕ, zero, suc, ◌+◌, ◌-◌, ◌≤◌}
use native.Mathlib.Omega.{arith}
use mathlib.Core.Path.{◌≡◌, refl, sym, ap, ap₂, ◌∙◌}
use mathlib.Core.Bool.{Bool, true, false, not, cond, ◌&&◌, ◌||◌, and-true, and-false, or-true, false≢true}
use mathlib.Core.List.{List, [], ◌∷◌, ◌++◌}
use lib.ListN.{length, drop, length-drop}
use lib.Seq.{drop-drop}
use lib.Dec.{eqb, leb, ltb}
use borrow.Author.Tests.{eq-eqb, eqb-true, lt-ltb, le-ltb, le-leb, lt-leb, leb-true, not-true}
use Rattle.base.specs.Lists.{member, distinct}
use Rattle.base.proofs.Bools.{split, clash, and_parts, and_both, eqb_swap}
use Rattle.base.proofs.Lists.{member_append}
use Rattle.model.specs.Rules.{byte_of, latest}
use Rattle.relation_places.specs.Places.{place_from, placed, Placed}
use Rattle.relation_places.proofs.PlaceLaws.{place_from_lem, place_top, place_absent, placed_short}

-- the entries are different
all_different : List ℕ → Bool
all_different [] = true
all_different (x ∷ xs) = not (member xs x) && all_different xs

-- what has passed does not come again
distinct_fresh : (n : ℕ) (passed xs : List ℕ) (a : ℕ) → distinct n passed xs ≡ true → member passed a ≡ true → member xs a ≡ false
unfolding distinct member
distinct_fresh n passed [] a h m = refl
distinct_fresh n passed (x ∷ xs) a h m =
    let (h1, h2) = and_parts (ltb x n && not (member passed x)) (distinct n (passed ++ (x ∷ [])) xs) h in
    let (h3, h4) = and_parts (ltb x n) (not (member passed x)) h1 in
    split (eqb x a)
    (λ t. clash (ap (member passed) (eqb-true x a t) ∙ m) (not-true (member passed x) h4))
    (λ f. rw f (distinct_fresh n (passed ++ (x ∷ [])) xs a h2 (member_append passed x a ∙ ap (λ (b : Bool). b || eqb x a) m)))

distinct_different : (n : ℕ) (passed xs : List ℕ) → distinct n passed xs ≡ true → all_different xs ≡ true
unfolding distinct all_different
distinct_different n passed [] h = refl
distinct_different n passed (x ∷ xs) h =
    let (h1, h2) = and_parts (ltb x n && not (member passed x)) (distinct n (passed ++ (x ∷ [])) xs) h in
    and_both
    (ap not (distinct_fresh n (passed ++ (x ∷ [])) xs x h2
    (member_append passed x x ∙ ap (λ (b : Bool). member passed x || b) (eq-eqb x x refl) ∙ or-true (member passed x))))
    (distinct_different n (passed ++ (x ∷ [])) xs h2)

different_drop : (k : ℕ) (xs : List ℕ) → all_different xs ≡ true → all_different (drop k xs) ≡ true
unfolding all_different
different_drop zero xs h = h
different_drop (suc k) [] h = refl
different_drop (suc k) (x ∷ xs) h = different_drop k xs (and_parts (not (member xs x)) (all_different xs) h).1

either_way : (b : Bool) (k : ℕ) → cond b k k ≡ k
either_way true k = refl
either_way false k = refl

-- the places of what is left after k entries
place_drop : (j k : ℕ) (xs : List ℕ) (o : ℕ) → all_different xs ≡ true → j + length xs ≤ 255
    → place_from (j + k) (drop k xs) o ≡ cond (leb (j + k) (place_from j xs o)) (place_from j xs o) 255
unfolding place_from all_different
place_drop j zero xs o h l =
    rw (let z : j + 0 ≡ j = omega arith in z, le-leb j (place_from j xs o) (place_from_lem j xs o l))
place_drop j (suc k) [] o h l = sym (either_way (leb (j + suc k) 255) 255)
place_drop j (suc k) (x ∷ xs) o h l =
    let (h1, h2) = and_parts (not (member xs x)) (all_different xs) h in
    ap (λ (n : ℕ). place_from n (drop k xs) o) (let z : j + suc k ≡ suc j + k = omega arith in z)
    ∙ place_drop (suc j) k xs o h2 (omega arith)
    ∙ go (eqb x o) refl (not-true (member xs x) h1)
  where
    go : (b : Bool) → eqb x o ≡ b → member xs x ≡ false
        → cond (leb (suc j + k) (place_from (suc j) xs o)) (place_from (suc j) xs o) 255
        ≡ cond (leb (j + suc k) (cond b j (place_from (suc j) xs o))) (cond b j (place_from (suc j) xs o)) 255
    go true e m =
        rw (place_absent (suc j) xs o (ap (member xs) (sym (eqb-true x o e)) ∙ m), lt-leb (j + suc k) j (omega arith)) (either_way (leb (suc j + k) 255) 255)
    go false e m = ap (λ (n : ℕ). cond (leb n (place_from (suc j) xs o)) (place_from (suc j) xs o) 255) (let z : suc j + k ≡ j + suc k = omega arith in z)

-- nothing gives a byte
pub latest_nothing : (r d : ℕ) (ys : List ℕ) → latest [] r d ys ≡ d
unfolding latest byte_of
latest_nothing r d [] = refl
latest_nothing r d (y ∷ ys) = go (eqb y r) (latest_nothing r d ys)
  where
    go : (b : Bool) → latest [] r d ys ≡ d → cond b d (latest [] r d ys) ≡ d
    go true e = refl
    go false e = e

module _ (ws : List (ℕ × ℕ)) (r o v : ℕ) where
  -- an operation that does not stand gives none
  latest_absent : (d : ℕ) (ys : List ℕ) → member ys o ≡ false → latest ((o, v) ∷ ws) r d ys ≡ latest ws r d ys
  unfolding latest byte_of member
  latest_absent d [] h = refl
  latest_absent d (y ∷ ys) h = go (eqb y o) (eqb_swap y o) h (latest_absent (byte_of ws y d) ys)
    where
      go : (b : Bool) → b ≡ eqb o y → (b || member ys o) ≡ false
          → (member ys o ≡ false → latest ((o, v) ∷ ws) r (byte_of ws y d) ys ≡ latest ws r (byte_of ws y d) ys)
          → cond (eqb y r) d (latest ((o, v) ∷ ws) r (cond (eqb o y) v (byte_of ws y d)) ys) ≡ cond (eqb y r) d (latest ws r (byte_of ws y d) ys)
      go true e m ih = absurd (false≢true (sym m))
      go false e m ih = rw (← e) (ap (cond (eqb y r) d) (ih m))

  -- one that stands before r gives its byte to what comes after it
  latest_one : (k d : ℕ) (ys : List ℕ) → all_different ys ≡ true → k + length ys ≤ 255
      → latest ((o, v) ∷ ws) r d ys
      ≡ cond (ltb (place_from k ys o) (place_from k ys r)) (latest ws r v (drop (suc (place_from k ys o) - k) ys)) (latest ws r d ys)
  unfolding latest byte_of place_from all_different
  latest_one k d [] h l = refl
  latest_one k d (y ∷ ys) h l =
      let (h1, h2) = and_parts (not (member ys y)) (all_different ys) h in
      go (eqb y r) (eqb y o) refl (eqb_swap y o) (not-true (member ys y) h1)
      (latest_one (suc k) (byte_of ws y d) ys h2 (omega arith)) (place_from_lem (suc k) ys o (omega arith)) (place_from_lem (suc k) ys r (omega arith))
    where
      P : ℕ
      P = place_from (suc k) ys o

      Q : ℕ
      Q = place_from (suc k) ys r

      go : (a b : Bool) → eqb y o ≡ b → b ≡ eqb o y → member ys y ≡ false
          → latest ((o, v) ∷ ws) r (byte_of ws y d) ys ≡ cond (ltb P Q) (latest ws r v (drop (suc P - suc k) ys)) (latest ws r (byte_of ws y d) ys)
          → suc k ≤ P → suc k ≤ Q
          → cond a d (latest ((o, v) ∷ ws) r (cond (eqb o y) v (byte_of ws y d)) ys)
          ≡ cond (ltb (cond b k P) (cond a k Q)) (latest ws r v (drop (suc (cond b k P) - k) (y ∷ ys))) (cond a d (latest ws r (byte_of ws y d) ys))
      go true true e f m ih p q = rw (le-ltb k k (omega arith))
      go true false e f m ih p q = rw (le-ltb P k (omega arith))
      go false true e f m ih p q =
          rw (← f, lt-ltb k Q q, let z : suc k - k ≡ 1 = omega arith in z)
          (latest_absent v ys (ap (member ys) (sym (eqb-true y o e)) ∙ m))
      go false false e f m ih p q =
          rw (← f) (ih ∙ ap (λ (j : ℕ). cond (ltb P Q) (latest ws r v (drop j (y ∷ ys))) (latest ws r (byte_of ws y d) ys)) (let z : suc (suc P - suc k) ≡ suc P - k = omega arith in z))

module _ {n : ℕ} {xs places : List ℕ} (h : Placed n xs places) where
  -- a place is at most 255
  placed_top : (o : ℕ) → placed places o ≤ 255
  placed_top o = omega (arith, h.stands o, place_top 0 xs o (omega (arith, placed_short h)))

  -- the places of what is left after `next` entries
  left : (next o : ℕ) → place_from next (drop next xs) o ≡ cond (leb next (placed places o)) (placed places o) 255
  left next o =
      ap (λ (k : ℕ). place_from k (drop next xs) o) (let z : next ≡ 0 + next = omega arith in z)
      ∙ place_drop 0 next xs o (distinct_different n [] xs h.different) (omega (arith, placed_short h))
      ∙ ap₂ (λ (k p : ℕ). cond (leb k p) p 255) (let z : 0 + next ≡ next = omega arith in z) (sym (h.stands o))

  -- of what is left after `next` entries, one operation more
  pub latest_more : (ws : List (ℕ × ℕ)) (r o v d next : ℕ) → next ≤ placed places r
      → latest ((o, v) ∷ ws) r d (drop next xs)
      ≡ cond (ltb (placed places o) (placed places r) && leb next (placed places o)) (latest ws r v (drop (placed places o + 1) xs)) (latest ws r d (drop next xs))
  latest_more ws r o v d next l =
      latest_one ws r o v next d (drop next xs) (different_drop next xs (distinct_different n [] xs h.different))
      (omega (arith, length-drop next xs, placed_short h, placed_top r))
      ∙ rw (left next r, left next o, le-leb next (placed places r) l) (go (leb next (placed places o)) refl)
    where
      go : (b : Bool) → leb next (placed places o) ≡ b
          → cond (ltb (cond b (placed places o) 255) (placed places r)) (latest ws r v (drop (suc (cond b (placed places o) 255) - next) (drop next xs))) (latest ws r d (drop next xs))
          ≡ cond (ltb (placed places o) (placed places r) && b) (latest ws r v (drop (placed places o + 1) xs)) (latest ws r d (drop next xs))
      go true e =
          rw (and-true (ltb (placed places o) (placed places r)), drop-drop (suc (placed places o) - next) next xs, let z : next + (suc (placed places o) - next) ≡ placed places o + 1 = omega (arith, leb-true next (placed places o) e) in z)
      go false e = rw (and-false (ltb (placed places o) (placed places r)), le-ltb 255 (placed places r) (placed_top r))
