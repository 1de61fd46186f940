-- Places say which operation stands before which; one operation more.
use Prim.Native.Nat.{ℕ, suc, ◌+◌, ◌≤◌, ◌<◌}
use native.Mathlib.Omega.{arith}
use native.Mathlib.Decide.{ℕ_discrete, dec_lt}
use native.Mathlib.Numerals.{add-one}
use mathlib.Core.Path.{◌≡◌, refl, sym, ap, ap₂, ◌∙◌, subst}
use mathlib.Core.Bool.{Bool, true, false, not, cond, ◌&&◌, ◌||◌, and-false, false≢true}
use mathlib.Core.List.{List, [], ◌∷◌, ◌++◌}
use lib.ListN.{length, get_or, set, take, drop, length-set, length-append, take-append-drop, replicate, get_or-replicate}
use lib.Seq.{get_or-set_same, get_or-set_other, take-suc, take_all, length-take-le, take-append_seam, get_or-append_seam}
use lib.Dec.{eqb, ltb}
use borrow.Author.Tests.{eq-eqb, ne_eqb, eqb-true, lt-ltb, le-ltb, ltb-false}
use Rattle.base.specs.Lists.{member, distinct}
use Rattle.base.proofs.Bools.{split, and_both, is_false}
use Rattle.base.proofs.Lists.{distinct_append, distinct_length, distinct_first}
use Rattle.model.specs.Rules.{before}
use Rattle.relation_places.specs.Places.{place_from, placed, Placed}

-- places counted from k are not below k
pub place_from_lem : (k : ℕ) (xs : List ℕ) (o : ℕ) → k + length xs ≤ 255 → k ≤ place_from k xs o
unfolding place_from
place_from_lem k [] o h = omega arith
place_from_lem k (x ∷ xs) o h = go (eqb x o) (place_from_lem (suc k) xs o (omega arith))
  where
    go : (b : Bool) → suc k ≤ place_from (suc k) xs o → k ≤ cond b k (place_from (suc k) xs o)
    go true l = omega arith
    go false l = omega arith

pub place_top : (k : ℕ) (xs : List ℕ) (o : ℕ) → k + length xs ≤ 255 → place_from k xs o ≤ 255
unfolding place_from
place_top k [] o h = omega arith
place_top k (x ∷ xs) o h = go (eqb x o) (place_top (suc k) xs o (omega arith))
  where
    go : (b : Bool) → place_from (suc k) xs o ≤ 255 → cond b k (place_from (suc k) xs o) ≤ 255
    go true l = omega arith
    go false l = l

-- an operation that does not stand has no place
pub place_absent : (k : ℕ) (xs : List ℕ) (o : ℕ) → member xs o ≡ false → place_from k xs o ≡ 255
unfolding place_from member
place_absent k [] o h = refl
place_absent k (x ∷ xs) o h = go (eqb x o) h (place_absent (suc k) xs o)
  where
    go : (b : Bool) → (b || member xs o) ≡ false → (member xs o ≡ false → place_from (suc k) xs o ≡ 255) → cond b k (place_from (suc k) xs o) ≡ 255
    go true m ih = absurd (false≢true (sym m))
    go false m ih = ih m

before_from : (k : ℕ) (xs : List ℕ) (a b : ℕ) → k + length xs ≤ 255 → before xs a b ≡ ltb (place_from k xs a) (place_from k xs b)
unfolding before place_from
before_from k [] a b h = refl
before_from k (x ∷ xs) a b h =
    go (eqb x b) (eqb x a) (before_from (suc k) xs a b (omega arith)) (place_from_lem (suc k) xs a (omega arith)) (place_from_lem (suc k) xs b (omega arith))
  where
    go : (p q : Bool) → before xs a b ≡ ltb (place_from (suc k) xs a) (place_from (suc k) xs b) → suc k ≤ place_from (suc k) xs a → suc k ≤ place_from (suc k) xs b
        → (not p && (q || before xs a b)) ≡ ltb (cond q k (place_from (suc k) xs a)) (cond p k (place_from (suc k) xs b))
    go true true e l m = sym (le-ltb k k (omega arith))
    go true false e l m = sym (le-ltb (place_from (suc k) xs a) k (omega arith))
    go false true e l m = sym (lt-ltb k (place_from (suc k) xs b) (omega arith))
    go false false e l m = e

member_from : (k : ℕ) (xs : List ℕ) (o : ℕ) → k + length xs ≤ 255 → member xs o ≡ ltb (place_from k xs o) 255
unfolding member place_from
member_from k [] o h = refl
member_from k (x ∷ xs) o h = go (eqb x o) (member_from (suc k) xs o (omega arith))
  where
    go : (b : Bool) → member xs o ≡ ltb (place_from (suc k) xs o) 255 → (b || member xs o) ≡ ltb (cond b k (place_from (suc k) xs o)) 255
    go true e = sym (lt-ltb k 255 (omega arith))
    go false e = e

-- the table at an operation that it has room for
pub placed_there : (places : List ℕ) (o : ℕ) → o < 128 → placed places o ≡ get_or places o 0
unfolding placed
placed_there places o h = ap (λ (b : Bool). cond b (get_or places o 0) 255) (lt-ltb o 128 h)

pub placed_past : (places : List ℕ) (o : ℕ) → 128 ≤ o → placed places o ≡ 255
unfolding placed
placed_past places o h = ap (λ (b : Bool). cond b (get_or places o 0) 255) (le-ltb o 128 h)

-- the table in which nothing stands
pub placed_none : (o : ℕ) → placed (replicate 128 255) o ≡ 255
placed_none o = go (dec_lt o 128)
  where
    go : Dec (o < 128) → placed (replicate 128 255) o ≡ 255
    go (yes h) = placed_there (replicate 128 255) o h ∙ get_or-replicate 128 o 255 0 h
    go (no h) = placed_past (replicate 128 255) o (omega arith)

module _ {n : ℕ} {xs places : List ℕ} (h : Placed n xs places) where
  pub placed_short : length xs ≤ 128
  placed_short = omega (arith, h.few, distinct_length n xs h.different)

  pub before_placed : (a b : ℕ) → before xs a b ≡ ltb (placed places a) (placed places b)
  before_placed a b = before_from 0 xs a b (omega (arith, placed_short)) ∙ sym (ap₂ ltb (h.stands a) (h.stands b))

  pub member_placed : (o : ℕ) → member xs o ≡ ltb (placed places o) 255
  member_placed o = member_from 0 xs o (omega (arith, placed_short)) ∙ sym (ap (λ (p : ℕ). ltb p 255) (h.stands o))

-- one operation more, that did not stand
place_more : (k : ℕ) (xs : List ℕ) (x o : ℕ) → member xs x ≡ false → place_from k (xs ++ (x ∷ [])) o ≡ cond (eqb x o) (k + length xs) (place_from k xs o)
unfolding place_from member
place_more k [] x o h = ap (λ (j : ℕ). cond (eqb x o) j 255) (let z : k ≡ k + 0 = omega arith in z)
place_more k (y ∷ xs) x o h = go (eqb y x) refl h (place_more (suc k) xs x o)
  where
    go : (b : Bool) → eqb y x ≡ b → (b || member xs x) ≡ false
        → (member xs x ≡ false → place_from (suc k) (xs ++ (x ∷ [])) o ≡ cond (eqb x o) (suc k + length xs) (place_from (suc k) xs o))
        → cond (eqb y o) k (place_from (suc k) (xs ++ (x ∷ [])) o) ≡ cond (eqb x o) (k + suc (length xs)) (cond (eqb y o) k (place_from (suc k) xs o))
    go true e m ih = absurd (false≢true (sym m))
    go false e m ih = rw (ih m) (other (eqb y o) (eqb x o) refl refl)
      where
        other : (p q : Bool) → eqb y o ≡ p → eqb x o ≡ q
            → cond p k (cond q (suc k + length xs) (place_from (suc k) xs o)) ≡ cond q (k + suc (length xs)) (cond p k (place_from (suc k) xs o))
        other true true f g = absurd (false≢true (sym e ∙ eq-eqb y x (eqb-true y o f ∙ sym (eqb-true x o g))))
        other true false f g = refl
        other false true f g = omega arith
        other false false f g = refl

-- The invariant: the first k entries are different operations below n, and the table holds their places.
pub record Placing_so_far (n : ℕ) (xs : List ℕ) (k : ℕ) (places : List ℕ) : Type 0 where
  pub within : k ≤ length xs
  pub long : length places ≡ 128
  pub so_far : Placed n (take k xs) places

pub placing_none : {n : ℕ} {xs places : List ℕ} → n ≤ 128 → length places ≡ 128 → ((o : ℕ) → placed places o ≡ 255) → Placing_so_far n xs 0 places
unfolding distinct place_from
placing_none {n} {xs} {places} f l h = record { within = omega arith; long = l; so_far = record { few = f; different = refl; stands = h } }

pub placing_short : {n k : ℕ} {xs places : List ℕ} → Placing_so_far n xs k places → k ≤ n
placing_short {n} {k} {xs} inv = omega (arith, distinct_length n (take k xs) inv.so_far.different, length-take-le k xs inv.within)

module _ {n : ℕ} {xs : List ℕ} {k : ℕ} {places : List ℕ} (inv : Placing_so_far n xs k places) (there : k < length xs) (x : ℕ) (is : x ≡ get_or xs k 0) where
  one_more : take (k + 1) xs ≡ take k xs ++ (x ∷ [])
  one_more = ap (λ (j : ℕ). take j xs) (add-one k) ∙ take-suc xs k 0 there ∙ ap (λ (o : ℕ). take k xs ++ (o ∷ [])) (sym is)

  different_more : distinct n [] (take (k + 1) xs) ≡ (ltb x n && not (ltb (placed places x) 255))
  different_more =
      ap (distinct n []) one_more ∙ distinct_append n [] (take k xs) x
      ∙ ap₂ (λ (s t : Bool). s && (ltb x n && not t)) inv.so_far.different (member_placed inv.so_far x)

  -- the next entry is an operation below n that does not stand yet
  pub placing_more : x < n → placed places x ≡ 255 → Placing_so_far n xs (k + 1) (set places x k)
  unfolding placed
  placing_more h e = record {
    within = omega arith;
    long = length-set places x k ∙ inv.long;
    so_far = record { few = inv.so_far.few; different = different; stands = λ o. stands o (ℕ_discrete o x) };
  }
    where
      new : ltb (placed places x) 255 ≡ false
      new = le-ltb (placed places x) 255 (omega (arith, e))

      different : distinct n [] (take (k + 1) xs) ≡ true
      different = different_more ∙ and_both (lt-ltb x n h) (ap not new)

      absent : member (take k xs) x ≡ false
      absent = member_placed inv.so_far x ∙ new

      more : (o : ℕ) → place_from 0 (take (k + 1) xs) o ≡ cond (eqb x o) k (place_from 0 (take k xs) o)
      more o =
          ap (λ (l : List ℕ). place_from 0 l o) one_more ∙ place_more 0 (take k xs) x o absent
          ∙ ap (λ (j : ℕ). cond (eqb x o) j (place_from 0 (take k xs) o)) (omega (arith, length-take-le k xs inv.within))

      stands : (o : ℕ) → Dec (o ≡ x) → placed (set places x k) o ≡ place_from 0 (take (k + 1) xs) o
      stands o (yes q) =
          rw q (placed_there (set places x k) x (omega arith) ∙ get_or-set_same places x k 0 (omega (arith, inv.long))
          ∙ sym (more x ∙ ap (λ (b : Bool). cond b k (place_from 0 (take k xs) x)) (eq-eqb x x refl)))
      stands o (no q) =
          ap (λ (p : ℕ). cond (ltb o 128) p 255) (get_or-set_other places x o k 0 q) ∙ inv.so_far.stands o
          ∙ sym (more o ∙ ap (λ (b : Bool). cond b k (place_from 0 (take k xs) o)) (ne_eqb x o (λ z. q (sym z))))

  -- the first k + 1 entries decide
  fails : distinct n [] (take (k + 1) xs) ≡ false → distinct n [] xs ≡ false
  fails h =
      is_false (distinct n [] xs) (λ t. false≢true (sym h
      ∙ distinct_first n [] (take (k + 1) xs) (drop (k + 1) xs) (ap (distinct n []) (take-append-drop (k + 1) xs) ∙ t)))

  -- it is not below n
  pub placing_large : n ≤ x → distinct n [] xs ≡ false
  placing_large h = fails (different_more ∙ ap (λ (b : Bool). b && not (ltb (placed places x) 255)) (le-ltb x n h))

  -- it stands already
  pub placing_twice : (placed places x ≡ 255 → ⊥) → distinct n [] xs ≡ false
  placing_twice h = fails (different_more ∙ ap (λ (b : Bool). ltb x n && not b) stood ∙ and-false (ltb x n))
    where
      stood : ltb (placed places x) 255 ≡ true
      stood = split (ltb (placed places x) 255) (λ t. t)
          (λ f. absurd (h (at_most x (inv.so_far.stands x) (ltb-false (placed places x) 255 f))))
        where
          at_most : (o : ℕ) → placed places o ≡ place_from 0 (take k xs) o → 255 ≤ placed places o → placed places o ≡ 255
          at_most o e l = omega (arith, e, place_top 0 (take k xs) o (omega (arith, placed_short inv.so_far)))

-- all entries are placed
pub placing_done : {n k : ℕ} {xs places : List ℕ} → Placing_so_far n xs k places → length xs ≤ k → Placed n xs places
placing_done {n} {k} {xs} {places} inv h = subst (λ (l : List ℕ). Placed n l places) (take_all k xs h) inv.so_far

module _ {n : ℕ} {xs places : List ℕ} (h : Placed n xs places) where
  -- an operation that does not stand has no place
  pub placed_absent : (x : ℕ) → member xs x ≡ false → placed places x ≡ 255
  placed_absent x new =
      omega (
        arith,
        ltb-false (placed places x) 255 (sym (member_placed h x) ∙ new),
        h.stands x,
        place_top 0 xs x (omega (arith, placed_short h)),
      )

  -- an operation more, that did not stand
  pub placed_append : length places ≡ 128 → (x : ℕ) → x < n → member xs x ≡ false → Placed n (xs ++ (x ∷ [])) (set places x (length xs))
  placed_append long x low new =
      subst (λ (l : List ℕ). Placed n l (set places x (length xs))) (take_all (length xs + 1) (xs ++ (x ∷ [])) (omega (arith, length-append xs (x ∷ []))))
      (placing_more {xs = xs ++ (x ∷ [])} {k = length xs}
      (record {
        within = omega (arith, length-append xs (x ∷ []));
        long = long;
        so_far = subst (λ (l : List ℕ). Placed n l places) (sym (take-append_seam xs (x ∷ []))) h;
      }) (omega (arith, length-append xs (x ∷ []))) x (sym (get_or-append_seam xs x [] 0)) low (placed_absent x new)).so_far
