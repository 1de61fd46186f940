-- The places, the sets and the words of a position as it grows and shrinks by an entry.
use Prim.Native.Nat.{ℕ, suc, ◌+◌, ◌*◌, ◌≤◌, ◌<◌}
use native.Mathlib.Omega.{arith}
use native.Mathlib.Decide.{ℕ_discrete, dec_lt}
use native.Mathlib.Numerals.{add-one}
use mathlib.Core.Path.{◌≡◌, refl, sym, ap, ap₂, ◌∙◌, subst}
use mathlib.Core.Bool.{Bool, false, not, cond, ◌&&◌, ◌||◌}
use mathlib.Core.List.{List, [], ◌∷◌, ◌++◌}
use lib.ListN.{length, get_or, set, take}
use lib.Seq.{get_or-set_same, get_or-set_other, take-set-le, take-suc-set, length-take-le}
use lib.Dec.{eqb, ltb}
use borrow.Author.Tests.{ne_eqb, not-true}
use Rattle.base.specs.Lists.{member}
use Rattle.base.proofs.Bools.{eqb_swap}
use Rattle.base.proofs.Lists.{member_append, distinct_first, distinct_entry}
use Rattle.relation_places.specs.Places.{place_from, placed, Placed}
use Rattle.relation_places.proofs.PlaceLaws.{place_absent, placed_there, placed_append}
use Rattle.search_sets.specs.Set.{holds}
use Rattle.search_admit.specs.Rows.{written_word, words_written, words_up_to, words_with, replaced_with, words_without, words_from, words_after, first_words}
use Rattle.search_sets.specs.declared.Set.{Set}
use Rattle.search_admit.specs.Fits.{due_of, enabled}
use Rattle.search_admit.proofs.FitLaws.{due_more}
use Rattle.search_admit.proofs.WordLaws.{few_written, kept_there, kept_other, back_again}
use Rattle.search_enabled.specs.Affects.{Affecting}
use Rattle.search_enabled.proofs.Unaffected.{enabled_more}
use Rattle.search_walk.specs.Walks.{level_at, stands, enables, opens, low, high, Levels, NextLevel, Remembered}
use Rattle.search_walk.specs.declared.Level.{Level}

-- the places of the others are as they were
place_other : (k : ℕ) (xs : List ℕ) (x o : ℕ) → (x ≡ o → ⊥) → place_from k (xs ++ (x ∷ [])) o ≡ place_from k xs o
unfolding place_from
place_other k [] x o h = ap (λ (b : Bool). cond b k 255) (ne_eqb x o h)
place_other k (y ∷ xs) x o h = ap (λ (j : ℕ). cond (eqb y o) k j) (place_other (suc k) xs x o h)

-- the last entry is taken away
pub placed_less : (n : ℕ) (xs : List ℕ) (x : ℕ) (places : List ℕ) → length places ≡ 128 → Placed n (xs ++ (x ∷ [])) places → Placed n xs (set places x 255)
unfolding placed
placed_less n xs x places long h = record {
  few = h.few;
  different = distinct_first n [] xs (x ∷ []) h.different;
  stands = λ o. stands o (ℕ_discrete o x);
}
  where
    last : (x < n) × (member xs x ≡ false)
    last = let (a, b) = distinct_entry n xs x [] h.different in (a, not-true (member xs x) b)

    stands : (o : ℕ) → Dec (o ≡ x) → placed (set places x 255) o ≡ place_from 0 xs o
    stands o (yes q) =
        rw q (placed_there (set places x 255) x (omega (arith, last.0, h.few)) ∙ get_or-set_same places x 255 0 (omega (arith, last.0, h.few))
        ∙ sym (place_absent 0 xs x last.1))
    stands o (no q) =
        ap (λ (p : ℕ). cond (ltb o 128) p 255) (get_or-set_other places x o 255 0 q) ∙ h.stands o ∙ place_other 0 xs x o (λ e. q (sym e))

module _ (position : List ℕ) (k x : ℕ) (room : k < length position) where
  -- the position with x at level k
  pub one_more : take (k + 1) (set position k x) ≡ take k position ++ (x ∷ [])
  one_more = ap (λ (j : ℕ). take j (set position k x)) (add-one k) ∙ take-suc-set position k x room

  -- an entry more, that did not stand
  pub placed_more : (n : ℕ) (places : List ℕ) → length places ≡ 128 → Placed n (take k position) places → x < n → member (take k position) x ≡ false
      → Placed n (take (k + 1) (set position k x)) (set places x k)
  placed_more n places long h l new =
      subst (λ (xs : List ℕ). Placed n xs (set places x k)) (sym one_more)
      (subst (λ (j : ℕ). Placed n (take k position ++ (x ∷ [])) (set places x j)) (length-take-le k position (omega arith)) (placed_append h long x l new))

-- the words after one operation more
pub words_more : (rows words xs : List ℕ) (x : ℕ) → words_from rows words (xs ++ (x ∷ [])) ≡ words_with rows (words_from rows words xs) x
unfolding words_from
words_more rows words [] x = refl
words_more rows words (y ∷ xs) x = words_more rows (words_with rows words y) xs x

module _ {rows position words replaced : List ℕ} {k : ℕ} (r : Remembered rows position words replaced k) where
  -- the last entry is taken away
  pub remembered_less : (j last : ℕ) → j < k → last ≡ get_or position j 0 → take k position ≡ take j position ++ (last ∷ [])
      → Remembered rows position (words_without rows words replaced j last) replaced j
  remembered_less j last l is shorter = record {
    now_are =
        ap (λ (ws : List ℕ). words_without rows ws replaced j last)
        (r.now_are ∙ ap (words_after rows) shorter ∙ words_more rows first_words (take j position) last)
        ∙ back_again rows (words_after rows (take j position)) replaced j last (words_written rows last)
        (λ h g. subst (λ (o : ℕ). h < words_written rows o → get_or replaced (2 * j + h) 0 ≡ get_or (words_up_to rows (words_after rows (take j position)) o h) (written_word rows h o) 0) (sym is) (r.were j h l) g);
    were = λ i h g. r.were i h (omega arith);
  }

  -- an entry more
  pub remembered_more : (x : ℕ) → length position ≡ 128 → length replaced ≡ 256 → k < 128
      → Remembered rows (set position k x) (words_with rows words x) (replaced_with rows words replaced k x) (k + 1)
  remembered_more x whole full few = record {
    now_are =
        ap (λ (ws : List ℕ). words_with rows ws x) r.now_are
        ∙ sym (words_more rows first_words (take k position) x)
        ∙ ap (words_after rows) (sym (one_more position k x (omega arith)));
    were = λ j h l g. go j h l g (ℕ_discrete j k);
  }
    where
      Was : ℕ → ℕ → List ℕ → ℕ → Type 0
      Was j h ws o = get_or (replaced_with rows words replaced k x) (2 * j + h) 0 ≡ get_or (words_up_to rows ws o h) (written_word rows h o) 0

      go : (j h : ℕ) → j < k + 1 → h < words_written rows (get_or (set position k x) j 0) → Dec (j ≡ k)
          → Was j h (words_after rows (take j (set position k x))) (get_or (set position k x) j 0)
      go j h l g (yes q) =
          let its : get_or (set position k x) j 0 ≡ x = ap (λ (i : ℕ). get_or (set position k x) i 0) q ∙ get_or-set_same position k x 0 (omega arith) in
          let were : words ≡ words_after rows (take j (set position k x)) =
          r.now_are ∙ ap (words_after rows) (sym (take-set-le k position k x (omega arith))) ∙ ap (λ (i : ℕ). words_after rows (take i (set position k x))) (sym q) in
          subst (λ (o : ℕ). Was j h (words_after rows (take j (set position k x))) o) (sym its)
          (subst (λ (ws : List ℕ). Was j h ws x) were
          (ap (λ (i : ℕ). get_or (replaced_with rows words replaced k x) (2 * i + h) 0) q
          ∙ kept_there rows words replaced k x (words_written rows x) h (omega (arith, few_written rows x)) (subst (λ (o : ℕ). h < words_written rows o) its g)))
      go j h l g (no q) =
          let its : get_or (set position k x) j 0 ≡ get_or position j 0 = get_or-set_other position k j x 0 q in
          let below : h < words_written rows (get_or position j 0) = subst (λ (o : ℕ). h < words_written rows o) its g in
          subst (λ (o : ℕ). Was j h (words_after rows (take j (set position k x))) o) (sym its)
          (subst (λ (xs : List ℕ). Was j h (words_after rows xs) (get_or position j 0)) (sym (take-set-le j position k x (omega arith)))
          (kept_other rows words replaced k x (words_written rows x) (2 * j + h) (omega (arith, below, few_written rows (get_or position j 0))) ∙ r.were j h (omega arith) below))

-- of fewer levels
pub levels_less : {n : ℕ} {rows position : List ℕ} {levels : List Level} {size : ℕ} → Levels n rows position levels size → (k : ℕ) → k ≤ size → Levels n rows position levels k
levels_less h k l = record {
  stood = λ j a i. h.stood j a (omega arith);
  able = λ j a i. h.able j a (omega arith);
  due = λ j a i. h.due j a (omega arith);
}

-- the sets of one level more
module _ {n : ℕ} {rows position : List ℕ} {levels : List Level} {k : ℕ} (was : Levels n rows position levels k) (affected : List Set) (affecting_are : Affecting n rows affected) (few : n ≤ 128) (x : ℕ)
    (low_x : x < n) (room : k < length position) {levels' : List Level} (made : NextLevel rows affected (words_with rows (words_after rows (take k position)) x) x k levels levels') where
  abbrev position' : List ℕ
  position' = set position k x

  -- up to level k all is as it was
  stands_same : (j : ℕ) → j ≤ k → (a : ℕ) → stands levels' j a ≡ stands levels j a
  stands_same j h a = ap (λ (l : Level). holds l.standing.lo l.standing.hi a) (made.below j h)

  enables_same : (j : ℕ) → j ≤ k → (a : ℕ) → enables levels' j a ≡ enables levels j a
  enables_same j h a = ap (λ (l : Level). holds l.enabled.lo l.enabled.hi a) (made.below j h)

  opens_same : (j : ℕ) → j ≤ k → (a : ℕ) → opens levels' j a ≡ opens levels j a
  opens_same j h a = ap (λ (l : Level). holds l.candidates.lo l.candidates.hi a) (made.below j h)

  low_same : (j : ℕ) → j ≤ k → low levels' j ≡ low levels j
  low_same j h = ap (λ (l : Level). l.standing.lo) (made.below j h)

  high_same : (j : ℕ) → j ≤ k → high levels' j ≡ high levels j
  high_same j h = ap (λ (l : Level). l.standing.hi) (made.below j h)

  front_same : (j : ℕ) → j ≤ k → take j position' ≡ take j position
  front_same j h = take-set-le j position k x h

  -- the words behind one entry more
  words_then : words_after rows (take (k + 1) position') ≡ words_with rows (words_after rows (take k position)) x
  words_then = ap (words_after rows) (one_more position k x room) ∙ words_more rows first_words (take k position) x

  pub levels_more : Levels n rows position' levels' (k + 1)
  levels_more = record {
    stood = λ j a h l. stood j a h l (dec_lt k j);
    able = λ j a h l. able j a h l (dec_lt k j);
    due = λ j a h l. due j a h l (dec_lt k j);
  }
    where
      stood : (j a : ℕ) → j ≤ k + 1 → a < 128 → Dec (k < j) → stands levels' j a ≡ member (take j position') a
      stood j a h l (yes g) =
          let e : j ≡ k + 1 = omega arith in
          rw e
          (made.stands_more a
          ∙ ap₂ (λ (p q : Bool). p || q) (was.stood k a (omega arith) l) (eqb_swap a x)
          ∙ sym (member_append (take k position) x a) ∙ ap (λ (xs : List ℕ). member xs a) (sym (one_more position k x room)))
      stood j a h l (no g) = stands_same j (omega arith) a ∙ was.stood j a (omega arith) l ∙ ap (λ (xs : List ℕ). member xs a) (sym (front_same j (omega arith)))

      able : (j a : ℕ) → j ≤ k + 1 → a < n → Dec (k < j)
          → enables levels' j a ≡ (not (stands levels' j a) && enabled rows (low levels' j) (high levels' j) (words_after rows (take j position')) a)
      able j a h l (yes g) =
          let e : j ≡ k + 1 = omega arith in
          rw e
          (made.enables_more a (omega arith)
          ∙ enabled_more rows affected affecting_are (words_after rows (take k position)) (level_at levels k).enabled.lo (level_at levels k).enabled.hi (low levels k) (high levels k) (low levels' (k + 1)) (high levels' (k + 1)) x a low_x l
          made.stands_more (was.able k a (omega arith) l)
          ∙ ap (λ (ws : List ℕ). not (stands levels' (k + 1) a) && enabled rows (low levels' (k + 1)) (high levels' (k + 1)) ws a) (sym words_then))
      able j a h l (no g) =
          let i : j ≤ k = omega arith in
          enables_same j i a ∙ was.able j a i l
          ∙ ap₂ (λ (u v : ℕ). not (holds u v a) && enabled rows u v (words_after rows (take j position)) a) (sym (low_same j i)) (sym (high_same j i))
          ∙ ap (λ (xs : List ℕ). not (stands levels' j a) && enabled rows (low levels' j) (high levels' j) (words_after rows xs) a) (sym (front_same j i))

      due : (j a : ℕ) → j ≤ k + 1 → a < n → Dec (k < j)
          → opens levels' j a ≡ (due_of rows (take j position') (low levels' j) (high levels' j) a && enables levels' j a)
      due j a h l (yes g) =
          let e : j ≡ k + 1 = omega arith in
          rw e
          (made.opens_more a
          ∙ ap (λ (b : Bool). b && enables levels' (k + 1) a)
          (sym (due_more rows (low levels' (k + 1)) (high levels' (k + 1)) a (take k position) x (omega arith))
          ∙ ap (λ (xs : List ℕ). due_of rows xs (low levels' (k + 1)) (high levels' (k + 1)) a) (sym (one_more position k x room))))
      due j a h l (no g) =
          let i : j ≤ k = omega arith in
          opens_same j i a ∙ was.due j a i l
          ∙ ap₂ (λ (u v : ℕ). due_of rows (take j position) u v a && enables levels j a) (sym (low_same j i)) (sym (high_same j i))
          ∙ ap₂ (λ (xs : List ℕ) (b : Bool). due_of rows xs (low levels' j) (high levels' j) a && b) (sym (front_same j i)) (sym (enables_same j i a))
