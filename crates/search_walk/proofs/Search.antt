-- The point of the walk's search, and what a turn makes of it.
use Prim.Native.Nat.{ℕ, zero, suc, ◌+◌, ◌*◌, ◌-◌, ◌≤◌, ◌<◌}
use native.Mathlib.Omega.{arith}
use native.Mathlib.Nat.{mul-le-mul, mul-le-mul_right, eq-or-lt_of_le}
use native.Mathlib.Numerals.{add-one}
use mathlib.Core.Path.{◌≡◌, refl, sym, ap, ap₂, ◌∙◌, subst}
use mathlib.Core.Bool.{Bool, true, false, not, ◌&&◌, and_comm, and-false}
use mathlib.Core.List.{List, [], ◌∷◌, ◌++◌}
use mathlib.Core.Logic.{⊎_elim}
use lib.ListN.{length, get_or, set, take, drop, length-set, take-append-drop}
use lib.Seq.{take-suc, take-take, append_snoc}
use borrow.Author.Tests.{not-true}
use Rattle.base.proofs.Lists.{distinct_entry}
use Rattle.base.specs.Lists.{member, distinct}
use Rattle.base.specs.Lex.{Less}
use Rattle.base.proofs.Bools.{and_parts}
use Rattle.base.proofs.Lex.{less_transitive, less_extension, less_fork}
use Rattle.relation_places.specs.Places.{Placed}
use Rattle.search_sets.specs.Set.{holds}
use Rattle.search_sets.specs.declared.Set.{Set}
use Rattle.search_admit.proofs.WordLaws.{words_length, without_length}
use Rattle.search_admit.specs.Rows.{words_with, replaced_with, words_without, words_after}
use Rattle.search_admit.specs.Fits.{due_of, ready, refused, reads_recorded, enabled, fits_by, Standing, Tested}
use Rattle.search_enabled.specs.Affects.{Affecting}
use Rattle.std.specs.Prelude.{Some, None}
use Rattle.search_walk.specs.Walks.{level_at, stands, enables, opens, low, high, Levels, NextLevel, Remembered, Closed, IsNext, Kept, Walked}
use Rattle.search_walk.specs.declared.Level.{Level}
use Rattle.search_walk.proofs.Gaps.{Gap, closed_front, gap_starts, gap_more, gap_skip, gap_up, gap_last, gap_next}
use Rattle.search_walk.proofs.Levels.{placed_less, one_more, placed_more, remembered_less, remembered_more, levels_less, levels_more}

-- What the walk goes from: the prefix xs of `size` entries, and the sets of its levels.
pub record From (n : ℕ) (rows xs : List ℕ) (size : ℕ) (position : List ℕ) (levels : List Level) : Type 0 where
  pub few : n ≤ 128
  pub room : size < n
  pub start : take size position ≡ xs
  pub levelled : Levels n rows position levels size
  pub whole : length position ≡ 128

-- The invariant: c is the next candidate at level k, and nothing that passes lies between xs and it.
pub record Search (n : ℕ) (rows xs : List ℕ) (size : ℕ) (position places : List ℕ) (levels : List Level) (words replaced : List ℕ) (candidates : Set) (k c left : ℕ) : Type 0 where
  pub from : From n rows xs size position levels
  pub within : k ≤ size
  pub bounded : c ≤ n
  pub turns : k * n + (n - c) ≤ left
  pub open_at : candidates ≡ (level_at levels k).candidates
  pub places_hold : Placed n (take k position) places
  pub long : length places ≡ 128
  pub remembers : Remembered rows position words replaced k
  pub wide : length words ≡ 128
  pub later : Less xs (take k position ++ c ∷ [])
  pub gap : (p : List ℕ → Bool) → Tested p n rows → Closed p → p xs ≡ true → Gap p n xs (take k position ++ c ∷ [])

pub square : (n : ℕ) → n ≤ 128 → n * n ≤ 16384
square n h = mul-le-mul h h

-- what the sets of a level say of a candidate
module _ {n : ℕ} {rows position : List ℕ} {levels : List Level} {size : ℕ} (h : Levels n rows position levels size) {k : ℕ} (within : k ≤ size) where
  standing : Standing (take k position) (low levels k) (high levels k)
  standing a l = h.stood k a within l

  module _ (few : n ≤ 128) (x : ℕ) (l : x < n) where
    -- what is open does not stand
    pub open_new : opens levels k x ≡ true → member (take k position) x ≡ false
    open_new is_open =
        sym (standing x (omega arith))
        ∙ not-true (stands levels k x) (and_parts (not (stands levels k x)) (enabled rows (low levels k) (high levels k) (words_after rows (take k position)) x)
        (sym (h.able k x within l)
        ∙ (and_parts (due_of rows (take k position) (low levels k) (high levels k) x) (enables levels k x) (sym (h.due k x within l) ∙ is_open)).1)).0

  -- an operation keeps a prefix that passes so exactly when it is open and not refused
  pub open_tells : (x : ℕ) → x < n → (p : List ℕ → Bool) → Tested p n rows → p (take k position) ≡ true → {places : List ℕ} → Placed n (take k position) places
      → (not (member (take k position) x) && p (take k position ++ (x ∷ []))) ≡ (opens levels k x && not (refused rows places (low levels k) (high levels k) x))
  unfolding fits_by enabled
  open_tells x l p tested passes {places} placed =
      sym (tested.one_more (take k position) places (low levels k) (high levels k) x passes placed standing l)
      ∙ regroup (due_of rows (take k position) (low levels k) (high levels k) x) (not (stands levels k x)) (ready rows (low levels k) (high levels k) x)
      (not (refused rows places (low levels k) (high levels k) x)) (reads_recorded rows (low levels k) (high levels k) (words_after rows (take k position)) x)
      ∙ ap (λ (b : Bool). b && not (refused rows places (low levels k) (high levels k) x))
      (sym (h.due k x within l ∙ ap (λ (b : Bool). due_of rows (take k position) (low levels k) (high levels k) x && b) (h.able k x within l)))
    where
      regroup : (d s r q w : Bool) → (d && (s && (r && (q && w)))) ≡ ((d && (s && (r && w))) && q)
      regroup true true true q w = and_comm q w
      regroup true true false q w = refl
      regroup true false r q w = refl
      regroup false s r q w = refl

pub search_starts : {n : ℕ} {rows xs : List ℕ} {size : ℕ} {position places : List ℕ} {levels : List Level} {words replaced : List ℕ} {candidates : Set}
    → From n rows xs size position levels → Kept n rows position places levels words replaced size → length places ≡ 128 → length words ≡ 128
    → candidates ≡ (level_at levels size).candidates
    → Search n rows xs size position places levels words replaced candidates size 0 (n * n)
search_starts {n} {rows} {xs} {size} {position} {places} from h l w s = record {
  from = from;
  within = omega arith;
  bounded = omega arith;
  turns = omega (arith, mul-le-mul_right n from.room);
  open_at = s;
  places_hold = h.placed;
  long = l;
  remembers = h.remembered;
  wide = w;
  later = subst (λ (ys : List ℕ). Less xs (ys ++ 0 ∷ [])) (sym from.start) (less_extension xs 0 []);
  gap = λ p tested closed passes. subst (λ (ys : List ℕ). Gap p n xs (ys ++ 0 ∷ [])) (sym from.start) (gap_starts p n xs);
}

module _ {n : ℕ} {rows xs : List ℕ} {size : ℕ} {position places : List ℕ} {levels : List Level} {words replaced : List ℕ} {candidates : Set} {k c left : ℕ}
    (at : Search n rows xs size position places levels words replaced candidates k c left) where
  -- with xs its first k entries pass
  front : (p : List ℕ → Bool) → Closed p → p xs ≡ true → p (take k position) ≡ true
  front p closed passes =
      closed_front p closed (drop k (take size position)) (take k position)
      (ap p (ap (λ (ys : List ℕ). ys ++ drop k (take size position)) (sym (take-take k size position at.within))
      ∙ take-append-drop k (take size position) ∙ at.from.start) ∙ passes)

  -- what is open, by the level
  open_is : (x : ℕ) → holds candidates.lo candidates.hi x ≡ opens levels k x
  open_is x = ap (λ (s : Set). holds s.lo s.hi x) at.open_at

  -- what the tests of a candidate say
  tells : (x : ℕ) → x < n → (p : List ℕ → Bool) → Tested p n rows → Closed p → p xs ≡ true
      → (not (member (take k position) x) && p (take k position ++ (x ∷ []))) ≡ (holds candidates.lo candidates.hi x && not (refused rows places (low levels k) (high levels k) x))
  tells x l p tested closed passes =
      open_tells at.from.levelled at.within x l p tested (front p closed passes) at.places_hold
      ∙ ap (λ (b : Bool). b && not (refused rows places (low levels k) (high levels k) x)) (sym (open_is x))

  -- candidates that are not open are passed by
  pub search_to : (y : ℕ) → c ≤ y → y ≤ n → ((i : ℕ) → c ≤ i → i < y → holds candidates.lo candidates.hi i ≡ false)
      → Search n rows xs size position places levels words replaced candidates k y left
  search_to y l few none = record {
    from = at.from;
    within = at.within;
    bounded = few;
    turns = omega (arith, at.turns);
    open_at = at.open_at;
    places_hold = at.places_hold;
    long = at.long;
    remembers = at.remembers;
    wide = at.wide;
    later = ⊎_elim (λ (e : c ≡ y). subst (λ (i : ℕ). Less xs (take k position ++ i ∷ [])) e at.later)
        (λ (h : c < y). less_transitive xs (take k position ++ c ∷ []) (take k position ++ y ∷ []) at.later (less_fork (take k position) c y [] [] h))
        (eq-or-lt_of_le l);
    gap = λ p tested closed passes.
        gap_skip p n closed xs (take k position) c y l
        (λ i a b. tells i (omega arith) p tested closed passes ∙ ap (λ (u : Bool). u && not (refused rows places (low levels k) (high levels k) i)) (none i a b))
        (at.gap p tested closed passes);
  }

  -- the candidate is refused
  pub search_on : c < n → refused rows places (low levels k) (high levels k) c ≡ true
      → Search n rows xs size position places levels words replaced candidates k (c + 1) (left - 1)
  search_on l is = record {
    from = at.from;
    within = at.within;
    bounded = omega arith;
    turns = omega (arith, at.turns);
    open_at = at.open_at;
    places_hold = at.places_hold;
    long = at.long;
    remembers = at.remembers;
    wide = at.wide;
    later = less_transitive xs (take k position ++ c ∷ []) (take k position ++ (c + 1) ∷ []) at.later
        (less_fork (take k position) c (c + 1) [] [] (omega arith));
    gap = λ p tested closed passes.
        rw add-one (gap_more p n closed xs (take k position) c
        (tells c l p tested closed passes ∙ ap (λ (b : Bool). holds candidates.lo candidates.hi c && not b) is ∙ and-false (holds candidates.lo candidates.hi c)) (at.gap p tested closed passes));
  }

  module _ (j last : ℕ) (level : j + 1 ≡ k) (is : last ≡ get_or position j 0) (whole : length position ≡ 128) where
    shorter : take k position ≡ take j position ++ (last ∷ [])
    shorter =
        ap (λ (i : ℕ). take i position) (sym level ∙ add-one j)
        ∙ take-suc position j 0 (omega (arith, at.within, at.from.few, at.from.room))
        ∙ ap (λ (o : ℕ). take j position ++ (o ∷ [])) (sym is)

    pub last_below : last < n
    last_below = (distinct_entry n (take j position) last [] (subst (λ (ys : List ℕ). distinct n [] ys ≡ true) shorter at.places_hold.different)).0

    -- no candidate is left at this level: the last entry is taken away
    pub search_up : (s : Set) → n ≤ c → s ≡ (level_at levels j).candidates
        → Search n rows xs size position (set places last 255) levels (words_without rows words replaced j last) replaced s j (last + 1) (left - 1)
    search_up s none_left open_at = record {
      from = at.from;
      within = omega (arith, at.within);
      bounded = omega (arith, last_below);
      turns = omega (arith, last_below, subst (λ (i : ℕ). i * n + (n - c) ≤ left) (sym level) at.turns);
      open_at = open_at;
      places_hold = placed_less n (take j position) last places at.long (subst (λ (ys : List ℕ). Placed n ys places) shorter at.places_hold);
      long = length-set places last 255 ∙ at.long;
      remembers = remembered_less at.remembers j last (omega arith) is shorter;
      wide = without_length rows words replaced j last ∙ at.wide;
      later = less_transitive xs (take k position ++ c ∷ []) (take j position ++ (last + 1) ∷ []) at.later
          (subst (λ (ys : List ℕ). Less ys (take j position ++ (last + 1) ∷ [])) (sym (point ∙ append_snoc (take j position) last (n ∷ [])))
          (less_fork (take j position) last (last + 1) (n ∷ []) [] (omega arith)));
      gap = λ p tested closed passes.
          rw add-one (gap_up p n xs (take j position) last (subst (λ (ys : List ℕ). Gap p n xs ys) point (at.gap p tested closed passes)));
    }
      where
        point : take k position ++ c ∷ [] ≡ take j position ++ (last ∷ []) ++ n ∷ []
        point = ap₂ (λ (ys : List ℕ) (o : ℕ). ys ++ o ∷ []) shorter (omega (arith, at.bounded))

  -- no candidate is left at all
  pub search_ends : {position' places' : List ℕ} {levels' : List Level} {words' replaced' : List ℕ} → k ≡ 0 → n ≤ c → Walked n rows xs None position' places' levels' words' replaced'
  search_ends z none_left = record {
    ready = tt;
    means = λ p tested closed passes. gap_last p n xs (subst (λ (ys : List ℕ). Gap p n xs ys) point (at.gap p tested closed passes));
  }
    where
      point : take k position ++ c ∷ [] ≡ n ∷ []
      point = ap₂ (λ (i o : ℕ). take i position ++ o ∷ []) z (omega (arith, at.bounded))

  -- no turn is left
  pub search_spent : {position' places' : List ℕ} {levels' : List Level} {words' replaced' : List ℕ} → left ≡ 0 → Walked n rows xs None position' places' levels' words' replaced'
  search_spent h = search_ends (no_level k (omega (arith, at.turns))) (omega (arith, at.turns))
    where
      no_level : (j : ℕ) → j * n ≡ 0 → j ≡ 0
      no_level zero e = refl
      no_level (suc j) e = absurd (omega (arith, at.from.room))

  -- the candidate is open and not refused
  pub search_found : (affected : List Set) → Affecting n rows affected → length replaced ≡ 256 → c < n → holds candidates.lo candidates.hi c ≡ true
      → refused rows places (low levels k) (high levels k) c ≡ false
      → {position' places' : List ℕ} {levels' : List Level} {words' replaced' : List ℕ} → position' ≡ set position k c → places' ≡ set places c k → words' ≡ words_with rows words c
      → replaced' ≡ replaced_with rows words replaced k c → NextLevel rows affected words' c k levels levels'
      → Walked n rows xs (Some (k + 1)) position' places' levels' words' replaced'
  search_found affected affecting_are full l is_open free {levels' = levels'} d e f g made = rw (d, e, f, g) record {
    ready = (
      omega (arith, at.within, at.from.room),
      length-set position k c ∙ at.from.whole,
      length-set places c k ∙ at.long,
      words_length rows words c ∙ at.wide,
      record {
        placed = stands_placed;
        levelled = levels_more (levels_less at.from.levelled k at.within) affected affecting_are at.from.few c l inside
            (subst (λ (ws : List ℕ). NextLevel rows affected ws c k levels levels') (f ∙ ap (λ (ws : List ℕ). words_with rows ws c) at.remembers.now_are) made);
        remembered = remembered_more at.remembers c at.from.whole full (omega (arith, at.within, at.from.few, at.from.room));
      },
    );
    means = λ p tested closed passes.
        subst (λ (ys : List ℕ). IsNext p n xs ys) (sym (one_more position k c inside))
        (gap_next p n xs (take k position ++ c ∷ []) (
          (and_parts (not (member (take k position) c)) (p (take k position ++ (c ∷ [])))
              (tells c l p tested closed passes ∙ ap₂ (λ (a b : Bool). a && not b) is_open free)).1,
          subst (λ (ys : List ℕ). distinct n [] ys ≡ true) (one_more position k c inside) stands_placed.different,
        )
        at.later (at.gap p tested closed passes));
  }
    where
      inside : k < length position
      inside = omega (arith, at.within, at.from.few, at.from.room, at.from.whole)

      new : member (take k position) c ≡ false
      new = open_new at.from.levelled at.within at.from.few c l (sym (open_is c) ∙ is_open)

      stands_placed : Placed n (take (k + 1) (set position k c)) (set places c k)
      stands_placed = placed_more position k c inside n places at.long at.places_hold l new

-- the same point, by other names
pub search_same : {n : ℕ} {rows xs : List ℕ} {size : ℕ} {position position' places places' : List ℕ} {levels levels' : List Level} {words words' replaced replaced' : List ℕ} {s s' : Set} {k k' c c' left left' : ℕ}
    → Search n rows xs size position places levels words replaced s k c left → position' ≡ position → places' ≡ places → levels' ≡ levels → words' ≡ words → replaced' ≡ replaced
    → k' ≡ k → c' ≡ c → s' ≡ s → left' ≡ left → Search n rows xs size position' places' levels' words' replaced' s' k' c' left'
search_same at o p l w r k c s t = rw (o, p, l, w, r, k, c, s, t) at
