-- A position made again entry by entry: each entry must be open and not refused.
use Prim.Native.Nat.{ℕ, suc, ◌+◌, ◌≤◌, ◌<◌}
use native.Mathlib.Omega.{arith}
use native.Mathlib.Numerals.{add-one}
use mathlib.Core.Path.{◌≡◌, refl, sym, ap, ap₂, ◌∙◌, subst}
use mathlib.Core.Bool.{Bool, true, false, not, cond, ◌&&◌, and-false}
use mathlib.Core.List.{List, [], ◌∷◌, ◌++◌, append-nil}
use lib.ListN.{length, get_or, set, take, drop, replicate, length-set, take-append-drop, drop_of_length-le}
use lib.Seq.{paste, set-get_or, take-suc, take-take, take_all}
use borrow.Author.Tests.{not-true}
use Rattle.base.specs.Lists.{member, distinct}
use Rattle.base.proofs.Bools.{clash, is_false}
use Rattle.base.proofs.Lists.{distinct_first, distinct_entry}
use Rattle.relation_places.proofs.PlaceLaws.{placing_none, placed_none}
use Rattle.search_sets.specs.Set.{holds}
use Rattle.search_sets.proofs.Loops.{holds_none}
use Rattle.search_sets.specs.Tables.{none}
use Rattle.search_sets.specs.declared.Set.{Set}
use Rattle.search_walk.specs.declared.Level.{Level}
use Rattle.search_admit.proofs.WordLaws.{words_length}
use Rattle.search_admit.specs.Rows.{words_with, replaced_with, words_from, words_after, first_words}
use Rattle.search_admit.specs.Fits.{due_of, refused, enabled, Standing, Tested}
use Rattle.search_admit.proofs.FitLaws.{due_first}
use Rattle.search_enabled.specs.Affects.{Affecting}
use Rattle.search_walk.specs.Walks.{level_at, stands, enables, opens, low, high, Levels, NextLevel, Entered, Closed, Kept}
use Rattle.search_walk.proofs.Gaps.{closed_front}
use Rattle.search_walk.proofs.Levels.{placed_more, remembered_more, levels_more}
use Rattle.search_walk.proofs.Search.{open_tells}
use Rattle.search_resume.specs.Replays.{Replayed}
use Rattle.search_resume.specs.Outcomes.{Told}

-- all entries copied
pub pasted_whole : (d s : List ℕ) → length s ≡ 128 → length d ≡ 128 → paste d 0 (drop 0 s) 128 ≡ s
pasted_whole d s long room = ap₂ ◌++◌ (take_all 128 s (omega arith)) (drop_of_length-le d {i = 128} (omega arith)) ∙ append-nil s

-- either of two is as long
pub either_long : (b : Bool) (l m : List ℕ) → length l ≡ 128 → length m ≡ 128 → length (cond b l m) ≡ 128
either_long true l m h k = h
either_long false l m h k = k

-- the sets before any operation
module _ {n : ℕ} (rows : List ℕ) (levels : List Level) (s : Set) (able : (a : ℕ) → a < n → holds s.lo s.hi a ≡ enabled rows 0 0 first_words a) where
  abbrev first : Level
  first = record { standing = none; enabled = s; candidates = s }

  pub levels_none : level_at levels 0 ≡ first → (position : List ℕ) → Levels n rows position levels 0
  unfolding member words_from
  levels_none e position = record {
    stood = λ j a h l. subst (λ (i : ℕ). stands levels i a ≡ member (take i position) a) (let z : 0 ≡ j = omega arith in z) (rw e (holds_none a));
    able = λ j a h l.
        subst (λ (i : ℕ). enables levels i a ≡ (not (stands levels i a) && enabled rows (low levels i) (high levels i) (words_after rows (take i position)) a)) (let z : 0 ≡ j = omega arith in z)
        (subst (λ (f : Level). holds f.enabled.lo f.enabled.hi a ≡ (not (holds f.standing.lo f.standing.hi a) && enabled rows f.standing.lo f.standing.hi first_words a)) (sym e)
        (able a l ∙ ap (λ (b : Bool). not b && enabled rows 0 0 first_words a) (sym (holds_none a))));
    due = λ j a h l.
        subst (λ (i : ℕ). opens levels i a ≡ (due_of rows (take i position) (low levels i) (high levels i) a && enables levels i a)) (let z : 0 ≡ j = omega arith in z)
        (subst (λ (f : Level). holds f.candidates.lo f.candidates.hi a ≡ (due_of rows [] f.standing.lo f.standing.hi a && holds f.enabled.lo f.enabled.hi a)) (sym e)
        (ap (λ (b : Bool). b && holds s.lo s.hi a) (sym (due_first rows 0 0 a))));
  }

-- nothing stands yet
pub kept_none : {n : ℕ} {rows entries : List ℕ} {levels : List Level} {words replaced : List ℕ} → n ≤ 128 → words ≡ first_words → Levels n rows entries levels 0
    → Kept n rows entries (replicate 128 255) levels words replaced 0
unfolding words_from
kept_none {n} {rows} {entries} few w h = record {
  placed = (placing_none {xs = entries} few refl placed_none).so_far;
  levelled = h;
  remembered = record { now_are = w; were = λ j h l. absurd (omega arith) };
}

-- The invariant: the first j entries pass, and all is kept of them.
pub record Replaying (n : ℕ) (rows : List ℕ) (size : ℕ) (given places : List ℕ) (levels : List Level) (words replaced : List ℕ) (j : ℕ) : Type 0 where
  pub few : n ≤ 128
  pub room : size ≤ n
  pub within : j ≤ size
  pub whole : length given ≡ 128
  pub long : length places ≡ 128
  pub wide : length words ≡ 128
  pub different : distinct n [] (take size given) ≡ true
  pub kept : Kept n rows given places levels words replaced j
  pub passes : (c : List ℕ → Bool) → Tested c n rows → Closed c → c [] ≡ true → c (take j given) ≡ true

module _ {n : ℕ} {rows : List ℕ} {size : ℕ} {given places : List ℕ} {levels : List Level} {words replaced : List ℕ} {j : ℕ}
    (inv : Replaying n rows size given places levels words replaced j) where
  module _ (x : ℕ) (below : j < size) (x_is : x ≡ get_or given j 0) where
    inside : j < length given
    inside = omega (arith, inv.few, inv.room, inv.whole)

    one_longer : take (suc j) given ≡ take j given ++ (x ∷ [])
    one_longer = take-suc given j 0 inside ∙ ap (λ (o : ℕ). take j given ++ (o ∷ [])) (sym x_is)

    front : take j given ++ (x ∷ []) ++ drop (suc j) (take size given) ≡ take size given
    front =
        ap (λ (ys : List ℕ). ys ++ drop (suc j) (take size given)) (sym one_longer ∙ sym (take-take (suc j) size given below))
        ∙ take-append-drop (suc j) (take size given)

    x_new : (x < n) × (not (member (take j given) x) ≡ true)
    x_new = distinct_entry n (take j given) x [] (distinct_first n [] (take j given ++ (x ∷ [])) (drop (suc j) (take size given)) (ap (distinct n []) front ∙ inv.different))

    pub entry_low : x < n
    entry_low = x_new.0

    new : member (take j given) x ≡ false
    new = not-true (member (take j given) x) x_new.1

    standing : Standing (take j given) (low levels j) (high levels j)
    standing a l = inv.kept.levelled.stood j a (omega arith) l

    -- the tests say whether the first j + 1 entries pass
    tells : (c : List ℕ → Bool) → Tested c n rows → Closed c → c [] ≡ true
        → c (take j given ++ (x ∷ [])) ≡ (opens levels j x && not (refused rows places (low levels j) (high levels j) x))
    tells c tested closed empty =
        ap (λ (b : Bool). not b && c (take j given ++ (x ∷ []))) (sym new)
        ∙ open_tells inv.kept.levelled (omega arith) x entry_low c tested (inv.passes c tested closed empty) inv.kept.placed

    fails : (opens levels j x && not (refused rows places (low levels j) (high levels j) x)) ≡ false → Replayed n rows size given false places levels words replaced
    fails f = record {
      long = inv.long;
      wide = inv.wide;
      kept = λ t. clash t refl;
      means = λ c tested closed empty. sym (is_false (c (take size given)) (λ t.
          clash (closed_front c closed (drop (suc j) (take size given)) (take j given ++ (x ∷ [])) (ap c front ∙ t)) (tells c tested closed empty ∙ f)));
    }

    module _ {r : Bool} (opened : r ≡ opens levels j x) where
      pub replay_closed : r ≡ false → Replayed n rows size given false places levels words replaced
      replay_closed h = fails (ap (λ (b : Bool). b && not (refused rows places (low levels j) (high levels j) x)) (sym opened ∙ h))

      module _ {affected : List Set} {s : Bool} {places' : List ℕ} {levels' : List Level} {words' replaced' : List ℕ}
          (entered : Entered rows affected x j s places levels words replaced places' levels' words' replaced') where
        pub replay_refused : s ≡ false → Replayed n rows size given false places' levels' words' replaced'
        replay_refused h =
            let (a, b, d, e) = entered.left h in
            rw (a, b, d, e) (fails (ap (λ (q : Bool). opens levels j x && q) (sym entered.told ∙ h) ∙ and-false (opens levels j x)))

        pub replay_more : r ≡ true → s ≡ true → Affecting n rows affected → Replaying n rows size given places' levels' words' replaced' (j + 1)
        replay_more h1 h2 affecting_are = let (e, f, g, made, full) = entered.made h2 in rw (e, f, g) record {
          few = inv.few;
          room = inv.room;
          within = omega arith;
          whole = inv.whole;
          long = length-set places x j ∙ inv.long;
          wide = words_length rows words x ∙ inv.wide;
          different = inv.different;
          kept = subst (λ (xs : List ℕ). Kept n rows xs (set places x j) levels' (words_with rows words x) (replaced_with rows words replaced j x) (j + 1))
              (ap (set given j) x_is ∙ set-get_or given j 0)
              (record {
                placed = placed_more given j x inside n places inv.long inv.kept.placed entry_low new;
                levelled = levels_more inv.kept.levelled affected affecting_are inv.few x entry_low inside
                    (subst (λ (ws : List ℕ). NextLevel rows affected ws x j levels levels') (f ∙ ap (λ (ws : List ℕ). words_with rows ws x) inv.kept.remembered.now_are) made);
                remembered = remembered_more inv.kept.remembered x inv.whole full (omega (arith, inv.few, inv.room));
              });
          passes = λ c tested closed empty.
              ap c (ap (λ (k : ℕ). take k given) (add-one j) ∙ one_longer) ∙ tells c tested closed empty
              ∙ ap₂ (λ (a b : Bool). a && b) (sym opened ∙ h1) (sym entered.told ∙ h2);
        }

-- the answer says whether the entries pass
pub replay_told : {n size : ℕ} {rows entries : List ℕ} {r b : Bool} {places : List ℕ} {levels : List Level} {words replaced : List ℕ}
    → Replayed n rows size entries r places levels words replaced → r ≡ b → Told n rows (take size entries) b
replay_told made e = λ c tested closed empty. sym (made.means c tested closed empty) ∙ e
