-- Rules 11, 14 and 16, loads: the byte that a load reads behind a prefix, no UC bypass, and semaphores.
use Prim.Native.Nat.{ℕ}
use mathlib.Core.Path.{◌≡◌, refl, sym, ap, ◌∙◌}
use mathlib.Core.Bool.{Bool, true, false, not, cond, ◌&&◌, ◌||◌, and-false, false≢true}
use mathlib.Core.List.Memᴰ
use mathlib.Core.List.{List, [], ◌∷◌, map, Memᴰ}
use lib.Dec.{eqb}
use borrow.Author.Tests.{eq-eqb, eqb-true, ne_eqb, not-true}
use Rattle.base.specs.Lists.{any, keep, when, member}
use Rattle.base.proofs.Bools.{split, clash, and_left}
use Rattle.base.proofs.Lists.{any_same, any_and, any_when, any_one, any_for, any_map, of_keep}
use Rattle.model.specs.Execution.{Execution, Instruction, LV, R, RV, number_of, stores, loads, semaphores}
use Rattle.model.specs.Rules.{before, overlap, addresses, accesses, in_UC, Writer, Sight, never, sees, RV_own, sight_of, rule11, rule14, rule16, byte_of, latest, local, byte_read, broken}
use Rattle.model.proofs.Before.{before_absent, before_not, then}
use Rattle.model.specs.Accepted.{Accepted}
use Rattle.search_reduction.specs.Admits.{last_byte, missing, lost, bypass_demands, semaphore_demands, sights, byte_now, unseen}
use Rattle.search_reduction.proofs.Pairs.{pairs_same}
use Rattle.search_reduction.proofs.Newly.{newly_broken, newly_broken_lem}
use Rattle.model.proofs.Ownership.{semaphore_store, R_differ, RV_differ, store_processor, load_processor}

module _ (x : ℕ) where
  -- the latest before x is the last
  latest_last : (ws : List (ℕ × ℕ)) (d : ℕ) (xs : List ℕ) → member xs x ≡ false → latest ws x d (then xs x) ≡ last_byte ws d xs
  unfolding latest last_byte member
  latest_last ws d [] h = rw (eq-eqb x x refl)
  latest_last ws d (y ∷ ys) h = go (eqb y x) (latest_last ws (byte_of ws y d) ys) h
    where
      go : (p : Bool) → (member ys x ≡ false → latest ws x (byte_of ws y d) (then ys x) ≡ last_byte ws (byte_of ws y d) ys)
          → (p || member ys x) ≡ false → cond p d (latest ws x (byte_of ws y d) (then ys x)) ≡ last_byte ws (byte_of ws y d) ys
      go true ih k = absurd (false≢true (sym k))
      go false ih k = ih k

module _ (e : Execution) (xs : List ℕ) (x : ℕ) (new : member xs x ≡ false) where
  -- an operation before x, and x before another
  around : (a b : ℕ) → eqb x b ≡ false → (before (then xs x) a x && before (then xs x) x b) ≡ (member xs a && missing e x xs b)
  unfolding broken newly_broken
  around a b n =
      newly_broken_lem xs x new (never a x b) (rw (before_not xs x b new) (and-false (before xs a x))) ∙ rw (eq-eqb x x refl, n)

  -- the byte that x reads, where x is no RV of the stores to it
  byte_then : (s : Sight) → x ≡ s.reads → ((w : Writer) → Memᴰ w s.writers → eqb x w.rv ≡ false) → byte_read (then xs x) s ≡ byte_now e x xs s
  unfolding byte_read local byte_now
  byte_then s at no_rv =
      rw (
        ← at,
        any_same
            (λ w. w.own && (before (then xs x) w.lv x && before (then xs x) x w.rv))
            (λ w. w.own && (member xs w.lv && missing e x xs w.rv))
            s.writers
            (λ w m. ap (λ (t : Bool). w.own && t) (around w.lv w.rv (no_rv w m))),
        latest_last x (map (λ w. (w.rv, w.wrote)) s.writers) s.initial xs new,
        latest_last x (map (λ w. (w.lv, w.wrote)) (keep (λ w. w.own) s.writers)) s.initial xs new,
      )

  module _ (accepted : Accepted e) where
    -- rule 11
    sight_then : {l : Instruction} → Memᴰ l (loads e) → (b : ℕ)
        → newly_broken xs x (sees (sight_of e l b)) ≡ (eqb x (number_of l R) && unseen e x xs (sight_of e l b))
    unfolding newly_broken sight_of
    sight_then {l} ml b =
        split (eqb x (number_of l R))
        (λ t. rw (
          t,
          byte_then (sight_of e l b) (eqb-true x (number_of l R) t) (λ w mw.
              let (v, mv, q) = Memᴰ.of_map _ (keep (λ w. accesses w b) (stores e)) mw in
              ne_eqb x w.rv (λ h.
              R_differ e accepted ml (of_keep (λ w. accesses w b) (stores e) mv).0 (load_processor e accepted ml)
              (sym (eqb-true x (number_of l R) t) ∙ h ∙ ap (λ (w : Writer). w.rv) (sym q)))),
        ))
        (λ t. rw t)

    pub sight_rule : any (newly_broken xs x) (rule11 e) ≡ any (unseen e x xs) (sights e x)
    unfolding rule11 sights
    sight_rule =
        any_for (newly_broken xs x) (loads e) (λ l. map (λ b. sees (sight_of e l b)) (addresses l))
        ∙ any_same _ _ (loads e) (λ l ml.
        any_map (newly_broken xs x) (λ b. sees (sight_of e l b)) (addresses l)
        ∙ any_same _ _ (addresses l) (λ b mb. sight_then ml b)
        ∙ any_and (eqb x (number_of l R)) (λ b. unseen e x xs (sight_of e l b)) (addresses l)
        ∙ ap (λ (t : Bool). eqb x (number_of l R) && t) (sym (any_map (unseen e x xs) (sight_of e l) (addresses l)))
        ∙ sym (any_when (unseen e x xs) (eqb x (number_of l R)) (map (sight_of e l) (addresses l))))
        ∙ sym (any_for (unseen e x xs) (loads e) (λ l. when (eqb x (number_of l R)) (map (sight_of e l) (addresses l))))

    -- rules 14 and 16: where x is the second operation and not the third
    never_table : (r o m u k : Bool) → (o ≡ true → u ≡ false) → (r && (o && (m && (not u && k)))) ≡ (r && o && (m && k))
    never_table false o m u k h = refl
    never_table true true m u k h = rw (h refl)
    never_table true false m u k h = refl

    -- rule 14
    abbrev bypassed : Instruction → Instruction → Bool
    bypassed w l = in_UC e w && (eqb w.processor l.processor && overlap w l)

    pub bypass_rule : any (newly_broken xs x) (rule14 e) ≡ any (lost e x xs) (bypass_demands e x)
    unfolding rule14 bypass_demands newly_broken
    bypass_rule =
        pairs_same (newly_broken xs x) (lost e x xs) (stores e) (loads e)
        bypassed (λ w l. never (number_of w LV) (number_of l R) (RV_own w) ∷ [])
        (λ w l. bypassed w l && eqb x (number_of l R)) (λ w l. (number_of w LV, x, RV_own w) ∷ [])
        (λ w l mw ml.
        rw (
          any_one (newly_broken xs x) (never (number_of w LV) (number_of l R) (RV_own w)),
          any_one (lost e x xs) (number_of w LV, x, RV_own w),
          before_absent xs (number_of w LV) x new,
        )
        (never_table (bypassed w l) (eqb x (number_of l R)) (member xs (number_of w LV)) (eqb x (RV_own w)) (missing e x xs (RV_own w)) (λ t.
        ne_eqb x (RV_own w) (λ h. R_differ e accepted ml mw (store_processor e accepted mw) (sym (eqb-true x (number_of l R) t) ∙ h)))))

    -- rule 16
    abbrev another : Instruction → Instruction → Bool
    another s w = not (eqb s.number w.number) && overlap s w

    pub semaphore_rule : any (newly_broken xs x) (rule16 e) ≡ any (lost e x xs) (semaphore_demands e x)
    unfolding rule16 semaphore_demands newly_broken
    semaphore_rule =
        pairs_same (newly_broken xs x) (lost e x xs) (semaphores e) (stores e)
        another (λ s w. never (number_of s R) (number_of w (RV s.processor)) (RV_own s) ∷ [])
        (λ s w. another s w && eqb x (number_of w (RV s.processor))) (λ s w. (number_of s R, x, RV_own s) ∷ [])
        (λ s w ms mw.
        rw (
          any_one (newly_broken xs x) (never (number_of s R) (number_of w (RV s.processor)) (RV_own s)),
          any_one (lost e x xs) (number_of s R, x, RV_own s),
          before_absent xs (number_of s R) x new,
        )
        (split (another s w)
        (λ t.
        let low = store_processor e accepted (semaphore_store e ms) in
        never_table (another s w) (eqb x (number_of w (RV s.processor))) (member xs (number_of s R)) (eqb x (RV_own s)) (missing e x xs (RV_own s)) (λ u.
        ne_eqb x (RV_own s) (λ h. RV_differ e accepted mw (semaphore_store e ms)
        (λ q. clash (eq-eqb s.number w.number (sym q)) (not-true (eqb s.number w.number) (and_left _ _ t)))
        low low (sym (eqb-true x (number_of w (RV s.processor)) u) ∙ h))))
        (λ t. rw t)))
