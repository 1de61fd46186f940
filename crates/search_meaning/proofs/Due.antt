-- Rule 12: what may follow while a release to WB is open, by the partners of the last entry.
use Prim.Native.Nat.{ℕ, ◌<◌}
use native.Mathlib.Omega.{arith}
use mathlib.Core.Path.{◌≡◌, refl, sym, ap, ◌∙◌, subst}
use mathlib.Core.Bool.{Bool, true, false, not, ◌&&◌, ◌||◌, or-false}
use mathlib.Core.List.{List, [], ◌∷◌, ◌++◌, Memᴰ}
use lib.Dec.{eqb}
use borrow.Author.Tests.{eq-eqb, ne_eqb, lt-ltb, not-true}
use Rattle.base.specs.Lists.{any, member, distinct}
use Rattle.base.specs.Below.{all_below}
use Rattle.base.proofs.Bools.{split, clash, is_false, and_parts, and_both, or_right}
use Rattle.base.proofs.Lists.{any_witness, any_member, any_fails, in_keep, in_for, in_below, member_in, in_member, member_append, distinct_entry}
use Rattle.base.proofs.Tests.{all_fails, all_below_lem}
use Rattle.model.specs.Execution as model
use Rattle.model.specs.Execution.{Instruction, is_release, stores, operations}
use Rattle.model.specs.Rules.{before, in_WB, Claim, never, remote_of, rule12, rules, broken, consistent}
use Rattle.model.specs.Accepted.{Accepted}
use Rattle.model.proofs.Roles.{RV_role}
use Rattle.model.proofs.Before.{before_absent, before_stays}
use Rattle.model.proofs.Consistent.{kept}
use Rattle.record_decoded.specs.Decoded.{execution_of}
use Rattle.search_sets.specs.Set.{holds}
use Rattle.search_reduction.specs.Admits.{missing, interrupts}
use Rattle.model.proofs.Ownership.{RV_of, is_store_lem, RV_in, one_owner}
use Rattle.search_admit.specs.Rows.{partner, partner_by}
use Rattle.search_meaning.proofs.Tables.{Tables, TablesMean}
use Rattle.search_meaning.proofs.Owners.{number_low}
use Rattle.search_admit.specs.Fits.{last_entry, due_of, Standing}
use Rattle.search_admit.proofs.FitLaws.{last_more}
use Rattle.search_admit.proofs.FitLaws as FitLaws

-- a list is empty, or a list with one entry more
by_last : (C : List ℕ → Type 0) → C [] → ((ys : List ℕ) (o : ℕ) → C (ys ++ (o ∷ []))) → (xs : List ℕ) → C xs
by_last C none more [] = none
by_last C none more (x ∷ xs) = by_last (λ l. C (x ∷ l)) (more [] x) (λ ys o. more (x ∷ ys) o) xs

-- the last entry stands
last_stands : (ys : List ℕ) (o : ℕ) → member (ys ++ (o ∷ [])) o ≡ true
last_stands ys o = member_append ys o o ∙ or_right (member ys o) (eqb o o) (eq-eqb o o refl)

-- the last of different numbers
last_new : (n : ℕ) (ys : List ℕ) (o : ℕ) → distinct n [] (ys ++ (o ∷ [])) ≡ true → (o < n) × (member ys o ≡ false)
last_new n ys o h = let (low, new) = distinct_entry n ys o [] h in (low, not-true (member ys o) new)

-- a release to WB
abbrev opens : model.Execution → Instruction → Bool
opens e w = is_release w.kind && in_WB e w

module _ (e : model.Execution) where
  -- an operation is an RV of one store only
  one_store : Accepted e → {v w : Instruction} {o : ℕ} → Memᴰ v (stores e) → Memᴰ w (stores e)
      → Memᴰ o (remote_of e v) → Memᴰ o (remote_of e w) → v ≡ w
  one_store accepted {v} {w} mv mw ov ow =
      let (p, lp, kp) = RV_of e v ov in
      let (q, lq, kq) = RV_of e w ow in
      let (iv, sv) = is_store_lem e mv in
      let (iw, sw) = is_store_lem e mw in
      one_owner e accepted iv iw (RV_role e.processors v.kind p lp sv) (RV_role e.processors w.kind q lq sw) (kp ∙ sym kq)

  -- rule 12 is one of the rules
  rule12_in : Memᴰ (rule12 e) (rules e)
  unfolding rules
  rule12_in = past (past (past (past (past (past (past (past (past (past (past (Memᴰ.head refl)))))))))))
    where
      past : {c : List Claim} {l : List (List Claim)} → Memᴰ (rule12 e) l → Memᴰ (rule12 e) (c ∷ l)
      past m = Memᴰ.tail m

  -- what rule 12 says of two RV and an operation that is none
  rule12_kept : (xs : List ℕ) → consistent e xs ≡ true → {w : Instruction} {a c o : ℕ} → Memᴰ w (stores e) → opens e w ≡ true
      → Memᴰ a (remote_of e w) → Memᴰ c (remote_of e w) → o < operations e → member (remote_of e w) o ≡ false → (before xs a o && before xs o c) ≡ false
  unfolding rule12 broken
  rule12_kept xs consists {w} {a} {c} {o} mw release ma mc low none =
      any_fails (broken xs)
      (in_for _ (in_keep (opens e) mw release) (in_for _ ma (in_for _ mc (in_for (λ o. never a o c ∷ [])
      (in_keep (λ o. not (member (remote_of e w) o)) (in_below (operations e) o low) (ap not none)) (Memᴰ.head refl)))))
      (kept e xs consists rule12_in)

  -- where a release to WB is open, the last entry is one of its RV
  last_in : (ys : List ℕ) (o : ℕ) → consistent e (ys ++ (o ∷ [])) ≡ true → o < operations e → member ys o ≡ false
      → {w : Instruction} {a c : ℕ} → Memᴰ w (stores e) → opens e w ≡ true → Memᴰ a (remote_of e w) → Memᴰ c (remote_of e w)
      → member (ys ++ (o ∷ [])) a ≡ true → member (ys ++ (o ∷ [])) c ≡ false → Memᴰ o (remote_of e w)
  last_in ys o consists low different {w} {a} {c} mw release ma mc stands misses =
      split (member (remote_of e w) o)
      (λ t. member_in (remote_of e w) o t)
      (λ f.
      let other : eqb o a ≡ false = ne_eqb o a (λ q. clash (in_member ma) (rw q at f)) in
      let sooner : member ys a ≡ true = sym (or-false (member ys a)) ∙ rw (member_append ys o a, other) at stands in
      clash
      (and_both (before_stays ys o a o (before_absent ys a o different ∙ sooner)) (before_absent (ys ++ (o ∷ [])) o c misses ∙ last_stands ys o))
      (rule12_kept (ys ++ (o ∷ [])) consists mw release ma mc low f))

  -- x interrupts a release to WB: it is no RV, one stands, one is missing
  module _ (x : ℕ) (xs : List ℕ) (w : Instruction) where
    of_interrupts : interrupts e x xs w ≡ true
        → (opens e w ≡ true) × (member (remote_of e w) x ≡ false) × (a : ℕ) × Memᴰ a (remote_of e w) × (member xs a ≡ true)
        × (c : ℕ) × Memᴰ c (remote_of e w) × (member xs c ≡ false)
    unfolding interrupts
    of_interrupts h =
        let (h1, some_missing) = and_parts _ (any (missing e x xs) (remote_of e w)) h in
        let (h2, some_there) = and_parts _ (any (member xs) (remote_of e w)) h1 in
        let (release, none) = and_parts (opens e w) (not (member (remote_of e w) x)) h2 in
        let (a, ma, here) = any_witness (member xs) (remote_of e w) some_there in
        let (c, mc, misses) = any_witness (missing e x xs) (remote_of e w) some_missing in
        (release, not-true (member (remote_of e w) x) none, a, ma, here, c, mc, not-true (member xs c) misses)

    -- and so it does where this holds
    interrupts_by : opens e w ≡ true → member (remote_of e w) x ≡ false → {a c : ℕ} → Memᴰ a (remote_of e w) → member xs a ≡ true
        → Memᴰ c (remote_of e w) → member xs c ≡ false → interrupts e x xs w ≡ true
    unfolding interrupts
    interrupts_by release none ma here mc misses =
        and_both (and_both (and_both release (ap not none)) (any_member (member xs) ma here)) (any_member (missing e x xs) mc (ap not misses))

module _ {t : Tables} (h : TablesMean t) (accepted : Accepted (execution_of t.bytes t.execution)) where
  abbrev e : model.Execution
  e = execution_of t.bytes t.execution

  abbrev n : ℕ
  n = operations e

  RV_low : {w : Instruction} {a : ℕ} → Memᴰ w (stores e) → Memᴰ a (remote_of e w) → a < n
  RV_low {w} mw ma =
      let (q, lq, k) = RV_of e w ma in
      omega (arith, number_low h (RV_in e mw q lq), k)

  -- partners are RV of one release to WB
  partner_of_lem : (o a : ℕ) → o < n → a < 128 → partner_by t.rows o a ≡ true
      → (w : Instruction) × Memᴰ w (stores e) × (opens e w ≡ true) × Memᴰ o (remote_of e w) × Memᴰ a (remote_of e w)
  unfolding partner
  partner_of_lem o a lo la s =
      let (w, mw, k) = any_witness _ (stores e) (sym ((h.rowed o lo).partners_are a la) ∙ s) in
      let (release, both) = and_parts (opens e w) (member (remote_of e w) o && member (remote_of e w) a) k in
      let (mo, ma) = and_parts (member (remote_of e w) o) (member (remote_of e w) a) both in
      (w, mw, release, member_in (remote_of e w) o mo, member_in (remote_of e w) a ma)

  -- and RV of one release to WB are partners
  of_partner : {o a : ℕ} {w : Instruction} → Memᴰ w (stores e) → opens e w ≡ true → Memᴰ o (remote_of e w) → Memᴰ a (remote_of e w)
      → partner_by t.rows o a ≡ true
  unfolding partner
  of_partner {o} {a} {w} mw release mo ma =
      (h.rowed o (RV_low mw mo)).partners_are a (omega (arith, RV_low mw ma, accepted.operations_few))
      ∙ any_member _ mw (and_both release (and_both (in_member mo) (in_member ma)))

  -- x is no RV of the store that o is an RV of: no partner of o
  no_partner : (x : ℕ) → x < n → {o : ℕ} {w : Instruction} → Memᴰ w (stores e) → Memᴰ o (remote_of e w) → member (remote_of e w) x ≡ false
      → partner_by t.rows o x ≡ false
  no_partner x low {o} {w} mw mo none =
      is_false (partner_by t.rows o x) (λ p.
      let (v, mv, release, ov, xv) = partner_of_lem o x (RV_low mw mo) (omega (arith, accepted.operations_few)) p in
      clash (in_member (subst (λ (i : Instruction). Memᴰ x (remote_of e i)) (one_store e accepted mv mw ov mo) xv)) none)

  -- behind ys and a last entry o
  module _ (x : ℕ) (low : x < n) (ys : List ℕ) (o lo hi : ℕ) (consists : consistent e (ys ++ (o ∷ [])) ≡ true) (low_o : o < n) (different : member ys o ≡ false)
      (standing : Standing (ys ++ (o ∷ [])) lo hi) where
    abbrev xs : List ℕ
    xs = ys ++ (o ∷ [])

    abbrev stands : ℕ → Bool
    stands a = not (partner_by t.rows o a) || holds lo hi a

    abbrev open_one : Bool
    open_one = any (interrupts e x xs) (stores e)

    -- the test, by the last entry
    due_last : due_of t.rows xs lo hi x ≡ (all_below 128 stands || partner_by t.rows o x)
    unfolding due_of
    due_last = rw (last_more ys o, lt-ltb o 128 (omega (arith, accepted.operations_few)))

    -- x interrupts an open release to WB: a partner of the last entry is missing, and x is no partner
    refuses : open_one ≡ true → (all_below 128 stands || partner_by t.rows o x) ≡ false
    refuses s =
        let (w, mw, k) = any_witness (interrupts e x xs) (stores e) s in
        let (release, none, a, ma, here, c, mc, misses) = of_interrupts e x xs w k in
        let mo = last_in e ys o consists low_o different mw release ma mc here misses in
        let small : c < 128 = omega (arith, RV_low mw mc, accepted.operations_few) in
        let lacks : stands c ≡ false = rw (of_partner mw release mo mc) (standing c small ∙ misses) in
        rw (all_fails stands 128 c small lacks) (no_partner x low mw mo none)

    -- x interrupts none: the partners of the last entry stand, or x is one
    partner_stands : open_one ≡ false → partner_by t.rows o x ≡ false → (a : ℕ) → a < 128 → partner_by t.rows o a ≡ true → member xs a ≡ true
    partner_stands f free a small p =
        split (member xs a) (λ s. s) (λ misses.
        let (w, mw, release, mo, ma) = partner_of_lem o a low_o small p in
        let none : member (remote_of e w) x ≡ false = is_false (member (remote_of e w) x) (λ s. clash (of_partner mw release mo (member_in (remote_of e w) x s)) free) in
        clash (any_member (interrupts e x xs) mw (interrupts_by e x xs w release none mo (last_stands ys o) ma misses)) f)

    allows : open_one ≡ false → (all_below 128 stands || partner_by t.rows o x) ≡ true
    allows f =
        split (partner_by t.rows o x)
        (λ p. or_right (all_below 128 stands) (partner_by t.rows o x) p)
        (λ free. rw (all_below_lem stands 128 (λ a small.
        split (partner_by t.rows o a) (λ p. rw p (standing a small ∙ partner_stands f free a small p)) (λ p. rw p))))

    due_more : due_of t.rows xs lo hi x ≡ not open_one
    due_more = due_last ∙ split open_one (λ s. refuses s ∙ ap not (sym s)) (λ f. allows f ∙ ap not (sym f))

  -- nothing stands, so no st.rel is open
  due_first : (x lo hi : ℕ) → due_of t.rows [] lo hi x ≡ not (any (interrupts e x []) (stores e))
  unfolding last_entry member
  due_first x lo hi =
      FitLaws.due_first t.rows lo hi x ∙ ap not (sym (is_false (any (interrupts e x []) (stores e)) (λ s.
      let (w, mw, k) = any_witness (interrupts e x []) (stores e) s in
      let (release, none, a, ma, here, c, mc, misses) = of_interrupts e x [] w k in
      clash here refl)))

-- the test by the partners of the last entry is rule 12
pub due_is : {t : Tables} → TablesMean t → Accepted (execution_of t.bytes t.execution) → (x : ℕ) → x < operations (execution_of t.bytes t.execution)
    → (xs : List ℕ) (lo hi : ℕ) → consistent (execution_of t.bytes t.execution) xs ≡ true → distinct (operations (execution_of t.bytes t.execution)) [] xs ≡ true
    → Standing xs lo hi → member xs x ≡ false
    → due_of t.rows xs lo hi x ≡ not (any (interrupts (execution_of t.bytes t.execution) x xs) (stores (execution_of t.bytes t.execution)))
due_is {t} h accepted x low xs lo hi consists different standing new =
    by_last Claimed
    (λ c d s. due_first h accepted x lo hi)
    (λ ys o c d s. let (low_o, first) = last_new (operations e') ys o d in due_more h accepted x low ys o lo hi c low_o first s)
    xs consists different standing
  where
    e' : model.Execution
    e' = execution_of t.bytes t.execution

    Claimed : List ℕ → Type 0
    Claimed l = consistent e' l ≡ true → distinct (operations e') [] l ≡ true → Standing l lo hi
        → due_of t.rows l lo hi x ≡ not (any (interrupts e' x l) (stores e'))
