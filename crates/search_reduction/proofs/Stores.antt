-- Rules 9 and 10, stores in conflict: what one operation more newly breaks is a lost demand.
use Prim.Native.Nat.{ℕ, ◌<◌}
use mathlib.Core.Path.{◌≡◌, refl, sym, ◌∙◌}
use mathlib.Core.Bool.{Bool, true, false, not, ◌&&◌, ◌||◌, and-false, false≢true}
use mathlib.Core.List.{List, [], ◌∷◌, map, Memᴰ}
use lib.Dec.{eqb}
use borrow.Author.Tests.{eqb-true, eqb-false, ne_eqb, not-true}
use Rattle.base.specs.Lists.{any, when, for, member}
use Rattle.base.proofs.Bools.{split, clash, agree, and_parts, and_both, eqb_swap}
use Rattle.base.proofs.Lists.{any_for, any_map, any_one, any_witness, any_member, any_fails}
use Rattle.model.specs.Execution.{Execution, Instruction, LV, RV, number_of, stores, every_processor}
use Rattle.model.specs.Rules.{before, addresses, accesses, overlap, in_WB, in_UC, Claim, ◌≺◌, ◌⇒◌, RV_own, conflict, for_conflicts, rule9, rule10, rules, broken, consistent}
use Rattle.model.specs.Accepted.{Accepted}
use Rattle.model.proofs.Accesses.{of_reach, one_byte, overlap_any}
use Rattle.model.proofs.Before.{before_absent, before_stands, before_past, before_from, before_other}
use Rattle.model.proofs.Consistent.{kept}
use Rattle.search_reduction.specs.Admits.{Demand, missing, lost, own_demands, remote_demands}
use Rattle.search_reduction.proofs.Pairs.{any_when_one, pair_passes, pair_fails, passing_pair, pairs_same}
use Rattle.search_reduction.proofs.Newly.{later, settles, newly_broken}
use Rattle.model.proofs.Ownership.{processor_in, in_processors, store_processor, RV_differ, LV_differ}
use Rattle.search_reduction.proofs.Links.{LV_first, own_first}

-- Conflicts

overlap_swap : (v w : Instruction) → overlap v w ≡ true → overlap w v ≡ true
overlap_swap v w h = let (a, ma, t) = any_witness (accesses w) (addresses v) (sym (overlap_any v w) ∙ h) in one_byte w v a t (of_reach v a ma)

-- two stores in conflict
record Conflicting (e : Execution) (v w : Instruction) : Type 0 where
  first_in : Memᴰ v (stores e)
  second_in : Memᴰ w (stores e)
  conflicts : conflict e v w ≡ true

module _ {e : Execution} {v w : Instruction} (k : Conflicting e v w) where
  -- they are two
  other : v.number ≡ w.number → ⊥
  unfolding conflict
  other =
      let (h, t) = and_parts (not (eqb v.number w.number) && overlap v w) _ k.conflicts in
      let (n, o) = and_parts (not (eqb v.number w.number)) (overlap v w) h in
      eqb-false v.number w.number (not-true (eqb v.number w.number) n)

  swapped : Conflicting e w v
  unfolding conflict
  swapped =
      let (h, t) = and_parts (not (eqb v.number w.number) && overlap v w) _ k.conflicts in
      let (n, o) = and_parts (not (eqb v.number w.number)) (overlap v w) h in
      let (t1, t2) = and_parts (in_WB e v || in_UC e v) (in_WB e w || in_UC e w) t in
      record {
        first_in = k.second_in;
        second_in = k.first_in;
        conflicts = rw (eqb_swap w.number v.number, n, overlap_swap v w o, t1, t2);
      }

-- the claims of rules 9 and 10 for two stores
abbrev claim9 : Instruction → Instruction → Claim
claim9 v w = number_of v LV ≺ number_of w LV ⇒ RV_own v ≺ RV_own w

abbrev claim10 : Instruction → Instruction → ℕ → ℕ → Claim
claim10 v w p q = number_of v (RV p) ≺ number_of w (RV p) ⇒ number_of v (RV q) ≺ number_of w (RV q)

abbrev claims10 : Execution → Instruction → Instruction → List Claim
claims10 e v w = for (every_processor e) (λ p. map (claim10 v w p) (every_processor e))

module _ (e : Execution) (accepted : Accepted e) (xs : List ℕ) (consists : consistent e xs ≡ true) where
  -- where the own RV stands, so does LV
  LV_stands : {w : Instruction} → Memᴰ w (stores e) → member xs (RV_own w) ≡ true → member xs (number_of w LV) ≡ true
  LV_stands {w} m h =
      split (member xs (number_of w LV)) (λ t. t)
      (λ t. clash (before_absent xs (RV_own w) (number_of w LV) t ∙ h) (LV_first e xs consists accepted m))

  -- what rule 10 says of them in a consistent prefix
  rule10_kept : {v w : Instruction} → Conflicting e v w → {p q : ℕ} → p < e.processors → q < e.processors
      → before xs (number_of v (RV p)) (number_of w (RV p)) ≡ true → before xs (number_of w (RV q)) (number_of v (RV q)) ≡ false
  unfolding rules rule10 for_conflicts broken
  rule10_kept {v} {w} k {p} {q} hp hq h =
      let t0 = kept e xs consists (Memᴰ.tail (Memᴰ.tail (Memᴰ.tail (Memᴰ.tail (Memᴰ.tail
      (Memᴰ.tail (Memᴰ.tail (Memᴰ.tail (Memᴰ.tail (Memᴰ.head refl)))))))))) in
      let t1 = pair_fails (broken xs) (stores e) (stores e) (conflict e) (claims10 e) k.first_in k.second_in k.conflicts t0 in
      let t2 = any_fails (λ p. any (broken xs) (map (claim10 v w p) (every_processor e))) (processor_in e p hp)
      (sym (any_for (broken xs) (every_processor e) (λ p. map (claim10 v w p) (every_processor e))) ∙ t1) in
      let t3 = any_fails (λ q. broken xs (claim10 v w p q)) (processor_in e q hq) (sym (any_map (broken xs) (claim10 v w p) (every_processor e)) ∙ t2) in
      rw h at t3

  module _ {v w : Instruction} (k : Conflicting e v w) where
    v_own : v.processor < e.processors
    v_own = store_processor e accepted k.first_in

    w_own : w.processor < e.processors
    w_own = store_processor e accepted k.second_in

    -- of two stores in conflict the one that is first for some is first by the own RV
    own_direction : {p : ℕ} → p < e.processors → before xs (number_of v (RV p)) (number_of w (RV p)) ≡ true → before xs (RV_own v) (RV_own w) ≡ true
    own_direction {p} hp h =
        split (before xs (RV_own v) (RV_own w)) (λ t. t)
        (λ t.
        let first = before_from xs (RV_own v) (number_of v (RV p)) (number_of w (RV p)) (own_first e xs consists accepted k.first_in p hp) h in
        let turned = before_other xs (RV_own v) (RV_own w) (before_stands xs (RV_own v) (number_of w (RV p)) first)
        (RV_differ e accepted k.first_in k.second_in (other k) v_own w_own) t in
        clash h (rule10_kept (swapped k) w_own hp
        (before_past xs (RV_own w) (RV_own v) (number_of v (RV w.processor)) turned (own_first e xs consists accepted k.first_in w.processor w_own))))

    -- and the one that is first by the own RV is first for its own processor
    first_direction : before xs (RV_own v) (RV_own w) ≡ true → before xs (RV_own v) (number_of w (RV v.processor)) ≡ true
    first_direction h =
        before_past xs (RV_own v) (RV_own w) (number_of w (RV v.processor)) h (own_first e xs consists accepted k.second_in v.processor v_own)

  module _ (x : ℕ) where
    -- rule 9
    pub own_rule : any (newly_broken xs x) (rule9 e) ≡ any (lost e x xs) (own_demands e x)
    unfolding rule9 for_conflicts own_demands newly_broken
    own_rule =
        pairs_same (newly_broken xs x) (lost e x xs) (stores e) (stores e)
        (conflict e) (λ v w. when (eqb v.processor w.processor) (claim9 v w ∷ []))
        (λ v w. conflict e v w && (eqb v.processor w.processor && eqb x (RV_own w))) (λ v w. (number_of v LV, number_of w LV, RV_own v) ∷ [])
        (λ v w mv mw.
        rw (
          any_when_one (newly_broken xs x) (eqb v.processor w.processor) (claim9 v w),
          any_one (lost e x xs) (number_of v LV, number_of w LV, RV_own v),
        )
        (split (conflict e v w)
        (λ c. rw c (at (record { first_in = mv; second_in = mw; conflicts = c })))
        (λ c. rw c)))
      where
        -- o, u, l: x is the own RV of w, the own RV of v, the LV of v
        table : (s o u l b m t f : Bool) → (o ≡ true → u ≡ false) → (o ≡ true → l ≡ false) → (f ≡ true → t ≡ false)
            → (s && ((o && (not u && m)) && (b || l && t) || (l && t) && (f || (o && (not u && m))))) ≡ (s && o && (b && m))
        table false o u l b m t f g h i = refl
        table true true u l b m t f g h i = rw (g refl, h refl) (turn b m)
          where
            turn : (b m : Bool) → ((m && (b || false)) || false) ≡ (b && m)
            turn true true = refl
            turn true false = refl
            turn false true = refl
            turn false false = refl
        table true false u l b m t true g h i = rw (i refl) (off l)
          where
            off : (l : Bool) → ((l && false) && true) ≡ false
            off true = refl
            off false = refl
        table true false u l b m t false g h i = and-false (l && t)

        at : {v w : Instruction} → Conflicting e v w
            → (eqb v.processor w.processor && newly_broken xs x (claim9 v w))
            ≡ (eqb v.processor w.processor && eqb x (RV_own w) && lost e x xs (number_of v LV, number_of w LV, RV_own v))
        at {v} {w} k =
            table (eqb v.processor w.processor) (eqb x (RV_own w)) (eqb x (RV_own v)) (eqb x (number_of v LV)) (before xs (number_of v LV) (number_of w LV))
            (missing e x xs (RV_own v)) (later xs x (number_of w LV)) (before xs (RV_own w) (RV_own v))
            (λ o. ne_eqb x (RV_own v) (λ u. RV_differ e accepted k.first_in k.second_in (other k) (v_own k) (w_own k) (sym u ∙ eqb-true x (RV_own w) o)))
            (λ o. ne_eqb x (number_of v LV) (λ l. LV_differ e accepted k.first_in k.second_in (other k) (w_own k) (sym l ∙ eqb-true x (RV_own w) o)))
            (λ f. rw (LV_stands k.second_in (before_stands xs (RV_own w) (RV_own v) f)) (and-false (not (eqb x (number_of w LV)))))

    -- rule 10
    pub remote_rule : any (newly_broken xs x) (rule10 e) ≡ any (lost e x xs) (remote_demands e x)
    unfolding rule10 for_conflicts remote_demands newly_broken
    remote_rule = agree (any (newly_broken xs x) (rule10 e)) (any (lost e x xs) (remote_demands e x)) there back
      where
        due : Instruction → Instruction → ℕ → Demand
        due v w q = (RV_own v, RV_own w, number_of v (RV q))

        dues : Instruction → Instruction → List Demand
        dues v w = for (every_processor e) (λ q. when (eqb x (number_of w (RV q))) (due v w q ∷ []))

        -- what is newly broken is a demand
        demanded : {v w : Instruction} → Conflicting e v w → {p q : ℕ} → p < e.processors → q < e.processors
            → settles xs x (number_of w (RV q)) (number_of v (RV q)) ≡ true → before xs (number_of v (RV p)) (number_of w (RV p)) ≡ true
            → any (lost e x xs) (remote_demands e x) ≡ true
        demanded {v} {w} k {p} {q} hp hq s b =
            let (o, l) = and_parts (eqb x (number_of w (RV q))) (later xs x (number_of v (RV q))) s in
            let (n, m) = and_parts (not (eqb x (number_of v (RV q)))) (missing e x xs (number_of v (RV q))) l in
            pair_passes (lost e x xs) (stores e) (stores e) (conflict e) dues k.first_in k.second_in k.conflicts
            (any_for (lost e x xs) (every_processor e) (λ q. when (eqb x (number_of w (RV q))) (due v w q ∷ []))
            ∙ any_member (λ q. any (lost e x xs) (when (eqb x (number_of w (RV q))) (due v w q ∷ []))) (processor_in e q hq)
            (any_when_one (lost e x xs) (eqb x (number_of w (RV q))) (due v w q) ∙ and_both o (and_both (own_direction k hp b) m)))

        -- x is no RV of both
        not_both : {v w : Instruction} → Conflicting e v w → {p q : ℕ} → p < e.processors → q < e.processors
            → eqb x (number_of w (RV q)) ≡ true → eqb x (number_of v (RV p)) ≡ false
        not_both {v} {w} k {p} {q} hp hq o =
            ne_eqb x (number_of v (RV p)) (λ u.
            RV_differ e accepted k.first_in k.second_in (other k) hp hq (sym u ∙ eqb-true x (number_of w (RV q)) o))

        -- x newly settles one of two links, not both
        one_settled : {C : Type 0} (u s p q : Bool) → (s ≡ true → u ≡ false) → (s && (p || u) || u && (q || s)) ≡ true
            → (s ≡ true → p ≡ true → C) → (u ≡ true → q ≡ true → C) → C
        one_settled u true true q h t f g = f refl refl
        one_settled true true false q h t f g = clash refl (h refl)
        one_settled false true false q h t f g = absurd (false≢true t)
        one_settled true false p true h t f g = g refl refl
        one_settled true false p false h t f g = absurd (false≢true t)
        one_settled false false p q h t f g = absurd (false≢true t)

        there : any (newly_broken xs x) (rule10 e) ≡ true → any (lost e x xs) (remote_demands e x) ≡ true
        there h =
            let (v, mv, w, mw, c, t) = passing_pair (newly_broken xs x) (stores e) (stores e) (conflict e) (claims10 e) h in
            let k : Conflicting e v w = record { first_in = mv; second_in = mw; conflicts = c } in
            let (p, mp, t1) = any_witness (λ p. any (newly_broken xs x) (map (claim10 v w p) (every_processor e))) (every_processor e)
            (sym (any_for (newly_broken xs x) (every_processor e) (λ p. map (claim10 v w p) (every_processor e))) ∙ t) in
            let (q, mq, t2) = any_witness (λ q. newly_broken xs x (claim10 v w p q)) (every_processor e)
            (sym (any_map (newly_broken xs x) (claim10 v w p) (every_processor e)) ∙ t1) in
            let hp = in_processors e mp in
            let hq = in_processors e mq in
            one_settled (settles xs x (number_of v (RV p)) (number_of w (RV p))) (settles xs x (number_of w (RV q)) (number_of v (RV q)))
            (before xs (number_of v (RV p)) (number_of w (RV p))) (before xs (number_of w (RV q)) (number_of v (RV q)))
            (λ s. rw (not_both k hp hq (and_parts (eqb x (number_of w (RV q))) (later xs x (number_of v (RV q))) s).0))
            t2 (λ s b. demanded k hp hq s b) (λ s b. demanded (swapped k) hq hp s b)

        back : any (lost e x xs) (remote_demands e x) ≡ true → any (newly_broken xs x) (rule10 e) ≡ true
        back h =
            let (v, mv, w, mw, c, t) = passing_pair (lost e x xs) (stores e) (stores e) (conflict e) dues h in
            let k : Conflicting e v w = record { first_in = mv; second_in = mw; conflicts = c } in
            let (q, mq, t1) = any_witness (λ q. any (lost e x xs) (when (eqb x (number_of w (RV q))) (due v w q ∷ []))) (every_processor e)
            (sym (any_for (lost e x xs) (every_processor e) (λ q. when (eqb x (number_of w (RV q))) (due v w q ∷ []))) ∙ t) in
            let (o, t2) = and_parts (eqb x (number_of w (RV q))) (lost e x xs (due v w q)) (sym (any_when_one (lost e x xs) (eqb x (number_of w (RV q))) (due v w q)) ∙ t1) in
            let (b, m) = and_parts (before xs (RV_own v) (RV_own w)) (missing e x xs (number_of v (RV q))) t2 in
            pair_passes (newly_broken xs x) (stores e) (stores e) (conflict e) (claims10 e) mv mw c
            (any_for (newly_broken xs x) (every_processor e) (λ p. map (claim10 v w p) (every_processor e))
            ∙ any_member (λ p. any (newly_broken xs x) (map (claim10 v w p) (every_processor e))) (processor_in e v.processor (v_own k))
            (any_map (newly_broken xs x) (claim10 v w v.processor) (every_processor e)
            ∙ any_member (λ q. newly_broken xs x (claim10 v w v.processor q)) mq
            (rw (o, not_both k (in_processors e mq) (in_processors e mq) o, m, first_direction k b))))
