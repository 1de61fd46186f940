-- Each rule asks of the renumbered execution what it asks of the execution.
use Prim.Native.Nat.{ℕ, ◌%◌, ◌<◌}
use native.Mathlib.Omega.{arith}
use mathlib.Core.Path.{◌≡◌, refl, sym, ap, ◌∙◌, subst}
use mathlib.Core.Bool.{Bool, true, false, not, ◌&&◌}
use mathlib.Core.List.Memᴰ
use mathlib.Core.List.{List, [], ◌∷◌, map, Memᴰ}
use lib.ListN.{get_or}
use lib.Dec.{eqb}
use borrow.Author.Tests.{not-true}
use Rattle.base.specs.Lists.{any, keep, when, for, below, member}
use Rattle.base.proofs.Bools.{is_false, clash, or_cases, or_left, or_right}
use Rattle.base.proofs.Lists.{any_witness, any_member, of_for, in_for, of_keep, in_keep, in_when, of_below, in_below, member_in, in_member}
use Rattle.model.specs.Execution.{is_load, is_store, is_semaphore, is_release, is_WB, Attribute, Instruction, Execution, Role, R, LV, RV, roles, number_of, Operation, operations, all_operations, loads, stores, semaphores, every_processor, line_at, initial_byte}
use Rattle.model.specs.Rules.{Link, ◌≺◌, Claim, must, sees, Writer, Sight, broken, RV_own, links_of, addresses, accesses, byte_written, byte_seen, in_WB, for_conflicts, rule9, rule10, sight_of, rule11, remote_of, rule12, rule14, rule16, rules, keeps, consistent, link1, link2, link3, link4, link5, link6, link7, link8, link13, link15}
use Rattle.model.specs.Accepted.{Accepted}
use Rattle.model.proofs.Accesses.{of_reach}
use Rattle.model.proofs.Roles.{LV_role, RV_role}
use Rattle.model.proofs.Ownership.{processor_in, in_processors, RV_of, is_store_lem, is_load_lem, is_semaphore_lem, semaphore_load, semaphore_store, R_in, LV_in, RV_in, store_processor, load_processor, one_owner}
use Rattle.renumbered_marks.proofs.Renumbers.{Renumbers}
use Rattle.renumbered_marks.proofs.Carried.{BrokenAlike, must_alike, if_alike, never_alike, onto_below}
use Rattle.renumbered_marks.proofs.Carries.{Carries, keep_carries, map_carries}
use Rattle.renumbered_marks.proofs.Sights.{carried, sight_with, sees_alike}
use Rattle.renumbered_marks.proofs.Moves.{with, move, move_op, anew, moved_in, anew_is, anew_low, anew_one}
use Rattle.renumbered_marks.proofs.Tests.{processor_to, number_to, overlap_to, store_attribute, conflict_to, goes_1, goes_2, goes_3, goes_4, goes_5, goes_6, goes_7, goes_8, goes_13, goes_15}

of_when : {A : Type 0} {a : A} (b : Bool) {l : List A} → Memᴰ a (when b l) → (b ≡ true) × Memᴰ a l
unfolding when
of_when true m = (refl, m)
of_when false m = absurd (Memᴰ.not-nil m)

-- what one list of claims asks, the other asks under the new numbers
abbrev Demand : (ℕ → ℕ) → List Claim → List Claim → Type 0
Demand π l m = (c : Claim) → Memᴰ c l → (d : Claim) × Memᴰ d m × BrokenAlike π c d

-- and so each of some lists, against the one of its place among others
infixr 5 ◌also◌
data Demands (π : ℕ → ℕ) : List (List Claim) → List (List Claim) → Type 0 where
  none : Demands π [] []
  ◌also◌ : {l m : List Claim} {ls ms : List (List Claim)} → Demand π l m → Demands π ls ms → Demands π (l ∷ ls) (m ∷ ms)

module _ (π : ℕ → ℕ) where
  demand_one : {c d : Claim} → BrokenAlike π c d → Demand π (c ∷ []) (d ∷ [])
  demand_one {c} {d} h a m = (d, Memᴰ.head refl, subst (λ (a : Claim). BrokenAlike π a d) (sym (Memᴰ.eq_of_singleton m)) h)

  demand_when : {b b' : Bool} (l m : List Claim) → b' ≡ b → Demand π l m → Demand π (when b l) (when b' m)
  demand_when {b} l m t h c w =
      let (s, k) = of_when b w in
      let (d, md, g) = h c k in
      (d, in_when (t ∙ s) md, g)

  module _ {A B : Type 0} {l : List A} {m : List B} {go : A → B} (goes : (a : A) → Memᴰ a l → Memᴰ (go a) m) where
    demand_for : (F : A → List Claim) (G : B → List Claim) → ((a : A) → Memᴰ a l → Demand π (F a) (G (go a))) → Demand π (for l F) (for m G)
    demand_for F G h c w =
        let (a, ma, k) = of_for F l w in
        let (d, md, g) = h a ma c k in
        (d, in_for G (goes a ma) md, g)

    demand_map : (F : A → Claim) (G : B → Claim) → ((a : A) → Memᴰ a l → BrokenAlike π (F a) (G (go a))) → Demand π (map F l) (map G m)
    demand_map F G h c w =
        let (a, ma, k) = Memᴰ.of_map F l w in
        (G (go a), Memᴰ.map G (goes a ma), subst (λ (c : Claim). BrokenAlike π c (G (go a))) k (h a ma))

  -- what breaks one of the former breaks, under the new numbers, one of the latter
  broken_goes : {ls ms : List (List Claim)} → Demands π ls ms → (xs : List ℕ) → any (any (broken xs)) ls ≡ true → any (any (broken (map π xs))) ms ≡ true
  unfolding any
  broken_goes none xs t = t
  broken_goes (◌also◌ {l} {m} {ls} {ms} h hs) xs t =
      or_cases (any (broken xs) l) (any (any (broken xs)) ls) t
      (λ s. let (c, mc, u) = any_witness (broken xs) l s in let (d, md, k) = h c mc in or_left _ _ (any_member (broken (map π xs)) md (k xs ∙ u)))
      (λ s. or_right (any (broken (map π xs)) m) _ (broken_goes hs xs s))

module _ (e f : Execution) (r : Renumbers e f) (accepted : Accepted e) (accepted' : Accepted (with e f)) (same : operations e ≡ operations (with e f)) where
  abbrev g : Execution
  g = with e f

  abbrev go : Instruction → Instruction
  go = move e f r

  abbrev π : ℕ → ℕ
  π = anew e f r

  one : (a b : ℕ) → π a ≡ π b → a ≡ b
  one = anew_one e f r accepted accepted' same

  -- Links

  module _ (link link' : Operation → Operation → Bool)
      (goes : (a b : Operation) → Memᴰ a (all_operations e) → Memᴰ b (all_operations e) → link a b ≡ true → link' (move_op e f r a) (move_op e f r b) ≡ true) where
    link_goes : (l : Link) → Memᴰ l (links_of e link) → Memᴰ (π l.0 ≺ π l.1) (links_of g link')
    unfolding links_of
    link_goes l m =
        let (a, ma, m1) = of_for _ (all_operations e) m in
        let (b, mb, m2) = of_for _ (all_operations e) m1 in
        let (t, m3) = of_when (link a b) m2 in
        rw (Memᴰ.eq_of_singleton m3, anew_is e f r accepted ma, anew_is e f r accepted mb)
        (in_for _ (moved_in e f r ma) (in_for _ (moved_in e f r mb) (in_when (goes a b ma mb t) (Memᴰ.head refl))))

    links_go : Demand π (map must (links_of e link)) (map must (links_of g link'))
    links_go = demand_map π link_goes must must (λ l m. must_alike π one refl refl)

  -- Loads, stores and semaphores, moved, and their operations

  instructions_go : Carries go e.instructions f.instructions
  instructions_go = record { into = r.into; onto = r.onto }

  loads_go : Carries go (loads e) (loads g)
  unfolding loads
  loads_go = keep_carries instructions_go (λ i. is_load i.kind) (λ i. is_load i.kind) (λ i m. refl)

  stores_go : Carries go (stores e) (stores g)
  unfolding stores
  stores_go = keep_carries instructions_go (λ i. is_store i.kind) (λ i. is_store i.kind) (λ i m. refl)

  semaphores_go : Carries go (semaphores e) (semaphores g)
  unfolding semaphores
  semaphores_go = keep_carries instructions_go (λ i. is_semaphore i.kind) (λ i. is_semaphore i.kind) (λ i m. refl)

  processors_go : (q : ℕ) → Memᴰ q (every_processor e) → Memᴰ (r.to q) (every_processor g)
  processors_go q m = processor_in g (r.to q) (r.to_low q (in_processors e m))

  R_anew : {l : Instruction} → Memᴰ l (loads e) → π (number_of l R) ≡ number_of (go l) R
  R_anew m = anew_is e f r accepted (R_in e m)

  LV_anew : {w : Instruction} → Memᴰ w (stores e) → π (number_of w LV) ≡ number_of (go w) LV
  LV_anew m = anew_is e f r accepted (LV_in e m)

  RV_anew : {w : Instruction} → Memᴰ w (stores e) → {q : ℕ} → q < e.processors → π (number_of w (RV q)) ≡ number_of (go w) (RV (r.to q))
  RV_anew m {q} l = anew_is e f r accepted (RV_in e m q l)

  own_anew : {w : Instruction} → Memᴰ w (stores e) → π (RV_own w) ≡ RV_own (go w)
  own_anew m = RV_anew m (store_processor e accepted m)

  -- 9, 10: two stores that conflict

  conflicts_go : (F G : Instruction → Instruction → List Claim)
      → ((v w : Instruction) → Memᴰ v (stores e) → Memᴰ w (stores e) → Demand π (F v w) (G (go v) (go w)))
      → Demand π (for_conflicts e F) (for_conflicts g G)
  unfolding for_conflicts
  conflicts_go F G h =
      demand_for π stores_go.into _ _ (λ v mv.
      demand_for π stores_go.into _ _ (λ w mw.
      demand_when π (F v w) (G (go v) (go w)) (conflict_to e f r accepted mv mw) (h v w mv mw)))

  rule9_goes : Demand π (rule9 e) (rule9 g)
  unfolding rule9
  rule9_goes = conflicts_go _ _ (λ v w mv mw.
      demand_when π _ _ (processor_to e f r accepted v w) (demand_one π (if_alike π one (LV_anew mv) (LV_anew mw) (own_anew mv) (own_anew mw))))

  rule10_goes : Demand π (rule10 e) (rule10 g)
  unfolding rule10
  rule10_goes = conflicts_go _ _ (λ v w mv mw.
      demand_for π processors_go _ _ (λ p mp.
      demand_map π processors_go _ _ (λ q mq.
      if_alike π one (RV_anew mv (in_processors e mp)) (RV_anew mw (in_processors e mp)) (RV_anew mv (in_processors e mq)) (RV_anew mw (in_processors e mq)))))

  -- 11: a store to a byte of a load, as the load meets it

  module _ {l : Instruction} (ml : Memᴰ l (loads e)) (b : ℕ) (mb : Memᴰ b (addresses l)) where
    abbrev writer : Instruction → Instruction → Writer
    writer l w = record { own = eqb w.processor l.processor; lv = number_of w LV; rv = number_of w (RV l.processor); wrote = byte_written w b }

    reader_low : l.processor < e.processors
    reader_low = load_processor e accepted ml

    abbrev writing : List Instruction
    writing = keep (λ w. accesses w b) (stores e)

    writers_go : Carries (carried π) (map (writer l) writing) (map (writer (go l)) (keep (λ w. accesses w b) (stores g)))
    unfolding accesses
    writers_go = map_carries (keep_carries stores_go (λ w. accesses w b) (λ w. accesses w b) (λ w m. refl)) (writer l) (writer (go l)) (λ w m.
        let mw = (of_keep (λ w. accesses w b) (stores e) m).0 in
        λ x. record { own = processor_to e f r accepted w l x; lv = sym (LV_anew mw) x; rv = sym (RV_anew mw reader_low) x; wrote = byte_written w b })

    -- writers with one operation wrote one byte
    writer_one : (s : Role) (key : Writer → ℕ) → ((v : Instruction) → Memᴰ v (stores e) → Memᴰ s (roles e.processors v.kind) × (key (writer l v) ≡ number_of v s))
        → (w u : Writer) → Memᴰ w (map (writer l) writing) → Memᴰ u (map (writer l) writing) → key w ≡ key u → w.wrote ≡ u.wrote
    writer_one s key of w u mw mu h =
        let (v, mv, ev) = Memᴰ.of_map (writer l) writing mw in
        let (z, mz, ez) = Memᴰ.of_map (writer l) writing mu in
        let sv = (of_keep (λ w. accesses w b) (stores e) mv).0 in
        let sz = (of_keep (λ w. accesses w b) (stores e) mz).0 in
        let (rv, kv) = of v sv in
        let (rz, kz) = of z sz in
        let same : v ≡ z = one_owner e accepted (is_store_lem e sv).0 (is_store_lem e sz).0 rv rz (sym kv ∙ ap key ev ∙ h ∙ sym (ap key ez) ∙ kz) in
        sym (ap (λ (w : Writer). w.wrote) ev) ∙ ap (λ (i : Instruction). byte_written i b) same ∙ ap (λ (w : Writer). w.wrote) ez

    sight_alike : BrokenAlike π (sees (sight_of e l b)) (sees (sight_of g (go l) b))
    unfolding sight_of initial_byte line_at
    sight_alike xs =
        let moved : sight_of g (go l) b ≡ sight_with π (sight_of e l b) (sight_of g (go l) b).writers = λ x. record {
          reads = sym (R_anew ml) x;
          writers = (sight_of g (go l) b).writers;
          initial = get_or (r.same_lines l (is_load_lem e ml).0 b (of_reach l b mb) x).initial (b % 8) 0;
          seen = byte_seen l b;
        } in
        ap (λ (s : Sight). broken (map π xs) (sees s)) moved
        ∙ sees_alike π one (sight_of e l b) (sight_of g (go l) b).writers writers_go
        (writer_one LV (λ w. w.lv) (λ v m. (LV_role e.processors v.kind (is_store_lem e m).1, refl)))
        (writer_one (RV l.processor) (λ w. w.rv) (λ v m. (RV_role e.processors v.kind l.processor reader_low (is_store_lem e m).1, refl))) xs

  rule11_goes : Demand π (rule11 e) (rule11 g)
  unfolding rule11 addresses
  rule11_goes =
      demand_for π loads_go.into _ _ (λ l ml.
      demand_map π {go = λ b. b} (λ b m. m) _ _ (λ b mb. sight_alike ml b mb))

  -- 12: the RVs of a store are those of it moved, and no others

  module _ {w : Instruction} (mw : Memᴰ w (stores e)) where
    remotes_go : (a : ℕ) → Memᴰ a (remote_of e w) → Memᴰ (π a) (remote_of g (go w))
    unfolding remote_of
    remotes_go a m =
        let (q, mq, h) = Memᴰ.of_map (λ q. number_of w (RV q)) (every_processor e) m in
        rw (← h, RV_anew mw (in_processors e mq)) (Memᴰ.map (λ q. number_of (go w) (RV q)) (processors_go q mq))

    remotes_came : (a : ℕ) → Memᴰ (π a) (remote_of g (go w)) → Memᴰ a (remote_of e w)
    unfolding remote_of
    remotes_came a m =
        let (q, lq, h) = RV_of g (go w) m in
        let (p, lp, k) = onto_below r.to r.to_one e.processors r.to_low q lq in
        subst (λ (k : ℕ). Memᴰ k (remote_of e w)) (one (number_of w (RV p)) a (RV_anew mw lp ∙ ap (λ (q : ℕ). number_of (go w) (RV q)) k ∙ h))
        (Memᴰ.map (λ q. number_of w (RV q)) (processor_in e p lp))

    others_go : (o : ℕ) → Memᴰ o (keep (λ o. not (member (remote_of e w) o)) (below (operations e)))
        → Memᴰ (π o) (keep (λ o. not (member (remote_of g (go w)) o)) (below (operations g)))
    others_go o m =
        let (k, h) = of_keep (λ o. not (member (remote_of e w) o)) (below (operations e)) m in
        in_keep (λ o. not (member (remote_of g (go w)) o))
        (in_below (operations g) (π o) (omega (arith, anew_low e f r accepted accepted' same o (of_below (operations e) k))))
        (ap not (is_false (member (remote_of g (go w)) (π o)) (λ t.
        clash (in_member (remotes_came o (member_in (remote_of g (go w)) (π o) t))) (not-true (member (remote_of e w) o) h))))

  rule12_goes : Demand π (rule12 e) (rule12 g)
  unfolding rule12
  rule12_goes =
      let releases = keep_carries stores_go (λ w. is_release w.kind && in_WB e w) (λ w. is_release w.kind && in_WB g w)
      (λ w m. ap (λ (a : Attribute). is_release w.kind && is_WB a) (store_attribute e f r accepted m)) in
      demand_for π releases.into _ _ (λ w m.
      let mw = (of_keep (λ w. is_release w.kind && in_WB e w) (stores e) m).0 in
      demand_for π (remotes_go mw) _ _ (λ a ma.
      demand_for π (remotes_go mw) _ _ (λ c mc.
      demand_for π (others_go mw) _ _ (λ o mo. demand_one π (never_alike π one refl refl refl)))))

  -- 14, 16

  rule14_goes : Demand π (rule14 e) (rule14 g)
  unfolding rule14
  rule14_goes =
      demand_for π stores_go.into _ _ (λ w mw.
      demand_for π loads_go.into _ _ (λ l ml.
      demand_when π _ _ (rw (store_attribute e f r accepted mw, processor_to e f r accepted w l, overlap_to e f r accepted w l))
      (demand_one π (never_alike π one (LV_anew mw) (R_anew ml) (own_anew mw)))))

  rule16_goes : Demand π (rule16 e) (rule16 g)
  unfolding rule16
  rule16_goes =
      demand_for π semaphores_go.into _ _ (λ s ms.
      demand_for π stores_go.into _ _ (λ w mw.
      demand_when π _ _ (rw (number_to e f r accepted (is_semaphore_lem e ms).0 (is_store_lem e mw).0, overlap_to e f r accepted s w))
      (demand_one π (never_alike π one (R_anew (semaphore_load e ms)) (RV_anew mw (store_processor e accepted (semaphore_store e ms))) (own_anew (semaphore_store e ms))))))

  -- All rules

  all_go : Demands π (rules e) (rules g)
  unfolding rules
  all_go =
      links_go link1 link1 (goes_1 e f r accepted)
      also links_go link2 link2 (goes_2 e f r accepted)
      also links_go link3 link3 (goes_3 e f r accepted)
      also links_go link4 link4 (goes_4 e f r accepted)
      also links_go link5 link5 (goes_5 e f r accepted)
      also links_go link6 link6 (goes_6 e f r accepted)
      also links_go link7 link7 (goes_7 e f r accepted)
      also links_go (link8 e) (link8 g) (goes_8 e f r accepted)
      also rule9_goes
      also rule10_goes
      also rule11_goes
      also rule12_goes
      also links_go (link13 e) (link13 g) (goes_13 e f r accepted)
      also rule14_goes
      also links_go link15 link15 (goes_15 e f r accepted)
      also rule16_goes
      also none

  -- where the renumbered prefix is consistent, so is the prefix
  pub consistent_back : (xs : List ℕ) → consistent g (map π xs) ≡ true → consistent e xs ≡ true
  unfolding consistent keeps
  consistent_back xs h =
      ap not (is_false (any (any (broken xs)) (rules e)) (λ t.
      clash (broken_goes π all_go xs t) (not-true (any (any (broken (map π xs))) (rules g)) h)))
