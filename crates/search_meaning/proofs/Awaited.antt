-- Rules 9, 10, 14 and 16: the operations that one must wait for are those of the instructions that refuse it.
use Prim.Native.Nat.{ℕ, ◌-◌, ◌≤◌, ◌<◌}
use native.Mathlib.Omega.{arith}
use native.Mathlib.Decide.{ℕ_discrete}
use mathlib.Core.Path.{◌≡◌, refl, sym, ap, ap₂, ◌∙◌}
use mathlib.Core.Bool.{Bool, true, false, not, cond, ◌&&◌, ◌||◌, and_comm, and-false, or-false, false≢true}
use mathlib.Core.List.{List}
use lib.ListN.{get_or}
use lib.Dec.{eqb, leb, ltb}
use borrow.Author.Tests.{eq-eqb, ne_eqb, eqb-true, le-leb, lt-leb, leb-true, leb-false}
use Rattle.base.specs.Lists.{member}
use Rattle.base.specs.Below.{any_below}
use Rattle.base.proofs.Bools.{agree, split, clash, is_false, and_parts, and_both}
use Rattle.base.proofs.Lists.{in_keep}
use Rattle.base.proofs.Tests.{some_at, any_passes}
use Rattle.model.specs.Execution as model
use Rattle.model.specs.Execution.{Attribute, WB, UC, WC, is_WB, is_UC, Instruction, R, LV, RV, is_store, is_load, is_semaphore, number_of, semaphores, operations, attribute_at}
use Rattle.model.specs.Rules.{in_UC, RV_own}
use Rattle.model.specs.Accepted.{Accepted}
use Rattle.record_decoded.specs.Decoded.{instruction_at, execution_of}
use Rattle.record_decoded.proofs.RoleNumbers.{role_RV}
use Rattle.relation_places.specs.Places.{placed, Placed}
use Rattle.relation_places.proofs.PlaceLaws.{member_placed, placed_absent}
use Rattle.search_sets.specs.Set.{holds}
use Rattle.relation_marks.specs.Marks.{has_mark, mark_at}
use Rattle.search_admit.specs.Rows.{own_of, local_of, read_of, awaited, awaited_by, awaited_of, writes}
use Rattle.search_admit.specs.Fits.{Standing, waits_for, refused}
use Rattle.model.proofs.Ownership.{store_processor}
use Rattle.model.proofs.Uninterrupted.{semaphore_WB}
use Rattle.search_meaning.proofs.Tables.{Tables, TablesMean}
use Rattle.search_meaning.proofs.Owners.{number_is, numbered_in}
use Rattle.search_meaning.proofs.OperationRows.{RV_writes, IsRV, is_RV, own_by_lem, local_by_lem, own_itself, local_itself}
use Rattle.search_meaning.proofs.Refusals.{missing_by, store_lost, semaphore_lost, load_lost, refuses_by, refused_by}
use Rattle.search_meaning.proofs.Demands.{conflict_mark_lem, bypass_mark_lem, store_in, remote_few, load_refusal, store_refusal}

-- what an RV may wait for, by the two stores
store_same : (places : List ℕ) (q : ℕ) (v w : Instruction) (m x : ℕ) → m ≡ number_of v (RV q) → x ≡ number_of w (RV q)
    → (missing_by places m
    && (ltb (placed places (RV_own v)) (placed places (RV_own w))
    || eqb (RV_own v) m && (eqb (RV_own w) x && ltb (placed places (number_of v LV)) (placed places (number_of w LV)))))
    ≡ store_lost places q v w
unfolding store_lost
store_same places q v w m x em ex = go (ℕ_discrete q w.processor) (ℕ_discrete v.processor w.processor)
  where
    a : Bool
    a = ltb (placed places (RV_own v)) (placed places (RV_own w))

    g : Bool
    g = ltb (placed places (number_of v LV)) (placed places (number_of w LV))

    go : Dec (q ≡ w.processor) → Dec (v.processor ≡ w.processor)
        → (missing_by places m && (a || eqb (RV_own v) m && (eqb (RV_own w) x && g)))
        ≡ (a && missing_by places (number_of v (RV q)) || eqb q w.processor && (eqb v.processor w.processor && (g && missing_by places (RV_own v))))
    go (yes f) (yes d) =
        rw (
          eq-eqb (RV_own v) m (omega arith),
          eq-eqb (RV_own w) x (omega arith),
          eq-eqb q w.processor f,
          eq-eqb v.processor w.processor d,
          ap (missing_by places) (let z : number_of v (RV q) ≡ m = omega arith in z),
          ap (missing_by places) (let z : RV_own v ≡ m = omega arith in z),
        )
        (same (missing_by places m) a g)
      where
        same : (s a g : Bool) → (s && (a || g)) ≡ (a && s || g && s)
        same true true g = refl
        same true false true = refl
        same true false false = refl
        same false true true = refl
        same false true false = refl
        same false false true = refl
        same false false false = refl
    go (yes f) (no d) =
        rw (
          ne_eqb (RV_own v) m (λ z. d (omega arith)),
          ne_eqb v.processor w.processor d,
          eq-eqb q w.processor f,
          ap (missing_by places) (let z : number_of v (RV q) ≡ m = omega arith in z),
          or-false a,
        )
        (turned (missing_by places m) a)
      where
        turned : (s a : Bool) → (s && a) ≡ (a && s || false)
        turned true true = refl
        turned true false = refl
        turned false true = refl
        turned false false = refl
    go (no f) d =
        rw (
          ne_eqb (RV_own w) x (λ z. f (omega arith)),
          ne_eqb q w.processor f,
          ap (missing_by places) (let z : number_of v (RV q) ≡ m = omega arith in z),
        )
        (turned (missing_by places m) a (eqb (RV_own v) m))
      where
        turned : (s a b : Bool) → (s && (a || b && false)) ≡ (a && s || false)
        turned true true b = refl
        turned true false true = refl
        turned true false false = refl
        turned false true b = refl
        turned false false true = refl
        turned false false false = refl

-- rule 16, by the semaphore: another store has no R
none_locked : (places : List ℕ) (m : ℕ) (own : Bool) {r : ℕ} → r ≡ m → (missing_by places m && (own && ltb (placed places r) 255)) ≡ false
none_locked places m own e = ap (λ (k : ℕ). missing_by places m && (own && ltb (placed places k) 255)) e ∙ go (ltb (placed places m) 255) own
  where
    go : (a b : Bool) → (not a && (b && a)) ≡ false
    go true b = refl
    go false true = refl
    go false false = refl

semaphore_same : (places : List ℕ) (q : ℕ) (v : Instruction) (m : ℕ) → m ≡ number_of v (RV q) → {r : ℕ} → r ≡ cond (is_semaphore v.kind) (number_of v R) m
    → (missing_by places m && (eqb (RV_own v) m && ltb (placed places r) 255)) ≡ semaphore_lost places q v
unfolding semaphore_lost
semaphore_same places q v m em {r} er = split (is_semaphore v.kind)
    (λ k. go k (er ∙ rw k) (ℕ_discrete q v.processor))
    (λ k. none_locked places m (eqb (RV_own v) m) (er ∙ rw k) ∙ rw k (sym (and-false (eqb q v.processor))))
  where
    go : is_semaphore v.kind ≡ true → r ≡ number_of v R → Dec (q ≡ v.processor)
        → (missing_by places m && (eqb (RV_own v) m && ltb (placed places r) 255))
        ≡ (eqb q v.processor && (is_semaphore v.kind && (ltb (placed places (number_of v R)) 255 && missing_by places (RV_own v))))
    go k f (yes d) =
        rw (eq-eqb (RV_own v) m (omega arith), eq-eqb q v.processor d, k, f, ap (missing_by places) (let z : RV_own v ≡ m = omega arith in z))
        (and_comm (missing_by places m) (ltb (placed places (number_of v R)) 255))
    go k f (no d) = rw (ne_eqb (RV_own v) m (λ z. d (omega arith)), ne_eqb q v.processor d) (and-false (missing_by places m))

WB_not_UC : (a : Attribute) → is_WB a ≡ true → is_UC a ≡ true → ⊥
WB_not_UC WB w u = false≢true u
WB_not_UC WC w u = false≢true w
WB_not_UC (UC d) w u = false≢true w

-- what an R may wait for, by the store
load_same : (places : List ℕ) (v : Instruction) (m x : ℕ) → m ≡ RV_own v → placed places x ≡ 255
    → (missing_by places m && (ltb (placed places m) (placed places x) || eqb m m && (eqb x x && ltb (placed places (number_of v LV)) (placed places x)))) ≡ load_lost places v
unfolding load_lost
load_same places v m x em absent =
    rw (eq-eqb m m refl, eq-eqb x x refl, absent, sym em) (same (ltb (placed places m) 255) (ltb (placed places (number_of v LV)) 255))
  where
    same : (a b : Bool) → (not a && (a || b)) ≡ (b && not a)
    same true true = refl
    same true false = refl
    same false true = refl
    same false false = refl

module _ {t : Tables} (h : TablesMean t) (accepted : Accepted (execution_of t.bytes t.execution)) (x : ℕ) (low : x < operations (execution_of t.bytes t.execution))
    {xs places : List ℕ} {n : ℕ} (p : Placed n xs places) (new : member xs x ≡ false) (lo hi : ℕ) (standing : Standing xs lo hi) where
  abbrev e : model.Execution
  e = execution_of t.bytes t.execution

  abbrev instruction : ℕ → Instruction
  instruction i = instruction_at t.execution.instructions i

  abbrev owner : ℕ
  owner = get_or t.operations.owners x 0

  abbrev role_number : ℕ
  role_number = get_or t.operations.roles x 0

  abbrev refusal : ℕ → Bool
  refusal v = refuses_by places t.execution.instructions t.marks role_number owner v

  -- what the test asks of an operation that may be waited for
  abbrev waits : ℕ → Bool
  waits m = not (holds lo hi m) && waits_for t.rows places x m

  not_standing : (m : ℕ) → m < 128 → not (holds lo hi m) ≡ missing_by places m
  not_standing m l = ap not (standing m l ∙ member_placed p m)

  waits_is : (m : ℕ) {om ox lm lx : ℕ} → m < 128 → own_of t.rows m ≡ om → own_of t.rows x ≡ ox → local_of t.rows m ≡ lm → local_of t.rows x ≡ lx
      → waits m
      ≡ ((missing_by places m && (ltb (placed places om) (placed places ox) || eqb om m && (eqb ox x && ltb (placed places lm) (placed places lx))))
      || (missing_by places m && (eqb om m && ltb (placed places (read_of t.rows m)) 255)))
  unfolding waits_for
  waits_is m {om} {ox} {lm} {lx} l a b c d =
      rw (not_standing m l, a, b, c, d, placed_absent p x new)
      (sorted (missing_by places m) (ltb (placed places om) (placed places ox)) (eqb om m) (ltb (placed places (read_of t.rows m)) 255) (eqb ox x && ltb (placed places lm) (placed places lx)))
    where
      sorted : (s a o r b : Bool) → (s && (a || o && (r || b))) ≡ ((s && (a || o && b)) || (s && (o && r)))
      sorted false a o r b = refl
      sorted true true o r b = refl
      sorted true false false r b = refl
      sorted true false true true true = refl
      sorted true false true true false = refl
      sorted true false true false true = refl
      sorted true false true false false = refl

  small : (o : ℕ) → o < operations e → o < 128
  small o l = omega (arith, accepted.operations_few)

  -- x is an RV: a store in conflict
  module _ (v : ℕ) (lv : v < t.execution.instructions.count) (few : 3 ≤ role_number) (marked : has_mark (mark_at t.marks v owner) 128 ≡ true) (m : ℕ)
      (at : m ≡ number_of (instruction v) (RV (role_number - 3))) where
    store_v : is_store (instruction v).kind ≡ true
    store_v = (and_parts (is_store (instruction v).kind) (is_store (instruction owner).kind) (and_parts _ _ (sym (conflict_mark_lem h accepted x low p new v lv) ∙ marked)).0).0

    remote : IsRV h accepted (instruction v) (role_number - 3) m
    remote = is_RV h accepted (store_in h accepted x low p new v lv store_v) (role_number - 3) (remote_few h accepted x low p new (role_number - 3) (role_RV role_number few)) m at

    pub awaited_low : m < 128
    awaited_low = small m remote.low

    pub store_waits : waits m ≡ (store_lost places (role_number - 3) (instruction v) (instruction owner) || semaphore_lost places (role_number - 3) (instruction v))
    store_waits =
        waits_is m awaited_low remote.own (own_by_lem h accepted x low (RV_writes role_number few)) remote.local (local_by_lem h accepted x low (RV_writes role_number few))
        ∙ ap₂ ◌||◌
        (store_same places (role_number - 3) (instruction v) (instruction owner) m x at
        (sym (number_is h accepted x low) ∙ ap (number_of (instruction owner)) (role_RV role_number few)))
        (semaphore_same places (role_number - 3) (instruction v) m at remote.read)

  -- x is an R: a UC store
  module _ (v : ℕ) (lv : v < t.execution.instructions.count) (reads : role_number ≡ 0) (marked : has_mark (mark_at t.marks v owner) 256 ≡ true) (m : ℕ)
      (at : m ≡ RV_own (instruction v)) where
    store_u : is_store (instruction v).kind ≡ true
    store_u = (and_parts (is_store (instruction v).kind) (is_load (instruction owner).kind) (and_parts _ _ (sym (bypass_mark_lem h accepted x low p new v lv) ∙ marked)).0).0

    own_remote : IsRV h accepted (instruction v) (instruction v).processor m
    own_remote =
        let mv = store_in h accepted x low p new v lv store_u in
        is_RV h accepted mv (instruction v).processor (store_processor e accepted mv) m at

    pub bypass_low : m < 128
    bypass_low = small m own_remote.low

    -- a UC store is no semaphore
    not_semaphore : is_semaphore (instruction v).kind ≡ false
    unfolding semaphores
    not_semaphore = is_false (is_semaphore (instruction v).kind) (λ k.
        let uc = (and_parts (in_UC e (instruction v)) _ (and_parts (is_store (instruction v).kind && is_load (instruction owner).kind) _ (sym (bypass_mark_lem h accepted x low p new v lv) ∙ marked)).1).0 in
        WB_not_UC (attribute_at e (instruction v)) (semaphore_WB e accepted (in_keep (λ i. is_semaphore i.kind) (numbered_in t v lv) k)) uc)

    -- an R has no other operation
    itself : writes role_number ≡ false
    itself = rw reads refl

    pub load_waits : waits m ≡ load_lost places (instruction v)
    load_waits =
        waits_is m bypass_low (own_remote.own ∙ sym at) (own_itself h accepted x low itself) own_remote.local (local_itself h accepted x low itself)
        ∙ ap₂ ◌||◌ (load_same places (instruction v) m x at (placed_absent p x new)) (none_locked places m (eqb m m) (own_remote.read ∙ rw not_semaphore))
        ∙ or-false (load_lost places (instruction v))

  abbrev awaited_at : ℕ → ℕ → Bool
  awaited_at v m = awaited_of t.execution t.operations t.marks x v m

  awaited_load : (v m : ℕ) → role_number ≡ 0 → awaited_at v m ≡ (has_mark (mark_at t.marks v owner) 256 && eqb m (RV_own (instruction v)))
  unfolding awaited_by instruction_at
  awaited_load v m r = rw (eq-eqb role_number 0 r) refl

  awaited_store : (v m : ℕ) → (role_number ≡ 0 → ⊥) → 3 ≤ role_number
      → awaited_at v m ≡ (has_mark (mark_at t.marks v owner) 128 && eqb m (number_of (instruction v) (RV (role_number - 3))))
  unfolding awaited_by instruction_at
  awaited_store v m z r = rw (ne_eqb role_number 0 z, le-leb 3 role_number r) refl

  awaited_none : (v m : ℕ) → (role_number ≡ 0 → ⊥) → role_number < 3 → awaited_at v m ≡ false
  unfolding awaited_by
  awaited_none v m z r = rw (ne_eqb role_number 0 z, lt-leb 3 role_number r) refl

  -- where an operation must be waited for, its instruction refuses
  awaited_refuses : (v m : ℕ) → v < t.execution.instructions.count → awaited_at v m ≡ true → waits m ≡ true → refusal v ≡ true
  awaited_refuses v m l r w =
      split (eqb role_number 0)
      (λ z.
      let reads = eqb-true role_number 0 z in
      let (k, q) = and_parts (has_mark (mark_at t.marks v owner) 256) (eqb m (RV_own (instruction v))) (sym (awaited_load v m reads) ∙ r) in
      load_refusal h accepted x low p new v reads ∙ and_both k (sym (load_waits v l reads k m (eqb-true m (RV_own (instruction v)) q)) ∙ w))
      (λ z. split (leb 3 role_number)
      (λ s.
      let few = leb-true 3 role_number s in
      let other : role_number ≡ 0 → ⊥ = λ u. clash (eq-eqb role_number 0 u) z in
      let (k, q) = and_parts (has_mark (mark_at t.marks v owner) 128) (eqb m (number_of (instruction v) (RV (role_number - 3)))) (sym (awaited_store v m other few) ∙ r) in
      store_refusal h accepted x low p new v other few ∙ and_both k (sym (store_waits v l few k m (eqb-true m (number_of (instruction v) (RV (role_number - 3))) q)) ∙ w))
      (λ s. clash r (awaited_none v m (λ u. clash (eq-eqb role_number 0 u) z) (leb-false 3 role_number s))))

  refusal_none : (v : ℕ) → (role_number ≡ 0 → ⊥) → role_number < 3 → refusal v ≡ false
  unfolding refuses_by
  refusal_none v z r = rw (ne_eqb role_number 0 z, lt-leb 3 role_number r) refl

  abbrev found : Type 0
  found = (m : ℕ) × (m < 128) × (awaited t.rows x m && not (holds lo hi m) && waits_for t.rows places x m ≡ true)

  awaited_there : (v m : ℕ) → v < t.execution.instructions.count → m < 128 → awaited_at v m ≡ true → waits m ≡ true → found
  awaited_there v m l s r w =
      let (w1, w2) = and_parts (not (holds lo hi m)) (waits_for t.rows places x m) w in
      (m, s, and_both (and_both ((h.rowed x low).awaited_are m s ∙ any_passes (λ u. awaited_at u m) t.execution.instructions.count v l r) w1) w2)

  -- where an instruction refuses, an operation of it must be waited for
  refuses_awaited : (v : ℕ) → v < t.execution.instructions.count → refusal v ≡ true → found
  refuses_awaited v l r =
      split (eqb role_number 0)
      (λ z.
      let reads = eqb-true role_number 0 z in
      let m = RV_own (instruction v) in
      let (k, q) = and_parts (has_mark (mark_at t.marks v owner) 256) (load_lost places (instruction v)) (sym (load_refusal h accepted x low p new v reads) ∙ r) in
      awaited_there v m l (bypass_low v l reads k m refl) (awaited_load v m reads ∙ and_both k (eq-eqb m m refl)) (load_waits v l reads k m refl ∙ q))
      (λ z. split (leb 3 role_number)
      (λ s.
      let few = leb-true 3 role_number s in
      let other : role_number ≡ 0 → ⊥ = λ u. clash (eq-eqb role_number 0 u) z in
      let m = number_of (instruction v) (RV (role_number - 3)) in
      let (k, q) = and_parts (has_mark (mark_at t.marks v owner) 128) _ (sym (store_refusal h accepted x low p new v other few) ∙ r) in
      awaited_there v m l (awaited_low v l few k m refl) (awaited_store v m other few ∙ and_both k (eq-eqb m m refl)) (store_waits v l few k m refl ∙ q))
      (λ s. clash r (refusal_none v (λ u. clash (eq-eqb role_number 0 u) z) (leb-false 3 role_number s))))

  pub awaited_refuse : refused t.rows places lo hi x ≡ refused_by places t.execution.instructions t.operations t.marks x
  unfolding refused refused_by
  awaited_refuse =
      agree (any_below 128 (λ m. awaited t.rows x m && not (holds lo hi m) && waits_for t.rows places x m)) (any_below t.execution.instructions.count refusal)
      (λ a.
      let (m, s, k) = some_at _ 128 a in
      let (k1, k2) = and_parts (awaited t.rows x m && not (holds lo hi m)) (waits_for t.rows places x m) k in
      let (k3, k4) = and_parts (awaited t.rows x m) (not (holds lo hi m)) k1 in
      let (v, l, r) = some_at (λ u. awaited_at u m) t.execution.instructions.count (sym ((h.rowed x low).awaited_are m s) ∙ k3) in
      any_passes refusal t.execution.instructions.count v l (awaited_refuses v m l r (and_both k4 k2)))
      (λ a.
      let (v, l, r) = some_at refusal t.execution.instructions.count a in
      let (m, s, k) = refuses_awaited v l r in
      any_passes _ 128 m s k)
