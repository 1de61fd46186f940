-- Rules 9, 10, 14 and 16: an instruction that refuses an operation is a demand that is lost.
use Prim.Native.Nat.{ℕ, ◌-◌, ◌≤◌, ◌<◌}
use native.Mathlib.Omega.{arith}
use mathlib.Core.Path.{◌≡◌, refl, sym, ap, ap₂, ◌∙◌, subst}
use mathlib.Core.Bool.{Bool, true, false, not, ◌&&◌, ◌||◌}
use mathlib.Core.List.{List, [], ◌∷◌, Memᴰ}
use mathlib.Core.Logic.{◌⊎◌, inl, inr}
use lib.ListN.{get_or}
use lib.Dec.{eqb, leb, ltb}
use borrow.Author.Tests.{eq-eqb, eqb-true, leb-true, le-leb, ne_eqb}
use Rattle.base.specs.Lists.{any, when, for, member}
use Rattle.base.specs.Bits.{bit}
use Rattle.base.proofs.Bools.{agree, split, clash, and_parts, and_both, or_cases, or_left, or_right, or_parts}
use Rattle.base.proofs.Bits.{bit_packed}
use Rattle.base.proofs.Lists.{any_one, any_witness, any_member, any_for, any_when, in_keep}
use Rattle.base.proofs.Tests.{some_at, any_passes}
use Rattle.model.specs.Execution as model
use Rattle.model.specs.Execution.{is_load, is_store, is_semaphore, Instruction, Role, R, LV, RV, roles, number_of, stores, loads, semaphores, every_processor, operations}
use Rattle.model.specs.Rules.{before, addresses, accesses, overlap, in_UC, conflict, RV_own}
use Rattle.model.specs.Accepted.{Accepted}
use Rattle.model.proofs.Roles.{R_role, RV_role, RV_few}
use Rattle.model.proofs.Before.{before_absent}
use Rattle.model.proofs.Accesses.{of_reach, overlap_any}
use Rattle.model.proofs.Uninterrupted.{semaphore_WB, same_memory}
use Rattle.record_decoded.specs.Kinds.{role_numbered}
use Rattle.record_decoded.specs.Decoded.{instruction_at, execution_of}
use Rattle.record_decoded.proofs.RoleNumbers.{number_R, number_RV, role_R, role_RV}
use Rattle.relation_places.specs.Places.{placed, before_by, Placed}
use Rattle.relation_places.proofs.PlaceLaws.{before_placed, member_placed}
use Rattle.relation_marks.specs.Marks.{has_mark, mark_at, marks_of, marks_between}
use Rattle.relation_links.proofs.CompiledLaws.{owner_there}
use Rattle.search_reduction.specs.Admits.{own_demands, remote_demands, bypass_demands, semaphore_demands, missing, lost}
use Rattle.search_reduction.proofs.Pairs.{pair_passes, passing_pair}
use Rattle.model.proofs.Ownership.{is_store_lem, is_load_lem, is_semaphore_lem, semaphore_store, store_processor, processor_in, in_processors}
use Rattle.search_meaning.proofs.Tables.{Tables, TablesMean}
use Rattle.search_meaning.proofs.Refusals.{missing_by, store_lost, semaphore_lost, load_lost, refuses_by, refused_by}
use Rattle.search_meaning.proofs.Owners.{role_in, number_is, owner_is, by_number, numbered_in}

module _ {t : Tables} (h : TablesMean t) (accepted : Accepted (execution_of t.bytes t.execution)) (x : ℕ) (low : x < operations (execution_of t.bytes t.execution))
    {xs places : List ℕ} {n : ℕ} (p : Placed n xs places) (new : member xs x ≡ false) where
  abbrev e : model.Execution
  e = execution_of t.bytes t.execution

  abbrev instruction : ℕ → Instruction
  instruction i = instruction_at t.execution.instructions i

  abbrev owner : ℕ
  owner = get_or t.operations.owners x 0

  abbrev role_number : ℕ
  role_number = get_or t.operations.roles x 0

  owner_low : owner < t.execution.instructions.count
  owner_low = owner_there h.compiled x (omega (arith, h.compiled.tabled.counts))

  -- what does not stand, and what stands before what, by places
  missing_at : (a : ℕ) → missing_by places a ≡ missing e x xs a
  missing_at a = ap not (sym (member_placed p a))

  earlier_at : (a b : ℕ) → before_by places a b ≡ before xs a b
  earlier_at a b = sym (before_placed p a b)

  -- the marks of instruction v with the owner of x
  pub conflict_mark_lem : (v : ℕ) → v < t.execution.instructions.count
      → has_mark (mark_at t.marks v owner) 128 ≡ (is_store (instruction v).kind && is_store (instruction owner).kind && conflict e (instruction v) (instruction owner))
  unfolding marks_between marks_of
  conflict_mark_lem v l = ap (λ (m : ℕ). bit m 7) (h.compiled.marked v owner l owner_low) ∙ bit_packed (marks_of e (instruction v) (instruction owner)) 7

  abbrev exposed : Instruction → Instruction → Bool
  exposed w l = in_UC e w && (eqb w.processor l.processor && overlap w l)

  pub bypass_mark_lem : (v : ℕ) → v < t.execution.instructions.count
      → has_mark (mark_at t.marks v owner) 256 ≡ (is_store (instruction v).kind && is_load (instruction owner).kind && exposed (instruction v) (instruction owner))
  unfolding marks_between marks_of
  bypass_mark_lem v l = ap (λ (m : ℕ). bit m 8) (h.compiled.marked v owner l owner_low) ∙ bit_packed (marks_of e (instruction v) (instruction owner)) 8

  -- instruction v refuses x
  abbrev refusal : ℕ → Bool
  refusal v = refuses_by places t.execution.instructions t.marks role_number owner v

  pub load_refusal : (v : ℕ) → role_number ≡ 0
      → refusal v ≡ (has_mark (mark_at t.marks v owner) 256 && load_lost places (instruction v))
  unfolding refuses_by
  load_refusal v q = rw (eq-eqb role_number 0 q) refl

  pub store_refusal : (v : ℕ) → (role_number ≡ 0 → ⊥) → 3 ≤ role_number
      → refusal v
      ≡ (has_mark (mark_at t.marks v owner) 128
      && (store_lost places (role_number - 3) (instruction v) (instruction owner) || semaphore_lost places (role_number - 3) (instruction v)))
  unfolding refuses_by
  store_refusal v q l = rw (ne_eqb role_number 0 q, le-leb 3 role_number l) refl

  -- the demands of each rule
  abbrev own : Bool
  own = any (lost e x xs) (own_demands e x)

  abbrev remote : Bool
  remote = any (lost e x xs) (remote_demands e x)

  abbrev bypass : Bool
  bypass = any (lost e x xs) (bypass_demands e x)

  abbrev semaphore : Bool
  semaphore = any (lost e x xs) (semaphore_demands e x)

  abbrev demanded : Bool
  demanded = own || remote || bypass || semaphore

  -- a store and a load are kept in their lists
  pub store_in : (v : ℕ) → v < t.execution.instructions.count → is_store (instruction v).kind ≡ true → Memᴰ (instruction v) (stores e)
  unfolding stores
  store_in v l k = in_keep (λ i. is_store i.kind) (numbered_in t v l) k

  load_in : (v : ℕ) → v < t.execution.instructions.count → is_load (instruction v).kind ≡ true → Memᴰ (instruction v) (loads e)
  unfolding loads
  load_in v l k = in_keep (λ i. is_load i.kind) (numbered_in t v l) k

  abbrev is_refused : Bool
  is_refused = refused_by places t.execution.instructions t.operations t.marks x

  refuses_it : (v : ℕ) → v < t.execution.instructions.count → refusal v ≡ true → is_refused ≡ true
  unfolding refused_by
  refuses_it v l r = any_passes refusal t.execution.instructions.count v l r

  -- x is the RV to q of store w, and store v refuses it
  store_refuses : (v w : Instruction) (q : ℕ) → Memᴰ v (stores e) → Memᴰ w (stores e) → q < e.processors → x ≡ number_of w (RV q) → conflict e v w ≡ true
      → (store_lost places q v w || semaphore_lost places q v) ≡ true → is_refused ≡ true
  store_refuses v w q mv mw few at c k =
      let (iw, sw) = is_store_lem e mw in
      let (iv, sv) = is_store_lem e mv in
      let (same, role) = owner_is h accepted x low iw (RV_role e.processors w.kind q few sw) at in
      let (i, li, vi) = by_number t iv in
      by_owner i li (sym vi) same role sv sw
    where
      by_owner : (i : ℕ) → i < t.execution.instructions.count → v ≡ instruction i → w ≡ instruction owner → RV q ≡ role_numbered role_number
          → is_store v.kind ≡ true → is_store w.kind ≡ true → is_refused ≡ true
      by_owner i l vi wo role sv sw =
          let number = number_RV role_number q (sym role) in
          refuses_it i l (store_refusal i (λ z. omega arith) (omega arith)
          ∙ and_both (conflict_mark_lem i l ∙ and_both (and_both (ap (λ (u : Instruction). is_store u.kind) (sym vi) ∙ sv) (ap (λ (u : Instruction). is_store u.kind) (sym wo) ∙ sw)) (ap₂ (conflict e) (sym vi) (sym wo) ∙ c))
          (ap (λ (j : ℕ). store_lost places j (instruction i) (instruction owner) || semaphore_lost places j (instruction i)) (let z : role_number - 3 ≡ q = omega arith in z)
          ∙ ap₂ (λ (a b : Instruction). store_lost places q a b || semaphore_lost places q a) (sym vi) (sym wo) ∙ k))

  -- the two ways to be lost
  own_lost : (v w : Instruction) → v.processor ≡ w.processor → before xs (number_of v LV) (number_of w LV) ≡ true → missing e x xs (RV_own v) ≡ true
      → store_lost places w.processor v w ≡ true
  unfolding store_lost
  own_lost v w q b m =
      or_right (before_by places (RV_own v) (RV_own w) && missing_by places (number_of v (RV w.processor)))
      (eqb w.processor w.processor && (eqb v.processor w.processor && (before_by places (number_of v LV) (number_of w LV) && missing_by places (RV_own v))))
      (and_both (eq-eqb w.processor w.processor refl) (and_both (eq-eqb v.processor w.processor q)
      (and_both (earlier_at (number_of v LV) (number_of w LV) ∙ b) (missing_at (RV_own v) ∙ m))))

  remote_lost : (v w : Instruction) (q : ℕ) → before xs (RV_own v) (RV_own w) ≡ true → missing e x xs (number_of v (RV q)) ≡ true
      → store_lost places q v w ≡ true
  unfolding store_lost
  remote_lost v w q b m =
      ap (λ (u : Bool). u || (eqb q w.processor && (eqb v.processor w.processor && (before_by places (number_of v LV) (number_of w LV) && missing_by places (RV_own v)))))
      (and_both (earlier_at (RV_own v) (RV_own w) ∙ b)
      (missing_at (number_of v (RV q)) ∙ m))

  lost_parts : (v w : Instruction) (q : ℕ) → store_lost places q v w ≡ true
      → ((before xs (RV_own v) (RV_own w) ≡ true) × (missing e x xs (number_of v (RV q)) ≡ true))
      ⊎ ((q ≡ w.processor) × (eqb v.processor w.processor ≡ true) × (before xs (number_of v LV) (number_of w LV) ≡ true) × (missing e x xs (RV_own v) ≡ true))
  unfolding store_lost
  lost_parts v w q k = go (or_parts (before_by places (RV_own v) (RV_own w) && missing_by places (number_of v (RV q))) _ k)
    where
      go : ((before_by places (RV_own v) (RV_own w) && missing_by places (number_of v (RV q))) ≡ true)
          ⊎ ((eqb q w.processor && (eqb v.processor w.processor && (before_by places (number_of v LV) (number_of w LV) && missing_by places (RV_own v)))) ≡ true)
          → ((before xs (RV_own v) (RV_own w) ≡ true) × (missing e x xs (number_of v (RV q)) ≡ true))
          ⊎ ((q ≡ w.processor) × (eqb v.processor w.processor ≡ true) × (before xs (number_of v LV) (number_of w LV) ≡ true) × (missing e x xs (RV_own v) ≡ true))
      go (inl a) =
          let (b, m) = and_parts (before_by places (RV_own v) (RV_own w)) (missing_by places (number_of v (RV q))) a in
          inl (
            sym (earlier_at (RV_own v) (RV_own w)) ∙ b,
            sym (missing_at (number_of v (RV q))) ∙ m,
          )
      go (inr a) =
          let (a1, a2) = and_parts (eqb q w.processor) (eqb v.processor w.processor && (before_by places (number_of v LV) (number_of w LV) && missing_by places (RV_own v))) a in
          let (a3, a4) = and_parts (eqb v.processor w.processor) (before_by places (number_of v LV) (number_of w LV) && missing_by places (RV_own v)) a2 in
          let (b, m) = and_parts (before_by places (number_of v LV) (number_of w LV)) (missing_by places (RV_own v)) a4 in
          inr (eqb-true q w.processor a1, a3, sym (earlier_at (number_of v LV) (number_of w LV)) ∙ b, sym (missing_at (RV_own v)) ∙ m)

  -- rule 9
  own_refused : any (lost e x xs) (own_demands e x) ≡ true → is_refused ≡ true
  unfolding own_demands
  own_refused d =
      let (v, mv, w, mw, c, k) = passing_pair (lost e x xs) (stores e) (stores e)
      (λ v w. conflict e v w && (eqb v.processor w.processor && eqb x (RV_own w))) (λ v w. (number_of v LV, number_of w LV, RV_own v) ∷ []) d in
      go v w mv mw c (sym (any_one (lost e x xs) (number_of v LV, number_of w LV, RV_own v)) ∙ k)
    where
      go : (v w : Instruction) → Memᴰ v (stores e) → Memᴰ w (stores e) → (conflict e v w && (eqb v.processor w.processor && eqb x (RV_own w))) ≡ true
          → (before xs (number_of v LV) (number_of w LV) && missing e x xs (RV_own v)) ≡ true → is_refused ≡ true
      go v w mv mw c k =
          let (c1, c2) = and_parts (conflict e v w) (eqb v.processor w.processor && eqb x (RV_own w)) c in
          let (c3, c4) = and_parts (eqb v.processor w.processor) (eqb x (RV_own w)) c2 in
          let (k1, k2) = and_parts (before xs (number_of v LV) (number_of w LV)) (missing e x xs (RV_own v)) k in
          store_refuses v w w.processor mv mw (store_processor e accepted mw) (eqb-true x (RV_own w) c4) c1
          (ap (λ (u : Bool). u || semaphore_lost places w.processor v) (own_lost v w (eqb-true v.processor w.processor c3) k1 k2))

  -- rule 10
  remote_refused : any (lost e x xs) (remote_demands e x) ≡ true → is_refused ≡ true
  unfolding remote_demands
  remote_refused d =
      let (v, mv, w, mw, c, k) = passing_pair (lost e x xs) (stores e) (stores e) (conflict e)
      (λ v w. for (every_processor e) (λ q. when (eqb x (number_of w (RV q))) ((RV_own v, RV_own w, number_of v (RV q)) ∷ []))) d in
      go v w mv mw c (any_witness _ (every_processor e) (sym (any_for (lost e x xs) (every_processor e) _) ∙ k))
    where
      go : (v w : Instruction) → Memᴰ v (stores e) → Memᴰ w (stores e) → conflict e v w ≡ true
          → (q : ℕ) × Memᴰ q (every_processor e) × (any (lost e x xs) (when (eqb x (number_of w (RV q))) ((RV_own v, RV_own w, number_of v (RV q)) ∷ [])) ≡ true) → is_refused ≡ true
      go v w mv mw c (q, mq, k) =
          let (a, b) = and_parts (eqb x (number_of w (RV q))) (any (lost e x xs) ((RV_own v, RV_own w, number_of v (RV q)) ∷ []))
          (sym (any_when (lost e x xs) (eqb x (number_of w (RV q))) ((RV_own v, RV_own w, number_of v (RV q)) ∷ [])) ∙ k) in
          let (k1, k2) = and_parts (before xs (RV_own v) (RV_own w)) (missing e x xs (number_of v (RV q))) (sym (any_one (lost e x xs) (RV_own v, RV_own w, number_of v (RV q))) ∙ b) in
          store_refuses v w q mv mw (in_processors e mq) (eqb-true x (number_of w (RV q)) a) c (ap (λ (u : Bool). u || semaphore_lost places q v) (remote_lost v w q k1 k2))

  -- rule 14
  load_lost_lem : (w : Instruction) → load_lost places w ≡ (before xs (number_of w LV) x && missing e x xs (RV_own w))
  unfolding load_lost
  load_lost_lem w =
      ap₂ ◌&&◌ (sym (member_placed p (number_of w LV)) ∙ sym (before_absent xs (number_of w LV) x new)) (missing_at (RV_own w))

  bypass_refused : any (lost e x xs) (bypass_demands e x) ≡ true → is_refused ≡ true
  unfolding bypass_demands
  bypass_refused d =
      let (w, mw, l, ml, c, k) = passing_pair (lost e x xs) (stores e) (loads e) (λ w l. exposed w l && eqb x (number_of l R)) (λ w l. (number_of w LV, x, RV_own w) ∷ []) d in
      let (iw, sw) = is_store_lem e mw in
      let (il, sl) = is_load_lem e ml in
      let (c1, c2) = and_parts (exposed w l) (eqb x (number_of l R)) c in
      let (same, role) = owner_is h accepted x low il (R_role e.processors l.kind sl) (eqb-true x (number_of l R) c2) in
      let (i, li, vi) = by_number t iw in
      go w l i li (sym vi) same role sw sl c1 (sym (any_one (lost e x xs) (number_of w LV, x, RV_own w)) ∙ k)
    where
      go : (w l : Instruction) (i : ℕ) → i < t.execution.instructions.count → w ≡ instruction i → l ≡ instruction owner → R ≡ role_numbered role_number
          → is_store w.kind ≡ true → is_load l.kind ≡ true → exposed w l ≡ true → (before xs (number_of w LV) x && missing e x xs (RV_own w)) ≡ true → is_refused ≡ true
      go w l i li wi lo role sw sl c k =
          refuses_it i li (load_refusal i (number_R role_number (sym role))
          ∙ and_both (bypass_mark_lem i li
          ∙ and_both (and_both (ap (λ (u : Instruction). is_store u.kind) (sym wi) ∙ sw) (ap (λ (u : Instruction). is_load u.kind) (sym lo) ∙ sl)) (ap₂ exposed (sym wi) (sym lo) ∙ c))
          (ap (λ (u : Instruction). load_lost places u) (sym wi) ∙ load_lost_lem w ∙ k))

  -- rule 16
  semaphore_lost_lem : (s : Instruction) → is_semaphore s.kind ≡ true → semaphore_lost places s.processor s ≡ (before xs (number_of s R) x && missing e x xs (RV_own s))
  unfolding semaphore_lost
  semaphore_lost_lem s k =
      rw (eq-eqb s.processor s.processor refl, k)
      (ap₂ ◌&&◌ (sym (member_placed p (number_of s R)) ∙ sym (before_absent xs (number_of s R) x new)) (missing_at (RV_own s)))

  abbrev another : Instruction → Instruction → Bool
  another s w = not (eqb s.number w.number) && overlap s w

  -- a semaphore and another overlapping store are both to WB
  semaphore_conflict : {s w : Instruction} → Memᴰ s (semaphores e) → Memᴰ w (stores e) → another s w ≡ true → conflict e s w ≡ true
  unfolding conflict
  semaphore_conflict {s} {w} ms mw c =
      let (other, shared) = and_parts (not (eqb s.number w.number)) (overlap s w) c in
      let (b, mb, there) = any_witness (accesses w) (addresses s) (sym (overlap_any s w) ∙ shared) in
      let wb = semaphore_WB e accepted ms in
      and_both c (rw (wb, sym (same_memory e accepted (is_semaphore_lem e ms).0 (is_store_lem e mw).0 b (of_reach s b mb) there) ∙ wb))

  semaphore_refused : any (lost e x xs) (semaphore_demands e x) ≡ true → is_refused ≡ true
  unfolding semaphore_demands
  semaphore_refused d =
      let (s, ms, w, mw, c, k) = passing_pair (lost e x xs) (semaphores e) (stores e) (λ s w. another s w && eqb x (number_of w (RV s.processor))) (λ s w. (number_of s R, x, RV_own s) ∷ []) d in
      let (c1, c2) = and_parts (another s w) (eqb x (number_of w (RV s.processor))) c in
      let found = semaphore_store e ms in
      store_refuses s w s.processor found mw (store_processor e accepted found) (eqb-true x (number_of w (RV s.processor)) c2) (semaphore_conflict ms mw c1)
      (or_right (store_lost places s.processor s w) (semaphore_lost places s.processor s)
      (semaphore_lost_lem s (is_semaphore_lem e ms).1 ∙ sym (any_one (lost e x xs) (number_of s R, x, RV_own s)) ∙ k))

  -- x as an operation of its instruction
  x_is : (r : Role) → role_numbered role_number ≡ r → eqb x (number_of (instruction owner) r) ≡ true
  x_is r q = eq-eqb x (number_of (instruction owner) r) (sym (number_is h accepted x low) ∙ ap (number_of (instruction owner)) q)

  -- the processor of an RV
  pub remote_few : (q : ℕ) → role_numbered role_number ≡ RV q → q < e.processors
  remote_few q r = RV_few e.processors q (instruction owner).kind (subst (λ (s : Role). Memᴰ s (roles e.processors (instruction owner).kind)) r (role_in h accepted x low))

  bypass_demanded : (v : ℕ) → v < t.execution.instructions.count → role_number ≡ 0 → refusal v ≡ true → any (lost e x xs) (bypass_demands e x) ≡ true
  unfolding bypass_demands
  bypass_demanded v l q r =
      let (m, k) = and_parts (has_mark (mark_at t.marks v owner) 256) (load_lost places (instruction v)) (sym (load_refusal v q) ∙ r) in
      let (m1, c) = and_parts (is_store (instruction v).kind && is_load (instruction owner).kind) (exposed (instruction v) (instruction owner)) (sym (bypass_mark_lem v l) ∙ m) in
      let (sv, sl) = and_parts (is_store (instruction v).kind) (is_load (instruction owner).kind) m1 in
      pair_passes (lost e x xs) (stores e) (loads e) (λ w l. exposed w l && eqb x (number_of l R)) (λ w l. (number_of w LV, x, RV_own w) ∷ [])
      (store_in v l sv) (load_in owner owner_low sl) (and_both c (x_is R (role_R role_number q)))
      (any_one (lost e x xs) (number_of (instruction v) LV, x, RV_own (instruction v)) ∙ sym (load_lost_lem (instruction v)) ∙ k)

  -- the two stores of a conflict
  in_conflict : (v : ℕ) → v < t.execution.instructions.count → has_mark (mark_at t.marks v owner) 128 ≡ true
      → Memᴰ (instruction v) (stores e) × Memᴰ (instruction owner) (stores e) × (conflict e (instruction v) (instruction owner) ≡ true)
  in_conflict v l m =
      let (m1, c) = and_parts (is_store (instruction v).kind && is_store (instruction owner).kind) (conflict e (instruction v) (instruction owner)) (sym (conflict_mark_lem v l) ∙ m) in
      let (sv, sw) = and_parts (is_store (instruction v).kind) (is_store (instruction owner).kind) m1 in
      (store_in v l sv, store_in owner owner_low sw, c)

  semaphore_demanded : (v : ℕ) → v < t.execution.instructions.count → 3 ≤ role_number → has_mark (mark_at t.marks v owner) 128 ≡ true
      → semaphore_lost places (role_number - 3) (instruction v) ≡ true → any (lost e x xs) (semaphore_demands e x) ≡ true
  unfolding semaphore_demands semaphore_lost conflict semaphores
  semaphore_demanded v l few m k =
      let s = instruction v in
      let (mv, mw, c) = in_conflict v l m in
      let (k1, k2) = and_parts (eqb (role_number - 3) s.processor) (is_semaphore s.kind && (ltb (placed places (number_of s R)) 255 && missing_by places (RV_own s))) k in
      let (k3, k4) = and_parts (is_semaphore s.kind) (ltb (placed places (number_of s R)) 255 && missing_by places (RV_own s)) k2 in
      let own = eqb-true (role_number - 3) s.processor k1 in
      pair_passes (lost e x xs) (semaphores e) (stores e) (λ s w. another s w && eqb x (number_of w (RV s.processor))) (λ s w. (number_of s R, x, RV_own s) ∷ [])
      (in_keep (λ i. is_semaphore i.kind) (numbered_in t v l) k3) mw
      (and_both (and_parts (another s (instruction owner)) _ c).0 (x_is (RV s.processor) (role_RV role_number few ∙ ap RV own)))
      (any_one (lost e x xs) (number_of s R, x, RV_own s) ∙ sym (semaphore_lost_lem s k3) ∙ and_both (eq-eqb s.processor s.processor refl) (and_both k3 k4))

  store_demanded : (v : ℕ) → v < t.execution.instructions.count → 3 ≤ role_number → has_mark (mark_at t.marks v owner) 128 ≡ true
      → store_lost places (role_number - 3) (instruction v) (instruction owner) ≡ true
      → (any (lost e x xs) (own_demands e x) || any (lost e x xs) (remote_demands e x)) ≡ true
  unfolding own_demands remote_demands
  store_demanded v l few m k =
      let (mv, mw, c) = in_conflict v l m in
      go mv mw c (lost_parts (instruction v) (instruction owner) (role_number - 3) k)
    where
      role : role_numbered role_number ≡ RV (role_number - 3)
      role = role_RV role_number few

      go : Memᴰ (instruction v) (stores e) → Memᴰ (instruction owner) (stores e) → conflict e (instruction v) (instruction owner) ≡ true
          → ((before xs (RV_own (instruction v)) (RV_own (instruction owner)) ≡ true) × (missing e x xs (number_of (instruction v) (RV (role_number - 3))) ≡ true))
          ⊎ ((role_number - 3 ≡ (instruction owner).processor) × (eqb (instruction v).processor (instruction owner).processor ≡ true)
          × (before xs (number_of (instruction v) LV) (number_of (instruction owner) LV) ≡ true) × (missing e x xs (RV_own (instruction v)) ≡ true))
          → (any (lost e x xs) (own_demands e x) || any (lost e x xs) (remote_demands e x)) ≡ true
      go mv mw c (inl (b, m)) =
          or_right (any (lost e x xs) (own_demands e x)) (any (lost e x xs) (remote_demands e x))
          (pair_passes (lost e x xs) (stores e) (stores e) (conflict e)
          (λ v w. for (every_processor e) (λ q. when (eqb x (number_of w (RV q))) ((RV_own v, RV_own w, number_of v (RV q)) ∷ []))) mv mw c
          (any_for (lost e x xs) (every_processor e) _
          ∙ any_member _ (processor_in e (role_number - 3) (remote_few (role_number - 3) role))
          (any_when (lost e x xs) (eqb x (number_of (instruction owner) (RV (role_number - 3)))) _
          ∙ and_both (x_is (RV (role_number - 3)) role) (any_one (lost e x xs) (RV_own (instruction v), RV_own (instruction owner), number_of (instruction v) (RV (role_number - 3))) ∙ and_both b m))))
      go mv mw c (inr (q, s, b, m)) =
          ap (λ (u : Bool). u || any (lost e x xs) (remote_demands e x))
          (pair_passes (lost e x xs) (stores e) (stores e) (λ v w. conflict e v w && (eqb v.processor w.processor && eqb x (RV_own w))) (λ v w. (number_of v LV, number_of w LV, RV_own v) ∷ []) mv mw
          (and_both c (and_both s (x_is (RV (instruction owner).processor) (role ∙ ap RV q))))
          (any_one (lost e x xs) (number_of (instruction v) LV, number_of (instruction owner) LV, RV_own (instruction v)) ∙ and_both b m))

  refused_demanded : is_refused ≡ true → demanded ≡ true
  unfolding refused_by refuses_by
  refused_demanded r =
      let (v, l, k) = some_at refusal t.execution.instructions.count r in
      split (eqb role_number 0)
      (λ z. or_left (own || remote || bypass) semaphore (or_right (own || remote) bypass (bypass_demanded v l (eqb-true role_number 0 z) k)))
      (λ z. split (leb 3 role_number)
      (λ s.
      let few = leb-true 3 role_number s in
      let (m, k1) = and_parts (has_mark (mark_at t.marks v owner) 128) _ (sym (store_refusal v (λ q. clash (eq-eqb role_number 0 q) z) few) ∙ k) in
      or_cases (store_lost places (role_number - 3) (instruction v) (instruction owner)) (semaphore_lost places (role_number - 3) (instruction v)) k1
      (λ u. or_left (own || remote || bypass) semaphore (or_left (own || remote) bypass (store_demanded v l few m u)))
      (λ u. or_right (own || remote || bypass) semaphore (semaphore_demanded v l few m u)))
      (λ s. clash k (rw (z, s) refl)))

  pub refused_is : refused_by places t.execution.instructions t.operations t.marks x ≡ demanded
  refused_is =
      agree (refused_by places t.execution.instructions t.operations t.marks x) demanded refused_demanded
      (λ d. or_cases (own || remote || bypass) semaphore d
      (λ d. or_cases (own || remote) bypass d (λ d. or_cases own remote d own_refused remote_refused) bypass_refused)
      semaphore_refused)
