-- The numbers of operations: an instruction's operations follow each other from its first.
use Prim.Native.Nat.{ℕ, zero, suc, ◌+◌, ◌-◌, ◌≤◌, ◌<◌}
use native.Mathlib.Omega.{arith}
use mathlib.Core.Path.{◌≡◌, refl, sym, ap, ◌∙◌}
use mathlib.Core.Bool.{Bool, true, false, cond, false≢true}
use mathlib.Core.List.Memᴰ
use mathlib.Core.List.{List, [], ◌∷◌, ◌++◌, append-nil, map, Memᴰ}
use mathlib.Core.Logic.{⊎_elim}
use lib.ListN.{length, get_or, take, length-map, length-append, get_or-append}
use lib.Seq.{get_or-append-add}
use lib.Dec.{ltb}
use borrow.Author.Tests.{ltb-true, ltb-false}
use Rattle.base.specs.Lists.{any, for, below}
use Rattle.base.proofs.Bools.{split}
use Rattle.base.proofs.Lists.{length_count, getD_below, place_of}
use Rattle.model.specs.Execution.{Kind, ld, ld_acq, st, st_rel, mf, sem_acq, sem_rel, kind_row, is_store, is_semaphore, Instruction, Role, R, LV, F, RV, roles, operation_count, remotes_at, place_among, role_place, number_of, Operation, operations_of, has_role_RV}
use Rattle.model.specs.Accepted.{Consecutive}

-- how many operations a kind gives, and the roles at their places

module _ (p : ℕ) (k : Kind) where
  pub store_count : is_store k ≡ true → length (roles p k) ≡ remotes_at k + p
  unfolding roles remotes_at below
  store_count h = rw h (omega (arith, length-append (kind_row k).before_remotes (map RV (below p)), length-map (below p) RV, length_count 0 p))

  pub other_count : is_store k ≡ false → length (roles p k) ≡ remotes_at k
  unfolding roles remotes_at
  other_count h = rw h (ap length (append-nil (kind_row k).before_remotes))

  behind : is_store k ≡ true → (q : ℕ) → q < p → get_or (roles p k) (remotes_at k + q) F ≡ RV q
  unfolding roles remotes_at
  behind t q l = rw t (get_or-append-add (kind_row k).before_remotes (map RV (below p)) q F ∙ getD_below RV F p q l)

  module _ (place : ℕ) where
    pub role_before_remotes : place < remotes_at k → get_or (roles p k) place F ≡ get_or (kind_row k).before_remotes place F
    unfolding roles remotes_at
    role_before_remotes l = get_or-append (kind_row k).before_remotes (cond (is_store k) (map RV (below p)) []) F place l

    pub remote_role : remotes_at k ≤ place → place < length (roles p k) → get_or (roles p k) place F ≡ RV (place - remotes_at k)
    remote_role l h =
        split (is_store k)
        (λ t. at t (place - remotes_at k) (omega arith) (omega (arith, store_count t)))
        (λ f. absurd (omega (arith, other_count f)))
      where
        at : is_store k ≡ true → (q : ℕ) → place ≡ remotes_at k + q → q < p → get_or (roles p k) place F ≡ RV q
        at t q e less = ap (λ (n : ℕ). get_or (roles p k) n F) e ∙ behind t q less

-- the role at a place of a kind's list of roles has that place

place_before_remotes : (k : Kind) (place : ℕ) → place < remotes_at k → role_place k (get_or (kind_row k).before_remotes place F) ≡ place
unfolding place_among any remotes_at
place_before_remotes ld zero l = refl
place_before_remotes ld_acq zero l = refl
place_before_remotes st zero l = refl
place_before_remotes st_rel zero l = refl
place_before_remotes mf zero l = refl
place_before_remotes sem_acq zero l = refl
place_before_remotes sem_rel zero l = refl
place_before_remotes ld (suc place) l = absurd (omega arith)
place_before_remotes ld_acq (suc place) l = absurd (omega arith)
place_before_remotes st (suc place) l = absurd (omega arith)
place_before_remotes st_rel (suc place) l = absurd (omega arith)
place_before_remotes mf (suc place) l = absurd (omega arith)
place_before_remotes sem_acq (suc zero) l = refl
place_before_remotes sem_rel (suc zero) l = refl
place_before_remotes sem_acq (suc (suc place)) l = absurd (omega arith)
place_before_remotes sem_rel (suc (suc place)) l = absurd (omega arith)

-- before the RVs each kind gives one operation, a semaphore two
pub remotes_at_lem : (k : Kind) → remotes_at k ≡ cond (is_semaphore k) 2 1
unfolding remotes_at
remotes_at_lem ld = refl
remotes_at_lem ld_acq = refl
remotes_at_lem st = refl
remotes_at_lem st_rel = refl
remotes_at_lem mf = refl
remotes_at_lem sem_acq = refl
remotes_at_lem sem_rel = refl

pub some_before_remotes : (k : Kind) → (1 ≤ remotes_at k) × (remotes_at k ≤ 2)
some_before_remotes k = go (is_semaphore k) (remotes_at_lem k)
  where
    go : (s : Bool) → remotes_at k ≡ cond s 2 1 → (1 ≤ remotes_at k) × (remotes_at k ≤ 2)
    go true h = (omega arith, omega arith)
    go false h = (omega arith, omega arith)

-- where two come before the RVs, the second is LV
pub second_role : (k : Kind) → 1 < remotes_at k → get_or (kind_row k).before_remotes 1 F ≡ LV
unfolding remotes_at
second_role ld l = absurd (omega arith)
second_role ld_acq l = absurd (omega arith)
second_role st l = absurd (omega arith)
second_role st_rel l = absurd (omega arith)
second_role mf l = absurd (omega arith)
second_role sem_acq l = refl
second_role sem_rel l = refl

-- the places of R, of F and of LV, which is the last before the RVs
pub R_place : (k : Kind) → role_place k R ≡ 0
unfolding place_among any
R_place ld = refl
R_place ld_acq = refl
R_place st = refl
R_place st_rel = refl
R_place mf = refl
R_place sem_acq = refl
R_place sem_rel = refl

pub F_place : (k : Kind) → role_place k F ≡ 0
unfolding place_among any
F_place ld = refl
F_place ld_acq = refl
F_place st = refl
F_place st_rel = refl
F_place mf = refl
F_place sem_acq = refl
F_place sem_rel = refl

pub LV_place : (k : Kind) → suc (role_place k LV) ≡ remotes_at k
unfolding place_among any remotes_at
LV_place ld = refl
LV_place ld_acq = refl
LV_place st = refl
LV_place st_rel = refl
LV_place mf = refl
LV_place sem_acq = refl
LV_place sem_rel = refl

module _ (p : ℕ) where
  pub role_place_lem : (k : Kind) (place : ℕ) → place < length (roles p k) → role_place k (get_or (roles p k) place F) ≡ place
  role_place_lem k place l =
      split (ltb place (remotes_at k))
      (λ t. ap (role_place k) (role_before_remotes p k place (ltb-true place (remotes_at k) t)) ∙ place_before_remotes k place (ltb-true place (remotes_at k) t))
      (λ f. ap (role_place k) (remote_role p k place (omega (arith, ltb-false place (remotes_at k) f)) l) ∙ omega (arith, ltb-false place (remotes_at k) f))

  pub role_number_lem : (i : Instruction) (place : ℕ) → place < length (roles p i.kind) → number_of i (get_or (roles p i.kind) place F) ≡ i.first + place
  role_number_lem i place l = omega (arith, role_place_lem i.kind place l)

-- an operation that is no RV stands before the RVs
pub before_remotes_lem : (k : Kind) (r : Role) → has_role_RV r (λ _. true) ≡ false → role_place k r < remotes_at k
before_remotes_lem k R h = omega (arith, R_place k, LV_place k)
before_remotes_lem k LV h = omega (arith, LV_place k)
before_remotes_lem k F h = omega (arith, F_place k, LV_place k)
before_remotes_lem k (RV q) h = absurd (false≢true (sym h))

-- instruction i of instructions that are numbered consecutively
pub consecutive_at : (p at n : ℕ) (is : List Instruction) (d : Instruction) (i : ℕ) → Consecutive p at n is → i < length is
    → ((get_or is i d).first ≡ at + operation_count p (take i is)) × ((get_or is i d).number ≡ n + i)
unfolding operation_count
consecutive_at p at n [] d i l h = absurd (omega arith)
consecutive_at p at n (j ∷ is) d zero l h = (omega (arith, l.0), omega (arith, l.1))
consecutive_at p at n (j ∷ is) d (suc i) l h =
    let (f, m) = consecutive_at p (at + length (roles p j.kind)) (suc n) is d i l.2 (omega arith) in
    (omega arith, omega arith)

-- the operations of one instruction more, and of the first i
pub count_more : (p : ℕ) (is : List Instruction) (i : Instruction) → operation_count p (is ++ (i ∷ [])) ≡ operation_count p is + length (roles p i.kind)
unfolding operation_count
count_more p [] i = omega arith
count_more p (j ∷ is) i = omega (arith, count_more p is i)

pub count_first : (p i : ℕ) (is : List Instruction) → operation_count p (take i is) ≤ operation_count p is
unfolding operation_count
count_first p zero is = omega arith
count_first p (suc i) [] = omega arith
count_first p (suc i) (j ∷ is) = omega (arith, count_first p i is)

-- the operations of instructions that are numbered consecutively are numbered below their count
pub number_below : (p at n : ℕ) (is : List Instruction) (o : Operation) → Consecutive p at n is → Memᴰ o (for is (operations_of p)) → o.number < at + operation_count p is
unfolding for operations_of operation_count
number_below p at n [] o l m = absurd (Memᴰ.not-nil m)
number_below p at n (i ∷ is) o l m =
    ⊎_elim
    (λ w.
    let (r, u, e) = Memᴰ.of_map (λ r. record { number = number_of i r; instruction = i; role = r }) (roles p i.kind) w in
    let (k, h, g) = place_of F u in
    omega (arith, l.0, role_number_lem p i k h, ap (number_of i) g, ap (λ (q : Operation). q.number) e))
    (λ w. omega (arith, number_below p (at + length (roles p i.kind)) (suc n) is o l.2 w))
    (Memᴰ.append_cases (operations_of p i) m)

-- instructions that are numbered consecutively differ in their numbers
pub number_from_lem : (p at n : ℕ) (is : List Instruction) (i : Instruction) → Consecutive p at n is → Memᴰ i is → n ≤ i.number
number_from_lem p at n [] i l m = absurd (Memᴰ.not-nil m)
number_from_lem p at n (j ∷ is) i l (Memᴰ.head h) = omega (arith, l.1, ap (λ (k : Instruction). k.number) h)
number_from_lem p at n (j ∷ is) i l (Memᴰ.tail m) = omega (arith, number_from_lem p (at + length (roles p j.kind)) (suc n) is i l.2 m)

pub one_numbered : (p at n : ℕ) (is : List Instruction) (i j : Instruction) → Consecutive p at n is → Memᴰ i is → Memᴰ j is → i.number ≡ j.number → i ≡ j
one_numbered p at n [] i j l mi mj h = absurd (Memᴰ.not-nil mi)
one_numbered p at n (k ∷ is) i j l (Memᴰ.head hi) (Memᴰ.head hj) h = hi ∙ sym hj
one_numbered p at n (k ∷ is) i j l (Memᴰ.head hi) (Memᴰ.tail mj) h =
    absurd (omega (arith, l.1, ap (λ (x : Instruction). x.number) hi, number_from_lem p (at + length (roles p k.kind)) (suc n) is j l.2 mj))
one_numbered p at n (k ∷ is) i j l (Memᴰ.tail mi) (Memᴰ.head hj) h =
    absurd (omega (arith, l.1, ap (λ (x : Instruction). x.number) hj, number_from_lem p (at + length (roles p k.kind)) (suc n) is i l.2 mi))
one_numbered p at n (k ∷ is) i j l (Memᴰ.tail mi) (Memᴰ.tail mj) h =
    one_numbered p (at + length (roles p k.kind)) (suc n) is i j l.2 mi mj h
