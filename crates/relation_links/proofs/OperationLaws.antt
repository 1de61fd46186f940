-- The operations of one instruction more, filled into the table.
use Prim.Native.Nat.{ℕ, suc, ◌+◌, ◌≤◌, ◌<◌}
use native.Mathlib.Omega.{arith}
use native.Mathlib.Decide.{dec_lt}
use native.Mathlib.Numerals.{add-one}
use mathlib.Core.Path.{◌≡◌, refl, sym, ap, ap₂, ◌∙◌, subst}
use mathlib.Core.List.{List, [], ◌∷◌, ◌++◌, map, map-append}
use lib.ListN.{length, get_or, take, set, length-set, length-map, get_or-map}
use lib.Seq.{get_or-set_same, get_or-set_other, ext_get_or, take-suc, take_all}
use Rattle.base.specs.Lists.{below, count, for}
use Rattle.base.proofs.Lists.{count_split, length_count, getD_count, map_same, of_count, for_append, for_one}
use Rattle.model.specs.Execution as model
use Rattle.model.specs.Execution.{Kind, Role, F, kind_of, roles, role_place, number_of, operations_of, operation_count}
use Rattle.model.specs.Accepted.{Consecutive}
use Rattle.model.proofs.Numbers.{role_place_lem, consecutive_at, count_more, count_first}
use Rattle.record_decoded.specs.Kinds.{role_numbered}
use Rattle.record_decoded.specs.Decoded.{instruction_at, instructions_of}
use Rattle.record_decoded.proofs.Arrays.{instructions_length, instruction_there}
use Rattle.record_decoded.specs.declared.types.Instructions.{Instructions}
use Rattle.relation_links.specs.declared.operations.Operations.{Operations}
use Rattle.relation_links.specs.Operations.{operation_at, table_of, Tabled}

-- The invariant: the first k operations of the instruction stand from `start` on, and what stood before is as it was.
pub record Filled (before_owners before_roles : List ℕ) (start number : ℕ) (kind : Kind) (k : ℕ) (owners roles_now : List ℕ) : Type 0 where
  pub long : length owners ≡ 128
  pub long_roles : length roles_now ≡ 128
  pub old_owner : (o : ℕ) → o < start → get_or owners o 0 ≡ get_or before_owners o 0
  pub old_role : (o : ℕ) → o < start → get_or roles_now o 0 ≡ get_or before_roles o 0
  pub new_owner : (j : ℕ) → j < k → get_or owners (start + j) 0 ≡ number
  pub new_role : (j : ℕ) → j < k → (p : ℕ) → j < length (roles p kind) → role_numbered (get_or roles_now (start + j) 0) ≡ get_or (roles p kind) j F

pub filled_none : {owners roles_now : List ℕ} {start number : ℕ} {kind : Kind} → length owners ≡ 128 → length roles_now ≡ 128
    → Filled owners roles_now start number kind 0 owners roles_now
filled_none {owners} {roles_now} {start} {number} {kind} h k = record {
  long = h;
  long_roles = k;
  old_owner = λ o l. refl;
  old_role = λ o l. refl;
  new_owner = λ j l. absurd (omega arith);
  new_role = λ j l p m. absurd (omega arith);
}

module _ {before_owners before_roles : List ℕ} {start number k : ℕ} {kind : Kind} {owners roles_now : List ℕ}
    (inv : Filled before_owners before_roles start number kind k owners roles_now) where
  pub filled_more : (r : ℕ) → start + k < 128 → ((p : ℕ) → k < length (roles p kind) → role_numbered r ≡ get_or (roles p kind) k F)
      → Filled before_owners before_roles start number kind (k + 1) (set owners (start + k) number) (set roles_now (start + k) r)
  filled_more r room is = record {
    long = length-set owners (start + k) number ∙ inv.long;
    long_roles = length-set roles_now (start + k) r ∙ inv.long_roles;
    old_owner = λ o l. get_or-set_other owners (start + k) o number 0 (omega arith) ∙ inv.old_owner o l;
    old_role = λ o l. get_or-set_other roles_now (start + k) o r 0 (omega arith) ∙ inv.old_role o l;
    new_owner = λ j l. owner j l (dec_lt j k);
    new_role = λ j l. role j l (dec_lt j k);
  }
    where
      owner : (j : ℕ) → j < k + 1 → Dec (j < k) → get_or (set owners (start + k) number) (start + j) 0 ≡ number
      owner j l (yes h) = get_or-set_other owners (start + k) (start + j) number 0 (omega arith) ∙ inv.new_owner j h
      owner j l (no h) =
          ap (λ (o : ℕ). get_or (set owners (start + k) number) o 0) (let z : start + j ≡ start + k = omega arith in z)
          ∙ get_or-set_same owners (start + k) number 0 (omega (arith, inv.long))

      role : (j : ℕ) → j < k + 1 → Dec (j < k) → (p : ℕ) → j < length (roles p kind)
          → role_numbered (get_or (set roles_now (start + k) r) (start + j) 0) ≡ get_or (roles p kind) j F
      role j l (yes h) p m = ap role_numbered (get_or-set_other roles_now (start + k) (start + j) r 0 (omega arith)) ∙ inv.new_role j h p m
      role j l (no h) p m =
          let e : j ≡ k = omega arith in
          subst (λ (i : ℕ). i < length (roles p kind) → role_numbered (get_or (set roles_now (start + k) r) (start + i) 0) ≡ get_or (roles p kind) i F) (sym e)
          (λ w. ap role_numbered (get_or-set_same roles_now (start + k) r 0 (omega (arith, inv.long_roles))) ∙ is p w) m

-- the table with the operations of instruction i
module _ (is : Instructions) (t r : Operations) (i processors : ℕ) (kind : Kind) (kind_is : kind ≡ kind_of (get_or is.kinds i 0))
    (first : t.count ≡ get_or is.firsts i 0)
    (counted : r.count ≡ t.count + length (roles processors kind))
    (filled : Filled t.owners t.roles t.count i kind (length (roles processors kind)) r.owners r.roles) where
  abbrev n : ℕ
  n = length (roles processors kind)

  abbrev made : Role → model.Operation
  made role = record { number = number_of (instruction_at is i) role; instruction = instruction_at is i; role = role }

  old : (o : ℕ) → o < t.count → operation_at is r o ≡ operation_at is t o
  unfolding operation_at
  old o l = λ x. record {
    number = o;
    instruction = instruction_at is (filled.old_owner o l x);
    role = role_numbered (filled.old_role o l x);
  }

  new : (j : ℕ) → j < n → operation_at is r (t.count + j) ≡ made (get_or (roles processors kind) j F)
  unfolding operation_at instruction_at
  new j l = λ x. record {
    number = number x;
    instruction = instruction_at is (filled.new_owner j l x);
    role = filled.new_role j l processors l x;
  }
    where
      number : t.count + j ≡ number_of (instruction_at is i) (get_or (roles processors kind) j F)
      number = omega (arith, first, role_place_lem processors kind j l, ap (λ (k : Kind). role_place k (get_or (roles processors kind) j F)) kind_is)

  pub table_more : table_of is r ≡ table_of is t ++ operations_of processors (instruction_at is i)
  unfolding table_of below operations_of instruction_at
  table_more =
      ap (λ (k : ℕ). map (operation_at is r) (count 0 k)) counted
      ∙ ap (map (operation_at is r)) (count_split 0 t.count n)
      ∙ map-append (operation_at is r) (count 0 t.count) (count (0 + t.count) n)
      ∙ ap₂ (λ (a b : List model.Operation). a ++ b)
      (map_same (operation_at is r) (operation_at is t) (count 0 t.count) (λ o m. old o (let (h, k) = of_count 0 t.count m in omega arith)))
      (ap (λ (k : ℕ). map (operation_at is r) (count k n)) (let z : 0 + t.count ≡ t.count = omega arith in z)
      ∙ ext_get_or (made F) (map (operation_at is r) (count t.count n)) (map made (roles processors kind))
      (length-map (count t.count n) (operation_at is r) ∙ length_count t.count n ∙ sym (length-map (roles processors kind) made))
      (λ j l. let m : j < n = omega (arith, length-map (count t.count n) (operation_at is r), length_count t.count n) in
      getD_count (operation_at is r) (made F) t.count n j m ∙ new j m ∙ sym (get_or-map made (roles processors kind) j F)))
      ∙ ap (λ (k : Kind). table_of is t ++ map made (roles processors k)) kind_is

-- the table of the first i instructions, one longer
module _ (is : Instructions) (t r : Operations) (i processors : ℕ) (there : i < is.count)
    (so_far : Tabled is t (for (take i (instructions_of is)) (operations_of processors)) (operation_count processors (take i (instructions_of is))))
    (consecutive : Consecutive processors 0 0 (instructions_of is)) where
  abbrev instruction : model.Instruction
  instruction = instruction_at is i

  next_one : take (suc i) (instructions_of is) ≡ take i (instructions_of is) ++ (instruction ∷ [])
  next_one =
      take-suc (instructions_of is) i instruction (omega (arith, instructions_length is))
      ∙ ap (λ (j : model.Instruction). take i (instructions_of is) ++ (j ∷ [])) (instruction_there is i instruction there)

  -- the instruction's first operation is the next of the table
  pub next_first : t.count ≡ get_or is.firsts i 0
  unfolding instruction_at
  next_first =
      so_far.counts
      ∙ sym (
      ap (λ (j : model.Instruction). j.first) (sym (instruction_there is i instruction there))
      ∙ (consecutive_at processors 0 0 (instructions_of is) instruction i consecutive (omega (arith, instructions_length is))).0
      ∙ omega arith)

  next_count : operation_count processors (take (suc i) (instructions_of is)) ≡ t.count + length (roles processors (kind_of (get_or is.kinds i 0)))
  unfolding instruction_at
  next_count =
      ap (operation_count processors) next_one ∙ count_more processors (take i (instructions_of is)) instruction
      ∙ ap (λ (k : ℕ). k + length (roles processors (kind_of (get_or is.kinds i 0)))) (sym so_far.counts)

  pub next_fits : operation_count processors (instructions_of is) ≤ 128 → t.count + length (roles processors (kind_of (get_or is.kinds i 0))) ≤ 128
  next_fits h = omega (arith, next_count, count_first processors (suc i) (instructions_of is))

  pub next_table : Tabled is r (table_of is t ++ operations_of processors instruction) (t.count + length (roles processors (kind_of (get_or is.kinds i 0))))
      → Tabled is r (for (take (i + 1) (instructions_of is)) (operations_of processors)) (operation_count processors (take (i + 1) (instructions_of is)))
  next_table w = record {
    holds =
        w.holds
        ∙ ap (λ (l : List model.Operation). l ++ operations_of processors instruction) so_far.holds
        ∙ sym (
        ap (λ (k : ℕ). for (take k (instructions_of is)) (operations_of processors)) (add-one i)
        ∙ ap (λ (l : List model.Instruction). for l (operations_of processors)) next_one
        ∙ for_append (take i (instructions_of is)) (instruction ∷ []) (operations_of processors)
        ∙ ap (λ (l : List model.Operation). for (take i (instructions_of is)) (operations_of processors) ++ l) (for_one instruction (operations_of processors)));
    counts = w.counts ∙ sym (ap (λ (k : ℕ). operation_count processors (take k (instructions_of is))) (add-one i) ∙ next_count);
  }

-- the table of no instruction, and of all
pub table_none : (is : Instructions) (t : Operations) (processors : ℕ) → t.count ≡ 0
    → Tabled is t (for (take 0 (instructions_of is)) (operations_of processors)) (operation_count processors (take 0 (instructions_of is)))
unfolding table_of below count for operation_count
table_none is t processors h = record { holds = ap (λ (k : ℕ). map (operation_at is t) (below k)) h; counts = h }

pub table_all : (is : Instructions) (t : Operations) (processors i : ℕ) → is.count ≤ i
    → Tabled is t (for (take i (instructions_of is)) (operations_of processors)) (operation_count processors (take i (instructions_of is)))
    → Tabled is t (for (instructions_of is) (operations_of processors)) (operation_count processors (instructions_of is))
table_all is t processors i h w =
    subst (λ (l : List model.Instruction). Tabled is t (for l (operations_of processors)) (operation_count processors l))
    (take_all i (instructions_of is) (omega (arith, instructions_length is))) w
