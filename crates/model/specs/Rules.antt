-- The visibility rules, each under its number, and what it is for a prefix to break them.
use Rattle.std.specs.Prelude.{ℕ, suc, ◌+◌, ◌-◌, Bool, false, not, cond, ◌&&◌, ◌||◌, List, [], ◌∷◌, map, length, get_or, eqb, leb, ltb}
use Rattle.std.proofs.Math.Option.{Option, none, some}
use Rattle.base.specs.Lists.{any, keep, when, for, count, below, member}
use Rattle.model.specs.Execution.{is_acquire, is_release, is_semaphore, is_WB, is_UC, same_domain, Instruction, Execution, Role, R, LV, F, RV, has_role_R, has_role_LV, has_role_F, has_role_RV, number_of, Operation, operations, all_operations, loads, stores, semaphores, every_processor, attribute_at, initial_byte}

-- 'A before B' as a prefix (document 01: beginning) settles it: A stands in it, and B stands later or not at all
unfoldable pub before : List ℕ → ℕ → ℕ → Bool
before [] a b = false
before (x ∷ xs) a b = not (eqb x b) && (eqb x a || before xs a b)

-- Accesses

-- the byte addresses of an access
unfoldable pub addresses : Instruction → List ℕ
addresses i = count i.address i.size

unfoldable pub accesses : Instruction → ℕ → Bool
accesses i a = leb i.address a && ltb a (i.address + i.size)

-- the byte that a load saw, or that a store wrote, at an address
abbrev pub byte_seen : Instruction → ℕ → ℕ
byte_seen i a = get_or i.seen (a - i.address) 0

abbrev pub byte_written : Instruction → ℕ → ℕ
byte_written i a = get_or i.wrote (a - i.address) 0

-- the bytes that two accesses share, by their addresses
unfoldable pub shared_bytes : Instruction → Instruction → List ℕ
shared_bytes i j = keep (accesses j) (addresses i)

-- two accesses overlap when they share a byte
unfoldable pub overlap : Instruction → Instruction → Bool
overlap i j = ltb 0 (length (shared_bytes i j))

-- Operations by role

abbrev pub is_R : Operation → Bool
is_R a = has_role_R a.role

abbrev pub is_LV : Operation → Bool
is_LV a = has_role_LV a.role

abbrev pub is_F : Operation → Bool
is_F a = has_role_F a.role

-- RV to the storing processor ('own'), and to another
abbrev pub is_own_RV : Operation → Bool
is_own_RV a = has_role_RV a.role (λ q. eqb q a.instruction.processor)

abbrev pub is_other_RV : Operation → Bool
is_other_RV a = has_role_RV a.role (λ q. not (eqb q a.instruction.processor))

-- LV and LV, or RV_q and RV_q
abbrev pub same_visibility : Role → Role → Bool
same_visibility R b = false
same_visibility LV b = has_role_LV b
same_visibility F b = false
same_visibility (RV q) b = has_role_RV b (eqb q)

-- R or LV
abbrev pub is_R_or_LV : Operation → Bool
is_R_or_LV a = is_R a || is_LV a

-- what an end of a dependence pair stands for: R or LV; of a semaphore R
abbrev pub is_end : Operation → Bool
is_end a = is_R a || is_LV a && not (is_semaphore a.instruction.kind)

-- two operations of one instruction
abbrev pub same_instruction : Operation → Operation → Bool
same_instruction a b = eqb a.instruction.number b.instruction.number

-- the first operation's instruction is an earlier one of the second's program
abbrev pub earlier : Operation → Operation → Bool
earlier a b =
    eqb a.instruction.processor b.instruction.processor && ltb a.instruction.number b.instruction.number

abbrev pub overlapping : Operation → Operation → Bool
overlapping a b = overlap a.instruction b.instruction

-- Rules 1 to 8, 13 and 15 are links: 'a before b' required without an 'if', as relations of two operations.

-- 1 WO: LV(W) before RV_own(W); RV_own(W) before every other RV_q(W)
unfoldable pub link1 : Operation → Operation → Bool
link1 a b = same_instruction a b && (is_LV a && is_own_RV b || is_own_RV a && is_other_RV b)

-- 2 ACQ: an ld.acq's or acquiring semaphore's R before every operation of each later instruction of its program
unfoldable pub link2 : Operation → Operation → Bool
link2 a b = earlier a b && (is_acquire a.instruction.kind && is_R a)

-- 3 REL: for an earlier load, its R before every operation of the st.rel or releasing semaphore. For an earlier store, LV before LV, and RV_q before RV_q for each q.
-- (An earlier semaphore is both.)
unfoldable pub link3 : Operation → Operation → Bool
link3 a b = earlier a b && (is_release b.instruction.kind && (is_R a || same_visibility a.role b.role))

-- 4 FEN: all operations of earlier instructions before F, and F before all of later ones, other mf included
unfoldable pub link4 : Operation → Operation → Bool
link4 a b = earlier a b && (is_F a || is_F b)

-- 5 MD:RAW: store, then overlapping load in one program: LV before R
unfoldable pub link5 : Operation → Operation → Bool
link5 a b = earlier a b && overlapping a b && (is_LV a && is_R b)

-- 6 MD:WAR: load, then overlapping store: R before LV
unfoldable pub link6 : Operation → Operation → Bool
link6 a b = earlier a b && overlapping a b && (is_R a && is_LV b)

-- 7 MD:WAW: two overlapping stores: LV before LV
unfoldable pub link7 : Operation → Operation → Bool
link7 a b = earlier a b && overlapping a b && (is_LV a && is_LV b)

module _ (e : Execution) where
  -- the first operation's instruction and the second's are a given pair
  unfoldable pub paired : Operation → Operation → Bool
  paired a b =
      any (λ p. eqb p.0 a.instruction.number && eqb p.1 b.instruction.number) e.pairs

  -- 8 DF: for a given pair, R or LV of the first before R or LV of the second; at a semaphore R
  unfoldable pub link8 : Operation → Operation → Bool
  link8 a b = paired a b && (is_end a && is_end b)

  abbrev pub in_WB : Instruction → Bool
  in_WB i = is_WB (attribute_at e i)

  abbrev pub in_UC : Instruction → Bool
  in_UC i = is_UC (attribute_at e i)

  -- two UC accesses in one domain
  abbrev pub in_one_domain : Instruction → Instruction → Bool
  in_one_domain i j = same_domain (attribute_at e i) (attribute_at e j)

  -- 13 UC order: two UC accesses of one program in one domain (document 02, P6): R or LV of the first before R or LV of the second
  unfoldable pub link13 : Operation → Operation → Bool
  link13 a b = earlier a b && in_one_domain a.instruction b.instruction && (is_R_or_LV a && is_R_or_LV b)

-- 15 (document 02, P3): R before LV of the same semaphore
unfoldable pub link15 : Operation → Operation → Bool
link15 a b = same_instruction a b && (is_R a && is_LV b)

-- What a rule asks of an order. Each rule is a list of claims.

-- 'the first before the second', by operation numbers
abbrev pub Link : Type 0
Link = ℕ × ℕ

infix 20 ◌≺◌
abbrev pub ◌≺◌ : ℕ → ℕ → Link
a ≺ b = (a, b)

-- A store to a byte, as a load of processor p meets it: whether it is p's own; its LV and its RV_p; the byte written
pub record Writer : Type 0 where
  pub own : Bool
  pub lv : ℕ
  pub rv : ℕ
  pub wrote : ℕ

-- One byte of a load: its R; the stores to the byte; the initial byte; the byte seen
pub record Sight : Type 0 where
  pub reads : ℕ
  pub writers : List Writer
  pub initial : ℕ
  pub seen : ℕ

infix 15 ◌⇒◌
pub data Claim : Type 0 where
  must : Link → Claim  -- a before b
  ◌⇒◌ : Link → Link → Claim  -- if a before b, then c before d
  never : ℕ → ℕ → ℕ → Claim  -- never a before b before c
  sees : Sight → Claim  -- the byte seen is the byte that rule 11 gives

abbrev pub RV_own : Instruction → ℕ
RV_own w = number_of w (RV w.processor)

module _ (e : Execution) where
  -- the links of a relation
  unfoldable pub links_of : (Operation → Operation → Bool) → List Link
  links_of link =
      for (all_operations e) (λ a. for (all_operations e) (λ b. when (link a b) ((a.number ≺ b.number) ∷ [])))

  -- two different overlapping stores, WB or UC
  unfoldable pub conflict : Instruction → Instruction → Bool
  conflict v w = not (eqb v.number w.number) && overlap v w && (coherent v && coherent w)
    where
      coherent : Instruction → Bool
      coherent i = in_WB e i || in_UC e i

  unfoldable pub for_conflicts : (Instruction → Instruction → List Claim) → List Claim
  for_conflicts f = for (stores e) (λ v. for (stores e) (λ w. when (conflict v w) (f v w)))

  -- 9 COH: overlapping stores of one processor, WB or UC: if LV(W1) before LV(W2), RV_own(W1) before RV_own(W2)
  unfoldable pub rule9 : List Claim
  rule9 = for_conflicts (λ v w. when (eqb v.processor w.processor)
      ((number_of v LV ≺ number_of w LV ⇒ RV_own v ≺ RV_own w) ∷ []))

  -- 10 COH: overlapping stores of any processors, WB or UC: if RV_p(W1) before RV_p(W2), then RV_q likewise for every q
  unfoldable pub rule10 : List Claim
  rule10 = for_conflicts (λ v w. for (every_processor e) (λ p. map (λ q.
      number_of v (RV p) ≺ number_of w (RV p) ⇒ number_of v (RV q) ≺ number_of w (RV q)) (every_processor e)))

  -- 11 Read value, for each byte b of a load R by p. (A semaphore is among the stores to the bytes that it reads.)
  unfoldable pub sight_of : Instruction → ℕ → Sight
  sight_of l b = record {
    reads = number_of l R;
    writers = map (λ w. record {
      own = eqb w.processor l.processor;
      lv = number_of w LV;
      rv = number_of w (RV l.processor);
      wrote = byte_written w b;
    }) (keep (λ w. accesses w b) (stores e));
    initial = initial_byte e b;
    seen = byte_seen l b;
  }

  unfoldable pub rule11 : List Claim
  rule11 = for (loads e) (λ l. map (λ b. sees (sight_of l b)) (addresses l))

  -- 12 WBR: between two RV of one st.rel or releasing semaphore to WB stand only RV of it
  unfoldable pub remote_of : Instruction → List ℕ
  remote_of w = map (λ q. number_of w (RV q)) (every_processor e)

  unfoldable pub rule12 : List Claim
  rule12 = for (keep (λ w. is_release w.kind && in_WB e w) (stores e)) (λ w.
      for (remote_of w) (λ a. for (remote_of w) (λ c.
      for (keep (λ o. not (member (remote_of w) o)) (below (operations e))) (λ o. never a o c ∷ []))))

  -- 14 No UC bypass: for a UC store and an overlapping load of one processor, never LV(W) before R before RV_own(W)
  unfoldable pub rule14 : List Claim
  rule14 = for (stores e) (λ w. for (loads e) (λ l.
      when (in_UC e w && (eqb w.processor l.processor && overlap w l))
      (never (number_of w LV) (number_of l R) (RV_own w) ∷ [])))

  -- 16 (document 02, P3): no RV_p of another overlapping store between R and RV_p of a semaphore by p
  unfoldable pub rule16 : List Claim
  rule16 = for (semaphores e) (λ s. for (stores e) (λ w. when (not (eqb s.number w.number) && overlap s w)
      (never (number_of s R) (number_of w (RV s.processor)) (RV_own s) ∷ [])))

  -- the rules, in the order of their numbers
  unfoldable pub rules : List (List Claim)
  rules =
      required link1 ∷ required link2 ∷ required link3 ∷ required link4 ∷ required link5 ∷ required link6 ∷ required link7
      ∷ required (link8 e) ∷ rule9 ∷ rule10 ∷ rule11 ∷ rule12 ∷ required (link13 e) ∷ rule14
      ∷ required link15 ∷ rule16 ∷ []
    where
      required : (Operation → Operation → Bool) → List Claim
      required link = map must (links_of link)

  -- some rule of 1 to 8, 13 and 15 has a link from a to b
  unfoldable pub linked : Operation → Operation → Bool
  linked a b =
      link1 a b || link2 a b || link3 a b || link4 a b || link5 a b || link6 a b || link7 a b || link8 e a b || link13 e a b || link15 a b

-- The byte that rule 11 has a load see

-- the byte that the list gives for an operation, else d
unfoldable pub byte_of : List (ℕ × ℕ) → ℕ → ℕ → ℕ
byte_of [] o d = d
byte_of (w ∷ ws) o d = cond (eqb w.0 o) w.1 (byte_of ws o d)

-- of the operations that the list gives bytes for, the byte of the latest before r; with none, d
unfoldable pub latest : List (ℕ × ℕ) → ℕ → ℕ → List ℕ → ℕ
latest ws r d [] = d
latest ws r d (x ∷ xs) = cond (eqb x r) d (latest ws r (byte_of ws x d) xs)

-- R is local for the byte: some own store has LV(W) before R before RV_p(W)
unfoldable pub local : List ℕ → Sight → Bool
local xs s = any (λ w. w.own && (before xs w.lv s.reads && before xs s.reads w.rv)) s.writers

-- If local, the byte of p's store whose LV is the latest before R. If not, that of the store, by anyone, whose RV_p is the latest before R; with no such store, the initial byte.
unfoldable pub byte_read : List ℕ → Sight → ℕ
byte_read xs s =
    cond (local xs s)
    (latest (map (λ w. (w.lv, w.wrote)) (keep (λ w. w.own) s.writers)) s.reads s.initial xs)
    (latest (map (λ w. (w.rv, w.wrote)) s.writers) s.reads s.initial xs)

-- Judging

-- a claim is broken by what a prefix settles. (Rule 11 is settled for a load once its R stands.)
unfoldable pub broken : List ℕ → Claim → Bool
broken xs (must l) = before xs l.1 l.0
broken xs (l ⇒ m) = before xs l.0 l.1 && before xs m.1 m.0
broken xs (never a b c) = before xs a b && before xs b c
broken xs (sees s) = member xs s.reads && not (eqb (byte_read xs s) s.seen)

-- the lowest number, counted from k, of a rule that a prefix breaks
unfoldable pub lowest_from : ℕ → List (List Claim) → List ℕ → Option ℕ
lowest_from k [] xs = none
lowest_from k (r ∷ rs) xs = cond (any (broken xs) r) (some k) (lowest_from (suc k) rs xs)

unfoldable pub lowest_broken : Execution → List ℕ → Option ℕ
lowest_broken e xs = lowest_from 1 (rules e) xs

-- consistent (document 01: clean): what the prefix settles breaks no rule
unfoldable pub keeps : List (List Claim) → List ℕ → Bool
keeps rs xs = not (any (any (broken xs)) rs)

unfoldable pub consistent : Execution → List ℕ → Bool
consistent e xs = keeps (rules e) xs
