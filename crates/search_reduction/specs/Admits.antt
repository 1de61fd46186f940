-- The test of one operation more behind a consistent prefix: what it can newly break.
use Rattle.std.specs.Prelude.{ℕ, Bool, not, cond, ◌&&◌, ◌||◌, List, [], ◌∷◌, map, eqb}
use Rattle.base.specs.Lists.{any, keep, when, for, member}
use Rattle.model.specs.Execution.{Execution, Instruction, is_release, LV, R, RV, number_of, stores, loads, semaphores, every_processor}
use Rattle.model.specs.Rules.{before, overlap, addresses, in_WB, in_UC, conflict, Link, links_of, linked, RV_own, Sight, sight_of, byte_of, remote_of}

-- (a, b, c): where a is before b, c must stand
abbrev pub Demand : Type 0
Demand = ℕ × ℕ × ℕ

-- of the operations that the list gives bytes for, the byte of the last that stands in xs; with none, d
unfoldable pub last_byte : List (ℕ × ℕ) → ℕ → List ℕ → ℕ
last_byte ws d [] = d
last_byte ws d (x ∷ xs) = last_byte ws (byte_of ws x d) xs

module _ (e : Execution) (x : ℕ) where
  -- rule 9: x is the own RV of store w, and v is a store of its processor in conflict with it
  unfoldable pub own_demands : List Demand
  own_demands = for (stores e) (λ v. for (stores e) (λ w.
      when (conflict e v w && (eqb v.processor w.processor && eqb x (RV_own w))) ((number_of v LV, number_of w LV, RV_own v) ∷ [])))

  -- rule 10: x is an RV of w. Of two stores in conflict the one whose own RV is first is first for all.
  unfoldable pub remote_demands : List Demand
  remote_demands = for (stores e) (λ v. for (stores e) (λ w.
      when (conflict e v w) (for (every_processor e) (λ q. when (eqb x (number_of w (RV q))) ((RV_own v, RV_own w, number_of v (RV q)) ∷ [])))))

  -- rule 14: x is the R of load l
  unfoldable pub bypass_demands : List Demand
  bypass_demands = for (stores e) (λ w. for (loads e) (λ l.
      when (in_UC e w && (eqb w.processor l.processor && overlap w l) && eqb x (number_of l R)) ((number_of w LV, x, RV_own w) ∷ [])))

  -- rule 16: x is the RV of store w to the processor of semaphore s, which overlaps it
  unfoldable pub semaphore_demands : List Demand
  semaphore_demands = for (semaphores e) (λ s. for (stores e) (λ w.
      when (not (eqb s.number w.number) && overlap s w && eqb x (number_of w (RV s.processor))) ((number_of s R, x, RV_own s) ∷ [])))

  -- rule 11: the bytes that x reads
  unfoldable pub sights : List Sight
  sights = for (loads e) (λ l. when (eqb x (number_of l R)) (map (sight_of e l) (addresses l)))

  module _ (xs : List ℕ) where
    abbrev pub missing : ℕ → Bool
    missing b = not (member xs b)

    -- rules 1 to 8, 13 and 15: an operation that must stand before x does not
    abbrev pub unready : Link → Bool
    unready l = eqb x l.1 && missing l.0

    -- rule 12: some but not all RV of the release to WB stand, and x is none of them
    unfoldable pub interrupts : Instruction → Bool
    interrupts w = is_release w.kind && in_WB e w && not (member (remote_of e w) x) && any (member xs) (remote_of e w) && any missing (remote_of e w)

    abbrev pub lost : Demand → Bool
    lost d = before xs d.0 d.1 && missing d.2

    -- the byte that a load reads, its R behind xs
    unfoldable pub byte_now : Sight → ℕ
    byte_now s =
        cond (any (λ w. w.own && (member xs w.lv && missing w.rv)) s.writers)
        (last_byte (map (λ w. (w.lv, w.wrote)) (keep (λ w. w.own) s.writers)) s.initial xs)
        (last_byte (map (λ w. (w.rv, w.wrote)) s.writers) s.initial xs)

    abbrev pub unseen : Sight → Bool
    unseen s = not (eqb (byte_now s) s.seen)

    unfoldable pub admits : Bool
    admits =
        not (any unready (links_of e (linked e)) || any interrupts (stores e)
        || any lost own_demands || any lost remote_demands || any lost bypass_demands || any lost semaphore_demands || any unseen sights)
