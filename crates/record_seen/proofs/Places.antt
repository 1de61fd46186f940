-- What was seen as a mask over the record, and its places.
use Prim.Native.Nat.{ℕ, zero, suc, ◌+◌, ◌-◌, ◌*◌, ◌≤◌, ◌<◌}
use native.Mathlib.Omega.{arith}
use mathlib.Core.Path.{◌≡◌, refl, sym, ap, ap₂, ◌∙◌}
use mathlib.Core.Bool.{Bool, true, false, cond}
use mathlib.Core.List.{List, [], ◌∷◌, ◌++◌, append-nil, append_assoc, map}
use lib.ListN.{length, get_or, replicate, length-append, length-replicate}
use lib.Seq.{take_at}
use lib.Dec.{ltb}
use borrow.Author.Tests.{eq-eqb, ne_eqb, lt-ltb}
use Rattle.base.specs.Lists.{all, for, count, below, member}
use Rattle.base.proofs.Bools.{and_both}
use Rattle.base.proofs.Lists.{map_same, of_count}
use Rattle.model.specs.Execution.{Kind, ld, ld_acq, st, st_rel, mf, sem_acq, sem_rel, Instruction, roles}
use Rattle.model.specs.Accepted.{Each, Consecutive}
use Rattle.model.specs.Questions.{more_length}
use Rattle.model.specs.SolversCopy.{entries_length, data_place, seen_length, seen_places, zeroed}
use Rattle.model.proofs.Accepted.{more_few}
use Rattle.record_seen.proofs.Hiding.{hide}

-- Places by a mask

-- the places at which a mask is set, its first mark at `at`
unfoldable pub places_of : ℕ → List Bool → List ℕ
places_of at [] = []
places_of at (true ∷ ms) = at ∷ places_of (suc at) ms
places_of at (false ∷ ms) = places_of (suc at) ms

pub places_append : (at : ℕ) (ms ns : List Bool) → places_of at (ms ++ ns) ≡ places_of at ms ++ places_of (at + length ms) ns
unfolding places_of
places_append at [] ns = ap (λ (n : ℕ). places_of n ns) (let z : at ≡ at + 0 = omega arith in z)
places_append at (true ∷ ms) ns =
    ap (λ (l : List ℕ). at ∷ l) (places_append (suc at) ms ns ∙ ap (λ (n : ℕ). places_of (suc at) ms ++ places_of n ns) (let z : suc at + length ms ≡ at + suc (length ms) = omega arith in z))
places_append at (false ∷ ms) ns =
    places_append (suc at) ms ns ∙ ap (λ (n : ℕ). places_of (suc at) ms ++ places_of n ns) (let z : suc at + length ms ≡ at + suc (length ms) = omega arith in z)

places_none : (at n : ℕ) → places_of at (replicate n false) ≡ []
unfolding places_of
places_none at zero = refl
places_none at (suc n) = places_none (suc at) n

places_all : (at n : ℕ) → places_of at (replicate n true) ≡ count at n
unfolding places_of count
places_all at zero = refl
places_all at (suc n) = ap (λ (l : List ℕ). at ∷ l) (places_all (suc at) n)

-- places lie under the mask
pub places_within : (at : ℕ) (ms : List Bool) (n : ℕ) → at + length ms ≤ n → all (λ k. ltb k n) (places_of at ms) ≡ true
unfolding places_of all
places_within at [] n h = refl
places_within at (true ∷ ms) n h = and_both (lt-ltb at n (omega arith)) (places_within (suc at) ms n (omega arith))
places_within at (false ∷ ms) n h = places_within (suc at) ms n (omega arith)

unmarked : (at k : ℕ) → member (places_of at []) k ≡ false
unfolding places_of member
unmarked at k = refl

-- no place comes before the mask
none_before : (at : ℕ) (ms : List Bool) (k : ℕ) → k < at → member (places_of at ms) k ≡ false
unfolding places_of member
none_before at [] k h = refl
none_before at (true ∷ ms) k h = rw (ne_eqb at k (λ e. omega arith), none_before (suc at) ms k (omega arith))
none_before at (false ∷ ms) k h = none_before (suc at) ms k (omega arith)

-- the first mark, and those behind it
member_first : (at : ℕ) (m : Bool) (ms : List Bool) → member (places_of at (m ∷ ms)) at ≡ m
unfolding places_of member
member_first at true ms = rw (eq-eqb at at refl)
member_first at false ms = none_before (suc at) ms at (omega arith)

member_behind : (at : ℕ) (m : Bool) (ms : List Bool) (k : ℕ) → at < k → member (places_of at (m ∷ ms)) k ≡ member (places_of (suc at) ms) k
unfolding places_of member
member_behind at true ms k h = rw (ne_eqb at k (λ e. omega arith))
member_behind at false ms k h = refl

module _ (at b : ℕ) (l : List ℕ) (f : ℕ → ℕ) (h : (j : ℕ) → j < length (b ∷ l) → f (at + j) ≡ get_or (b ∷ l) j 0) where
  first : f at ≡ b
  first = ap f (let z : at ≡ at + 0 = omega arith in z) ∙ h 0 (omega arith)

  later : (j : ℕ) → j < length l → f (suc at + j) ≡ get_or l j 0
  later j k = ap f (let z : suc at + j ≡ at + suc j = omega arith in z) ∙ h (suc j) (omega arith)

-- a list read from `at` on, with zeros at the places of a mask
hidden_from : (at : ℕ) (ms : List Bool) (l : List ℕ) (f : ℕ → ℕ) → ((j : ℕ) → j < length l → f (at + j) ≡ get_or l j 0)
    → map (λ k. cond (member (places_of at ms) k) 0 (f k)) (count at (length l)) ≡ hide ms l
unfolding hide count
hidden_from at [] [] f h = refl
hidden_from at (m ∷ ms) [] f h = refl
hidden_from at [] (b ∷ l) f h =
    ap₂ (λ (n : ℕ) (t : List ℕ). n ∷ t) (ap (λ (c : Bool). cond c 0 (f at)) (unmarked at at) ∙ first at b l f h)
    (map_same (λ k. cond (member (places_of at []) k) 0 (f k)) (λ k. cond (member (places_of (suc at) []) k) 0 (f k)) (count (suc at) (length l)) (λ k e. ap (λ (c : Bool). cond c 0 (f k)) (unmarked at k ∙ sym (unmarked (suc at) k)))
    ∙ hidden_from (suc at) [] l f (later at b l f h))
hidden_from at (m ∷ ms) (b ∷ l) f h =
    ap₂ (λ (n : ℕ) (t : List ℕ). n ∷ t) (ap₂ (λ (c : Bool) (n : ℕ). cond c 0 n) (member_first at m ms) (first at b l f h))
    (map_same (λ k. cond (member (places_of at (m ∷ ms)) k) 0 (f k)) (λ k. cond (member (places_of (suc at) ms) k) 0 (f k)) (count (suc at) (length l))
    (λ k e. ap (λ (c : Bool). cond c 0 (f k)) (member_behind at m ms k (omega (arith, (of_count (suc at) (length l) e).0))))
    ∙ hidden_from (suc at) ms l f (later at b l f h))

pub zeroed_hidden : (ms : List Bool) (l : List ℕ) → zeroed (places_of 0 ms) l ≡ hide ms l
unfolding zeroed below
zeroed_hidden ms l = hidden_from 0 ms l (λ k. get_or l k 0) (λ j h. ap (λ (n : ℕ). get_or l n 0) (let z : 0 + j ≡ j = omega arith in z))

-- The mask of a record

-- of the data bytes of an instruction
abbrev pub data_mask : Kind → ℕ → List Bool
data_mask k size = replicate (seen_length k size) true ++ replicate (8 + more_length k size - seen_length k size) false

pub seen_fits : (k : Kind) (size : ℕ) → seen_length k size ≤ 8 + more_length k size
unfolding seen_length
seen_fits ld size = omega arith
seen_fits ld_acq size = omega arith
seen_fits st size = omega arith
seen_fits st_rel size = omega arith
seen_fits mf size = omega arith
seen_fits sem_acq size = omega arith
seen_fits sem_rel size = omega arith

pub data_mask_length : (k : Kind) (size : ℕ) → length (data_mask k size) ≡ 8 + more_length k size
data_mask_length k size =
    length-append (replicate (seen_length k size) true) (replicate (8 + more_length k size - seen_length k size) false)
    ∙ omega (arith, length-replicate (seen_length k size) true, length-replicate (8 + more_length k size - seen_length k size) false, seen_fits k size)

-- of its entry
abbrev pub entry_mask : Kind → ℕ → List Bool
entry_mask k size = false ∷ false ∷ false ∷ data_mask k size

-- of a program: its count, then its entries
abbrev pub mask_of : Instruction → List Bool
mask_of i = entry_mask i.kind i.size

abbrev pub program_mask : List Instruction → List Bool
program_mask is = false ∷ for is mask_of

-- of a record of so many lines, up to its pairs: P and the count of lines, the lines, the programs
abbrev pub record_mask : ℕ → List (List Instruction) → List Bool
record_mask lines programs = false ∷ false ∷ replicate (9 * lines) false ++ for programs program_mask

pub entries_mask_length : (is : List Instruction) → length (for is mask_of) ≡ entries_length is
unfolding for entries_length
entries_mask_length [] = refl
entries_mask_length (i ∷ is) =
    length-append (mask_of i) (for is mask_of) ∙ omega (arith, data_mask_length i.kind i.size, entries_mask_length is)

-- The places of what was seen, instruction by instruction: the entry of processor 0 would begin at `at`.
unfoldable seen_from : ℕ → List Instruction → List ℕ
seen_from at [] = []
seen_from at (i ∷ is) = count (at + i.processor + 3) (seen_length i.kind i.size) ++ seen_from (at + (11 + more_length i.kind i.size)) is

seen_from_append : (at : ℕ) (is js : List Instruction) → seen_from at (is ++ js) ≡ seen_from at is ++ seen_from (at + entries_length is) js
unfolding seen_from entries_length
seen_from_append at [] js = ap (λ (n : ℕ). seen_from n js) (let z : at ≡ at + 0 = omega arith in z)
seen_from_append at (i ∷ is) js =
    let n = 11 + more_length i.kind i.size in
    let here = count (at + i.processor + 3) (seen_length i.kind i.size) in
    ap (λ (l : List ℕ). here ++ l)
    (seen_from_append (at + n) is js ∙ ap (λ (m : ℕ). seen_from (at + n) is ++ seen_from m js) (let z : at + n + entries_length is ≡ at + (n + entries_length is) = omega arith in z))
    ∙ sym (append_assoc here (seen_from (at + n) is) (seen_from (at + (n + entries_length is)) js))

-- an entry
entry_places : (at : ℕ) (k : Kind) (size : ℕ) → places_of at (entry_mask k size) ≡ count (at + 3) (seen_length k size)
unfolding places_of
entry_places at k size =
    places_append (suc (suc (suc at))) (replicate (seen_length k size) true) (replicate (8 + more_length k size - seen_length k size) false)
    ∙ ap₂ (λ (a b : List ℕ). a ++ b) (places_all (suc (suc (suc at))) (seen_length k size)) (places_none _ (8 + more_length k size - seen_length k size))
    ∙ append-nil (count (suc (suc (suc at))) (seen_length k size))
    ∙ ap (λ (n : ℕ). count n (seen_length k size)) (let z : suc (suc (suc at)) ≡ at + 3 = omega arith in z)

-- the entries of processor p
entries_places : (at p : ℕ) (is : List Instruction) → Each (λ i. i.processor ≡ p) is → places_of (at + p) (for is mask_of) ≡ seen_from at is
unfolding for seen_from
entries_places at p [] h = places_none (at + p) 0
entries_places at p (i ∷ is) (by, h) =
    places_append (at + p) (mask_of i) (for is mask_of)
    ∙ ap₂ (λ (a b : List ℕ). a ++ b)
    (entry_places (at + p) i.kind i.size ∙ ap (λ (n : ℕ). count (at + n + 3) (seen_length i.kind i.size)) (sym by))
    (ap (λ (n : ℕ). places_of n (for is mask_of))
    (let z : at + p + length (mask_of i) ≡ at + (11 + more_length i.kind i.size) + p = omega (arith, data_mask_length i.kind i.size) in z)
    ∙ entries_places (at + (11 + more_length i.kind i.size)) p is h)

-- programs of the processors from p on
abbrev pub ByFrom : ℕ → List (List Instruction) → Type 0
ByFrom p [] = Unit {0}
ByFrom p (is ∷ programs) = Each (λ i. i.processor ≡ p) is × ByFrom (suc p) programs

programs_places : (at p : ℕ) (programs : List (List Instruction)) → ByFrom p programs → places_of (at + p) (for programs program_mask) ≡ seen_from (suc at) (for programs (λ is. is))
unfolding for seen_from places_of
programs_places at p [] h = refl
programs_places at p (is ∷ programs) (by, h) =
    places_append (suc (at + p)) (for is mask_of) (for programs program_mask)
    ∙ ap₂ (λ (a b : List ℕ). a ++ b)
    (ap (λ (n : ℕ). places_of n (for is mask_of)) (let z : suc (at + p) ≡ suc at + p = omega arith in z) ∙ entries_places (suc at) p is by)
    (ap (λ (n : ℕ). places_of n (for programs program_mask)) (let z : suc (at + p) + length (for is mask_of) ≡ at + entries_length is + suc p = omega (arith, entries_mask_length is) in z)
    ∙ programs_places (at + entries_length is) (suc p) programs h
    ∙ ap (λ (n : ℕ). seen_from n (for programs (λ js. js))) (let z : suc (at + entries_length is) ≡ suc at + entries_length is = omega arith in z))
    ∙ sym (seen_from_append (suc at) is (for programs (λ js. js)))

entries_length_none : entries_length [] ≡ 0
unfolding entries_length
entries_length_none = refl

pub entries_length_append : (is js : List Instruction) → entries_length (is ++ js) ≡ entries_length is + entries_length js
unfolding entries_length
entries_length_append [] js = omega arith
entries_length_append (i ∷ is) js = omega (arith, entries_length_append is js)

-- an instruction has at most 19 bytes
pub entries_few : (l : List Instruction) → entries_length l ≤ 19 * length l
unfolding entries_length
entries_few [] = omega arith
entries_few (i ∷ l) = omega (arith, more_few i.kind i.size, entries_few l)

-- instructions numbered behind those of `before`, each at its place
numbered_places : (lines processors at n : ℕ) (before is : List Instruction) → n ≡ length before → Consecutive processors at n is
    → for is (λ i. count (data_place lines (before ++ is) i) (seen_length i.kind i.size)) ≡ seen_from (3 + 9 * lines + entries_length before) is
unfolding for seen_from data_place entries_length
numbered_places lines processors at n before [] e h = refl
numbered_places lines processors at n before (i ∷ is) e (f, number, h) =
    let apart = append_assoc before (i ∷ []) is in
    ap₂ (λ (a b : List ℕ). a ++ b)
    (ap (λ (m : ℕ). count m (seen_length i.kind i.size)) here)
    (ap (λ (l : List Instruction). for is (λ j. count (data_place lines l j) (seen_length j.kind j.size))) (sym apart)
    ∙ numbered_places lines processors (at + length (roles processors i.kind)) (suc n) (before ++ (i ∷ [])) is (omega (arith, length-append before (i ∷ []), e)) h
    ∙ ap (λ (m : ℕ). seen_from m is) (let z : 3 + 9 * lines + entries_length (before ++ (i ∷ [])) ≡ 3 + 9 * lines + entries_length before + (11 + more_length i.kind i.size) = omega (arith, entries_length_append before (i ∷ []), one) in z))
  where
    here : data_place lines (before ++ i ∷ is) i ≡ 3 + 9 * lines + entries_length before + i.processor + 3
    here =
        ap (λ (l : List Instruction). 2 + 9 * lines + (1 + i.processor) + entries_length l + 3) (take_at before (i ∷ is) i.number (sym (number ∙ e)))
        ∙ (let z : 2 + 9 * lines + (1 + i.processor) + entries_length before + 3 ≡ 3 + 9 * lines + entries_length before + i.processor + 3 = omega arith in z)

    one : entries_length (i ∷ []) ≡ 11 + more_length i.kind i.size
    one = omega arith

pub seen_places_lem : (lines processors : ℕ) (programs : List (List Instruction)) → ByFrom 0 programs → Consecutive processors 0 0 (for programs (λ is. is))
    → seen_places lines (for programs (λ is. is)) ≡ places_of 0 (record_mask lines programs)
unfolding seen_places places_of
seen_places_lem lines processors programs by numbered =
    let is = for programs (λ is. is) in
    numbered_places lines processors 0 0 [] is refl numbered
    ∙ sym (places_append 2 (replicate (9 * lines) false) (for programs program_mask)
    ∙ ap₂ (λ (a b : List ℕ). a ++ b) (places_none 2 (9 * lines))
    (ap (λ (n : ℕ). places_of n (for programs program_mask)) (let z : 2 + length (replicate (9 * lines) false) ≡ 2 + 9 * lines + 0 = omega (arith, length-replicate (9 * lines) false) in z)
    ∙ programs_places (2 + 9 * lines) 0 programs by
    ∙ ap (λ (n : ℕ). seen_from n is) (let z : suc (2 + 9 * lines) ≡ 3 + 9 * lines + entries_length [] = omega (arith, entries_length_none) in z)))
