-- The bytes of an access: an instruction of an accepted record accesses bytes of its line and the next; two accesses of one byte overlap.
use Prim.Native.Nat.{ℕ, suc, ◌+◌, ◌*◌, ◌/◌, ◌-◌, ◌%◌, ◌∣◌, ◌≤◌, ◌<◌}
use native.Mathlib.Omega.{arith}
use native.Mathlib.Nat.{dvd_of_mod-eq-zero, mod-eq-zero_of_dvd, dvd-mod_iff, dvd-sub, dvd_trans, le_of_dvd, pos_of_dvd_of_pos}
use mathlib.Core.Path.{◌≡◌, refl, ◌∙◌}
use mathlib.Core.Bool.{Bool, true, ◌||◌}
use mathlib.Core.List.{List, [], ◌∷◌, Memᴰ}
use lib.ListN.{length}
use lib.Dec.{eqb, leb, ltb}
use borrow.Author.Tests.{eqb-true, le-leb, leb-true, lt-ltb, ltb-true}
use Rattle.base.specs.Lists.{all, any, keep}
use Rattle.base.proofs.Bools.{split, and_parts, and_both}
use Rattle.base.proofs.Lists.{any_member, all_member, member_in, in_count, of_count}
use Rattle.model.specs.Execution.{Kind, ld, ld_acq, st, st_rel, mf, sem_acq, sem_rel, is_fence, Instruction}
use Rattle.model.specs.Questions.{question7, question8, sizes_of, written_from}
use Rattle.model.specs.Rules.{addresses, accesses, shared_bytes, overlap}
use Rattle.model.specs.Accepted.{Sound}
use Rattle.model.proofs.Accepted.{data_within, more_few}

-- an access
pub accessed : (i : Instruction) (a : ℕ) → accesses i a ≡ true → (i.address ≤ a) × (a < i.address + i.size)
unfolding accesses
accessed i a h =
    let (l, r) = and_parts (leb i.address a) (ltb a (i.address + i.size)) h in
    (leb-true i.address a l, ltb-true a (i.address + i.size) r)

-- the bytes of an access
pub of_reach : (i : Instruction) (b : ℕ) → Memᴰ b (addresses i) → accesses i b ≡ true
unfolding addresses accesses
of_reach i b m = let (l, r) = of_count i.address i.size m in and_both (le-leb i.address b l) (lt-ltb b (i.address + i.size) r)

pub in_reach : (i : Instruction) (b : ℕ) → accesses i b ≡ true → Memᴰ b (addresses i)
unfolding addresses
in_reach i b h = let (l, r) = accessed i b h in in_count i.address i.size b l r

-- two accesses overlap when some byte of the first is one of the second
pub overlap_any : (i j : Instruction) → overlap i j ≡ any (accesses j) (addresses i)
unfolding overlap shared_bytes keep any
overlap_any i j = some_kept (accesses j) (addresses i)
  where
    some_kept : (p : ℕ → Bool) (l : List ℕ) → ltb 0 (length (keep p l)) ≡ any p l
    some_kept p [] = refl
    some_kept p (a ∷ l) = split (p a) (λ h. rw h (lt-ltb 0 (suc (length (keep p l))) (omega arith))) (λ h. rw h (some_kept p l))

-- two accesses of one byte overlap
pub one_byte : (i j : Instruction) (a : ℕ) → accesses i a ≡ true → accesses j a ≡ true → overlap i j ≡ true
one_byte i j a h k = overlap_any i j ∙ any_member (accesses j) (in_reach i a h) k

-- a size that question 7 passes divides the eight bytes of a line, or is divided by them
abbrev eights : ℕ → Bool
eights size = eqb (8 % size) 0 || eqb (size % 8) 0

sizes : (k : Kind) (size : ℕ) → question7 k size ≡ true → eights size ≡ true
unfolding question7 all
sizes k size q = all_member eights (member_in (sizes_of k) size q) (each k)
  where
    each : (k : Kind) → all eights (sizes_of k) ≡ true
    each ld = refl
    each ld_acq = refl
    each st = refl
    each st_rel = refl
    each mf = refl
    each sem_acq = refl
    each sem_rel = refl

-- an access of such a size, at a multiple of it, lies on as many lines as there are eights of bytes
multiple : (address size : ℕ) → eights size ≡ true → address % size ≡ 0 → address % 8 + size ≤ 8 * ((size + 7) / 8)
multiple address size e m =
    split (eqb (8 % size) 0)
    (λ h.
    let in_line : size ∣ 8 = dvd_of_mod-eq-zero size (eqb-true (8 % size) 0 h) in
    let before : size ∣ address % 8 = (dvd-mod_iff size in_line).1 (dvd_of_mod-eq-zero size m) in
    let left : size ≤ 8 - address % 8 = le_of_dvd (omega arith) (dvd-sub size in_line before) in
    omega (arith, left, pos_of_dvd_of_pos in_line (omega arith)))
    (λ h.
    let whole : size % 8 ≡ 0 = eqb-true (size % 8) 0 (rw h at e) in
    let before : address % 8 ≡ 0 = mod-eq-zero_of_dvd 8 (dvd_trans 8 (dvd_of_mod-eq-zero 8 whole) (dvd_of_mod-eq-zero size m)) in
    omega (arith, whole, before))

-- an instruction of an accepted record: what it wrote ends among sixteen data bytes, and it fits into its line and the next, within the lines
pub record Fitting (lines : ℕ) (i : Instruction) : Type 0 where
  pub few : written_from i.kind + i.size ≤ 16
  pub two_lines : i.address % 8 + i.size ≤ 16
  pub inside : i.address + i.size ≤ 8 * lines

-- its lines are those from its address on
pub on_lines : {processors lines : ℕ} {i : Instruction} → Sound processors lines i
    → (i.address % 8 + i.size ≤ 8 * ((i.size + 7) / 8)) × (i.address + i.size ≤ 8 * lines)
unfolding question7 question8 all
on_lines {processors} {lines} {i} s =
    split (is_fence i.kind)
    (λ f.
    let none : i.size ≡ 0 = eqb-true i.size 0 (all_member (λ n. eqb n 0) (member_in (0 ∷ []) i.size (rw f at s.size_passed)) refl) in
    let at : i.address ≡ 0 = eqb-true i.address 0 (rw f at s.address_passed) in
    (omega arith, omega arith))
    (λ f.
    let (even, inside) = and_parts (eqb (i.address % i.size) 0) (leb (i.address + i.size) (8 * lines)) (rw f at s.address_passed) in (
      multiple i.address i.size (sizes i.kind i.size s.size_passed) (eqb-true (i.address % i.size) 0 even),
      leb-true (i.address + i.size) (8 * lines) inside,
    ))

pub fitting : {processors lines : ℕ} {i : Instruction} → Sound processors lines i → Fitting lines i
fitting {processors} {lines} {i} s =
    let few : written_from i.kind + i.size ≤ 16 = omega (arith, data_within i.kind i.size s.size_passed, more_few i.kind i.size) in
    let (lines_are, inside) = on_lines s in
    record { few = few; two_lines = omega (arith, few, lines_are); inside = inside }

-- a byte that it accesses lies in its line or the next
pub record Within (lines : ℕ) (i : Instruction) (a : ℕ) : Type 0 where
  pub fits : Fitting lines i
  pub from : i.address ≤ a
  pub to : a < i.address + i.size
  pub near : a < 8 * (i.address / 8) + 16
  pub there : a < 8 * lines

pub within : {processors lines : ℕ} {i : Instruction} → Sound processors lines i → (a : ℕ) → accesses i a ≡ true → Within lines i a
within {processors} {lines} {i} s a h =
    let f = fitting s in
    let (from, to) = accessed i a h in
    record { fits = f; from = from; to = to; near = omega (arith, f.two_lines, to); there = omega (arith, f.inside, to) }
