-- Both tests of a byte come to what rule 11 asks of it, and that is the same.
use Prim.Native.Nat.{ℕ, ◌+◌, ◌-◌, ◌/◌, ◌%◌, ◌<◌, ◌≤◌}
use native.Mathlib.Omega.{arith}
use mathlib.Core.Path.{◌≡◌, refl, sym, ap, ap₂, ◌∙◌, subst}
use mathlib.Core.Bool.{Bool, true, cond}
use mathlib.Core.List.{List, [], map, Memᴰ}
use lib.ListN.{get_or}
use lib.Dec.{leb, ltb}
use borrow.Author.Tests.{leb-true}
use Rattle.base.specs.Lists.{keep, distinct}
use Rattle.base.specs.Bits.{bit}
use Rattle.base.proofs.Bools.{and_parts}
use Rattle.model.specs.Execution as model
use Rattle.model.specs.Execution.{Instruction, R, is_load, number_of, loads, operation_count, operations, initial_byte}
use Rattle.model.specs.Rules.{accesses, byte_seen, Sight, sees, sight_of, broken}
use Rattle.model.specs.Accepted.{Accepted}
use Rattle.model.specs.Claims.{DifferElsewhere}
use Rattle.model.proofs.Accepted.{read_accepted}
use Rattle.model.proofs.Roles.{R_role}
use Rattle.model.proofs.Unread.{same_processors, same_instructions, same_initial, same_sight}
use Rattle.record_decoded.specs.declared.types.Execution.{Execution}
use Rattle.record_decoded.specs.Decoded.{instruction_at, execution_of}
use Rattle.record_decoded.proofs.RoleNumbers.{number_R}
use Rattle.relation_places.specs.Places.{Placed}
use Rattle.judge_sights.specs.Sights.{sight_broken}
use Rattle.judge_sights.proofs.RuleLaws.{sight, sight_by}
use Rattle.search_reduction.specs.Admits.{last_byte, byte_now}
use Rattle.model.proofs.Ownership.{is_load_lem, R_in}
use Rattle.search_admit.specs.Rows.{read_bits, read_data, visible_word, own_word, words_after, relative}
use Rattle.search_admit.specs.Fits.{local_bit, Standing}
use Rattle.search_meaning.proofs.Tables.{Tables, TablesMean}
use Rattle.search_meaning.proofs.Owners.{owner_is, by_number, number_low}
use Rattle.search_meaning.proofs.Sees.{visible_bit, own_bit, seen_bit, recorded_bit, read_bit}
use Rattle.read_value_claim.specs.ReadValue.{SameBit, OneInitialByteTested}

-- The judge's test is rule 11's claim of the byte

judged_by : (bytes : List ℕ) (x : Execution) (l : Instruction) → Memᴰ l (loads (execution_of bytes x)) → (b : ℕ) → accesses l b ≡ true
    → {n : ℕ} {xs places : List ℕ} → Placed n xs places
    → sight_broken bytes x places l.number (b - l.address) ≡ broken xs (sees (sight_of (execution_of bytes x) l b))
unfolding sight accesses instruction_at
judged_by bytes x l ml b reads {n} {xs} {places} p =
    let e = execution_of bytes x in
    let (k, low, q) = by_number (record { bytes = bytes; execution = x; operations = record { count = 0; owners = []; roles = [] }; marks = []; rows = [] }) (is_load_lem e ml).0 in
    let number : l.number ≡ k = ap (λ (i : Instruction). i.number) (sym q) in
    let from : l.address ≤ b = leb-true l.address b (and_parts (leb l.address b) (ltb b (l.address + l.size)) reads).0 in
    let there : l.address + (b - l.address) ≡ b = omega arith in
    ap (λ (j : ℕ). sight_broken bytes x places j (b - l.address)) number
    ∙ sym (sight_by p bytes x k (b - l.address))
    ∙ ap (λ (i : Instruction). broken xs (sees (sight_of e i (i.address + (b - l.address))))) q
    ∙ ap (λ (a : ℕ). broken xs (sees (sight_of e l a))) there

-- What the rows and words show of a bit of the byte, by what rule 11 asks of it

-- a bit of a byte, relative to an initial byte
abbrev bit_of : ℕ → ℕ → ℕ → Bool
bit_of i initial v = bit (relative v initial) (i % 8)

abbrev visible_byte : Sight → List ℕ → ℕ
visible_byte s xs = last_byte (map (λ w. (w.rv, w.wrote)) s.writers) s.initial xs

abbrev own_byte : Sight → List ℕ → ℕ
own_byte s xs = last_byte (map (λ w. (w.lv, w.wrote)) (keep (λ w. w.own) s.writers)) s.initial xs

record Shows (rows xs : List ℕ) (lo hi g o i initial seen : ℕ) (e : model.Execution) (s : Sight) : Type 0 where
  reads : bit (read_bits rows g o) i ≡ true
  records : bit (read_data rows g o) i ≡ bit_of i initial seen
  shows_visible : bit (get_or (words_after rows xs) (visible_word rows g o) 0) i ≡ bit_of i initial (visible_byte s xs)
  shows_own : bit (get_or (words_after rows xs) (own_word rows g o) 0) i ≡ bit_of i initial (own_byte s xs)
  shows : cond (local_bit rows lo hi g o i) (bit (get_or (words_after rows xs) (own_word rows g o) 0) i) (bit (get_or (words_after rows xs) (visible_word rows g o) 0) i)
      ≡ bit_of i initial (byte_now e o xs s)

searched_by : {t : Tables} (h : TablesMean t) (accepted : Accepted (execution_of t.bytes t.execution)) (l : Instruction)
    → Memᴰ l (loads (execution_of t.bytes t.execution)) → (b : ℕ) → accesses l b ≡ true
    → (xs : List ℕ) → distinct (operations (execution_of t.bytes t.execution)) [] xs ≡ true → (lo hi : ℕ) → Standing xs lo hi
    → (g i : ℕ) → b / 8 ≡ l.address / 8 + g → i / 8 ≡ b % 8
    → Shows t.rows xs lo hi g (number_of l R) i (initial_byte (execution_of t.bytes t.execution) b) (byte_seen l b) (execution_of t.bytes t.execution) (sight_of (execution_of t.bytes t.execution) l b)
searched_by {t} h accepted l ml b reach xs different lo hi standing g i line at =
    let e = execution_of t.bytes t.execution in
    let (il, loading) = is_load_lem e ml in
    let o = number_of l R in
    let low : o < operations e = number_low h (R_in e ml) in
    let (same, is_R_lem) = owner_is h accepted o low il (R_role e.processors l.kind loading) refl in
    let role = number_R _ (sym is_R_lem) in
    let its_line = line ∙ ap (λ (j : Instruction). j.address / 8 + g) same in
    let its_reach = ap (λ (j : Instruction). accesses j b) (sym same) ∙ reach in
    record {
      reads = read_bit h accepted o low xs different lo hi standing role b (i % 8) g i its_reach its_line at refl;
      records = recorded_bit h accepted o low xs different lo hi standing role b (i % 8) g i its_reach its_line at refl ∙ ap (λ (j : Instruction). bit_of i (initial_byte e b) (byte_seen j b)) (sym same);
      shows_visible = visible_bit h accepted o low xs different lo hi standing role b (i % 8) g i its_reach its_line at refl ∙ ap (λ (j : Instruction). bit_of i (initial_byte e b) (visible_byte (sight_of e j b) xs)) (sym same);
      shows_own = own_bit h accepted o low xs different lo hi standing role b (i % 8) g i its_reach its_line at refl ∙ ap (λ (j : Instruction). bit_of i (initial_byte e b) (own_byte (sight_of e j b) xs)) (sym same);
      shows = seen_bit h accepted o low xs different lo hi standing role b (i % 8) g i its_reach its_line at refl ∙ ap (λ (j : Instruction). bit_of i (initial_byte e b) (byte_now e o xs (sight_of e j b))) (sym same);
    }

-- tables that show the same have the same
alike : {rows others xs : List ℕ} {lo hi g o i initial seen : ℕ} {e d : model.Execution} {s : Sight}
    → Shows rows xs lo hi g o i initial seen e s → Shows others xs lo hi g o i initial seen d s → SameBit rows others xs lo hi g o i
unfolding byte_now
alike {rows} {others} {xs} {lo} {hi} {g} {o} {i} a b =
    let seen = a.shows ∙ sym b.shows in
    let read = a.reads ∙ sym b.reads in
    let recorded = a.records ∙ sym b.records in
    record {
      read = read;
      recorded = recorded;
      visible = a.shows_visible ∙ sym b.shows_visible;
      own = a.shows_own ∙ sym b.shows_own;
      tested = cc (seen, read, recorded);
    }

-- what the other record has
module _ {b : ℕ} {bytes others : List ℕ} {e d : model.Execution} (h : DifferElsewhere b bytes others e d) where
  load_too : (l : Instruction) → Memᴰ l (loads e) → Memᴰ l (loads d)
  unfolding loads
  load_too l m = subst (λ (is : List Instruction). Memᴰ l (keep (λ i. is_load i.kind) is)) (same_instructions h) m

  as_many : operations e ≡ operations d
  unfolding operations
  as_many = ap₂ operation_count (same_processors h) (same_instructions h)

pub one_initial_byte_tested : OneInitialByteTested
one_initial_byte_tested b bytes others x y h l ml reads = (
  λ n xs places p.
      judged_by bytes x l ml b reads p
      ∙ ap (λ (s : Sight). broken xs (sees s)) (same_sight h l)
      ∙ sym (judged_by others y l (load_too h l ml) b reads p),
  λ t u marks other_marks rows other_rows m om xs different lo hi standing g i line at.
      let e = execution_of bytes x in
      let d = execution_of others y in
      let one = searched_by {t = record { bytes = bytes; execution = x; operations = t; marks = marks; rows = rows }} m (read_accepted bytes e h.accepted) l ml b reads xs different lo hi standing g i line at in
      let two = searched_by {t = record { bytes = others; execution = y; operations = u; marks = other_marks; rows = other_rows }} om (read_accepted others d h.others_accepted) l (load_too h l ml) b reads xs
      (subst (λ (n : ℕ). distinct n [] xs ≡ true) (as_many h) different) lo hi standing g i line at in
      alike one (subst (λ (v : ℕ). Shows other_rows xs lo hi g (number_of l R) i v (byte_seen l b) d (sight_of e l b)) (sym (same_initial h))
      (subst (Shows other_rows xs lo hi g (number_of l R) i (initial_byte d b) (byte_seen l b) d) (sym (same_sight h l)) two)),
)
