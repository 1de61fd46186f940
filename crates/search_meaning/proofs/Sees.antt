-- Rule 11: the words of memory show an R the bytes that the rule has it read.
use Prim.Native.Nat.{ℕ, zero, suc, ◌+◌, ◌*◌, ◌-◌, ◌/◌, ◌%◌, ◌≤◌, ◌<◌}
use native.Mathlib.Omega.{arith}
use mathlib.Core.Path.{◌≡◌, refl, sym, ap, ap₂, ◌∙◌, subst}
use mathlib.Core.Bool.{Bool, true, false, not, cond, ◌&&◌, ◌||◌}
use mathlib.Core.List.Memᴰ
use mathlib.Core.List.{List, [], map, Memᴰ}
use lib.ListN.{length, get_or, get_or-replicate}
use lib.Bits.{xor_self}
use lib.Dec.{eqb, ltb}
use borrow.Author.Tests.{eq-eqb, eqb-true, le-leb, lt-ltb, not-true}
use Rattle.base.specs.Lists.{any, keep, member, distinct}
use Rattle.base.specs.Below.{any_below}
use Rattle.base.specs.Bits.{bit}
use Rattle.base.proofs.Bools.{agree, split, clash, is_false, and_parts, and_both}
use Rattle.base.proofs.Lists.{any_witness, any_member, any_map, any_keep, any_for, any_when, in_keep, of_keep, keep_map, map_map, distinct_in}
use Rattle.base.proofs.Tests.{some_at, any_passes, all_at, all_below_lem}
use Rattle.model.specs.Execution as model
use Rattle.model.specs.Execution.{Instruction, Role, R, LV, RV, is_load, is_store, roles, number_of, stores, loads, operations, initial_byte}
use Rattle.model.specs.Rules.{RV_own, accesses, addresses, overlap, byte_written, byte_seen, Writer, Sight, sight_of}
use Rattle.model.specs.Accepted.{Accepted, Sound}
use Rattle.model.proofs.Roles.{R_role, R_load}
use Rattle.model.proofs.Numbers.{before_remotes_lem}
use Rattle.model.proofs.Accesses.{of_reach, in_reach, one_byte, Within}
use Rattle.record_decoded.specs.Decoded.{instruction_at, execution_of}
use Rattle.record_decoded.proofs.RoleNumbers.{number_R, role_R}
use Rattle.search_reduction.specs.Admits.{last_byte, missing, byte_now, unseen, sights}
use Rattle.model.proofs.Ownership.{each_in, is_store_lem, is_load_lem, store_processor}
use Rattle.search_sets.specs.Set.{holds}
use Rattle.search_sets.proofs.Laws.{zero_has}
use Rattle.search_admit.specs.Rows.{bypasses, bypass_of, local_of, read_bits, read_data, visible_word, own_word, words_read, writes_bit, visible_at, own_at, covers, relative, data_bit, first_words, words_after}
use Rattle.search_admit.specs.Fits.{both_or_neither, pending, local_bit, word_recorded, reads_recorded, Standing}
use Rattle.search_meaning.proofs.Tables.{Tables, TablesMean}
use Rattle.search_meaning.proofs.Owners.{role_in, owner_in, owner_is, number_is, by_number, numbered_in}
use Rattle.search_meaning.proofs.OperationRows.{IsRV, is_RV}
use Rattle.search_meaning.proofs.Bytes.{same_byte, accesses_within, covers_is, seen_bit_is, seen_small, wrote_small, initial_small, same_relative}
use Rattle.search_meaning.proofs.Words.{last_below, words_are}
use Rattle.search_meaning.proofs.Sources.{visible_writes, visible_does, own_does}

-- bits that are the same
same_true : (a b : Bool) → both_or_neither a b ≡ true → a ≡ b
unfolding both_or_neither
same_true true b h = sym h
same_true false true h = h
same_true false false h = refl

same_refl : (a b : Bool) → a ≡ b → both_or_neither a b ≡ true
unfolding both_or_neither
same_refl true b h = sym h
same_refl false b h = ap not (sym h)

module _ {t : Tables} (h : TablesMean t) (accepted : Accepted (execution_of t.bytes t.execution)) (x : ℕ) (low : x < operations (execution_of t.bytes t.execution))
    (xs : List ℕ) (different : distinct (operations (execution_of t.bytes t.execution)) [] xs ≡ true) (lo hi : ℕ) (standing : Standing xs lo hi) where
  abbrev e : model.Execution
  e = execution_of t.bytes t.execution

  abbrev instruction : ℕ → Instruction
  instruction i = instruction_at t.execution.instructions i

  abbrev owner : ℕ
  owner = get_or t.operations.owners x 0

  abbrev role : ℕ
  role = get_or t.operations.roles x 0

  abbrev load : Instruction
  load = instruction owner

  abbrev words : List ℕ
  words = words_after t.rows xs

  here : Memᴰ load e.instructions
  here = owner_in h accepted x low

  -- an R is a load's
  reads_load : role ≡ 0 → is_load load.kind ≡ true
  reads_load reads =
      R_load e.processors load.kind (subst (λ (r : Role). Memᴰ r (roles e.processors load.kind)) (role_R role reads) (role_in h accepted x low))

  few : load.processor < e.processors
  few = (each_in (Sound e.processors (length e.lines)) accepted.sound here).own

  -- x is an R, and b one of its bytes, g lines behind the first
  module _ (reads : role ≡ 0) (b k g i : ℕ) (reads_b : accesses load b ≡ true) (line : b / 8 ≡ load.address / 8 + g) (at : i / 8 ≡ b % 8) (bits : i % 8 ≡ k) where
    its : Within (length e.lines) load b
    its = accesses_within t.bytes t.execution accepted owner b here reads_b

    small : i < 64
    small = omega (arith, at)

    one_or_next : g < 2
    one_or_next = omega (arith, line, its.near)

    line_low : b / 8 < 8
    line_low = omega (arith, its.there, accepted.lines_few)

    processor_low : load.processor < 8
    processor_low = omega (arith, few, accepted.processors_few)

    abbrev sight : Sight
    sight = sight_of e load b

    -- the words that are read
    visible_word_lem : visible_word t.rows g x ≡ visible_at load.processor (b / 8)
    unfolding instruction_at
    visible_word_lem =
        ap (λ (v : ℕ). (v + g) % 128) ((h.rowed x low).reads_visible reads)
        ∙ (let z : (visible_at load.processor (load.address / 8) + g) % 128 ≡ visible_at load.processor (b / 8) = omega (arith, line, line_low, processor_low) in z)

    own_word_lem : own_word t.rows g x ≡ own_at load.processor (b / 8)
    own_word_lem =
        ap (λ (v : ℕ). (v + 64) % 128) visible_word_lem
        ∙ (let z : (visible_at load.processor (b / 8) + 64) % 128 ≡ own_at load.processor (b / 8) = omega (arith, line_low, processor_low) in z)

    -- bit k of a byte at b, relative to the initial byte
    abbrev of : ℕ → Bool
    of v = bit (relative v (initial_byte e b)) k

    first_bit : (c : ℕ) → c < 128 → bit (get_or first_words c 0) i ≡ of (initial_byte e b)
    first_bit c l =
        ap (λ (v : ℕ). bit v i) (get_or-replicate 128 c 0 0 l) ∙ zero_has i
        ∙ sym (ap (λ (v : ℕ). bit v k) (xor_self (initial_byte e b)) ∙ zero_has k)

    -- what is visible, and what the own processor wrote
    pub visible_bit : bit (get_or words (visible_word t.rows g x) 0) i ≡ of (last_byte (map (λ w. (w.rv, w.wrote)) sight.writers) sight.initial xs)
    unfolding sight_of
    visible_bit =
        ap (λ (c : ℕ). bit (get_or words c 0) i) visible_word_lem
        ∙ words_are t.rows _ (visible_at load.processor (b / 8)) i of (omega (arith, line_low, processor_low)) xs
        (λ o m. visible_does h accepted load.processor b k i few its.there at bits o (distinct_in (operations e) [] xs different m))
        first_words (initial_byte e b) refl (first_bit (visible_at load.processor (b / 8)) (omega (arith, line_low, processor_low)))
        ∙ ap (λ (l : List (ℕ × ℕ)). of (last_byte l (initial_byte e b) xs)) (sym (map_map (λ w. (w.rv, w.wrote)) _ (keep (λ w. accesses w b) (stores e))))

    pub own_bit : bit (get_or words (own_word t.rows g x) 0) i ≡ of (last_byte (map (λ w. (w.lv, w.wrote)) (keep (λ w. w.own) sight.writers)) sight.initial xs)
    unfolding sight_of
    own_bit =
        ap (λ (c : ℕ). bit (get_or words c 0) i) own_word_lem
        ∙ words_are t.rows _ (own_at load.processor (b / 8)) i of (omega (arith, line_low, processor_low)) xs
        (λ o m. own_does h accepted load.processor b k i few its.there at bits o (distinct_in (operations e) [] xs different m))
        first_words (initial_byte e b) refl (first_bit (own_at load.processor (b / 8)) (omega (arith, line_low, processor_low)))
        ∙ ap (λ (l : List (ℕ × ℕ)). of (last_byte l (initial_byte e b) xs))
        (sym (ap (map (λ w. (w.lv, w.wrote))) (keep_map (λ w. w.own) _ (keep (λ w. accesses w b) (stores e))) ∙ map_map (λ w. (w.lv, w.wrote)) _ (keep (λ w. eqb w.processor load.processor) (keep (λ w. accesses w b) (stores e)))))

    -- a store of the own processor whose LV stands and whose RV does not
    abbrev pends : Instruction → Bool
    pends w = eqb w.processor load.processor && (member xs (number_of w LV) && not (member xs (number_of w (RV load.processor))))

    local_any : any (λ w. w.own && (member xs w.lv && missing e x xs w.rv)) sight.writers ≡ any (λ w. accesses w b && pends w) (stores e)
    unfolding sight_of
    local_any =
        any_map (λ w. w.own && (member xs w.lv && not (member xs w.rv))) _ (keep (λ w. accesses w b) (stores e))
        ∙ any_keep pends (λ w. accesses w b) (stores e)

    abbrev bypass_at : ℕ → ℕ → Bool
    bypass_at v m = bypass_of t.execution t.operations t.marks x v m

    bypass_is : (v m : ℕ) → bypass_at v m
        ≡ (is_store (instruction v).kind && (eqb (instruction v).processor load.processor && overlap (instruction v) load)
        && eqb m (RV_own (instruction v)))
    unfolding instruction_at
    bypass_is v m = rw (eq-eqb role 0 reads) refl

    is_member : (o : ℕ) → o < operations e → holds lo hi o ≡ member xs o
    is_member o l = standing o (omega (arith, accepted.operations_few))

    -- store v of the own processor, by its own RV
    module _ (v : ℕ) (lv : v < t.execution.instructions.count) (sv : is_store (instruction v).kind ≡ true) (own : (instruction v).processor ≡ load.processor) where
      mv : Memᴰ (instruction v) (stores e)
      unfolding stores
      mv = in_keep (λ i. is_store i.kind) (numbered_in t v lv) sv

      abbrev m : ℕ
      m = RV_own (instruction v)

      rv : IsRV h accepted (instruction v) (instruction v).processor m
      rv = is_RV h accepted mv (instruction v).processor (store_processor e accepted mv) m refl

      local_low : number_of (instruction v) LV < operations e
      local_low = omega (arith, rv.low, before_remotes_lem (instruction v).kind LV refl)

      wrote_bit : writes_bit t.rows (visible_word t.rows g x) m i ≡ accesses (instruction v) b
      wrote_bit =
          ap (λ (c : ℕ). writes_bit t.rows c m i) visible_word_lem
          ∙ visible_writes h accepted load.processor b k i few its.there at bits m rv.low
          ∙ ap (λ (u : Bool). u && accesses (instruction (get_or t.operations.owners m 0)) b) (eq-eqb (get_or t.operations.roles m 0) (3 + load.processor) (rv.role_is ∙ ap (λ (q : ℕ). 3 + q) own))
          ∙ ap (λ (w : Instruction). accesses w b) (sym rv.owner_is)

      stands_local_lem : (ltb (local_of t.rows m) 128 && holds lo hi (local_of t.rows m)) ≡ member xs (number_of (instruction v) LV)
      stands_local_lem =
          ap (λ (o : ℕ). ltb o 128 && holds lo hi o) rv.local
          ∙ ap₂ ◌&&◌ (lt-ltb (number_of (instruction v) LV) 128 (omega (arith, local_low, accepted.operations_few))) (is_member (number_of (instruction v) LV) local_low)

      absent : not (holds lo hi m) ≡ not (member xs (number_of (instruction v) (RV load.processor)))
      absent = ap not (is_member m rv.low ∙ ap (λ (q : ℕ). member xs (number_of (instruction v) (RV q))) own)

    local_is : local_bit t.rows lo hi g x i ≡ any (λ w. w.own && (member xs w.lv && missing e x xs w.rv)) sight.writers
    unfolding local_bit pending
    local_is =
        agree (any_below 128 (λ m. pending t.rows lo hi x m && writes_bit t.rows (visible_word t.rows g x) m i)) (any (λ w. accesses w b && pends w) (stores e))
        (λ a.
        let (m, s, k) = some_at _ 128 a in
        let (k1, wrote) = and_parts (bypasses t.rows x m && not (holds lo hi m) && (ltb (local_of t.rows m) 128 && holds lo hi (local_of t.rows m))) (writes_bit t.rows (visible_word t.rows g x) m i) k in
        let (k2, stands) = and_parts (bypasses t.rows x m && not (holds lo hi m)) (ltb (local_of t.rows m) 128 && holds lo hi (local_of t.rows m)) k1 in
        let (k3, gone) = and_parts (bypasses t.rows x m) (not (holds lo hi m)) k2 in
        let (v, l, r) = some_at (λ u. bypass_at u m) t.execution.instructions.count (sym ((h.rowed x low).bypasses_are m s) ∙ k3) in
        from v m l (sym (bypass_is v m) ∙ r) gone stands wrote)
        (λ a. let (w, mw, k) = any_witness _ (stores e) a in to w mw k)
        ∙ sym local_any
      where
        from : (v m : ℕ) → v < t.execution.instructions.count
            → (is_store (instruction v).kind && (eqb (instruction v).processor load.processor && overlap (instruction v) load)
            && eqb m (RV_own (instruction v))) ≡ true
            → not (holds lo hi m) ≡ true → (ltb (local_of t.rows m) 128 && holds lo hi (local_of t.rows m)) ≡ true → writes_bit t.rows (visible_word t.rows g x) m i ≡ true
            → any (λ w. accesses w b && pends w) (stores e) ≡ true
        from v m l r gone stands wrote =
            let (r0, r5) = and_parts (is_store (instruction v).kind && (eqb (instruction v).processor load.processor && overlap (instruction v) load)) (eqb m (RV_own (instruction v))) r in
            let (sv, r1) = and_parts (is_store (instruction v).kind) (eqb (instruction v).processor load.processor && overlap (instruction v) load) r0 in
            let (r2, r4) = and_parts (eqb (instruction v).processor load.processor) (overlap (instruction v) load) r1 in
            let own = eqb-true (instruction v).processor load.processor r2 in
            let is : m ≡ RV_own (instruction v) = eqb-true m (RV_own (instruction v)) r5 in
            any_member _ (mv v l sv own)
            (and_both (sym (wrote_bit v l sv own) ∙ ap (λ (o : ℕ). writes_bit t.rows (visible_word t.rows g x) o i) (sym is) ∙ wrote)
            (and_both r2 (and_both (sym (stands_local_lem v l sv own) ∙ ap (λ (o : ℕ). ltb (local_of t.rows o) 128 && holds lo hi (local_of t.rows o)) (sym is) ∙ stands)
            (sym (absent v l sv own) ∙ ap (λ (o : ℕ). not (holds lo hi o)) (sym is) ∙ gone))))

        to : (w : Instruction) → Memᴰ w (stores e) → (accesses w b && pends w) ≡ true
            → any_below 128 (λ m. bypasses t.rows x m && not (holds lo hi m) && (ltb (local_of t.rows m) 128 && holds lo hi (local_of t.rows m)) && writes_bit t.rows (visible_word t.rows g x) m i) ≡ true
        to w mw k =
            let (iw, sw) = is_store_lem e mw in
            let (v, l, q) = by_number t iw in
            let (k1, k2) = and_parts (accesses w b) (pends w) k in
            let (k3, k4) = and_parts (eqb w.processor load.processor) _ k2 in
            let (k5, k6) = and_parts (member xs (number_of w LV)) (not (member xs (number_of w (RV load.processor)))) k4 in
            let sv = ap (λ (u : Instruction). is_store u.kind) q ∙ sw in
            let own : (instruction v).processor ≡ load.processor = ap (λ (u : Instruction). u.processor) q ∙ eqb-true w.processor load.processor k3 in
            let reach = ap (λ (u : Instruction). accesses u b) q ∙ k1 in
            let o = m v l sv own in
            let o_low : o < 128 = omega (arith, (rv v l sv own).low, accepted.operations_few) in
            any_passes _ 128 o o_low
            (and_both (and_both (and_both
            ((h.rowed x low).bypasses_are o o_low
            ∙ any_passes (λ u. bypass_at u o) t.execution.instructions.count v l
            (bypass_is v o ∙ and_both (and_both sv (and_both (eq-eqb (instruction v).processor load.processor own) (one_byte (instruction v) load b reach reads_b))) (eq-eqb o o refl)))
            (absent v l sv own ∙ ap (λ (u : Instruction). not (member xs (number_of u (RV load.processor)))) q ∙ k6))
            (stands_local_lem v l sv own ∙ ap (λ (u : Instruction). member xs (number_of u LV)) q ∙ k5))
            (wrote_bit v l sv own ∙ reach))

    -- the bit that is seen is the byte's that rule 11 gives
    pub seen_bit : cond (local_bit t.rows lo hi g x i) (bit (get_or words (own_word t.rows g x) 0) i) (bit (get_or words (visible_word t.rows g x) 0) i) ≡ of (byte_now e x xs sight)
    unfolding byte_now
    seen_bit =
        ap (λ (u : Bool). cond u (bit (get_or words (own_word t.rows g x) 0) i) (bit (get_or words (visible_word t.rows g x) 0) i)) local_is
        ∙ ap₂ (cond (any (λ w. w.own && (member xs w.lv && missing e x xs w.rv)) sight.writers)) own_bit visible_bit
        ∙ by (any (λ w. w.own && (member xs w.lv && missing e x xs w.rv)) sight.writers) _ _
      where
        by : (u : Bool) (a c : ℕ) → cond u (of a) (of c) ≡ of (cond u a c)
        by true a c = refl
        by false a c = refl

    -- and so is the recorded one
    pub recorded_bit : bit (read_data t.rows g x) i ≡ of (byte_seen load b)
    recorded_bit =
        (h.rowed x low).reads_data g i one_or_next small ∙ ap (λ (u : Bool). u && data_bit t.bytes t.execution owner 0 (64 * g + i)) (eq-eqb role 0 reads)
        ∙ seen_bit_is t.bytes t.execution accepted owner b g i k its reads_b line at bits (reads_load reads)

    pub read_bit : bit (read_bits t.rows g x) i ≡ true
    read_bit =
        (h.rowed x low).reads_bits g i one_or_next small ∙ ap (λ (u : Bool). u && covers t.execution owner (64 * g + i)) (eq-eqb role 0 reads)
        ∙ covers_is t.bytes t.execution accepted owner b g i line at ∙ reads_b

  -- a byte that rule 11 gives is below 256
  now_small : (b : ℕ) → accesses load b ≡ true → byte_now e x xs (sight_of e load b) < 256
  unfolding byte_now sight_of
  now_small b reads_b =
      by (any (λ w. w.own && (member xs w.lv && missing e x xs w.rv)) writers)
      (last_below (map (λ w. (w.lv, w.wrote)) (keep (λ w. w.own) writers))
      (λ w m. let (u, mu, q) = Memᴰ.of_map (λ w. (w.lv, w.wrote)) (keep (λ w. w.own) writers) m in subst (λ (p : ℕ × ℕ). p.1 < 256) q (wrote u (of_keep (λ w. w.own) writers mu).0)) xs (initial_byte e b) initial)
      (last_below (map (λ w. (w.rv, w.wrote)) writers)
      (λ w m. let (u, mu, q) = Memᴰ.of_map (λ w. (w.rv, w.wrote)) writers m in subst (λ (p : ℕ × ℕ). p.1 < 256) q (wrote u mu)) xs (initial_byte e b) initial)
    where
      writers : List Writer
      writers = (sight_of e load b).writers

      initial : initial_byte e b < 256
      initial = initial_small t.bytes t.execution accepted h.record_bytes b

      wrote : (u : Writer) → Memᴰ u writers → u.wrote < 256
      wrote u mu =
          let (w, mw, q) = Memᴰ.of_map _ (keep (λ w. accesses w b) (stores e)) mu in
          let (ms, reach) = of_keep (λ w. accesses w b) (stores e) mw in
          let (v, l, r) = by_number t (is_store_lem e ms).0 in
          subst (λ (z : Writer). z.wrote < 256) q (subst (λ (i : Instruction). byte_written i b < 256) r
          (wrote_small t.bytes t.execution accepted h.data_bytes_lem v b (accesses_within t.bytes t.execution accepted v b (numbered_in t v l) (ap (λ (i : Instruction). accesses i b) r ∙ reach))
          (ap (λ (i : Instruction). is_store i.kind) r ∙ (is_store_lem e ms).1)))

      by : (u : Bool) {a c : ℕ} → a < 256 → c < 256 → cond u a c < 256
      by true p q = p
      by false p q = q

  -- the bit of the line for bit k of byte b
  abbrev bit_of : ℕ → ℕ → ℕ
  bit_of b k = 8 * (b % 8) + k

  -- each bit that x reads is as recorded
  abbrev seen_at : ℕ → ℕ → Bool
  seen_at g i = cond (local_bit t.rows lo hi g x i) (bit (get_or words (own_word t.rows g x) 0) i) (bit (get_or words (visible_word t.rows g x) 0) i)

  abbrev agrees : ℕ → ℕ → Bool
  agrees g i = not (bit (read_bits t.rows g x) i) || both_or_neither (seen_at g i) (bit (read_data t.rows g x) i)

  agrees_read : (g i : ℕ) → bit (read_bits t.rows g x) i ≡ true → agrees g i ≡ both_or_neither (seen_at g i) (bit (read_data t.rows g x) i)
  agrees_read g i r = ap (λ (u : Bool). not u || both_or_neither (seen_at g i) (bit (read_data t.rows g x) i)) r

  -- the word of each byte is among those that are read
  module _ (reads : role ≡ 0) (b : ℕ) (reads_b : accesses load b ≡ true) where
    near : Within (length e.lines) load b
    near = accesses_within t.bytes t.execution accepted owner b here reads_b

    abbrev behind : ℕ
    behind = b / 8 - load.address / 8

    in_line : b / 8 ≡ load.address / 8 + behind
    in_line = omega (arith, near.from)

    -- a byte of it is in the first line
    first_read : accesses load load.address ≡ true
    unfolding accesses
    first_read = and_both (le-leb load.address load.address (omega arith)) (lt-ltb load.address (load.address + load.size) (omega (arith, near.from, near.to)))

    some_bits : (g i : ℕ) → bit (read_bits t.rows g x) i ≡ true → eqb (read_bits t.rows g x) 0 ≡ false
    some_bits g i r = is_false (eqb (read_bits t.rows g x) 0) (λ z. clash r (ap (λ (v : ℕ). bit v i) (eqb-true (read_bits t.rows g x) 0 z) ∙ zero_has i))

    is_read : behind < words_read t.rows x
    is_read =
        subst (λ (u : Bool). behind < cond u 0 (cond (eqb (read_bits t.rows 1 x) 0) 1 2))
        (sym (some_bits 0 (8 * (load.address % 8)) (read_bit reads load.address 0 0 (8 * (load.address % 8)) first_read (omega arith) (omega arith) (omega arith))))
        (by behind refl)
      where
        by : (g : ℕ) → behind ≡ g → g < cond (eqb (read_bits t.rows 1 x) 0) 1 2
        by zero z = go (eqb (read_bits t.rows 1 x) 0)
          where
            go : (u : Bool) → 0 < cond u 1 2
            go true = omega arith
            go false = omega arith
        by (suc zero) z =
            subst (λ (u : Bool). 1 < cond u 1 2)
            (sym (some_bits 1 (8 * (b % 8)) (read_bit reads b 0 1 (8 * (b % 8)) reads_b (omega (arith, in_line, z)) (omega arith) (omega arith)))) (omega arith)
        by (suc (suc g)) z = absurd (omega (arith, near.near, in_line, z))

  -- then each byte is
  byte_agrees : role ≡ 0 → reads_recorded t.rows lo hi words x ≡ true → (b : ℕ) → accesses load b ≡ true → byte_now e x xs (sight_of e load b) ≡ byte_seen load b
  unfolding reads_recorded word_recorded
  byte_agrees reads all b reads_b =
      same_byte (byte_now e x xs (sight_of e load b)) (byte_seen load b) (now_small b reads_b)
      (seen_small t.bytes t.execution accepted h.data_bytes_lem owner b (accesses_within t.bytes t.execution accepted owner b here reads_b) (reads_load reads))
      (λ k l.
      let i = bit_of b k in
      let g = behind reads b reads_b in
      let line = in_line reads b reads_b in
      let at : i / 8 ≡ b % 8 = omega arith in
      let bits : i % 8 ≡ k = omega arith in
      same_relative (byte_now e x xs (sight_of e load b)) (byte_seen load b) (initial_byte e b) k
      (sym (seen_bit reads b k g i reads_b line at bits)
      ∙ same_true (seen_at g i) (bit (read_data t.rows g x) i)
      (sym (agrees_read g i (read_bit reads b k g i reads_b line at bits))
      ∙ all_at (agrees g) 64 (all_at (word_recorded t.rows lo hi words x) (words_read t.rows x) all g (is_read reads b reads_b)) i (omega arith))
      ∙ recorded_bit reads b k g i reads_b line at bits))

  seen_is : (b : ℕ) → (sight_of e load b).seen ≡ byte_seen load b
  unfolding sight_of
  seen_is b = refl

  refutes : role ≡ 0 → reads_recorded t.rows lo hi words x ≡ true → (b : ℕ) → accesses load b ≡ true → unseen e x xs (sight_of e load b) ≡ true → ⊥
  refutes reads all b reads_b un =
      clash un (ap not (eq-eqb (byte_now e x xs (sight_of e load b)) (sight_of e load b).seen (byte_agrees reads all b reads_b ∙ sym (seen_is b))))

  -- a byte that is as recorded
  seen_in_lem : role ≡ 0 → (b : ℕ) → accesses load b ≡ true → any (unseen e x xs) (sights e x) ≡ false → byte_now e x xs (sight_of e load b) ≡ byte_seen load b
  unfolding sights loads
  seen_in_lem reads b reads_b none =
      let is_load_lem = reads_load reads in
      let number : x ≡ number_of load R = sym (number_is h accepted x low) ∙ ap (number_of load) (role_R role reads) in
      split (eqb (byte_now e x xs (sight_of e load b)) (sight_of e load b).seen)
      (λ q. eqb-true _ _ q ∙ seen_is b)
      (λ q. clash
      (any_for (unseen e x xs) (loads e) _
      ∙ any_member _ (in_keep (λ i. is_load i.kind) here is_load_lem)
      (any_when (unseen e x xs) (eqb x (number_of load R)) (map (sight_of e load) (addresses load))
      ∙ and_both (eq-eqb x (number_of load R) number)
      (any_map (unseen e x xs) (sight_of e load) (addresses load) ∙ any_member _ (in_reach load b reads_b) (ap not q)))) none)

  read_agrees : (g i : ℕ) → g < 2 → i < 64 → bit (read_bits t.rows g x) i ≡ true → any (unseen e x xs) (sights e x) ≡ false → agrees g i ≡ true
  unfolding covers instruction_at
  read_agrees g i few l r none =
      let (r1, r2) = and_parts (eqb role 0) (covers t.execution owner (64 * g + i)) (sym ((h.rowed x low).reads_bits g i few l) ∙ r) in
      let reads : role ≡ 0 = eqb-true role 0 r1 in
      let b = 8 * (load.address / 8) + (64 * g + i) / 8 in
      let line : b / 8 ≡ load.address / 8 + g = omega arith in
      let at : i / 8 ≡ b % 8 = omega arith in
      agrees_read g i r
      ∙ same_refl (seen_at g i) (bit (read_data t.rows g x) i)
      (seen_bit reads b (i % 8) g i r2 line at refl ∙ ap (λ (v : ℕ). bit (relative v (initial_byte e b)) (i % 8)) (seen_in_lem reads b r2 none) ∙ sym (recorded_bit reads b (i % 8) g i r2 line at refl))

  few_read : words_read t.rows x ≤ 2
  few_read = go (eqb (read_bits t.rows 0 x) 0) (eqb (read_bits t.rows 1 x) 0)
    where
      go : (u v : Bool) → cond u 0 (cond v 1 2) ≤ 2
      go true v = omega arith
      go false true = omega arith
      go false false = omega arith

  pub reads_is : reads_recorded t.rows lo hi words x ≡ not (any (unseen e x xs) (sights e x))
  unfolding reads_recorded word_recorded sights
  reads_is =
      agree (reads_recorded t.rows lo hi words x) (not (any (unseen e x xs) (sights e x)))
      (λ all. ap not (is_false (any (unseen e x xs) (sights e x)) (λ u.
      let (l, ml, k) = any_witness _ (loads e) (sym (any_for (unseen e x xs) (loads e) _) ∙ u) in
      let (k1, k2) = and_parts (eqb x (number_of l R)) (any (unseen e x xs) (map (sight_of e l) (addresses l))) (sym (any_when (unseen e x xs) (eqb x (number_of l R)) (map (sight_of e l) (addresses l))) ∙ k) in
      let (il, sl) = is_load_lem e ml in
      let (is_it, is_R_lem) = owner_is h accepted x low il (R_role e.processors l.kind sl) (eqb-true x (number_of l R) k1) in
      let (b, mb, un) = any_witness _ (addresses l) (sym (any_map (unseen e x xs) (sight_of e l) (addresses l)) ∙ k2) in
      refutes (number_R role (sym is_R_lem)) all b (of_reach load b (subst (λ (i : Instruction). Memᴰ b (addresses i)) is_it mb)) (ap (λ (i : Instruction). unseen e x xs (sight_of e i b)) (sym is_it) ∙ un))))
      (λ none. all_below_lem (word_recorded t.rows lo hi words x) (words_read t.rows x) (λ g m. all_below_lem (agrees g) 64 (λ i l.
      split (bit (read_bits t.rows g x) i) (λ r. read_agrees g i (omega (arith, few_read)) l r (not-true (any (unseen e x xs) (sights e x)) none))
      (λ r. ap (λ (u : Bool). not u || both_or_neither (seen_at g i) (bit (read_data t.rows g x) i)) r))))
