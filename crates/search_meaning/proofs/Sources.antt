-- Which operations write a byte of memory: the RVs to a processor, and the LVs of its own stores.
use Prim.Native.Nat.{ℕ, ◌+◌, ◌*◌, ◌-◌, ◌/◌, ◌%◌, ◌≤◌, ◌<◌}
use native.Mathlib.Omega.{arith}
use mathlib.Core.Path.{◌≡◌, refl, sym, ap, ap₂, ◌∙◌, subst}
use mathlib.Core.Bool.{Bool, true, false, cond, ◌&&◌, ◌||◌}
use mathlib.Core.List.Memᴰ
use mathlib.Core.List.{List, map, Memᴰ}
use lib.ListN.{length, get_or}
use lib.Dec.{eqb, leb}
use borrow.Author.Tests.{eq-eqb, ne_eqb, eqb-true, eqb-false, leb-true}
use Rattle.base.specs.Lists.{any, keep}
use Rattle.base.specs.Bits.{bit}
use Rattle.base.proofs.Bools.{agree, split, clash, is_false, and_parts, and_both, or_cases}
use Rattle.base.proofs.Lists.{any_witness, any_member, any_map, any_keep, of_keep, in_keep}
use Rattle.model.specs.Execution as model
use Rattle.model.specs.Execution.{Instruction, Role, LV, RV, is_store, roles, number_of, stores, operations, initial_byte}
use Rattle.model.specs.Questions.{written_from}
use Rattle.model.specs.Rules.{accesses, byte_written}
use Rattle.model.specs.Accepted.{Accepted, Sound}
use Rattle.model.proofs.Roles.{LV_role, RV_role, LV_store, RV_store, RV_few}
use Rattle.record_decoded.specs.Kinds.{role_numbered}
use Rattle.record_decoded.specs.Decoded.{instruction_at, execution_of}
use Rattle.record_decoded.proofs.RoleNumbers.{number_LV, role_LV, number_RV, role_RV}
use Rattle.search_admit.specs.Rows.{written_bits, written_data, written_word, writes_bit, visible_at, own_at, covers, relative, data_bit, writes}
use Rattle.model.proofs.Ownership.{each_in, is_store_lem}
use Rattle.search_meaning.proofs.Tables.{Tables, TablesMean}
use Rattle.search_meaning.proofs.Owners.{role_in, owner_in, owner_is, number_is}
use Rattle.search_meaning.proofs.OperationRows.{RV_writes}
use Rattle.search_meaning.proofs.Bytes.{accesses_within, covers_is, wrote_bit_is}
use Rattle.search_meaning.proofs.Words.{byte_is, Does}

-- what writes is an LV or an RV
writes_role : (k : ℕ) → writes k ≡ true → (k ≡ 1 → ⊥) → 3 ≤ k
writes_role k h other = split (leb 3 k) (λ l. leb-true 3 k l) (λ l. clash h (ap₂ ◌||◌ (ne_eqb k 1 other) l))

module _ {t : Tables} (h : TablesMean t) (accepted : Accepted (execution_of t.bytes t.execution)) where
  abbrev e : model.Execution
  e = execution_of t.bytes t.execution

  abbrev instruction : ℕ → Instruction
  instruction i = instruction_at t.execution.instructions i

  -- byte b, its bit k, as bit i of its line's word; processor p
  module _ (p b k i : ℕ) (few : p < e.processors) (there : b < 8 * length e.lines) (at : i / 8 ≡ b % 8) (bits : i % 8 ≡ k) (o : ℕ) (low : o < operations e) where
    abbrev owner : ℕ
    owner = get_or t.operations.owners o 0

    abbrev role : ℕ
    role = get_or t.operations.roles o 0

    abbrev its : Instruction
    its = instruction owner

    abbrev its_line : ℕ
    its_line = its.address / 8

    -- bit k of a byte at b, relative to the initial byte
    abbrev of : ℕ → Bool
    of v = bit (relative v (initial_byte e b)) k

    small : i < 64
    small = omega (arith, at)

    line_low : b / 8 < 8
    line_low = omega (arith, there, accepted.lines_few)

    here : Memᴰ its e.instructions
    here = owner_in h accepted o low

    its_role : Memᴰ (role_numbered role) (roles e.processors its.kind)
    its_role = role_in h accepted o low

    own_low : its.processor < 8
    own_low = omega (arith, (each_in (Sound e.processors (length e.lines)) accepted.sound here).own, accepted.processors_few)

    -- where a bit of its word h is one of its bytes', the line is one of eight
    covered : (h : ℕ) → covers t.execution owner (64 * h + i) ≡ true → its_line + h < 8
    unfolding covers instruction_at
    covered h c = omega (arith, (accesses_within t.bytes t.execution accepted owner _ here c).there, accepted.lines_few)

    bits_are : (h : ℕ) → h < 2 → bit (written_bits t.rows h o) i ≡ (writes role && covers t.execution owner (64 * h + i))
    bits_are g l = (h.rowed o low).writes_bits g i l small

    data_are : (h : ℕ) → h < 2 → bit (written_data t.rows h o) i ≡ (writes role && data_bit t.bytes t.execution owner (written_from its.kind) (64 * h + i))
    unfolding instruction_at
    data_are g l = (h.rowed o low).writes_data g i l small

    abbrev word_at : ℕ → ℕ
    word_at r = cond (eqb r 1) (own_at its.processor its_line) (visible_at (r - 3) its_line)

    word_is : (h : ℕ) → writes role ≡ true → written_word t.rows h o ≡ (word_at role + h) % 128
    unfolding instruction_at
    word_is g w = ap (λ (v : ℕ). (v + g) % 128) ((h.rowed o low).writes_word w)

    word_LV : (h : ℕ) → role ≡ 1 → written_word t.rows h o ≡ (own_at its.processor its_line + h) % 128
    word_LV h r = word_is h (rw r refl) ∙ ap (λ (j : ℕ). (word_at j + h) % 128) r

    word_RV : (h : ℕ) → 3 ≤ role → written_word t.rows h o ≡ (visible_at (role - 3) its_line + h) % 128
    word_RV h r = word_is h (RV_writes role r) ∙ ap (λ (u : Bool). (cond u (own_at its.processor its_line) (visible_at (role - 3) its_line) + h) % 128) (ne_eqb role 1 (λ z. omega arith))

    remote_low : 3 ≤ role → role - 3 < 8
    remote_low r =
        omega (arith, accepted.processors_few, RV_few e.processors _ its.kind (subst (λ (s : Role). Memᴰ s (roles e.processors its.kind)) (role_RV role r) its_role))

    -- what writes is a store's
    writes_store : writes role ≡ true → is_store its.kind ≡ true
    writes_store w =
        or_cases (eqb role 1) (leb 3 role) w
        (λ u. LV_store e.processors its.kind (subst (λ (s : Role). Memᴰ s (roles e.processors its.kind)) (ap role_numbered (eqb-true role 1 u)) its_role))
        (λ u. RV_store e.processors (role - 3) its.kind (subst (λ (s : Role). Memᴰ s (roles e.processors its.kind)) (role_RV role (leb-true 3 role u)) its_role))

    -- what is written to its word h, where a test of the operation says that it writes this byte to word c
    module _ (c : ℕ) (wanted : Bool)
        (match : wanted ≡ true → (writes role ≡ true) × ((h : ℕ) → its_line + h < 8 → b / 8 ≡ its_line + h → written_word t.rows h o ≡ c))
        (matched : (h : ℕ) → writes role ≡ true → its_line + h < 8 → written_word t.rows h o ≡ c → (wanted ≡ true) × (b / 8 ≡ its_line + h)) where
      -- it writes the byte, which lies in the line of its word h
      abbrev hit : ℕ → Bool
      hit h = wanted && (accesses its b && eqb (b / 8) (its_line + h))

      touches : (h : ℕ) → h < 2 → (eqb (written_word t.rows h o) c && bit (written_bits t.rows h o) i) ≡ hit h
      touches h few =
          agree (eqb (written_word t.rows h o) c && bit (written_bits t.rows h o) i) (hit h)
          (λ u.
          let (u1, u2) = and_parts (eqb (written_word t.rows h o) c) (bit (written_bits t.rows h o) i) u in
          let (u3, u4) = and_parts (writes role) (covers t.execution owner (64 * h + i)) (sym (bits_are h few) ∙ u2) in
          let (m1, m2) = matched h u3 (covered h u4) (eqb-true (written_word t.rows h o) c u1) in
          and_both m1 (and_both (sym (covers_is t.bytes t.execution accepted owner b h i m2 at) ∙ u4) (eq-eqb (b / 8) (its_line + h) m2)))
          (λ u.
          let (u1, u2) = and_parts wanted (accesses its b && eqb (b / 8) (its_line + h)) u in
          let (u3, u4) = and_parts (accesses its b) (eqb (b / 8) (its_line + h)) u2 in
          let (m1, m2) = match u1 in
          let line = eqb-true (b / 8) (its_line + h) u4 in
          let cover = covers_is t.bytes t.execution accepted owner b h i line at ∙ u3 in
          and_both (eq-eqb (written_word t.rows h o) c (m2 h (covered h cover) line)) (bits_are h few ∙ and_both m1 cover))

      leaves : (h : ℕ) → h < 2 → hit h ≡ false → (eqb (written_word t.rows h o) c && bit (written_data t.rows h o) i) ≡ false
      unfolding data_bit
      leaves h few miss = is_false _ (λ u.
          let (u1, u2) = and_parts (eqb (written_word t.rows h o) c) (bit (written_data t.rows h o) i) u in
          let (u3, u4) = and_parts (writes role) (data_bit t.bytes t.execution owner (written_from its.kind) (64 * h + i)) (sym (data_are h few) ∙ u2) in
          let (u5, u6) = and_parts (covers t.execution owner (64 * h + i)) _ u4 in
          clash (sym (touches h few) ∙ and_both u1 (bits_are h few ∙ and_both u3 u5)) miss)

      puts : (h : ℕ) → h < 2 → hit h ≡ true → bit (written_data t.rows h o) i ≡ of (byte_written its b)
      puts h few u =
          let (u1, u2) = and_parts wanted (accesses its b && eqb (b / 8) (its_line + h)) u in
          let (u3, u4) = and_parts (accesses its b) (eqb (b / 8) (its_line + h)) u2 in
          data_are h few ∙ ap (λ (v : Bool). v && data_bit t.bytes t.execution owner (written_from its.kind) (64 * h + i)) (match u1).0
          ∙ wrote_bit_is t.bytes t.execution accepted owner b h i k (accesses_within t.bytes t.execution accepted owner b here u3) u3 (eqb-true (b / 8) (its_line + h) u4) at bits (writes_store (match u1).0)

      -- the byte lies in the line of one of its words
      either_word : (hit 0 || hit 1) ≡ (wanted && accesses its b)
      either_word = go wanted (accesses its b) refl
        where
          go : (u a : Bool) → accesses its b ≡ a → (u && (a && eqb (b / 8) (its_line + 0)) || u && (a && eqb (b / 8) (its_line + 1))) ≡ (u && a)
          go true true e =
              let near = accesses_within t.bytes t.execution accepted owner b here e in
              split (eqb (b / 8) (its_line + 0)) (λ q. rw q refl)
              (λ q. rw (q, eq-eqb (b / 8) (its_line + 1) (omega (arith, near.from, near.near, eqb-false (b / 8) (its_line + 0) q))) refl)
          go true false e = refl
          go false a e = refl

      one_of_two : (v d : ℕ) → cond (wanted && accesses its b) v d ≡ cond (hit 1) v (cond (hit 0) v d)
      one_of_two v d = ap (λ (u : Bool). cond u v d) (sym either_word) ∙ twice (hit 0) (hit 1)
        where
          twice : (m n : Bool) → cond (m || n) v d ≡ cond n v (cond m v d)
          twice true true = refl
          twice true false = refl
          twice false true = refl
          twice false false = refl

    its_store : is_store its.kind ≡ true → Memᴰ its (stores e)
    unfolding stores
    its_store s = in_keep (λ i. is_store i.kind) here s

    -- the stores to the byte, as they become visible to p
    abbrev visibly : List (ℕ × ℕ)
    visibly = map (λ w. (number_of w (RV p), byte_written w b)) (keep (λ w. accesses w b) (stores e))

    visible_one : {w : Instruction} → Memᴰ w (stores e) → number_of w (RV p) ≡ o → (w ≡ its) × (role ≡ 3 + p)
    visible_one {w} mw q =
        let (iw, sw) = is_store_lem e mw in
        let (same, r) = owner_is h accepted o low iw (RV_role e.processors w.kind p few sw) (sym q) in
        (same, number_RV role p (sym r))

    visible_any : any (λ w. eqb w.0 o) visibly ≡ (eqb role (3 + p) && accesses its b)
    visible_any =
        any_map (λ w. eqb w.0 o) (λ w. (number_of w (RV p), byte_written w b)) (keep (λ w. accesses w b) (stores e))
        ∙ any_keep (λ w. eqb (number_of w (RV p)) o) (λ w. accesses w b) (stores e)
        ∙ agree (any (λ w. accesses w b && eqb (number_of w (RV p)) o) (stores e)) (eqb role (3 + p) && accesses its b)
        (λ a.
        let (w, mw, k) = any_witness _ (stores e) a in
        let (k1, k2) = and_parts (accesses w b) (eqb (number_of w (RV p)) o) k in
        let (same, r) = visible_one mw (eqb-true (number_of w (RV p)) o k2) in
        and_both (eq-eqb role (3 + p) r) (ap (λ (u : Instruction). accesses u b) (sym same) ∙ k1))
        (λ a.
        let (k1, k2) = and_parts (eqb role (3 + p)) (accesses its b) a in
        let r : role ≡ 3 + p = eqb-true role (3 + p) k1 in
        let is_it : role_numbered role ≡ RV p = role_RV role (omega arith) ∙ ap RV (let z : role - 3 ≡ p = omega arith in z) in
        any_member _ (its_store (RV_store e.processors p its.kind (subst (λ (s : Role). Memᴰ s (roles e.processors its.kind)) is_it its_role)))
        (and_both k2 (eq-eqb (number_of its (RV p)) o (ap (number_of its) (sym is_it) ∙ number_is h accepted o low))))

    visible_match : eqb role (3 + p) ≡ true → (writes role ≡ true) × ((h : ℕ) → its_line + h < 8 → b / 8 ≡ its_line + h → written_word t.rows h o ≡ visible_at p (b / 8))
    visible_match u =
        let r : role ≡ 3 + p = eqb-true role (3 + p) u in
        (RV_writes role (omega arith), λ h l q. word_RV h (omega arith) ∙ (let z : (visible_at (role - 3) its_line + h) % 128 ≡ visible_at p (b / 8) = omega (arith, few, accepted.processors_few) in z))

    visible_matched : (h : ℕ) → writes role ≡ true → its_line + h < 8 → written_word t.rows h o ≡ visible_at p (b / 8) → (eqb role (3 + p) ≡ true) × (b / 8 ≡ its_line + h)
    visible_matched h w l q =
        split (eqb role 1)
        (λ r. absurd (omega (arith, few, accepted.processors_few, line_low, own_low, sym (word_LV h (eqb-true role 1 r)) ∙ q)))
        (λ r.
        let far = writes_role role w (λ z. clash (eq-eqb role 1 z) r) in
        let z = sym (word_RV h far) ∙ q in
        (eq-eqb role (3 + p) (omega (arith, few, accepted.processors_few, line_low, remote_low far, z)), omega (arith, few, accepted.processors_few, line_low, remote_low far, z)))

    -- the RV to p of a store to the byte writes it
    pub visible_writes : writes_bit t.rows (visible_at p (b / 8)) o i ≡ (eqb role (3 + p) && accesses its b)
    unfolding writes_bit
    visible_writes =
        ap₂ ◌||◌ (touches (visible_at p (b / 8)) (eqb role (3 + p)) visible_match visible_matched 0 (omega arith)) (touches (visible_at p (b / 8)) (eqb role (3 + p)) visible_match visible_matched 1 (omega arith))
        ∙ either_word (visible_at p (b / 8)) (eqb role (3 + p)) visible_match visible_matched

    pub visible_does : Does t.rows visibly (visible_at p (b / 8)) i of o
    visible_does = record {
      hit = hit (visible_at p (b / 8)) (eqb role (3 + p)) visible_match visible_matched;
      byte = byte_written its b;
      touches = touches (visible_at p (b / 8)) (eqb role (3 + p)) visible_match visible_matched;
      leaves = leaves (visible_at p (b / 8)) (eqb role (3 + p)) visible_match visible_matched;
      puts = puts (visible_at p (b / 8)) (eqb role (3 + p)) visible_match visible_matched;
      gives = λ d. byte_is visibly o (byte_written its b) d each ∙ ap (λ (u : Bool). cond u (byte_written its b) d) visible_any ∙ one_of_two (visible_at p (b / 8)) (eqb role (3 + p)) visible_match visible_matched (byte_written its b) d;
    }
      where
        each : (w : ℕ × ℕ) → Memᴰ w visibly → w.0 ≡ o → w.1 ≡ byte_written its b
        each w m q =
            let (v, mv, s) = Memᴰ.of_map (λ u. (number_of u (RV p), byte_written u b)) (keep (λ u. accesses u b) (stores e)) m in
            let (same, r) = visible_one (of_keep (λ u. accesses u b) (stores e) mv).0 (ap (λ (u : ℕ × ℕ). u.0) s ∙ q) in
            ap (λ (u : ℕ × ℕ). u.1) (sym s) ∙ ap (λ (u : Instruction). byte_written u b) same

    -- p's own stores to the byte, as it does them
    abbrev ownly : List (ℕ × ℕ)
    ownly = map (λ w. (number_of w LV, byte_written w b)) (keep (λ w. eqb w.processor p) (keep (λ w. accesses w b) (stores e)))

    own_one : {w : Instruction} → Memᴰ w (stores e) → number_of w LV ≡ o → (w ≡ its) × (role ≡ 1)
    own_one {w} mw q =
        let (iw, sw) = is_store_lem e mw in
        let (same, r) = owner_is h accepted o low iw (LV_role e.processors w.kind sw) (sym q) in
        (same, number_LV role (sym r))

    own_any : any (λ w. eqb w.0 o) ownly ≡ (eqb role 1 && eqb its.processor p && accesses its b)
    own_any =
        any_map (λ w. eqb w.0 o) (λ w. (number_of w LV, byte_written w b)) (keep (λ w. eqb w.processor p) (keep (λ w. accesses w b) (stores e)))
        ∙ any_keep (λ w. eqb (number_of w LV) o) (λ w. eqb w.processor p) (keep (λ w. accesses w b) (stores e))
        ∙ any_keep (λ w. eqb w.processor p && eqb (number_of w LV) o) (λ w. accesses w b) (stores e)
        ∙ agree (any (λ w. accesses w b && (eqb w.processor p && eqb (number_of w LV) o)) (stores e)) (eqb role 1 && eqb its.processor p && accesses its b)
        (λ a.
        let (w, mw, k) = any_witness _ (stores e) a in
        let (k1, k2) = and_parts (accesses w b) (eqb w.processor p && eqb (number_of w LV) o) k in
        let (k3, k4) = and_parts (eqb w.processor p) (eqb (number_of w LV) o) k2 in
        let (same, r) = own_one mw (eqb-true (number_of w LV) o k4) in
        and_both (and_both (eq-eqb role 1 r) (ap (λ (u : Instruction). eqb u.processor p) (sym same) ∙ k3)) (ap (λ (u : Instruction). accesses u b) (sym same) ∙ k1))
        (λ a.
        let (k1, k2) = and_parts (eqb role 1 && eqb its.processor p) (accesses its b) a in
        let (k3, k4) = and_parts (eqb role 1) (eqb its.processor p) k1 in
        let is_it : role_numbered role ≡ LV = role_LV role (eqb-true role 1 k3) in
        any_member _ (its_store (LV_store e.processors its.kind (subst (λ (s : Role). Memᴰ s (roles e.processors its.kind)) is_it its_role)))
        (and_both k2 (and_both k4 (eq-eqb (number_of its LV) o (ap (number_of its) (sym is_it) ∙ number_is h accepted o low)))))

    pub own_does : Does t.rows ownly (own_at p (b / 8)) i of o
    own_does = record {
      hit = hit (own_at p (b / 8)) (eqb role 1 && eqb its.processor p) match matched;
      byte = byte_written its b;
      touches = touches (own_at p (b / 8)) (eqb role 1 && eqb its.processor p) match matched;
      leaves = leaves (own_at p (b / 8)) (eqb role 1 && eqb its.processor p) match matched;
      puts = puts (own_at p (b / 8)) (eqb role 1 && eqb its.processor p) match matched;
      gives = λ d. byte_is ownly o (byte_written its b) d each ∙ ap (λ (u : Bool). cond u (byte_written its b) d) own_any ∙ one_of_two (own_at p (b / 8)) (eqb role 1 && eqb its.processor p) match matched (byte_written its b) d;
    }
      where
        match : (eqb role 1 && eqb its.processor p) ≡ true → (writes role ≡ true) × ((h : ℕ) → its_line + h < 8 → b / 8 ≡ its_line + h → written_word t.rows h o ≡ own_at p (b / 8))
        match u =
            let (u1, u2) = and_parts (eqb role 1) (eqb its.processor p) u in
            let r : role ≡ 1 = eqb-true role 1 u1 in
            let own : its.processor ≡ p = eqb-true its.processor p u2 in
            (ap (λ (v : Bool). v || leb 3 role) u1, λ h l q. word_LV h r ∙ (let z : (own_at its.processor its_line + h) % 128 ≡ own_at p (b / 8) = omega (arith, few, accepted.processors_few) in z))

        matched : (h : ℕ) → writes role ≡ true → its_line + h < 8 → written_word t.rows h o ≡ own_at p (b / 8) → ((eqb role 1 && eqb its.processor p) ≡ true) × (b / 8 ≡ its_line + h)
        matched h w l q =
            split (eqb role 1)
            (λ r.
            let z = sym (word_LV h (eqb-true role 1 r)) ∙ q in
            (and_both r (eq-eqb its.processor p (omega (arith, few, accepted.processors_few, line_low, own_low, z))), omega (arith, few, accepted.processors_few, line_low, own_low, z)))
            (λ r.
            let far = writes_role role w (λ z. clash (eq-eqb role 1 z) r) in
            absurd (omega (arith, few, accepted.processors_few, line_low, remote_low far, sym (word_RV h far) ∙ q)))

        each : (w : ℕ × ℕ) → Memᴰ w ownly → w.0 ≡ o → w.1 ≡ byte_written its b
        each w m q =
            let (v, mv, s) = Memᴰ.of_map (λ u. (number_of u LV, byte_written u b)) (keep (λ u. eqb u.processor p) (keep (λ u. accesses u b) (stores e))) m in
            let (mk, own) = of_keep (λ u. eqb u.processor p) (keep (λ u. accesses u b) (stores e)) mv in
            let (same, r) = own_one (of_keep (λ u. accesses u b) (stores e) mk).0 (ap (λ (u : ℕ × ℕ). u.0) s ∙ q) in
            ap (λ (u : ℕ × ℕ). u.1) (sym s) ∙ ap (λ (u : Instruction). byte_written u b) same
