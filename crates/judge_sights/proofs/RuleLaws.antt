-- Rule 11 from places is rule 11 from the order.
use Prim.Native.Nat.{ℕ, zero, suc, ◌+◌, ◌-◌, ◌≤◌}
use native.Mathlib.Omega.{arith}
use mathlib.Core.Path.{◌≡◌, refl, sym, ap, ap₂, ◌∙◌, subst}
use mathlib.Core.Bool.{Bool, true, false, not, cond, ◌&&◌, ◌||◌, and-true}
use mathlib.Core.List.{List, [], ◌∷◌, map}
use lib.ListN.{get_or, drop}
use lib.Dec.{eqb, leb, ltb}
use borrow.Author.Tests.{ltb-true}
use Rattle.base.specs.Lists.{any, keep, count, below, member}
use Rattle.base.specs.Below.{any_below}
use Rattle.base.specs.Fold.{fold}
use Rattle.base.proofs.Lists.{any_append, any_one, any_keep, any_map, any_for, count_more, keep_keep, keep_same, keep_map, map_map}
use Rattle.base.proofs.Tests.{any_numbered, any_below_lem, any_below_same}
use Rattle.model.specs.Execution.{is_load, is_store, LV, RV, number_of, loads, stores}
use Rattle.model.specs.Rules.{Sight, Writer, sees, accesses, addresses, before, latest, local, byte_read, sight_of, rule11, broken}
use Rattle.record_decoded.specs.declared.types.Instructions.{Instructions}
use Rattle.record_decoded.specs.declared.types.Execution.{Execution}
use Rattle.record_decoded.specs.Decoded.{instruction_at, instructions_of, initial_of, execution_of}
use Rattle.record_decoded.proofs.InitialBytes.{initial_is}
use Rattle.relation_places.specs.Places.{placed, Placed}
use Rattle.relation_places.proofs.PlaceLaws.{before_placed, member_placed}
use Rattle.judge_sights.specs.declared.Latest.{Latest}
use Rattle.judge_sights.specs.Sights.{seen_byte, wrote_byte, writes_to, same_processor, read_no, local_no, remote_no, may_give, visible_by, makes_local, local_by, later_by, latest_with, latest_by, read_by, read_at, sight_broken, load_broken}
use Rattle.judge_sights.proofs.LatestLaws.{latest_nothing, latest_more}

-- The stores to a byte, by their numbers

-- a test of the numbers of `count`
any_count : (p : ℕ → Bool) (from n : ℕ) → any p (count from n) ≡ any_below n (λ k. p (from + k))
unfolding any count any_below
any_count p from zero = refl
any_count p from (suc n) =
    ap (any p) (count_more from n) ∙ any_append p (count from n) ((from + n) ∷ []) ∙ ap₂ (λ (s t : Bool). s || t) (any_count p from n) (any_one p (from + n))

module _ (is : Instructions) (load address : ℕ) where
  -- a store as the load meets it
  writer_at : ℕ → Writer
  writer_at w = record {
    own = same_processor is load w;
    lv = local_no is w;
    rv = remote_no is load w;
    wrote = wrote_byte is w (address - (instruction_at is w).address);
  }

  writers : List ℕ → List Writer
  writers ks = map writer_at (keep (writes_to is address) ks)

  -- the operations that may give the load its byte, and their bytes
  entries : Bool → List ℕ → List (ℕ × ℕ)
  entries b ks = map (λ w. (visible_by is load b w, wrote_byte is w (address - (instruction_at is w).address))) (keep (may_give is load address b) ks)

  entries_local : (ks : List ℕ) → map (λ w. (w.lv, w.wrote)) (keep (λ w. w.own) (writers ks)) ≡ entries true ks
  unfolding writers entries writer_at may_give visible_by
  entries_local ks =
      ap (map (λ w. (w.lv, w.wrote))) (keep_map (λ w. w.own) writer_at (keep (writes_to is address) ks)
      ∙ ap (map writer_at) (keep_keep (same_processor is load) (writes_to is address) ks))
      ∙ map_map (λ w. (w.lv, w.wrote)) writer_at (keep (λ w. writes_to is address w && same_processor is load w) ks)

  entries_remote : (ks : List ℕ) → map (λ w. (w.rv, w.wrote)) (writers ks) ≡ entries false ks
  unfolding writers entries writer_at may_give visible_by
  entries_remote ks =
      map_map (λ w. (w.rv, w.wrote)) writer_at (keep (writes_to is address) ks)
      ∙ ap (map (λ w. (remote_no is load w, wrote_byte is w (address - (instruction_at is w).address))))
      (keep_same (writes_to is address) (λ w. writes_to is address w && true) (λ w. sym (and-true (writes_to is address w))) ks)

module _ (bytes : List ℕ) (x : Execution) (load address : ℕ) where
  -- the sight of a byte of a load
  unfoldable pub sight : Sight
  sight = sight_of (execution_of bytes x) (instruction_at x.instructions load) address

  sight_writers : sight.writers ≡ writers x.instructions load address (below x.instructions.count)
  unfolding sight sight_of execution_of instructions_of stores writers writer_at writes_to same_processor local_no remote_no wrote_byte
  sight_writers =
      ap (map (λ w. record {
        own = eqb w.processor (instruction_at x.instructions load).processor;
        lv = number_of w LV;
        rv = number_of w (RV (instruction_at x.instructions load).processor);
        wrote = get_or w.wrote (address - w.address) 0;
      }))
      (keep_keep (λ w. accesses w address) (λ w. is_store w.kind) (map (instruction_at x.instructions) (below x.instructions.count))
      ∙ keep_map (λ w. is_store w.kind && accesses w address) (instruction_at x.instructions) (below x.instructions.count))
      ∙ map_map (λ w. record {
        own = eqb w.processor (instruction_at x.instructions load).processor;
        lv = number_of w LV;
        rv = number_of w (RV (instruction_at x.instructions load).processor);
        wrote = get_or w.wrote (address - w.address) 0;
      }) (instruction_at x.instructions) (keep (writes_to x.instructions address) (below x.instructions.count))

  sight_reads : sight.reads ≡ read_no x.instructions load
  unfolding sight sight_of read_no
  sight_reads = refl

  sight_initial : sight.initial ≡ initial_of bytes x.lines.count address
  unfolding sight sight_of
  sight_initial = initial_is bytes x address

-- the byte seen
sight_seen : (bytes : List ℕ) (x : Execution) (load k : ℕ) → (sight bytes x load ((instruction_at x.instructions load).address + k)).seen ≡ seen_byte x.instructions load k
unfolding sight sight_of seen_byte
sight_seen bytes x load k =
    ap (λ (j : ℕ). get_or (instruction_at x.instructions load).seen j 0)
    (let z : (instruction_at x.instructions load).address + k - (instruction_at x.instructions load).address ≡ k = omega arith in z)

-- The order and its places

module _ {n : ℕ} {xs places : List ℕ} (h : Placed n xs places) where
  -- one store more, taken in
  module _ (is : Instructions) (load address : ℕ) (b : Bool) where
    next_within : (w : ℕ) (l : Latest) → l.next ≤ placed places (read_no is load) → (latest_with is places load address b w l).next ≤ placed places (read_no is load)
    unfolding latest_with later_by
    next_within w l m = go (may_give is load address b w) (ltb (placed places (visible_by is load b w)) (placed places (read_no is load))) (leb l.next (placed places (visible_by is load b w))) refl
      where
        later : Latest
        later = record { next = placed places (visible_by is load b w) + 1; value = wrote_byte is w (address - (instruction_at is w).address) }

        go : (g s t : Bool) → ltb (placed places (visible_by is load b w)) (placed places (read_no is load)) ≡ s
            → (cond (g && (s && t)) later l).next ≤ placed places (read_no is load)
        go false s t e = m
        go true false t e = m
        go true true false e = m
        go true true true e = omega (arith, ltb-true (placed places (visible_by is load b w)) (placed places (read_no is load)) e)

    latest_in : (w : ℕ) (ks : List ℕ) (l : Latest) → l.next ≤ placed places (read_no is load)
        → latest (entries is load address b (w ∷ ks)) (read_no is load) l.value (drop l.next xs)
        ≡ latest (entries is load address b ks) (read_no is load) (latest_with is places load address b w l).value (drop (latest_with is places load address b w l).next xs)
    unfolding entries keep latest_with later_by
    latest_in w ks l m = go (may_give is load address b w)
      where
        entry : ℕ → ℕ × ℕ
        entry w = (visible_by is load b w, wrote_byte is w (address - (instruction_at is w).address))

        rest : List ℕ
        rest = keep (may_give is load address b) ks

        test : Bool
        test = ltb (placed places (visible_by is load b w)) (placed places (read_no is load)) && leb l.next (placed places (visible_by is load b w))

        later : Latest
        later = record { next = placed places (visible_by is load b w) + 1; value = wrote_byte is w (address - (instruction_at is w).address) }

        given : (t : Bool)
            → cond t (latest (map entry rest) (read_no is load) later.value (drop later.next xs)) (latest (map entry rest) (read_no is load) l.value (drop l.next xs))
            ≡ latest (map entry rest) (read_no is load) (cond t later l).value (drop (cond t later l).next xs)
        given true = refl
        given false = refl

        go : (g : Bool)
            → latest (map entry (cond g (w ∷ rest) rest)) (read_no is load) l.value (drop l.next xs)
            ≡ latest (map entry rest) (read_no is load) (cond (g && test) later l).value (drop (cond (g && test) later l).next xs)
        go true =
            latest_more h (map entry rest) (read_no is load) (visible_by is load b w) (wrote_byte is w (address - (instruction_at is w).address)) l.value l.next m
            ∙ given test
        go false = refl

    latest_end : (l : Latest) → latest (entries is load address b []) (read_no is load) l.value (drop l.next xs) ≡ l.value
    unfolding entries keep
    latest_end l = latest_nothing (read_no is load) l.value (drop l.next xs)

    -- the stores from i on, taken in
    latest_rest : (step : ℕ → Latest) → ((k : ℕ) → step (suc k) ≡ latest_with is places load address b k (step k))
        → (m i : ℕ) → (step i).next ≤ placed places (read_no is load)
        → latest (entries is load address b (count i m)) (read_no is load) (step i).value (drop (step i).next xs) ≡ (step (i + m)).value
    unfolding count
    latest_rest step e zero i f = latest_end (step i) ∙ ap (λ (k : ℕ). (step k).value) (let z : i ≡ i + 0 = omega arith in z)
    latest_rest step e (suc m) i f =
        latest_in i (count (suc i) m) (step i) f
        ∙ ap (λ (l : Latest). latest (entries is load address b (count (suc i) m)) (read_no is load) l.value (drop l.next xs)) (sym (e i))
        ∙ latest_rest step e m (suc i) (subst (λ (l : Latest). l.next ≤ placed places (read_no is load)) (sym (e i)) (next_within i (step i) f))
        ∙ ap (λ (k : ℕ). (step k).value) (let z : suc i + m ≡ i + suc m = omega arith in z)

    latest_all : (initial : ℕ) → latest (entries is load address b (below is.count)) (read_no is load) initial xs ≡ latest_by is places load address b initial
    unfolding latest_by below fold
    latest_all initial =
        latest_rest (λ k. fold k (latest_with is places load address b) (record { next = 0; value = initial })) (λ k. refl) is.count 0 (omega arith)
        ∙ ap (λ (k : ℕ). (fold k (latest_with is places load address b) (record { next = 0; value = initial })).value) (let z : 0 + is.count ≡ is.count = omega arith in z)

  -- the load is local
  module _ (bytes : List ℕ) (x : Execution) (load address : ℕ) where
    local_test : Writer → Bool
    local_test w = w.own && (before xs w.lv (read_no x.instructions load) && before xs (read_no x.instructions load) w.rv)

    local_test_lem : local xs (sight bytes x load address) ≡ any local_test (sight bytes x load address).writers
    unfolding local sight sight_of local_test read_no
    local_test_lem = refl

    local_at : (w : ℕ) → (writes_to x.instructions address w && local_test (writer_at x.instructions load address w)) ≡ makes_local x.instructions places load address w
    unfolding local_test writer_at makes_local
    local_at w =
        ap₂ (λ (s t : Bool). writes_to x.instructions address w && (same_processor x.instructions load w && (s && t)))
        (before_placed h (local_no x.instructions w) (read_no x.instructions load))
        (before_placed h (read_no x.instructions load) (remote_no x.instructions load w))

    local_by_lem : local xs (sight bytes x load address) ≡ local_by x.instructions places load address
    unfolding writers local_by
    local_by_lem =
        local_test_lem
        ∙ ap (any local_test) (sight_writers bytes x load address)
        ∙ any_map local_test (writer_at x.instructions load address) (keep (writes_to x.instructions address) (below x.instructions.count))
        ∙ any_keep (λ w. local_test (writer_at x.instructions load address w)) (writes_to x.instructions address) (below x.instructions.count)
        ∙ any_below_lem (λ w. writes_to x.instructions address w && local_test (writer_at x.instructions load address w)) x.instructions.count
        ∙ any_below_same (λ w. writes_to x.instructions address w && local_test (writer_at x.instructions load address w)) (makes_local x.instructions places load address) x.instructions.count (λ w l. local_at w)

    -- the byte that it sees
    read_by_lem : byte_read xs (sight bytes x load address) ≡ read_at bytes x places load address
    unfolding byte_read read_at read_by
    read_by_lem =
        rw (local_by_lem, sight_writers bytes x load address, sight_reads bytes x load address, sight_initial bytes x load address)
        (go (local_by x.instructions places load address))
      where
        go : (b : Bool)
            → cond b
            (latest (map (λ w. (w.lv, w.wrote)) (keep (λ w. w.own) (writers x.instructions load address (below x.instructions.count)))) (read_no x.instructions load) (initial_of bytes x.lines.count address) xs)
            (latest (map (λ w. (w.rv, w.wrote)) (writers x.instructions load address (below x.instructions.count))) (read_no x.instructions load) (initial_of bytes x.lines.count address) xs)
            ≡ latest_by x.instructions places load address b (initial_of bytes x.lines.count address)
        go true =
            rw (entries_local x.instructions load address (below x.instructions.count))
            (latest_all x.instructions load address true (initial_of bytes x.lines.count address))
        go false =
            rw (entries_remote x.instructions load address (below x.instructions.count))
            (latest_all x.instructions load address false (initial_of bytes x.lines.count address))

  -- one byte of a load
  pub sight_by : (bytes : List ℕ) (x : Execution) (load k : ℕ) → broken xs (sees (sight bytes x load ((instruction_at x.instructions load).address + k))) ≡ sight_broken bytes x places load k
  unfolding broken sight_broken
  sight_by bytes x load k =
      ap₂ (λ (s t : Bool). s && not t)
      (ap (member xs) (sight_reads bytes x load ((instruction_at x.instructions load).address + k)) ∙ member_placed h (read_no x.instructions load))
      (ap₂ eqb (read_by_lem bytes x load ((instruction_at x.instructions load).address + k)) (sight_seen bytes x load k))

  -- the bytes of a load
  pub load_by : (bytes : List ℕ) (x : Execution) (i : ℕ)
      → (is_load (instruction_at x.instructions i).kind
      && any (broken xs) (map (λ b. sees (sight bytes x i b)) (addresses (instruction_at x.instructions i))))
      ≡ load_broken bytes x places i
  unfolding addresses load_broken
  load_by bytes x i =
      ap (λ (t : Bool). is_load (instruction_at x.instructions i).kind && t)
      (any_map (broken xs) (λ b. sees (sight bytes x i b)) (count (instruction_at x.instructions i).address (instruction_at x.instructions i).size)
      ∙ any_count (λ b. broken xs (sees (sight bytes x i b))) (instruction_at x.instructions i).address (instruction_at x.instructions i).size
      ∙ any_below_same (λ k. broken xs (sees (sight bytes x i ((instruction_at x.instructions i).address + k)))) (sight_broken bytes x places i) (instruction_at x.instructions i).size (λ k l. sight_by bytes x i k))

  -- all loads
  pub rule_by : (bytes : List ℕ) (x : Execution) → any (broken xs) (rule11 (execution_of bytes x)) ≡ any_below x.instructions.count (load_broken bytes x places)
  unfolding rule11 loads execution_of instructions_of sight
  rule_by bytes x =
      any_for (broken xs) (keep (λ i. is_load i.kind) (map (instruction_at x.instructions) (below x.instructions.count))) (λ l. map (λ b. sees (sight_of (execution_of bytes x) l b)) (addresses l))
      ∙ any_keep (λ l. any (broken xs) (map (λ b. sees (sight_of (execution_of bytes x) l b)) (addresses l))) (λ i. is_load i.kind) (map (instruction_at x.instructions) (below x.instructions.count))
      ∙ any_numbered (λ l. is_load l.kind && any (broken xs) (map (λ b. sees (sight_of (execution_of bytes x) l b)) (addresses l))) (instruction_at x.instructions) x.instructions.count
      ∙ any_below_same (λ i. is_load (instruction_at x.instructions i).kind && any (broken xs) (map (λ b. sees (sight bytes x i b)) (addresses (instruction_at x.instructions i)))) (load_broken bytes x places) x.instructions.count (λ i l. load_by bytes x i)
