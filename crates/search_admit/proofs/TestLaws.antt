-- What the parts of the test come to: bits of words, and the members of a set that do not stand.
use Prim.Native.Nat.{ℕ, ◌+◌, ◌*◌, ◌^◌, ◌≤◌, ◌<◌}
use native.Mathlib.Omega.{arith}
use mathlib.Core.Path.{◌≡◌, refl, sym, ap, ap₂, ◌∙◌}
use mathlib.Core.Bool.{Bool, true, false, not, cond, ◌&&◌, ◌||◌, and_assoc, or-false}
use mathlib.Core.List.{List}
use lib.ListN.{get_or, set}
use lib.Bits.{bit_and, bit_or, bit_xor, and_lt, or_lt, xor_lt}
use lib.Dec.{eqb, ltb}
use borrow.Author.Tests.{eq-eqb, ne_eqb, eqb-true, le-ltb, lt-ltb, not-true, not-false}
use Rattle.base.specs.Below.{all_below, any_below}
use Rattle.base.specs.Bits.{bit}
use Rattle.base.proofs.Bools.{agree}
use Rattle.base.proofs.Tests.{all_at, all_below_lem, all_same, any_below_same}
use Rattle.relation_places.specs.Places.{before_by}
use Rattle.search_sets.specs.Set.{holds}
use Rattle.search_sets.proofs.Bit.{has_and, has_or}
use Rattle.search_sets.proofs.Laws.{has_minus, has_xor, zero_has, bits_zero}
use Rattle.search_sets.proofs.Loops.{any_skips}
use Rattle.search_admit.specs.Rows.{field, awaited, bypasses, written_bits, written_data, written_word, words_written, read_bits, read_data, visible_word, own_word, words_read, own_of, local_of, read_of, writes_bit, merged, word_over, words_up_to, words_with, replaced_up_to, words_back}
use Rattle.search_admit.specs.Fits.{both_or_neither, bit_agrees, waits_for, refused, pending, local_bit, word_recorded, reads_recorded}

-- the ways out of the test of one operation that may be waited for
module _ (rows places : List ℕ) (x m : ℕ) {own_m own_x : ℕ} (is_m : own_m ≡ own_of rows m) (is_x : own_x ≡ own_of rows x) {r : Bool}
    (tells : r ≡ before_by places own_m own_x) where
  abbrev first : Bool
  first = before_by places (own_of rows m) (own_of rows x)

  abbrev locals : Bool
  locals = before_by places (local_of rows m) (local_of rows x)

  first_is : r ≡ first
  first_is = tells ∙ ap₂ (before_by places) is_m is_x

  abbrev read : Bool
  read = before_by places (read_of rows m) x

  pub waits_first : r ≡ true → true ≡ waits_for rows places x m
  unfolding waits_for
  waits_first h = ap (λ (b : Bool). b || eqb (own_of rows m) m && (read || eqb (own_of rows x) x && locals)) (sym h ∙ first_is)

  pub waits_not : r ≡ false → (own_m ≡ m → ⊥) → false ≡ waits_for rows places x m
  unfolding waits_for
  waits_not h n =
      ap₂ (λ (b d : Bool). b || d && (read || eqb (own_of rows x) x && locals)) (sym h ∙ first_is) (sym (ne_eqb (own_of rows m) m (λ e. n (is_m ∙ e))))

  -- where m is an own RV
  module _ (h : r ≡ false) (o : own_m ≡ m) {read_m : ℕ} (is_read : read_m ≡ read_of rows m) {u : Bool} (reads : u ≡ before_by places read_m x) where
    own_is : eqb (own_of rows m) m ≡ true
    own_is = eq-eqb (own_of rows m) m (sym is_m ∙ o)

    read_is : u ≡ read
    read_is = reads ∙ ap (λ (k : ℕ). before_by places k x) is_read

    -- what is left to ask
    waits_own : {s : Bool} → s ≡ (u || eqb (own_of rows x) x && locals) → s ≡ waits_for rows places x m
    unfolding waits_for
    waits_own {s} e = go first (eqb (own_of rows m) m) read (sym first_is ∙ h) own_is (e ∙ ap (λ (b : Bool). b || eqb (own_of rows x) x && locals) read_is)
      where
        go : (a b d : Bool) → a ≡ false → b ≡ true → s ≡ (d || eqb (own_of rows x) x && locals) → s ≡ (a || b && (d || eqb (own_of rows x) x && locals))
        go a b d p q f = rw (p, q) f

    pub waits_read : u ≡ true → true ≡ waits_for rows places x m
    waits_read t = waits_own (ap (λ (b : Bool). b || eqb (own_of rows x) x && locals) (sym t))

    pub waits_not_own : u ≡ false → (own_x ≡ x → ⊥) → false ≡ waits_for rows places x m
    waits_not_own t n = waits_own (ap₂ (λ (b d : Bool). b || d && locals) (sym t) (sym (ne_eqb (own_of rows x) x (λ e. n (is_x ∙ e)))))

    pub waits_last : u ≡ false → own_x ≡ x → {local_m local_x : ℕ} → local_m ≡ local_of rows m → local_x ≡ local_of rows x
        → {s : Bool} → s ≡ before_by places local_m local_x → s ≡ waits_for rows places x m
    waits_last t n lm lx f =
        waits_own (f ∙ ap₂ (before_by places) lm lx ∙ ap₂ (λ (b d : Bool). b || d && locals) (sym t) (sym (eq-eqb (own_of rows x) x (sym is_x ∙ n))))

-- what is left of a set without those that stand
pub missing_is : (rows : List ℕ) (f x lo hi slo shi mlo mhi : ℕ) → slo ≡ field rows f x → shi ≡ field rows (f + 1) x
    → ((k : ℕ) → holds mlo mhi k ≡ (holds slo shi k && not (holds lo hi k)))
    → (k : ℕ) → holds mlo mhi k ≡ (holds (field rows f x) (field rows (f + 1) x) k && not (holds lo hi k))
missing_is rows f x lo hi slo shi mlo mhi a b m k = m k ∙ ap₂ (λ (u v : ℕ). holds u v k && not (holds lo hi k)) a b

-- nothing is left where all stand
module _ (rows : List ℕ) (f x lo hi : ℕ) {slo shi : ℕ} {r : Bool} (low : slo ≡ field rows f x) (high : shi ≡ field rows (f + 1) x)
    (stand : r ≡ all_below 128 (λ a. not (holds slo shi a) || holds lo hi a)) (all : r ≡ true) where
  none_missing : (k : ℕ) → k < 128 → (holds (field rows f x) (field rows (f + 1) x) k && not (holds lo hi k)) ≡ false
  none_missing k l =
      ap₂ (λ (u v : ℕ). holds u v k && not (holds lo hi k)) (sym low) (sym high)
      ∙ go (holds slo shi k) (holds lo hi k) (all_at (λ a. not (holds slo shi a) || holds lo hi a) 128 (sym stand ∙ all) k l)
    where
      go : (a b : Bool) → (not a || b) ≡ true → (a && not b) ≡ false
      go true b h = ap not h
      go false b h = refl

  -- so no test of those that are missing passes
  pub any_missing : (test : ℕ → Bool) → any_below 128 (λ m. holds (field rows f x) (field rows (f + 1) x) m && not (holds lo hi m) && test m) ≡ false
  unfolding any_below
  any_missing test = any_skips _ 0 128 (omega arith) (λ m a l. ap (λ (b : Bool). b && test m) (none_missing m l))

pub refused_by_lem : (rows places : List ℕ) (lo hi x mlo mhi : ℕ) → ((k : ℕ) → holds mlo mhi k ≡ (awaited rows x k && not (holds lo hi k)))
    → any_below 128 (λ m. holds mlo mhi m && waits_for rows places x m) ≡ refused rows places lo hi x
unfolding refused
refused_by_lem rows places lo hi x mlo mhi e =
    any_below_same _ _ 128 (λ m l. ap (λ (b : Bool). b && waits_for rows places x m) (e m))

-- the bits of an operation whose LV stands
abbrev pub stands_local : List ℕ → ℕ → ℕ → ℕ → Bool
stands_local rows lo hi m = ltb (local_of rows m) 128 && holds lo hi (local_of rows m)

-- a bit is local where a store that does not stand wrote it and its LV stands
module _ (rows : List ℕ) (lo hi h x : ℕ) {word : ℕ} (is : word ≡ visible_word rows h x) where
  pub local_is : (i : ℕ)
      → any_below 128 (λ m. bypasses rows x m && not (holds lo hi m) && (stands_local rows lo hi m && writes_bit rows word m i)) ≡ local_bit rows lo hi h x i
  unfolding local_bit pending
  local_is i =
      any_below_same _ _ 128 (λ m l. sym (and_assoc (bypasses rows x m && not (holds lo hi m)) (stands_local rows lo hi m) (writes_bit rows word m i))
      ∙ ap (λ (v : ℕ). bypasses rows x m && not (holds lo hi m) && stands_local rows lo hi m && writes_bit rows v m i) is)

  pub local_by_lem : (mlo mhi i : ℕ) → ((k : ℕ) → holds mlo mhi k ≡ (bypasses rows x k && not (holds lo hi k)))
      → any_below 128 (λ m. holds mlo mhi m && (stands_local rows lo hi m && writes_bit rows word m i)) ≡ local_bit rows lo hi h x i
  local_by_lem mlo mhi i e =
      any_below_same _ _ 128 (λ m l. ap (λ (b : Bool). b && (stands_local rows lo hi m && writes_bit rows word m i)) (e m)) ∙ local_is i

-- a word is 0 when none of its bits is set
word_zero : (w : ℕ) → w < 2 ^ 64 → eqb w 0 ≡ all_below 64 (λ i. not (bit w i))
word_zero w h =
    agree (eqb w 0) (all_below 64 (λ i. not (bit w i)))
    (λ e. all_below_lem (λ i. not (bit w i)) 64 (λ i l. ap not (ap (λ (v : ℕ). bit v i) (eqb-true w 0 e) ∙ zero_has i)))
    (λ a. eq-eqb w 0 (bits_zero w h (λ k l. not-true (bit w k) (all_at (λ i. not (bit w i)) 64 a k l))))

-- the comparison of what is seen with what is recorded, in the bits that are read
module _ (own visible local recorded bits : ℕ) where
  abbrev seen : ℕ
  seen = bit_or (bit_and own local) (bit_xor visible (bit_and visible local))

  abbrev differs : ℕ
  differs = bit_and (bit_xor seen recorded) bits

  abbrev pub agreeing : ℕ → Bool
  agreeing i = not (bit bits i) || both_or_neither (cond (bit local i) (bit own i) (bit visible i)) (bit recorded i)

  seen_bit : (i : ℕ) → bit seen i ≡ cond (bit local i) (bit own i) (bit visible i)
  seen_bit i =
      has_or (bit_and own local) (bit_xor visible (bit_and visible local)) i
      ∙ ap₂ ◌||◌ (has_and own local i) (has_minus visible local i) ∙ go (bit own i) (bit visible i) (bit local i)
    where
      go : (o v b : Bool) → ((o && b) || (v && not b)) ≡ cond b o v
      go true v true = refl
      go true true false = refl
      go true false false = refl
      go false true true = refl
      go false true false = refl
      go false false true = refl
      go false false false = refl

  differs_bit : (i : ℕ) → not (bit differs i) ≡ agreeing i
  unfolding both_or_neither
  differs_bit i =
      ap not (has_and (bit_xor seen recorded) bits i ∙ ap (λ (b : Bool). b && bit bits i) (has_xor seen recorded i))
      ∙ ap (λ (s : Bool). not (cond s (not (bit recorded i)) (bit recorded i) && bit bits i)) (seen_bit i)
      ∙ go (cond (bit local i) (bit own i) (bit visible i)) (bit recorded i) (bit bits i)
    where
      go : (s d b : Bool) → not (cond s (not d) d && b) ≡ (not b || both_or_neither s d)
      go true true true = refl
      go true true false = refl
      go true false true = refl
      go true false false = refl
      go false true true = refl
      go false true false = refl
      go false false true = refl
      go false false false = refl

  pub agrees_is : own < 2 ^ 64 → visible < 2 ^ 64 → local < 2 ^ 64 → recorded < 2 ^ 64 → bits < 2 ^ 64 → eqb differs 0 ≡ all_below 64 agreeing
  agrees_is o v l r b =
      word_zero differs (and_lt 64 (bit_xor seen recorded) bits
      (xor_lt 64 seen recorded (or_lt 64 (bit_and own local) (bit_xor visible (bit_and visible local)) (and_lt 64 own local o l) (xor_lt 64 visible (bit_and visible local) v (and_lt 64 visible local v l))) r) b)
      ∙ all_same _ _ 64 (λ i l. differs_bit i)

-- what the R x sees of its word h, from its row
pub agrees_by : (rows words : List ℕ) (x h : ℕ) (local : ℕ) {own visible recorded bits : ℕ} {r : Bool} → r ≡ all_below 64 (agreeing own visible local recorded bits)
    → own ≡ get_or words (own_word rows h x) 0 → visible ≡ get_or words (visible_word rows h x) 0
    → recorded ≡ read_data rows h x → bits ≡ read_bits rows h x → r ≡ all_below 64 (bit_agrees rows words local h x)
agrees_by rows words x h local {own} {visible} {recorded} {bits} e o v d b = e ∙ all_same _ _ 64 (λ i k. by i (bit local i))
  where
    by : (i : ℕ) (u : Bool) → (not (bit bits i) || both_or_neither (cond u (bit own i) (bit visible i)) (bit recorded i))
        ≡ (not (bit (read_bits rows h x) i) || both_or_neither (cond u (bit (get_or words (own_word rows h x) 0) i) (bit (get_or words (visible_word rows h x) 0) i)) (bit (read_data rows h x) i))
    by i u = rw (o, v, d, b) refl

pub word_is : (rows words : List ℕ) (lo hi x h : ℕ) (local : ℕ) {r : Bool} → r ≡ all_below 64 (bit_agrees rows words local h x)
    → ((i : ℕ) → bit local i ≡ local_bit rows lo hi h x i) → r ≡ word_recorded rows lo hi words x h
unfolding word_recorded
word_is rows words lo hi x h local e l =
    e ∙ all_same _ _ 64 (λ i k. ap (λ (u : Bool). not (bit (read_bits rows h x) i)
    || both_or_neither (cond u (bit (get_or words (own_word rows h x) 0) i) (bit (get_or words (visible_word rows h x) 0) i)) (bit (read_data rows h x) i)) (l i))

-- all words that are read, by their number
pub reads_all : (rows words : List ℕ) (lo hi x : ℕ) {n : ℕ} {r : Bool} → n ≡ words_read rows x → r ≡ all_below n (word_recorded rows lo hi words x) → r ≡ reads_recorded rows lo hi words x
unfolding reads_recorded
reads_all rows words lo hi x is e = e ∙ ap (λ (m : ℕ). all_below m (word_recorded rows lo hi words x)) is

-- how many words are read, by the bits
module _ (rows : List ℕ) (x : ℕ) {bits : ℕ} (is : bits ≡ read_bits rows 0 x) where
  pub reads_none : bits ≡ 0 → 0 ≡ words_read rows x
  reads_none z = ap (λ (b : Bool). cond b 0 (cond (eqb (read_bits rows 1 x) 0) 1 2)) (sym (eq-eqb (read_bits rows 0 x) 0 (sym is ∙ z)))

  module _ (some : bits ≡ 0 → ⊥) {next : ℕ} (next_is : next ≡ read_bits rows 1 x) where
    some_first : eqb (read_bits rows 0 x) 0 ≡ false
    some_first = ne_eqb (read_bits rows 0 x) 0 (λ z. some (is ∙ z))

    pub reads_one : next ≡ 0 → 1 ≡ words_read rows x
    reads_one z = ap₂ (λ (b d : Bool). cond b 0 (cond d 1 2)) (sym some_first) (sym (eq-eqb (read_bits rows 1 x) 0 (sym next_is ∙ z)))

    pub reads_two : (next ≡ 0 → ⊥) → 2 ≡ words_read rows x
    reads_two z = ap₂ (λ (b d : Bool). cond b 0 (cond d 1 2)) (sym some_first) (sym (ne_eqb (read_bits rows 1 x) 0 (λ e. z (next_is ∙ e))))

-- no word is read, or one
module _ (rows words : List ℕ) (lo hi x : ℕ) where
  pub reads_nothing : words_read rows x ≡ 0 → true ≡ reads_recorded rows lo hi words x
  unfolding all_below
  reads_nothing n = reads_all rows words lo hi x (sym n) refl

  pub reads_only : {first : Bool} → first ≡ word_recorded rows lo hi words x 0 → words_read rows x ≡ 1 → first ≡ reads_recorded rows lo hi words x
  unfolding all_below
  reads_only first_is n = reads_all rows words lo hi x (sym n) first_is

-- how many words are written, by the bits of the next one
module _ (rows : List ℕ) (x : ℕ) {next : ℕ} (is : next ≡ written_bits rows 1 x) where
  pub writes_one : (next ≡ 0) → words_written rows x ≡ 1
  writes_one z = ap (λ (b : Bool). cond b 1 2) (eq-eqb (written_bits rows 1 x) 0 (sym is ∙ z))

  pub writes_two : (next ≡ 0 → ⊥) → words_written rows x ≡ 2
  writes_two z = ap (λ (b : Bool). cond b 1 2) (ne_eqb (written_bits rows 1 x) 0 (λ e. z (is ∙ e)))

-- a word written over
pub written : (rows words : List ℕ) (x h : ℕ) {at bits data' : ℕ} → at ≡ written_word rows h x → bits ≡ written_bits rows h x → data' ≡ written_data rows h x
    → set words at (merged (get_or words at 0) bits data') ≡ word_over rows words x h
written rows words x h a b d = cc (a, b, d)

-- the words that are written, one after the other, what they were, and how they are put back
module _ (rows words replaced : List ℕ) (k x : ℕ) where
  kept_first : (v : ℕ) → v ≡ get_or words (written_word rows 0 x) 0 → set replaced (2 * k) v ≡ replaced_up_to rows words replaced k x 1
  unfolding replaced_up_to words_up_to
  kept_first v e = ap₂ (set replaced) (let z : 2 * k ≡ 2 * k + 0 = omega arith in z) e

  pub write_one : words_written rows x ≡ 1 → {words' : List ℕ} → words' ≡ word_over rows words x 0 → (v : ℕ) → v ≡ get_or words (written_word rows 0 x) 0
      → (words' ≡ words_with rows words x) × (set replaced (2 * k) v ≡ replaced_up_to rows words replaced k x (words_written rows x))
  unfolding words_up_to
  write_one n e v f = (e ∙ ap (words_up_to rows words x) (sym n), kept_first v f ∙ ap (replaced_up_to rows words replaced k x) (sym n))

  pub write_two : words_written rows x ≡ 2 → (words' : List ℕ) {words'' : List ℕ} → words' ≡ word_over rows words x 0 → words'' ≡ word_over rows words' x 1
      → (v w : ℕ) → v ≡ get_or words (written_word rows 0 x) 0 → w ≡ get_or words' (written_word rows 1 x) 0
      → (words'' ≡ words_with rows words x) × (set (set replaced (2 * k) v) (2 * k + 1) w ≡ replaced_up_to rows words replaced k x (words_written rows x))
  unfolding words_up_to replaced_up_to
  write_two n words' e f v w g h = (
    f ∙ ap (λ (l : List ℕ). word_over rows l x 1) e ∙ ap (words_up_to rows words x) (sym n),
    ap₂ (λ (l : List ℕ) (u : ℕ). set l (2 * k + 1) u) (kept_first v g) (h ∙ ap (λ (l : List ℕ). get_or l (written_word rows 1 x) 0) e)
        ∙ ap (replaced_up_to rows words replaced k x) (sym n),
  )

  back_first : (l : List ℕ) → set l (written_word rows 0 x) (get_or replaced (2 * k + 0) 0) ≡ words_back rows l replaced k x 1
  unfolding words_back
  back_first l = refl

  pub back_one : words_written rows x ≡ 1 → {words' : List ℕ} → words' ≡ set words (written_word rows 0 x) (get_or replaced (2 * k + 0) 0)
      → words' ≡ words_back rows words replaced k x (words_written rows x)
  back_one n e = e ∙ back_first words ∙ ap (words_back rows words replaced k x) (sym n)

  pub back_two : words_written rows x ≡ 2 → (words' : List ℕ) {words'' : List ℕ} → words' ≡ set words (written_word rows 1 x) (get_or replaced (2 * k + 1) 0)
      → words'' ≡ set words' (written_word rows 0 x) (get_or replaced (2 * k + 0) 0) → words'' ≡ words_back rows words replaced k x (words_written rows x)
  unfolding words_back
  back_two n words' e f =
      f ∙ ap (λ (l : List ℕ). set l (written_word rows 0 x) (get_or replaced (2 * k + 0) 0)) e ∙ ap (words_back rows words replaced k x) (sym n)

-- the bits of a word, by which of its words it is
module _ (rows : List ℕ) (v m i : ℕ) {first : ℕ} (is : first ≡ written_word rows 0 m) where
  pub bits_first : {w : ℕ} → first ≡ v → w ≡ written_bits rows 0 m → bit w i ≡ writes_bit rows v m i
  unfolding writes_bit
  bits_first {w} e q =
      ap (λ (u : ℕ). bit u i) q
      ∙ sym (ap₂ (λ (a b : Bool). a && bit (written_bits rows 0 m) i || b && bit (written_bits rows 1 m) i) (eq-eqb (written_word rows 0 m) v (sym is ∙ e))
      (ne_eqb (written_word rows 1 m) v (λ z. omega (arith, is, e, z))) ∙ or-false (bit (written_bits rows 0 m) i))

  module _ (other : first ≡ v → ⊥) {second : ℕ} (second_is : second ≡ written_word rows 1 m) where
    pub bits_second : {w : ℕ} → second ≡ v → w ≡ written_bits rows 1 m → bit w i ≡ writes_bit rows v m i
    unfolding writes_bit
    bits_second {w} e q =
        ap (λ (u : ℕ). bit u i) q
        ∙ sym (ap₂ (λ (a b : Bool). a && bit (written_bits rows 0 m) i || b && bit (written_bits rows 1 m) i) (ne_eqb (written_word rows 0 m) v (λ z. other (is ∙ z)))
        (eq-eqb (written_word rows 1 m) v (sym second_is ∙ e)))

    pub bits_neither : (second ≡ v → ⊥) → bit 0 i ≡ writes_bit rows v m i
    unfolding writes_bit
    bits_neither e =
        zero_has i
        ∙ sym (ap₂ (λ (a b : Bool). a && bit (written_bits rows 0 m) i || b && bit (written_bits rows 1 m) i) (ne_eqb (written_word rows 0 m) v (λ z. other (is ∙ z)))
        (ne_eqb (written_word rows 1 m) v (λ z. e (second_is ∙ z))))

-- the ways out of the bits of one store; `wrote` is whether it wrote the bit
module _ (rows : List ℕ) (lo hi m i : ℕ) (wrote : Bool) {local : ℕ} (is : local ≡ local_of rows m) where
  pub bits_none : 128 ≤ local → bit 0 i ≡ (stands_local rows lo hi m && wrote)
  bits_none h = zero_has i ∙ ap (λ (b : Bool). b && holds lo hi (local_of rows m) && wrote) (sym (le-ltb (local_of rows m) 128 (omega (arith, is))))

  pub bits_absent : {r : Bool} → r ≡ holds lo hi local → not r ≡ true → bit 0 i ≡ (stands_local rows lo hi m && wrote)
  bits_absent {r} e h = zero_has i ∙ go (ltb (local_of rows m) 128) (holds lo hi (local_of rows m)) (ap (holds lo hi) (sym is) ∙ sym e ∙ not-true r h)
    where
      go : (a b : Bool) → b ≡ false → false ≡ (a && b && wrote)
      go true b q = ap (λ (u : Bool). u && wrote) (sym q)
      go false b q = refl

  pub bits_there : {r s : Bool} → local < 128 → r ≡ holds lo hi local → not r ≡ false → s ≡ wrote → s ≡ (stands_local rows lo hi m && wrote)
  bits_there {r} {s} l e h q =
      rw (lt-ltb (local_of rows m) 128 (omega (arith, is)), ap (holds lo hi) (sym is) ∙ sym e ∙ not-false r h) q

-- what must stand before an operation does, by the words of its set
pub ready_by : (rows : List ℕ) (lo hi x : ℕ) {alo ahi : ℕ} {r : Bool} → alo ≡ field rows 9 x → ahi ≡ field rows 10 x
    → r ≡ all_below 128 (λ a. not (holds alo ahi a) || holds lo hi a) → r ≡ all_below 128 (λ a. not (holds (field rows 9 x) (field rows 10 x) a) || holds lo hi a)
ready_by rows lo hi x low high e = e ∙ ap₂ (λ (p q : ℕ). all_below 128 (λ a. not (holds p q a) || holds lo hi a)) low high
