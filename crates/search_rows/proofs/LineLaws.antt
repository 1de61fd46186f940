-- Bytes put into a word one after the other, bit by bit.
use Prim.Native.Nat.{ℕ, suc, ◌+◌, ◌*◌, ◌-◌, ◌/◌, ◌%◌, ◌^◌, ◌≤◌, ◌<◌}
use native.Mathlib.Omega.{arith}
use mathlib.Core.Path.{◌≡◌, refl, sym, ap, ap₂, ◌∙◌, subst}
use mathlib.Core.Bool.{Bool, true, false, cond, ◌&&◌, ◌||◌, or-false}
use mathlib.Core.List.{List}
use mathlib.Core.Logic.{⊎_elim}
use native.Mathlib.Nat.{mul_assoc}
use lib.ListN.{length, get_or, get_or-eq_default}
use lib.Bits.{bit_or, shifted_even}
use lib.Pow.{pow-add, shl_exact, shl-shr, shr-shr}
use lib.Dec.{eqb, leb, ltb}
use borrow.Author.Tests.{ne_eqb, eqb-true, eqb-false, le-leb, leb-true, lt-ltb, le-ltb, ltb-true}
use Rattle.base.specs.Below.{all_below}
use Rattle.base.specs.Bits.{bit}
use Rattle.base.proofs.Bools.{agree, split, and_parts, and_both}
use Rattle.base.proofs.Tests.{all_at}
use Rattle.model.specs.Execution.{Kind, is_semaphore}
use Rattle.model.specs.Questions.{written_from}
use Rattle.model.specs.Rules.{accesses}
use Rattle.record_decoded.specs.declared.types.Execution.{Execution}
use Rattle.record_decoded.specs.Decoded.{initial_of, instruction_at}
use Rattle.search_admit.specs.Rows.{covers, relative, data_bit}
use Rattle.search_rows.specs.Lent.{covered_bit, relative_bit, InWord}
use Rattle.search_sets.proofs.Bit.{has_or}
use Rattle.search_sets.proofs.Laws.{lt_or_le, has_above, zero_has}

-- a word shifted up
shl_low : (b s i : ℕ) → i < s → bit (b * 2 ^ s) i ≡ false
shl_low b s i h =
    let d : suc (s - i - 1) + i ≡ s = omega arith in
    ap (λ (x : ℕ). eqb (x % 2) 1)
    (ap (λ (k : ℕ). b * 2 ^ k / 2 ^ i) (sym d) ∙ ap (λ (x : ℕ). x / 2 ^ i) (ap (λ (x : ℕ). b * x) (pow-add 2 (suc (s - i - 1)) i) ∙ product) ∙ shl-shr (b * 2 ^ suc (s - i - 1)) i)
    ∙ ap (λ (x : ℕ). eqb x 1) (shifted_even b (s - i - 1))
  where
    product : b * (2 ^ suc (s - i - 1) * 2 ^ i) ≡ b * 2 ^ suc (s - i - 1) * 2 ^ i
    product = sym (mul_assoc b (2 ^ suc (s - i - 1)) (2 ^ i))

shl_high : (b s i : ℕ) → s ≤ i → bit (b * 2 ^ s) i ≡ bit b (i - s)
shl_high b s i h =
    let d : s + (i - s) ≡ i = omega arith in
    ap (λ (x : ℕ). eqb (x % 2) 1)
    (ap (λ (k : ℕ). b * 2 ^ s / 2 ^ k) (sym d) ∙ sym (shr-shr (b * 2 ^ s) s (i - s)) ∙ ap (λ (x : ℕ). x / 2 ^ (i - s)) (shl-shr b s))

-- a byte at a place of a word
byte_bit : (b place i : ℕ) → b < 256 → place < 8 → i < 64 → bit (b * 2 ^ (8 * place) % 2 ^ 64) i ≡ (eqb (i / 8) place && bit b (i % 8))
byte_bit b place i small few low =
    ap (λ (x : ℕ). bit x i) (shl_exact 8 (8 * place) 64 small (omega arith))
    ∙ ⊎_elim
    (λ (l : i < 8 * place). shl_low b (8 * place) i l ∙ sym (ap (λ (c : Bool). c && bit b (i % 8)) (ne_eqb (i / 8) place (λ e. omega arith))))
    (λ (l : 8 * place ≤ i). shl_high b (8 * place) i l ∙ split (eqb (i / 8) place)
    (λ t. let e : i / 8 ≡ place = eqb-true (i / 8) place t in ap (bit b) (let z : i - 8 * place ≡ i % 8 = omega arith in z) ∙ sym (ap (λ (c : Bool). c && bit b (i % 8)) t))
    (λ f. let e = eqb-false (i / 8) place f in has_above 8 b (i - 8 * place) small (omega arith) ∙ sym (ap (λ (c : Bool). c && bit b (i % 8)) f)))
    (lt_or_le i (8 * place))

pub with_byte_is : (word b place i : ℕ) → b < 256 → place < 8 → i < 64 → bit (bit_or word (b * 2 ^ (8 * place) % 2 ^ 64)) i ≡ (bit word i || (eqb (i / 8) place && bit b (i % 8)))
with_byte_is word b place i small few low = has_or word (b * 2 ^ (8 * place) % 2 ^ 64) i ∙ ap (λ (c : Bool). bit word i || c) (byte_bit b place i small few low)

-- all bits of 255
pub ones_bit : (k : ℕ) → k < 8 → bit 255 k ≡ true
unfolding all_below
ones_bit k h = all_at (bit 255) 8 refl k h

-- The invariant: the bytes at the first j places from `place` on are in the word.
pub record BytesIn (p : ℕ → Bool) (place size j word : ℕ) : Type 0 where
  pub few : j ≤ size
  pub bits : (i : ℕ) → i < 64 → bit word i ≡ (leb place (i / 8) && ltb (i / 8) (place + j) && p i)

pub bytes_none : {p : ℕ → Bool} {place size : ℕ} → BytesIn p place size 0 0
bytes_none {p} {place} {size} = record {
  few = omega arith;
  bits = λ i l. zero_has i ∙ go i (leb place (i / 8)) refl (ltb (i / 8) (place + 0)) refl (p i);
}
  where
    go : (i : ℕ) (a : Bool) → leb place (i / 8) ≡ a → (b : Bool) → ltb (i / 8) (place + 0) ≡ b → (c : Bool) → false ≡ (a && b && c)
    go i true e true f c = absurd (omega (arith, leb-true place (i / 8) e, ltb-true (i / 8) (place + 0) f))
    go i true e false f c = refl
    go i false e b f c = refl

pub bytes_more : {p : ℕ → Bool} {place size j word : ℕ} → BytesIn p place size j word → j < size → (word' b : ℕ)
    → ((i : ℕ) → i < 64 → bit word' i ≡ (bit word i || (eqb (i / 8) (place + j) && bit b (i % 8)))) → ((i : ℕ) → i < 64 → i / 8 ≡ place + j → bit b (i % 8) ≡ p i)
    → BytesIn p place size (j + 1) word'
bytes_more {p} {place} {size} {j} {word} inv l word' b more is = record {
  few = omega arith;
  bits = λ i s. more i s ∙ ap (λ (c : Bool). c || (eqb (i / 8) (place + j) && bit b (i % 8))) (inv.bits i s) ∙ one i s;
}
  where
    one : (i : ℕ) → i < 64 → ((leb place (i / 8) && ltb (i / 8) (place + j) && p i) || (eqb (i / 8) (place + j) && bit b (i % 8))) ≡ (leb place (i / 8) && ltb (i / 8) (place + (j + 1)) && p i)
    one i s = split (eqb (i / 8) (place + j))
        (λ t. let e : i / 8 ≡ place + j = eqb-true (i / 8) (place + j) t in
        rw (t, le-ltb (i / 8) (place + j) (omega arith), lt-ltb (i / 8) (place + (j + 1)) (omega arith), le-leb place (i / 8) (omega arith)) (is i s e))
        (λ f. let e = eqb-false (i / 8) (place + j) f in
        ap (λ (c : Bool). (leb place (i / 8) && ltb (i / 8) (place + j) && p i) || (c && bit b (i % 8))) f ∙ or-false (leb place (i / 8) && ltb (i / 8) (place + j) && p i)
        ∙ ap (λ (c : Bool). leb place (i / 8) && c && p i)
        (agree (ltb (i / 8) (place + j)) (ltb (i / 8) (place + (j + 1))) (λ t. lt-ltb (i / 8) (place + (j + 1)) (omega (arith, ltb-true (i / 8) (place + j) t)))
        (λ t. lt-ltb (i / 8) (place + j) (omega (arith, ltb-true (i / 8) (place + (j + 1)) t, e)))))

pub bytes_in : {p : ℕ → Bool} {place size j word : ℕ} → BytesIn p place size j word → size ≤ j → (i : ℕ) → i < 64 → bit word i ≡ (leb place (i / 8) && ltb (i / 8) (place + size) && p i)
bytes_in {p} {place} {size} {j} inv h i s = inv.bits i s ∙ ap (λ (k : ℕ). leb place (i / 8) && ltb (i / 8) (place + k) && p i) (let z : j ≡ size = omega (arith, inv.few) in z)

-- bytes looked at one after the other
pub known_more : (bytes : List ℕ) (j : ℕ) → ((i : ℕ) → i < j → get_or bytes i 0 < 256) → get_or bytes j 0 < 256 → (i : ℕ) → i < j + 1 → get_or bytes i 0 < 256
known_more bytes j before here i h =
    ⊎_elim (λ (l : i < j). before i l) (λ (l : j ≤ i). subst (λ (k : ℕ). get_or bytes k 0 < 256) (let z : j ≡ i = omega arith in z) here) (lt_or_le i j)

pub known_all : (bytes : List ℕ) (j : ℕ) → ((i : ℕ) → i < j → get_or bytes i 0 < 256) → length bytes ≤ j → (i : ℕ) → get_or bytes i 0 < 256
known_all bytes j known h i =
    ⊎_elim (λ (l : i < j). known i l) (λ (l : j ≤ i). subst (λ (b : ℕ). b < 256) (sym (get_or-eq_default bytes 0 (let z : length bytes ≤ i = omega arith in z))) (omega arith)) (lt_or_le i j)

-- where the bytes written may begin
pub written_few : (k : Kind) → written_from k ≤ 8
written_few k = go (is_semaphore k)
  where
    go : (b : Bool) → cond b 8 0 ≤ 8
    go true = omega arith
    go false = omega arith

-- bytes from one place on, and from another
between_same : (a b j c d k : ℕ) → (a ≤ j → j < b → (c ≤ k) × (k < d)) → (c ≤ k → k < d → (a ≤ j) × (j < b)) → (leb a j && ltb j b) ≡ (leb c k && ltb k d)
between_same a b j c d k to from =
    agree (leb a j && ltb j b) (leb c k && ltb k d)
    (λ t. let (l, r) = and_parts (leb a j) (ltb j b) t in let (u, v) = to (leb-true a j l) (ltb-true j b r) in and_both (le-leb c k u) (lt-ltb k d v))
    (λ t. let (l, r) = and_parts (leb c k) (ltb k d) t in let (u, v) = from (leb-true c k l) (ltb-true k d r) in and_both (le-leb a j u) (lt-ltb j b v))

-- the bytes that lie in one of two words
module _ (place size h : ℕ) (low : place < 8) (fits : place + size ≤ 16) (few : h < 2) {first left count : ℕ} (first_is : first ≡ place - 8 * h) (left_is : left ≡ place + size - 8 * h) where
  pub span_part : left < 8 → count ≡ left - first → InWord place size h first count
  span_part short is = record {
    low = omega arith;
    within = omega arith;
    onward = omega arith;
    data_within = λ from l m. omega arith;
    same = λ k l. between_same first (first + count) k place (place + size) (8 * h + k) (λ u v. (omega arith, omega arith)) (λ u v. (omega arith, omega arith));
  }

  pub span_all : 8 ≤ left → count ≡ 8 - first → InWord place size h first count
  span_all full is = record {
    low = omega arith;
    within = omega arith;
    onward = omega arith;
    data_within = λ from l m. omega arith;
    same = λ k l. between_same first (first + count) k place (place + size) (8 * h + k) (λ u v. (omega arith, omega arith)) (λ u v. (omega arith, omega arith));
  }

-- the bits of these bytes in the word, and what they are
module _ (address size h : ℕ) {first n : ℕ} (inside : InWord (address % 8) size h first n) (i : ℕ) (low : i < 64) where
  pub covered_part : (leb first (i / 8) && ltb (i / 8) (first + n)) ≡ covered_bit address size (64 * h + i)
  covered_part =
      inside.same (i / 8) (omega arith)
      ∙ ap (λ (k : ℕ). leb (address % 8) k && ltb k (address % 8 + size)) (let z : 8 * h + i / 8 ≡ (64 * h + i) / 8 = omega arith in z)

  abbrev skipped : ℕ
  skipped = 8 * h + first - address % 8

  and_same : (b : Bool) {c v w : Bool} → b ≡ c → (b ≡ true → v ≡ w) → (b && v) ≡ (c && w)
  and_same true {c} {v} {w} e f = f refl ∙ ap (λ (u : Bool). u && w) e
  and_same false {c} {v} {w} e f = ap (λ (u : Bool). u && w) e

  pub relative_part : (bytes : List ℕ) (count : ℕ) (values : List ℕ) (at : ℕ)
      → relative_bit bytes count values (at + skipped) (address + skipped) n i ≡ relative_bit bytes count values at address size (64 * h + i)
  relative_part bytes count values at =
      let place : (address + skipped) % 8 ≡ first = omega (arith, inside.low, inside.onward) in
      let line : 8 * ((address + skipped) / 8) + i / 8 ≡ 8 * (address / 8) + (64 * h + i) / 8 = omega (arith, inside.low, inside.onward) in
      let same_bit : i % 8 ≡ (64 * h + i) % 8 = omega arith in
      and_same (covered_bit (address + skipped) n i) (ap (λ (k : ℕ). leb k (i / 8) && ltb (i / 8) (k + n)) place ∙ covered_part)
      (λ t.
      let here : first ≤ i / 8 = leb-true first (i / 8) (and_parts (leb first (i / 8)) (ltb (i / 8) (first + n)) (sym (ap (λ (k : ℕ). leb k (i / 8) && ltb (i / 8) (k + n)) place) ∙ t)).0 in
      let index : at + skipped + (i / 8 - (address + skipped) % 8) ≡ at + ((64 * h + i) / 8 - address % 8) = omega (arith, inside.low, inside.onward) in
      ap₂ (λ (m a : ℕ). bit (relative (get_or values m 0) (initial_of bytes count a)) (i % 8)) index line
      ∙ ap (bit (relative (get_or values (at + ((64 * h + i) / 8 - address % 8)) 0) (initial_of bytes count (8 * (address / 8) + (64 * h + i) / 8)))) same_bit)

-- the bits of an instruction, by its place in the line
module _ (x : Execution) (w : ℕ) {address size : ℕ} (is_address : address ≡ get_or x.instructions.addresses w 0) (is_size : size ≡ get_or x.instructions.sizes w 0) where
  abbrev first : ℕ
  first = get_or x.instructions.addresses w 0

  abbrev extent : ℕ
  extent = get_or x.instructions.sizes w 0

  pub covers_by : (i : ℕ) → covered_bit address size i ≡ covers x w i
  unfolding covers accesses instruction_at
  covers_by i =
      ap₂ (λ (a s : ℕ). leb (a % 8) (i / 8) && ltb (i / 8) (a % 8 + s)) is_address is_size
      ∙ ap₂ ◌&&◌
      (agree (leb (first % 8) (i / 8)) (leb first (8 * (first / 8) + i / 8)) (λ t. le-leb first (8 * (first / 8) + i / 8) (omega (arith, leb-true (first % 8) (i / 8) t)))
      (λ t. le-leb (first % 8) (i / 8) (omega (arith, leb-true first (8 * (first / 8) + i / 8) t))))
      (agree (ltb (i / 8) (first % 8 + extent)) (ltb (8 * (first / 8) + i / 8) (first + extent)) (λ t. lt-ltb (8 * (first / 8) + i / 8) (first + extent) (omega (arith, ltb-true (i / 8) (first % 8 + extent) t)))
      (λ t. lt-ltb (i / 8) (first % 8 + extent) (omega (arith, ltb-true (8 * (first / 8) + i / 8) (first + extent) t))))

  pub data_by : (bytes : List ℕ) {values : List ℕ} → values ≡ x.instructions.bytes → (from i : ℕ)
      → relative_bit bytes x.lines.count values (16 * w + from) address size i ≡ data_bit bytes x w from i
  unfolding data_bit
  data_by bytes {values} lent from i =
      ap (λ (own : List ℕ). relative_bit bytes x.lines.count own (16 * w + from) address size i) lent
      ∙ ap₂ (λ (b : Bool) (a : ℕ). b && bit (relative (get_or x.instructions.bytes (16 * w + from + (i / 8 - a % 8)) 0) (initial_of bytes x.lines.count (8 * (a / 8) + i / 8))) (i % 8)) (covers_by i) is_address
