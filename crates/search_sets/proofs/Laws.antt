-- Laws of sets of two words.
use mathlib.Core.Path.{◌≡◌, refl, sym, ap, ap₂, ◌∙◌}
use mathlib.Core.Bool.{Bool, true, false, not, ◌||◌, ◌&&◌, false≢true, or-false, and-true, cond}
use mathlib.Core.Logic.{◌⊎◌, inl, inr, ⊎_elim}
use Prim.Native.Nat.{ℕ, zero, suc, ◌+◌, ◌-◌, ◌*◌, ◌/◌, ◌%◌, ◌^◌, ◌<◌, ◌≤◌}
use native.Mathlib.Nat.{one-mul, div-one, div-eq_of_lt, pow-suc, le_of_suc-le-suc, lt_of_lt_of_le, lt_of_le_of_lt}
use native.Mathlib.Omega.{arith}
use borrow.Author.Tests.{eq-eqb, ne_eqb, eqb-true, eqb-false, ltb-true, ltb-false, lt-ltb, le-ltb}
use lib.Pow.{pow_mono, shr-shr, shr_le, shl_exact}
use lib.Dec.{eqb, ltb, eqb-suc-suc}
use lib.Count.{count_trailing_zeros, under}
use lib.Bits.{bit_and, bit_or, bit_xor, xor_shr, xor_mod, and_shr, and_mod, and_lt}
use Rattle.base.specs.Below.{all_below}
use Rattle.base.specs.Bits.{bit}
use Rattle.base.proofs.Bools.{agree}
use Rattle.base.proofs.Tests.{all_at, all_below_lem}
use Rattle.search_sets.specs.Set.{holds, LowestMember, FirstFrom, TakenOut}
use Rattle.std.specs.Prelude.{Some}
use Rattle.search_sets.proofs.Bit.{has_or, has_and, has_pow}

pub lt_or_le : (a b : ℕ) → (a < b) ⊎ (b ≤ a)
lt_or_le a b = go (ltb a b) refl
  where
    go : (t : Bool) → ltb a b ≡ t → (a < b) ⊎ (b ≤ a)
    go true e = inl (ltb-true a b e)
    go false e = inr (ltb-false a b e)

-- the two words
module _ (lo hi i : ℕ) where
  pub holds_low : i < 64 → holds lo hi i ≡ bit lo i
  unfolding holds
  holds_low h = rw (lt-ltb i 64 h)

  pub holds_high : 64 ≤ i → holds lo hi i ≡ bit hi (i - 64)
  unfolding holds
  holds_high h = rw (le-ltb i 64 h)

-- what holds of both words, bit by bit, holds of the sets
pub holds_two : (f : Bool → Bool → Bool) (alo ahi blo bhi lo hi : ℕ) → ((k : ℕ) → bit lo k ≡ f (bit alo k) (bit blo k))
    → ((k : ℕ) → bit hi k ≡ f (bit ahi k) (bit bhi k)) → (k : ℕ) → holds lo hi k ≡ f (holds alo ahi k) (holds blo bhi k)
holds_two f alo ahi blo bhi lo hi a b k =
    ⊎_elim (λ l. holds_low lo hi k l ∙ a k ∙ ap₂ f (sym (holds_low alo ahi k l)) (sym (holds_low blo bhi k l)))
    (λ l. holds_high lo hi k l ∙ b (k - 64) ∙ ap₂ f (sym (holds_high alo ahi k l)) (sym (holds_high blo bhi k l))) (lt_or_le k 64)

-- single bits
pub one_bit : (i : ℕ) → i < 64 → 1 * 2 ^ i % 2 ^ 64 ≡ 2 ^ i
one_bit i h = shl_exact {a = 1} 1 i 64 (omega arith) (omega arith) ∙ one-mul (2 ^ i)

pub has_above : (d m i : ℕ) → m < 2 ^ d → d ≤ i → bit m i ≡ false
has_above d m i h l = ap (λ (x : ℕ). eqb (x % 2) 1) (div-eq_of_lt (lt_of_lt_of_le h (pow_mono l)))

pub zero_has : (k : ℕ) → bit 0 k ≡ false
zero_has k = has_above 0 0 k (omega arith) (omega arith)

pub eqb_shift : (k i : ℕ) → 64 ≤ k → 64 ≤ i → eqb (k - 64) (i - 64) ≡ eqb k i
eqb_shift k i h l = go (eqb k i) refl
  where
    go : (b : Bool) → eqb k i ≡ b → eqb (k - 64) (i - 64) ≡ b
    go true e = let q = eqb-true k i e in eq-eqb (k - 64) (i - 64) (omega arith)
    go false e = let q = eqb-false k i e in ne_eqb (k - 64) (i - 64) (λ d. q (omega arith))

pub single_low : (i k : ℕ) → i < 64 → holds (2 ^ i) 0 k ≡ eqb k i
single_low i k h =
    ⊎_elim (λ l. holds_low (2 ^ i) 0 k l ∙ has_pow i k)
    (λ l. holds_high (2 ^ i) 0 k l ∙ zero_has (k - 64) ∙ sym (ne_eqb k i (λ e. omega arith))) (lt_or_le k 64)

pub single_high : (i k : ℕ) → 64 ≤ i → holds 0 (2 ^ (i - 64)) k ≡ eqb k i
single_high i k h =
    ⊎_elim (λ l. holds_low 0 (2 ^ (i - 64)) k l ∙ zero_has k ∙ sym (ne_eqb k i (λ e. omega arith)))
    (λ l. holds_high 0 (2 ^ (i - 64)) k l ∙ has_pow (i - 64) (k - 64) ∙ eqb_shift k i l h) (lt_or_le k 64)

-- differences
xor_bit : (u v : ℕ) → u < 2 → v < 2 → eqb (bit_xor u (bit_and u v)) 1 ≡ (eqb u 1 && not (eqb v 1))
xor_bit zero zero h g = refl
xor_bit zero (suc zero) h g = refl
xor_bit (suc zero) zero h g = refl
xor_bit (suc zero) (suc zero) h g = refl
xor_bit (suc (suc u)) v h g = absurd (omega arith)
xor_bit zero (suc (suc v)) h g = absurd (omega arith)
xor_bit (suc zero) (suc (suc v)) h g = absurd (omega arith)

xor_two : (u v : ℕ) → u < 2 → v < 2 → eqb (bit_xor u v) 1 ≡ cond (eqb u 1) (not (eqb v 1)) (eqb v 1)
xor_two zero zero h g = refl
xor_two zero (suc zero) h g = refl
xor_two (suc zero) zero h g = refl
xor_two (suc zero) (suc zero) h g = refl
xor_two (suc (suc u)) v h g = absurd (omega arith)
xor_two zero (suc (suc v)) h g = absurd (omega arith)
xor_two (suc zero) (suc (suc v)) h g = absurd (omega arith)

pub has_xor : (a b k : ℕ) → bit (bit_xor a b) k ≡ cond (bit a k) (not (bit b k)) (bit b k)
has_xor a b k =
    ap (λ (x : ℕ). eqb (x % 2) 1) (xor_shr a b k)
    ∙ (ap (λ (x : ℕ). eqb x 1) (xor_mod (a / 2 ^ k) (b / 2 ^ k) 1) ∙ xor_two (a / 2 ^ k % 2) (b / 2 ^ k % 2) (omega arith) (omega arith))

-- the lowest set bit
pub has_suc : (m i : ℕ) → bit m (suc i) ≡ bit (m / 2) i
has_suc m i =
    let e : 1 + i ≡ suc i = omega arith in
    ap (λ (j : ℕ). bit m j) (sym e) ∙ ap (λ (x : ℕ). eqb (x % 2) 1) (sym (shr-shr m 1 i))

pub has_shr : (m f i : ℕ) → bit (m / 2 ^ f) i ≡ bit m (f + i)
has_shr m f i = ap (λ (x : ℕ). eqb (x % 2) 1) (shr-shr m f i)

has_zero : (m : ℕ) → bit m 0 ≡ eqb (m % 2) 1
has_zero m = ap (λ (x : ℕ). eqb (x % 2) 1) (div-one m)

pub tz_lowest : (d m : ℕ) → LowestMember (bit m) 0 d (count_trailing_zeros d m)
unfolding count_trailing_zeros
tz_lowest zero m = record { within = omega arith; onward = omega arith; none = λ i a b. absurd (omega arith); here = λ h. absurd (omega arith) }
tz_lowest (suc d) m = go (m % 2) refl (tz_lowest d (m / 2))
  where
    go : (r : ℕ) → m % 2 ≡ r → LowestMember (bit (m / 2)) 0 d (count_trailing_zeros d (m / 2)) → LowestMember (bit m) 0 (suc d) (under r (count_trailing_zeros d (m / 2)))
    go zero e w =
        record {
          within = omega arith;
          onward = omega arith;
          none = none';
          here = λ h. has_suc m (count_trailing_zeros d (m / 2)) ∙ w.here (le_of_suc-le-suc h);
        }
      where
        none' : (i : ℕ) → 0 ≤ i → i < suc (count_trailing_zeros d (m / 2)) → bit m i ≡ false
        none' zero a b = has_zero m ∙ ap (λ (x : ℕ). eqb x 1) e
        none' (suc i) a b = has_suc m i ∙ w.none i (omega arith) (le_of_suc-le-suc b)
    go (suc r) e w =
        record {
          within = omega arith;
          onward = omega arith;
          none = λ i a b. absurd (omega arith);
          here = λ h. has_zero m ∙ eq-eqb (m % 2) 1 (omega arith);
        }

-- words with the same bits are equal
half_lt : {a : ℕ} (k : ℕ) → a < 2 ^ suc k → a / 2 < 2 ^ k
half_lt k h = omega (arith, pow-suc 2 k)

parity : (a b : ℕ) → eqb (a % 2) 1 ≡ eqb (b % 2) 1 → a % 2 ≡ b % 2
parity a b e = go (eqb (b % 2) 1) refl
  where
    go : (t : Bool) → eqb (b % 2) 1 ≡ t → a % 2 ≡ b % 2
    go true f = let x = eqb-true (a % 2) 1 (e ∙ f) in let y = eqb-true (b % 2) 1 f in omega arith
    go false f = let x = eqb-false (a % 2) 1 (e ∙ f) in let y = eqb-false (b % 2) 1 f in omega arith

pub same_bits : (d a b : ℕ) → a < 2 ^ d → b < 2 ^ d → ((i : ℕ) → i < d → bit a i ≡ bit b i) → a ≡ b
same_bits zero a b h l f = omega arith
same_bits (suc d) a b h l f =
    let e : a / 2 ≡ b / 2 =
    same_bits d (a / 2) (b / 2) (half_lt d h) (half_lt d l) (λ i j. sym (has_suc a i) ∙ f (suc i) (omega arith) ∙ has_suc b i) in
    let g : a % 2 ≡ b % 2 = parity a b (sym (has_zero a) ∙ f 0 (omega arith) ∙ has_zero b) in
    omega arith

pub has_minus : (a b k : ℕ) → bit (bit_xor a (bit_and a b)) k ≡ (bit a k && not (bit b k))
has_minus a b k =
    ap (λ (x : ℕ). eqb (x % 2) 1) (xor_shr a (bit_and a b) k ∙ ap (bit_xor (a / 2 ^ k)) (and_shr a b k))
    ∙ (ap (λ (x : ℕ). eqb x 1)
    (xor_mod (a / 2 ^ k) (bit_and (a / 2 ^ k) (b / 2 ^ k)) 1 ∙ ap (bit_xor (a / 2 ^ k % 2)) (and_mod (a / 2 ^ k) (b / 2 ^ k) 1))
    ∙ xor_bit (a / 2 ^ k % 2) (b / 2 ^ k % 2) (omega arith) (omega arith))

-- a word that is not empty has a lowest set bit
tz_found : (m : ℕ) → m < 2 ^ 64 → (m ≡ 0 → ⊥) → count_trailing_zeros 64 m < 64
tz_found m small h =
    ⊎_elim (λ l. l)
    (λ l. absurd (h (same_bits 64 m 0 small (omega arith) (λ i j. (tz_lowest 64 m).none i (omega arith) (omega arith) ∙ sym (zero_has i)))))
    (lt_or_le (count_trailing_zeros 64 m) 64)

-- a word without its lowest set bit
less_bits : (d m : ℕ) → 0 < m → m < 2 ^ d → (k : ℕ) → (bit m k && bit (m - 1) k) ≡ (bit m k && not (eqb k (count_trailing_zeros d m)))
unfolding count_trailing_zeros
less_bits zero m some small k = absurd (omega arith)
less_bits (suc d) m some small k = half (m % 2) refl k (λ e j. less_bits d (m / 2) (omega (arith, e)) (half_lt d small) j)
  where
    half : (r : ℕ) → m % 2 ≡ r → (k : ℕ)
        → (m % 2 ≡ 0 → (j : ℕ) → (bit (m / 2) j && bit (m / 2 - 1) j) ≡ (bit (m / 2) j && not (eqb j (count_trailing_zeros d (m / 2)))))
        → (bit m k && bit (m - 1) k) ≡ (bit m k && not (eqb k (under r (count_trailing_zeros d (m / 2)))))
    half zero e zero below =
        let none : bit m 0 ≡ false = has_zero m ∙ ap (λ (x : ℕ). eqb x 1) e in
        ap (λ (b : Bool). b && bit (m - 1) 0) none ∙ sym (ap (λ (b : Bool). b && not (eqb 0 (suc (count_trailing_zeros d (m / 2))))) none)
    half zero e (suc k) below =
        ap₂ ◌&&◌ (has_suc m k) (has_suc (m - 1) k ∙ ap (λ (x : ℕ). bit x k) (let z : (m - 1) / 2 ≡ m / 2 - 1 = omega arith in z))
        ∙ below e k ∙ ap₂ (λ (b c : Bool). b && not c) (sym (has_suc m k)) (sym (eqb-suc-suc k (count_trailing_zeros d (m / 2))))
    half (suc r) e zero below = ap (λ (b : Bool). bit m 0 && b) (has_zero (m - 1) ∙ ne_eqb ((m - 1) % 2) 1 (λ q. omega arith)) ∙ sym (ap (λ (b : Bool). bit m 0 && not b) (eq-eqb 0 0 refl))
    half (suc r) e (suc k) below =
        ap₂ ◌&&◌ (has_suc m k) (has_suc (m - 1) k ∙ ap (λ (x : ℕ). bit x k) (let z : (m - 1) / 2 ≡ m / 2 = omega arith in z))
        ∙ itself (bit (m / 2) k) ∙ sym (ap₂ (λ (b c : Bool). b && not c) (has_suc m k) (ne_eqb (suc k) 0 (λ q. omega arith)) ∙ and-true (bit (m / 2) k))
      where
        itself : (b : Bool) → (b && b) ≡ b
        itself true = refl
        itself false = refl

lowest_out : (d m : ℕ) → 0 < m → m < 2 ^ d → (k : ℕ) → bit (bit_and m (m - 1)) k ≡ (bit m k && not (eqb k (count_trailing_zeros d m)))
lowest_out d m some small k = has_and m (m - 1) k ∙ less_bits d m some small k

-- the lowest member of a word from f on
module _ (m f : ℕ) (small : m < 2 ^ 64) where
  abbrev rest : ℕ
  rest = m / 2 ^ f

  rest_none : rest ≡ 0 → (i : ℕ) → f ≤ i → bit m i ≡ false
  rest_none e i h =
      let d : f + (i - f) ≡ i = omega arith in
      ap (bit m) (sym d) ∙ sym (has_shr m f (i - f)) ∙ ap (λ (x : ℕ). bit x (i - f)) e ∙ zero_has (i - f)

  rest_found : (rest ≡ 0 → ⊥) → count_trailing_zeros 64 rest < 64
  rest_found = tz_found rest (lt_of_le_of_lt (shr_le m f) small)

  word_here : (rest ≡ 0 → ⊥) → bit m (f + count_trailing_zeros 64 rest) ≡ true
  word_here h = sym (has_shr m f (count_trailing_zeros 64 rest)) ∙ (tz_lowest 64 rest).here (rest_found h)

  word_within : (rest ≡ 0 → ⊥) → f + count_trailing_zeros 64 rest < 64
  word_within h =
      ⊎_elim (λ l. l) (λ l. absurd (false≢true (sym (has_above 64 m (f + count_trailing_zeros 64 rest) small l) ∙ word_here h)))
      (lt_or_le (f + count_trailing_zeros 64 rest) 64)

  word_none : (i : ℕ) → f ≤ i → i < f + count_trailing_zeros 64 rest → bit m i ≡ false
  word_none i h l =
      let d : f + (i - f) ≡ i = omega arith in
      ap (bit m) (sym d) ∙ sym (has_shr m f (i - f)) ∙ (tz_lowest 64 rest).none (i - f) (omega arith) (omega arith)

module _ (lo hi f : ℕ) where
  pub first_low : lo < 2 ^ 64 → (lo / 2 ^ f ≡ 0 → ⊥) → FirstFrom (holds lo hi) f (Some (f + count_trailing_zeros 64 (lo / 2 ^ f)))
  first_low s h =
      let l = word_within lo f s h in (
        (let z : f + count_trailing_zeros 64 (lo / 2 ^ f) < 128 = omega (arith, l) in z),
        record {
          within = omega arith;
          onward = omega arith;
          none = λ i a b. holds_low lo hi i (omega arith) ∙ word_none lo f s i a b;
          here = λ b. holds_low lo hi _ l ∙ word_here lo f s h;
        },
      )

  pub first_next : lo < 2 ^ 64 → hi < 2 ^ 64 → f < 64 → lo / 2 ^ f ≡ 0 → (hi ≡ 0 → ⊥) → FirstFrom (holds lo hi) f (Some (64 + count_trailing_zeros 64 hi))
  first_next s small k e h =
      let w = tz_lowest 64 hi in
      let d : 64 + count_trailing_zeros 64 hi - 64 ≡ count_trailing_zeros 64 hi = omega arith in (
        (let z : 64 + count_trailing_zeros 64 hi < 128 = omega (arith, tz_found hi small h) in z),
        record {
          within = omega (arith, w.within);
          onward = omega arith;
          none = λ i a b.
              ⊎_elim (λ l. holds_low lo hi i l ∙ rest_none lo f s e i a)
              (λ l. holds_high lo hi i l ∙ w.none (i - 64) (omega arith) (omega arith)) (lt_or_le i 64);
          here = λ b. holds_high lo hi _ (omega arith) ∙ ap (bit hi) d ∙ w.here (omega arith);
        },
      )

  pub first_high : hi < 2 ^ 64 → 64 ≤ f → (hi / 2 ^ (f - 64) ≡ 0 → ⊥) → FirstFrom (holds lo hi) f (Some (f + count_trailing_zeros 64 (hi / 2 ^ (f - 64))))
  first_high s k h =
      let t = count_trailing_zeros 64 (hi / 2 ^ (f - 64)) in
      let l = word_within hi (f - 64) s h in
      let d : f + t - 64 ≡ f - 64 + t = omega arith in (
        (let z : f + t < 128 = omega (arith, l) in z),
        record {
          within = omega arith;
          onward = omega arith;
          none = λ i a b. holds_high lo hi i (omega arith) ∙ word_none hi (f - 64) s (i - 64) (omega arith) (omega arith);
          here = λ b. holds_high lo hi _ (omega arith) ∙ ap (bit hi) d ∙ word_here hi (f - 64) s h;
        },
      )

  pub first_none : hi < 2 ^ 64 → 64 ≤ f → f ≤ 128 → hi / 2 ^ (f - 64) ≡ 0 → LowestMember (holds lo hi) f 128 128
  first_none s k l e =
      record {
        within = omega arith;
        onward = l;
        none = λ i a b. holds_high lo hi i (omega arith) ∙ rest_none hi (f - 64) s e (i - 64) (omega arith);
        here = λ b. absurd (omega arith);
      }

  pub first_empty : lo < 2 ^ 64 → f < 64 → lo / 2 ^ f ≡ 0 → hi ≡ 0 → LowestMember (holds lo hi) f 128 128
  first_empty s l e z =
      record {
        within = omega arith;
        onward = omega arith;
        none = λ i a b.
            ⊎_elim (λ m. holds_low lo hi i m ∙ rest_none lo f s e i a) (λ m. holds_high lo hi i m ∙ ap (λ (w : ℕ). bit w (i - 64)) z ∙ zero_has (i - 64)) (lt_or_le i 64);
        here = λ b. absurd (omega arith);
      }

-- the lowest member is taken out
module _ (lo hi : ℕ) where
  pub taken_low : lo < 2 ^ 64 → (lo ≡ 0 → ⊥) → TakenOut lo hi (count_trailing_zeros 64 lo) (bit_and lo (lo - 1)) hi
  taken_low s h = record {
    few = omega (arith, l);
    lowest = record {
      within = omega (arith, l);
      onward = omega arith;
      none = λ i a b. holds_low lo hi i (omega (arith, l)) ∙ (tz_lowest 64 lo).none i a b;
      here = λ b. holds_low lo hi t l ∙ (tz_lowest 64 lo).here l;
    };
    left = λ k.
        ⊎_elim (λ m. holds_low (bit_and lo (lo - 1)) hi k m ∙ lowest_out 64 lo (omega arith) s k ∙ ap (λ (b : Bool). b && not (eqb k t)) (sym (holds_low lo hi k m)))
        (λ m. holds_high (bit_and lo (lo - 1)) hi k m ∙ sym (ap₂ (λ (b c : Bool). b && not c) (holds_high lo hi k m) (ne_eqb k t (λ e. omega (arith, l))) ∙ and-true (bit hi (k - 64)))) (lt_or_le k 64);
  }
    where
      t : ℕ
      t = count_trailing_zeros 64 lo

      l : t < 64
      l = tz_found lo s h

  pub taken_high : lo < 2 ^ 64 → hi < 2 ^ 64 → lo ≡ 0 → (hi ≡ 0 → ⊥) → TakenOut lo hi (64 + count_trailing_zeros 64 hi) lo (bit_and hi (hi - 1))
  taken_high r s z h = record {
    few = omega (arith, l);
    lowest = (first_next lo hi 0 r s (omega arith) (div-one lo ∙ z) h).1;
    left = λ k.
        ⊎_elim (λ m. holds_low lo (bit_and hi (hi - 1)) k m ∙ sym (ap₂ (λ (b c : Bool). b && not c) (holds_low lo hi k m) (ne_eqb k (64 + t) (λ e. omega arith)) ∙ and-true (bit lo k)))
        (λ m. holds_high lo (bit_and hi (hi - 1)) k m ∙ lowest_out 64 hi (omega arith) s (k - 64)
        ∙ ap₂ (λ (b c : Bool). b && not c) (sym (holds_high lo hi k m)) (ap (eqb (k - 64)) (let y : t ≡ 64 + t - 64 = omega arith in y) ∙ eqb_shift k (64 + t) m (omega arith))) (lt_or_le k 64);
  }
    where
      t : ℕ
      t = count_trailing_zeros 64 hi

      l : t < 64
      l = tz_found hi s h

pub first_past : (p : ℕ → Bool) (f : ℕ) → f ≤ 128 → 128 ≤ f → LowestMember p f 128 128
first_past p f h l = record { within = omega arith; onward = h; none = λ i a b. absurd (omega arith); here = λ b. absurd (omega arith) }

-- subsets
implies : (a b : Bool) → (a && b) ≡ a → (not a || b) ≡ true
implies true true e = refl
implies true false e = e
implies false b e = refl

implied : (a b : Bool) → (not a || b) ≡ true → (a && b) ≡ a
implied true true e = refl
implied true false e = e
implied false b e = refl

word_subset : (a b : ℕ) → eqb (bit_and a b) a ≡ true → (k : ℕ) → (not (bit a k) || bit b k) ≡ true
word_subset a b e k = implies (bit a k) (bit b k) (sym (has_and a b k) ∙ ap (λ (x : ℕ). bit x k) (eqb-true (bit_and a b) a e))

subset_word : (a b : ℕ) → a < 2 ^ 64 → b < 2 ^ 64 → ((k : ℕ) → k < 64 → (not (bit a k) || bit b k) ≡ true) → eqb (bit_and a b) a ≡ true
subset_word a b h l f =
    eq-eqb (bit_and a b) a
    (same_bits 64 (bit_and a b) a (and_lt 64 a b h l) h (λ i j. has_and a b i ∙ implied (bit a i) (bit b i) (f i j)))

module _ (alo ahi blo bhi : ℕ) where
  abbrev pub inside : ℕ → Bool
  inside k = not (holds alo ahi k) || holds blo bhi k

  at_low : (k : ℕ) → k < 64 → inside k ≡ (not (bit alo k) || bit blo k)
  at_low k l = ap₂ (λ (x y : Bool). not x || y) (holds_low alo ahi k l) (holds_low blo bhi k l)

  at_high : (k : ℕ) → 64 ≤ k → inside k ≡ (not (bit ahi (k - 64)) || bit bhi (k - 64))
  at_high k l = ap₂ (λ (x y : Bool). not x || y) (holds_high alo ahi k l) (holds_high blo bhi k l)

  -- the low words decide
  pub subset_miss : alo < 2 ^ 64 → blo < 2 ^ 64 → (bit_and alo blo ≡ alo → ⊥) → eqb (bit_and alo blo) alo ≡ all_below 128 inside
  subset_miss p r h =
      agree _ _ (λ e. absurd (h (eqb-true (bit_and alo blo) alo e)))
      (λ e. subset_word alo blo p r (λ k l. sym (at_low k l) ∙ all_at inside 128 e k (omega arith)))

  -- the high words decide
  pub subset_hit : ahi < 2 ^ 64 → bhi < 2 ^ 64 → bit_and alo blo ≡ alo → eqb (bit_and ahi bhi) ahi ≡ all_below 128 inside
  subset_hit q s f =
      agree _ _
      (λ e. all_below_lem inside 128
      (λ k _. ⊎_elim (λ l. at_low k l ∙ word_subset alo blo (eq-eqb (bit_and alo blo) alo f) k)
      (λ l. at_high k l ∙ word_subset ahi bhi e (k - 64)) (lt_or_le k 64)))
      (λ e. subset_word ahi bhi q s (λ k l.
      let d : k + 64 - 64 ≡ k = omega arith in
      ap (λ (j : ℕ). not (bit ahi j) || bit bhi j) (sym d) ∙ sym (at_high (k + 64) (omega arith)) ∙ all_at inside 128 e (k + 64) (omega arith)))

-- one more member
pub insert_low : (lo hi i k : ℕ) → i < 64 → holds (bit_or lo (1 * 2 ^ i % 2 ^ 64)) hi k ≡ (holds lo hi k || eqb k i)
insert_low lo hi i k h =
    ap (λ (b : ℕ). holds (bit_or lo b) hi k) (one_bit i h)
    ∙ (holds_two ◌||◌ lo hi (2 ^ i) 0 (bit_or lo (2 ^ i)) hi (λ j. has_or lo (2 ^ i) j) (λ j. sym (ap (λ (b : Bool). bit hi j || b) (zero_has j) ∙ or-false (bit hi j))) k
    ∙ ap (λ (b : Bool). holds lo hi k || b) (single_low i k h))

pub insert_high : (lo hi i k : ℕ) → 64 ≤ i → i < 128 → holds lo (bit_or hi (1 * 2 ^ (i - 64) % 2 ^ 64)) k ≡ (holds lo hi k || eqb k i)
insert_high lo hi i k h l =
    ap (λ (b : ℕ). holds lo (bit_or hi b) k) (one_bit (i - 64) (omega arith))
    ∙ (holds_two ◌||◌ lo hi 0 (2 ^ (i - 64)) lo (bit_or hi (2 ^ (i - 64))) (λ j. sym (ap (λ (b : Bool). bit lo j || b) (zero_has j) ∙ or-false (bit lo j))) (λ j. has_or hi (2 ^ (i - 64)) j) k
    ∙ ap (λ (b : Bool). holds lo hi k || b) (single_high i k h))

-- a word without bits
pub bits_zero : (m : ℕ) → m < 2 ^ 64 → ((k : ℕ) → k < 64 → bit m k ≡ false) → m ≡ 0
bits_zero m h f = same_bits 64 m 0 h (omega arith) (λ i l. f i l ∙ sym (zero_has i))
