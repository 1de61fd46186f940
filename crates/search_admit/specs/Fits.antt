-- The test of one operation more as a function of the rows.
use Rattle.std.specs.Prelude.{ℕ, ◌<◌, ◌≡◌, Bool, true, false, not, cond, ◌&&◌, ◌||◌, List, [], ◌∷◌, ◌++◌, get_or, eqb, ltb}
use Rattle.base.specs.Lists.{member}
use Rattle.base.specs.Below.{all_below, any_below}
use Rattle.base.specs.Bits.{bit}
use Rattle.relation_places.specs.Places.{before_by, Placed}
use Rattle.search_sets.specs.Set.{holds}
use Rattle.search_admit.specs.Rows.{precedes, partner_by, awaited, bypasses, read_bits, read_data, visible_word, own_word, words_read, own_of, local_of, read_of, writes_bit, words_after}

-- the last entry; 255 where there is none
unfoldable pub last_entry : List ℕ → ℕ
last_entry [] = 255
last_entry (x ∷ []) = x
last_entry (x ∷ y ∷ xs) = last_entry (y ∷ xs)

-- operation i may follow x as far as rule 12 goes: all partners of x stand, or i is one of them
abbrev pub due_after : List ℕ → ℕ → ℕ → ℕ → ℕ → Bool
due_after rows x lo hi i = all_below 128 (λ a. not (partner_by rows x a) || holds lo hi a) || partner_by rows x i

-- operation i may follow xs as far as rule 12 goes
unfoldable pub due_of : List ℕ → List ℕ → ℕ → ℕ → ℕ → Bool
due_of rows xs lo hi i = cond (ltb (last_entry xs) 128) (due_after rows (last_entry xs) lo hi i) true

-- both or neither
unfoldable pub both_or_neither : Bool → Bool → Bool
both_or_neither true b = b
both_or_neither false b = not b

module _ (rows places : List ℕ) where
  -- Operation x, which does not stand, must wait for m, which does not either. Rule 10: the own RV of m's store stands before that of x's. Rule 16: m is the own
  -- RV of a semaphore whose R stands. Rules 9 and 14: both are own RVs, or x is an R, and the LV of m's store stands before that of x's store or before the R.
  unfoldable pub waits_for : ℕ → ℕ → Bool
  waits_for x m =
      before_by places (own_of rows m) (own_of rows x)
      || eqb (own_of rows m) m && (before_by places (read_of rows m) x || eqb (own_of rows x) x && before_by places (local_of rows m) (local_of rows x))

  -- rules 9, 10, 14 and 16, behind what stands
  unfoldable pub refused : ℕ → ℕ → ℕ → Bool
  refused lo hi x = any_below 128 (λ m. awaited rows x m && not (holds lo hi m) && waits_for x m)

-- where x reads bit i of its word h, it is as recorded: read from what the own processor wrote where `local` is set
abbrev pub bit_agrees : List ℕ → List ℕ → ℕ → ℕ → ℕ → ℕ → Bool
bit_agrees rows words local h x i =
    not (bit (read_bits rows h x) i)
    || both_or_neither (cond (bit local i) (bit (get_or words (own_word rows h x) 0) i) (bit (get_or words (visible_word rows h x) 0) i)) (bit (read_data rows h x) i)

module _ (rows : List ℕ) (lo hi : ℕ) where
  -- the LV of m's store stands and its own RV does not: an R of its processor reads its bytes
  unfoldable pub pending : ℕ → ℕ → Bool
  pending x m = bypasses rows x m && not (holds lo hi m) && (ltb (local_of rows m) 128 && holds lo hi (local_of rows m))

  -- bit i of x's word h is read from what the own processor wrote
  unfoldable pub local_bit : ℕ → ℕ → ℕ → Bool
  local_bit h x i = any_below 128 (λ m. pending x m && writes_bit rows (visible_word rows h x) m i)

  -- rule 11: where x reads bit i of its word h, it is as recorded
  abbrev pub bit_recorded : List ℕ → ℕ → ℕ → ℕ → Bool
  bit_recorded words h x i =
      not (bit (read_bits rows h x) i)
      || both_or_neither (cond (local_bit h x i) (bit (get_or words (own_word rows h x) 0) i) (bit (get_or words (visible_word rows h x) 0) i)) (bit (read_data rows h x) i)

  -- so are all bits of the word
  unfoldable pub word_recorded : List ℕ → ℕ → ℕ → Bool
  word_recorded words x h = all_below 64 (bit_recorded words h x)

  -- and all its words
  unfoldable pub reads_recorded : List ℕ → ℕ → Bool
  reads_recorded words x = all_below (words_read rows x) (word_recorded words x)

-- what must stand before x stands
abbrev pub ready : List ℕ → ℕ → ℕ → ℕ → Bool
ready rows lo hi x = all_below 128 (λ a. not (precedes rows x a) || holds lo hi a)

-- x is ready, and reads what is recorded
unfoldable pub enabled : List ℕ → ℕ → ℕ → List ℕ → ℕ → Bool
enabled rows lo hi words x = ready rows lo hi x && reads_recorded rows lo hi words x

-- the tests of operation x, which does not stand, behind what stands; rule 12 aside
unfoldable pub fits_by : List ℕ → List ℕ → ℕ → ℕ → List ℕ → ℕ → Bool
fits_by rows places lo hi words x = ready rows lo hi x && (not (refused rows places lo hi x) && reads_recorded rows lo hi words x)

-- the two words have the operations of a prefix
abbrev pub Standing : List ℕ → ℕ → ℕ → Type 0
Standing xs lo hi = (a : ℕ) → a < 128 → holds lo hi a ≡ member xs a

-- The rows test what a test of prefixes says: behind a prefix that passes it, an operation below n may follow exactly when it does not stand and the longer prefix passes.
pub record Tested (c : List ℕ → Bool) (n : ℕ) (rows : List ℕ) : Type 0 where
  pub one_more : (xs places : List ℕ) (lo hi x : ℕ) → c xs ≡ true → Placed n xs places → Standing xs lo hi → x < n
      → (due_of rows xs lo hi x && (not (holds lo hi x) && fits_by rows places lo hi (words_after rows xs) x)) ≡ (not (member xs x) && c (xs ++ (x ∷ [])))
