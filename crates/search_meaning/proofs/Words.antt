-- The words of memory after a prefix hold, byte by byte, what the stores in it made visible or wrote.
use Prim.Native.Nat.{ℕ, ◌<◌}
use native.Mathlib.Omega.{arith}
use native.Mathlib.Decide.{ℕ_discrete}
use mathlib.Core.Path.{◌≡◌, refl, sym, ap, ◌∙◌}
use mathlib.Core.Bool.{Bool, true, false, not, cond, ◌&&◌, ◌||◌, and-false}
use mathlib.Core.List.{List, [], ◌∷◌, Memᴰ}
use lib.ListN.{length, get_or, length-set}
use lib.Seq.{get_or-set_same, get_or-set_other}
use lib.Bits.{bit_and, bit_xor}
use lib.Dec.{eqb}
use borrow.Author.Tests.{eq-eqb, ne_eqb, eqb-true}
use Rattle.base.specs.Lists.{any}
use Rattle.base.specs.Bits.{bit}
use Rattle.search_sets.proofs.Bit.{has_or}
use Rattle.search_sets.proofs.Laws.{has_minus, zero_has}
use Rattle.base.proofs.Bools.{split}
use Rattle.model.specs.Rules.{byte_of}
use Rattle.search_reduction.specs.Admits.{last_byte}
use Rattle.search_admit.specs.Rows.{written_bits, written_data, written_word, merged, word_over, words_up_to, words_with, words_from}
use Rattle.search_admit.proofs.WordLaws.{words_length}

-- a bit of a word that is written over
pub merged_bit : (word bits written i : ℕ) → bit (merged word bits written) i ≡ ((bit word i && not (bit bits i)) || bit written i)
merged_bit word bits written i = has_or (bit_xor word (bit_and word bits)) written i ∙ ap (λ (b : Bool). b || bit written i) (has_minus word bits i)

-- the byte of the list for an operation, where all that it gives are one
pub byte_is : (ws : List (ℕ × ℕ)) (o v d : ℕ) → ((w : ℕ × ℕ) → Memᴰ w ws → w.0 ≡ o → w.1 ≡ v) → byte_of ws o d ≡ cond (any (λ w. eqb w.0 o) ws) v d
unfolding byte_of any
byte_is [] o v d each = refl
byte_is (w ∷ ws) o v d each = go (eqb w.0 o) refl (byte_is ws o v d (λ u m. each u (Memᴰ.tail m)))
  where
    go : (b : Bool) → eqb w.0 o ≡ b → byte_of ws o d ≡ cond (any (λ u. eqb u.0 o) ws) v d
        → cond b w.1 (byte_of ws o d) ≡ cond (b || any (λ u. eqb u.0 o) ws) v d
    go true e ih = each w (Memᴰ.head refl) (eqb-true w.0 o e)
    go false e ih = ih

-- the byte stays below 256
pub byte_below : (ws : List (ℕ × ℕ)) → ((w : ℕ × ℕ) → Memᴰ w ws → w.1 < 256) → (o d : ℕ) → d < 256 → byte_of ws o d < 256
unfolding byte_of
byte_below [] each o d h = h
byte_below (w ∷ ws) each o d h = go (eqb w.0 o) (byte_below ws (λ u m. each u (Memᴰ.tail m)) o d h)
  where
    go : (b : Bool) → byte_of ws o d < 256 → cond b w.1 (byte_of ws o d) < 256
    go true ih = each w (Memᴰ.head refl)
    go false ih = ih

pub last_below : (ws : List (ℕ × ℕ)) → ((w : ℕ × ℕ) → Memᴰ w ws → w.1 < 256) → (xs : List ℕ) (d : ℕ) → d < 256 → last_byte ws d xs < 256
unfolding last_byte
last_below ws each [] d h = h
last_below ws each (x ∷ xs) d h = last_below ws each xs (byte_of ws x d) (byte_below ws each x d h)

-- Of its words an operation does to bit i of word c what the list does to a bit of the byte, which `of` gives. `hit h` is that it writes the bit as its word h.
pub record Does (rows : List ℕ) (ws : List (ℕ × ℕ)) (c i : ℕ) (of : ℕ → Bool) (x : ℕ) : Type 0 where
  pub hit : ℕ → Bool
  pub byte : ℕ
  pub touches : (h : ℕ) → h < 2 → (eqb (written_word rows h x) c && bit (written_bits rows h x) i) ≡ hit h
  pub leaves : (h : ℕ) → h < 2 → hit h ≡ false → (eqb (written_word rows h x) c && bit (written_data rows h x) i) ≡ false
  pub puts : (h : ℕ) → h < 2 → hit h ≡ true → bit (written_data rows h x) i ≡ of byte
  pub gives : (d : ℕ) → byte_of ws x d ≡ cond (hit 1) byte (cond (hit 0) byte d)

module _ {rows : List ℕ} {ws : List (ℕ × ℕ)} {c i : ℕ} {of : ℕ → Bool} {x : ℕ} (does : Does rows ws c i of x) where
  -- one of its words
  word_over_lem : (h : ℕ) → h < 2 → (words : List ℕ) (d : ℕ) → length words ≡ 128 → c < 128 → bit (get_or words c 0) i ≡ of d
      → bit (get_or (word_over rows words x h) c 0) i ≡ of (cond (does.hit h) does.byte d)
  word_over_lem h l words d long few same = go (ℕ_discrete c (written_word rows h x))
    where
      at : ℕ
      at = written_word rows h x

      -- what the operation makes of a bit
      made : (b m w : Bool) → m ≡ does.hit h → (does.hit h ≡ false → w ≡ false) → (does.hit h ≡ true → w ≡ of does.byte) → b ≡ of d
          → ((b && not m) || w) ≡ of (cond (does.hit h) does.byte d)
      made b m w p q r s = by (does.hit h) p q r
        where
          by : (g : Bool) → m ≡ g → (g ≡ false → w ≡ false) → (g ≡ true → w ≡ of does.byte) → ((b && not m) || w) ≡ of (cond g does.byte d)
          by true p q r = rw p (none b ∙ r refl)
            where
              none : (u : Bool) → ((u && false) || w) ≡ w
              none true = refl
              none false = refl
          by false p q r = rw (p, q refl) (kept b ∙ s)
            where
              kept : (u : Bool) → ((u && true) || false) ≡ u
              kept true = refl
              kept false = refl

      go : Dec (c ≡ at) → bit (get_or (word_over rows words x h) c 0) i ≡ of (cond (does.hit h) does.byte d)
      go (yes q) =
          let here : eqb at c ≡ true = eq-eqb at c (sym q) in
          ap (λ (u : ℕ). bit u i) (ap (λ (j : ℕ). get_or (word_over rows words x h) j 0) q ∙ get_or-set_same words at _ 0 (omega (arith, long)))
          ∙ merged_bit (get_or words at 0) (written_bits rows h x) (written_data rows h x) i
          ∙ made (bit (get_or words at 0) i) (bit (written_bits rows h x) i) (bit (written_data rows h x) i)
          (sym (ap (λ (b : Bool). b && bit (written_bits rows h x) i) here) ∙ does.touches h l)
          (λ f. sym (ap (λ (b : Bool). b && bit (written_data rows h x) i) here) ∙ does.leaves h l f) (does.puts h l)
          (ap (λ (j : ℕ). bit (get_or words j 0) i) (sym q) ∙ same)
      go (no q) =
          let miss : does.hit h ≡ false = sym (does.touches h l) ∙ ap (λ (b : Bool). b && bit (written_bits rows h x) i) (ne_eqb at c (λ z. q (sym z))) in
          ap (λ (u : ℕ). bit u i) (get_or-set_other words at c _ 0 q) ∙ same ∙ ap of (sym (ap (λ (b : Bool). cond b does.byte d) miss))

  -- all of them
  word_step : (words : List ℕ) (d : ℕ) → length words ≡ 128 → c < 128 → bit (get_or words c 0) i ≡ of d → bit (get_or (words_with rows words x) c 0) i ≡ of (byte_of ws x d)
  unfolding words_up_to
  word_step words d long few same = split (eqb (written_bits rows 1 x) 0) one two
    where
      first : bit (get_or (word_over rows words x 0) c 0) i ≡ of (cond (does.hit 0) does.byte d)
      first = word_over_lem 0 (omega arith) words d long few same

      one : eqb (written_bits rows 1 x) 0 ≡ true → bit (get_or (words_with rows words x) c 0) i ≡ of (byte_of ws x d)
      one t =
          let z : written_bits rows 1 x ≡ 0 = eqb-true (written_bits rows 1 x) 0 t in
          let miss : does.hit 1 ≡ false =
          sym (does.touches 1 (omega arith)) ∙ ap (λ (v : ℕ). eqb (written_word rows 1 x) c && bit v i) z ∙ ap (λ (b : Bool). eqb (written_word rows 1 x) c && b) (zero_has i) ∙ and-false (eqb (written_word rows 1 x) c) in
          ap (λ (b : Bool). bit (get_or (words_up_to rows words x (cond b 1 2)) c 0) i) t ∙ first
          ∙ ap of (sym (does.gives d ∙ ap (λ (b : Bool). cond b does.byte (cond (does.hit 0) does.byte d)) miss))

      two : eqb (written_bits rows 1 x) 0 ≡ false → bit (get_or (words_with rows words x) c 0) i ≡ of (byte_of ws x d)
      two f =
          ap (λ (b : Bool). bit (get_or (words_up_to rows words x (cond b 1 2)) c 0) i) f
          ∙ word_over_lem 1 (omega arith) (word_over rows words x 0) (cond (does.hit 0) does.byte d) (length-set words (written_word rows 0 x) _ ∙ long) few first
          ∙ ap of (sym (does.gives d))

-- and so do the operations of a prefix, one after the other
pub words_are : (rows : List ℕ) (ws : List (ℕ × ℕ)) (c i : ℕ) (of : ℕ → Bool) → c < 128 → (xs : List ℕ) → ((x : ℕ) → Memᴰ x xs → Does rows ws c i of x)
    → (words : List ℕ) (d : ℕ) → length words ≡ 128 → bit (get_or words c 0) i ≡ of d → bit (get_or (words_from rows words xs) c 0) i ≡ of (last_byte ws d xs)
unfolding words_from last_byte
words_are rows ws c i of few [] does words d long same = same
words_are rows ws c i of few (x ∷ xs) does words d long same =
    words_are rows ws c i of few xs (λ o m. does o (Memᴰ.tail m)) (words_with rows words x) (byte_of ws x d)
    (words_length rows words x ∙ long) (word_step (does x (Memᴰ.head refl)) words d long few same)
