-- Whom an operation does not affect is enabled behind it as before.
use Prim.Native.Nat.{ℕ, zero, suc, ◌%◌, ◌<◌}
use native.Mathlib.Omega.{arith}
use mathlib.Core.Path.{◌≡◌, refl, sym, ap, ap₂, ◌∙◌}
use mathlib.Core.Bool.{Bool, true, false, not, cond, ◌&&◌, ◌||◌, or-false, false≢true}
use mathlib.Core.List.{List}
use lib.ListN.{get_or}
use lib.Seq.{get_or-set_other}
use lib.Dec.{eqb, ltb}
use borrow.Author.Tests.{eq-eqb, ne_eqb, eqb-true, eqb-false}
use Rattle.base.specs.Below.{all_below}
use Rattle.base.specs.Bits.{bit}
use Rattle.base.proofs.Bools.{split, and_both}
use Rattle.base.proofs.Tests.{all_same, any_passes, any_below_same, none_at}
use Rattle.search_sets.specs.Set.{holds}
use Rattle.search_sets.specs.Tables.{set_at}
use Rattle.search_sets.specs.declared.Set.{Set}
use Rattle.search_admit.specs.Rows.{precedes, bypasses, written_word, words_written, read_bits, read_data, visible_word, own_word, words_read, local_of, writes_bit, words_up_to, words_with}
use Rattle.search_admit.specs.Fits.{both_or_neither, ready, pending, local_bit, word_recorded, reads_recorded, enabled}
use Rattle.search_enabled.specs.Affects.{writes_at, writes_word_of, local_to, affects, Affecting, enabled_after}

-- what neither of two holds
neither : (a b : Bool) → (a || b) ≡ false → (a ≡ false) × (b ≡ false)
neither false b h = (refl, h)
neither true b h = absurd (false≢true (sym h))

-- a word that an operation does not write is as it was
words_other : (rows words : List ℕ) (x v n : ℕ) → ((g : ℕ) → g < n → written_word rows g x ≡ v → ⊥) → get_or (words_up_to rows words x n) v 0 ≡ get_or words v 0
unfolding words_up_to
words_other rows words x v zero f = refl
words_other rows words x v (suc n) f =
    get_or-set_other (words_up_to rows words x n) (written_word rows n x) v _ 0 (λ e. f n (omega arith) (sym e)) ∙ words_other rows words x v n (λ g l. f g (omega arith))

module _ (rows : List ℕ) (x y lo hi lo' hi' : ℕ) (more : (k : ℕ) → holds lo' hi' k ≡ (holds lo hi k || eqb k x)) where
  -- another stands as before
  other : (k : ℕ) → (k ≡ x → ⊥) → holds lo' hi' k ≡ holds lo hi k
  other k n = more k ∙ ap (λ (b : Bool). holds lo hi k || b) (ne_eqb k x n) ∙ or-false (holds lo hi k)

  ready_same : precedes rows y x ≡ false → ready rows lo' hi' y ≡ ready rows lo hi y
  ready_same free = all_same _ _ 128 (λ a l. split (eqb a x)
      (λ e. ap (λ (b : Bool). not b || holds lo' hi' a) (ap (precedes rows y) (eqb-true a x e) ∙ free)
      ∙ sym (ap (λ (b : Bool). not b || holds lo hi a) (ap (precedes rows y) (eqb-true a x e) ∙ free)))
      (λ n. ap (λ (b : Bool). not (precedes rows y a) || b) (other a (eqb-false a x n))))

  module _ (free : bypasses rows y x ≡ false) (locals : local_to rows x y ≡ false) where
    pending_same : (m : ℕ) → m < 128 → pending rows lo' hi' y m ≡ pending rows lo hi y m
    unfolding pending local_to
    pending_same m l = split (bypasses rows y m) here (λ n. rw n refl)
      where
        here : bypasses rows y m ≡ true
            → (bypasses rows y m && not (holds lo' hi' m) && (ltb (local_of rows m) 128 && holds lo' hi' (local_of rows m)))
            ≡ (bypasses rows y m && not (holds lo hi m) && (ltb (local_of rows m) 128 && holds lo hi (local_of rows m)))
        here t =
            ap₂ (λ (a b : Bool). bypasses rows y m && not a && (ltb (local_of rows m) 128 && b))
            (other m (λ e. false≢true (sym free ∙ ap (bypasses rows y) (sym e) ∙ t)))
            (other (local_of rows m) (λ e. false≢true (sym locals ∙ any_passes (λ k. bypasses rows y k && eqb (local_of rows k) x) 128 m l (and_both t (eq-eqb (local_of rows m) x e)))))

    local_same : (h i : ℕ) → local_bit rows lo' hi' h y i ≡ local_bit rows lo hi h y i
    unfolding local_bit
    local_same h i = any_below_same _ _ 128 (λ m l. ap (λ (b : Bool). b && writes_bit rows (visible_word rows h y) m i) (pending_same m l))

    module _ (words : List ℕ) (elsewhere : writes_word_of rows x y ≡ false) where
      -- a word for a line that y reads, as its processor sees it
      same : (h v : ℕ) → h < words_read rows y → v % 64 ≡ visible_word rows h y % 64 → get_or (words_with rows words x) v 0 ≡ get_or words v 0
      unfolding writes_word_of writes_at
      same h v l e =
          words_other rows words x v (words_written rows x) (λ g m is.
          eqb-false (visible_word rows h y % 64) (written_word rows g x % 64)
          (none_at (λ j. eqb (visible_word rows h y % 64) (written_word rows j x % 64)) (words_written rows x)
          (none_at (λ j. writes_at rows x (visible_word rows j y % 64)) (words_read rows y) elsewhere h l) g m)
          (sym e ∙ ap (λ (w : ℕ). w % 64) (sym is)))

      word_same : (h : ℕ) → h < words_read rows y → word_recorded rows lo' hi' (words_with rows words x) y h ≡ word_recorded rows lo hi words y h
      unfolding word_recorded
      word_same h k =
          all_same _ _ 64 (λ i l.
          ap₂ (λ (u v : ℕ). not (bit (read_bits rows h y) i) || both_or_neither (cond (local_bit rows lo' hi' h y i) (bit u i) (bit v i)) (bit (read_data rows h y) i)) (same h (own_word rows h y) k (omega arith)) (same h (visible_word rows h y) k refl)
          ∙ ap (λ (b : Bool). not (bit (read_bits rows h y) i) || both_or_neither (cond b (bit (get_or words (own_word rows h y) 0) i) (bit (get_or words (visible_word rows h y) 0) i)) (bit (read_data rows h y) i)) (local_same h i))

      reads_same : reads_recorded rows lo' hi' (words_with rows words x) y ≡ reads_recorded rows lo hi words y
      unfolding reads_recorded
      reads_same = all_same _ _ (words_read rows y) word_same

  -- nothing is read
  reads_nothing : (ws : List ℕ) (l h : ℕ) → words_read rows y ≡ 0 → reads_recorded rows l h ws y ≡ true
  unfolding reads_recorded all_below
  reads_nothing ws l h z = ap (λ (n : ℕ). all_below n (word_recorded rows l h ws y)) z

  -- x does not affect y
  pub unaffected : (words : List ℕ) → affects rows x y ≡ false → enabled rows lo' hi' (words_with rows words x) y ≡ enabled rows lo hi words y
  unfolding affects enabled
  unaffected words h = ap₂ ◌&&◌ (ready_same parts.0) (split (eqb (words_read rows y) 0)
      (λ e. reads_nothing (words_with rows words x) lo' hi' (eqb-true (words_read rows y) 0 e) ∙ sym (reads_nothing words lo hi (eqb-true (words_read rows y) 0 e)))
      (λ n. let (b, w) = neither _ _ (reads n) in let (b, l) = neither _ _ b in reads_same b l words w))
    where
      parts : (precedes rows y x ≡ false) × ((not (eqb (words_read rows y) 0) && ((bypasses rows y x || local_to rows x y) || writes_word_of rows x y)) ≡ false)
      parts = neither _ _ h

      reads : eqb (words_read rows y) 0 ≡ false → ((bypasses rows y x || local_to rows x y) || writes_word_of rows x y) ≡ false
      reads n = sym (ap (λ (b : Bool). not b && ((bypasses rows y x || local_to rows x y) || writes_word_of rows x y)) n) ∙ parts.1

-- the enabled operations behind one entry more are those that the table gives
pub enabled_more : {n : ℕ} (rows : List ℕ) (affected : List Set) → Affecting n rows affected → (words : List ℕ) (elo ehi lo hi lo' hi' x y : ℕ) → x < n → y < n
    → ((k : ℕ) → holds lo' hi' k ≡ (holds lo hi k || eqb k x)) → holds elo ehi y ≡ (not (holds lo hi y) && enabled rows lo hi words y)
    → enabled_after rows affected (words_with rows words x) elo ehi lo' hi' x y ≡ (not (holds lo' hi' y) && enabled rows lo' hi' (words_with rows words x) y)
enabled_more {n} rows affected m words elo ehi lo hi lo' hi' x y lx ly more was = split (set_at affected x y)
    (λ t. rw t refl)
    (λ f. rw f (ap (λ (b : Bool). not (holds lo' hi' y) && b) was
    ∙ narrow (holds lo' hi' y) (holds lo hi y) (eqb y x) (enabled rows lo hi words y) (more y)
    ∙ ap (λ (b : Bool). not (holds lo' hi' y) && b) (sym (unaffected rows x y lo hi lo' hi' more words (sym (m x y lx ly) ∙ f)))))
  where
    narrow : (s' s e b : Bool) → s' ≡ (s || e) → (not s' && (not s && b)) ≡ (not s' && b)
    narrow s' true e b h = rw h refl
    narrow s' false e b h = refl
