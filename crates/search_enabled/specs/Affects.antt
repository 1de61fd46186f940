-- Which operations are enabled behind one entry more, and the table that this is kept up with.
use Rattle.std.specs.Prelude.{ℕ, ◌%◌, ◌<◌, ◌≡◌, Bool, not, cond, ◌&&◌, ◌||◌, List, eqb}
use Rattle.base.specs.Below.{any_below}
use Rattle.search_sets.specs.Set.{holds}
use Rattle.search_sets.specs.Tables.{set_at}
use Rattle.search_sets.specs.declared.Set.{Set}
use Rattle.search_admit.specs.Rows.{precedes, bypasses, written_word, words_written, visible_word, words_read, local_of}
use Rattle.search_admit.specs.Fits.{enabled}

module _ (rows : List ℕ) where
  -- y reads
  abbrev pub reads : ℕ → Bool
  reads y = not (eqb (words_read rows y) 0)

  -- x writes a word of memory for line and processor p: the one that is visible there, p, or 64 places on the own stores'
  unfoldable pub writes_at : ℕ → ℕ → Bool
  writes_at x p = any_below (words_written rows x) (λ g. eqb p (written_word rows g x % 64))

  -- x writes a word that the R y reads
  unfoldable pub writes_word_of : ℕ → ℕ → Bool
  writes_word_of x y = any_below (words_read rows y) (λ h. writes_at x (visible_word rows h y % 64))

  -- x is the LV of a store whose bytes the R y may read early
  unfoldable pub local_to : ℕ → ℕ → Bool
  local_to x y = any_below 128 (λ m. bypasses rows y m && eqb (local_of rows m) x)

  -- x may change whether y is enabled: it must stand before y, or has to do with what y reads
  unfoldable pub affects : ℕ → ℕ → Bool
  affects x y = precedes rows y x || reads y && ((bypasses rows y x || local_to x y) || writes_word_of x y)

-- set p of the table has the operations that write a word for line and processor p, of n
abbrev pub Writing : ℕ → List ℕ → List Set → Type 0
Writing n rows writers = (p a : ℕ) → p < 64 → a < n → set_at writers p a ≡ writes_at rows a p

-- set x of the table has the operations that x affects, of n
abbrev pub Affecting : ℕ → List ℕ → List Set → Type 0
Affecting n rows affected = (x y : ℕ) → x < n → y < n → set_at affected x y ≡ affects rows x y

-- y does not stand and is enabled behind x, the last that stands: asked anew where x affects y, else as before
abbrev pub enabled_after : List ℕ → List Set → List ℕ → ℕ → ℕ → ℕ → ℕ → ℕ → ℕ → Bool
enabled_after rows affected words elo ehi lo hi x y = not (holds lo hi y) && cond (set_at affected x y) (enabled rows lo hi words y) (holds elo ehi y)
