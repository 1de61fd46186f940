-- The words of memory that an operation writes, one after the other: what they were is kept, and they are put back.
use Prim.Native.Nat.{ℕ, zero, suc, ◌+◌, ◌*◌, ◌≤◌, ◌<◌}
use native.Mathlib.Omega.{arith}
use native.Mathlib.Decide.{ℕ_discrete}
use mathlib.Core.Path.{◌≡◌, refl, ap, ◌∙◌}
use mathlib.Core.Bool.{Bool, true, false, cond}
use mathlib.Core.List.{List, [], ◌∷◌}
use lib.ListN.{length, get_or, set, length-set}
use lib.Seq.{get_or-set_same, get_or-set_other}
use lib.Dec.{eqb}
use Rattle.search_admit.specs.Rows.{written_bits, written_word, words_written, words_up_to, replaced_up_to, words_back, words_with, words_without}

-- an entry put back
restored : (ws : List ℕ) (c v : ℕ) → set (set ws c v) c (get_or ws c 0) ≡ ws
restored [] zero v = refl
restored [] (suc c) v = refl
restored (w ∷ ws) zero v = refl
restored (w ∷ ws) (suc c) v = ap (λ (l : List ℕ). w ∷ l) (restored ws c v)

-- at most two words are written
pub few_written : (rows : List ℕ) (x : ℕ) → words_written rows x ≤ 2
few_written rows x = go (eqb (written_bits rows 1 x) 0)
  where
    go : (b : Bool) → cond b 1 2 ≤ 2
    go true = omega arith
    go false = omega arith

-- the lengths stay
upto_length : (rows words : List ℕ) (x n : ℕ) → length (words_up_to rows words x n) ≡ length words
unfolding words_up_to
upto_length rows words x zero = refl
upto_length rows words x (suc n) = length-set (words_up_to rows words x n) (written_word rows n x) _ ∙ upto_length rows words x n

pub words_length : (rows words : List ℕ) (x : ℕ) → length (words_with rows words x) ≡ length words
words_length rows words x = upto_length rows words x (words_written rows x)

kept_length : (rows words replaced : List ℕ) (k x n : ℕ) → length (replaced_up_to rows words replaced k x n) ≡ length replaced
unfolding replaced_up_to
kept_length rows words replaced k x zero = refl
kept_length rows words replaced k x (suc n) = length-set (replaced_up_to rows words replaced k x n) (2 * k + n) _ ∙ kept_length rows words replaced k x n

back_length : (rows words replaced : List ℕ) (k x n : ℕ) → length (words_back rows words replaced k x n) ≡ length words
unfolding words_back
back_length rows words replaced k x zero = refl
back_length rows words replaced k x (suc n) = back_length rows (set words (written_word rows n x) _) replaced k x n ∙ length-set words (written_word rows n x) _

pub without_length : (rows words replaced : List ℕ) (k x : ℕ) → length (words_without rows words replaced k x) ≡ length words
without_length rows words replaced k x = back_length rows words replaced k x (words_written rows x)

-- what is kept of an entry, and that all else is as it was
pub kept_there : (rows words replaced : List ℕ) (k x n h : ℕ) → 2 * k + n ≤ length replaced → h < n
    → get_or (replaced_up_to rows words replaced k x n) (2 * k + h) 0 ≡ get_or (words_up_to rows words x h) (written_word rows h x) 0
unfolding replaced_up_to
kept_there rows words replaced k x zero h room l = absurd (omega arith)
kept_there rows words replaced k x (suc n) h room l = go (ℕ_discrete h n) (kept_there rows words replaced k x n h (omega arith))
  where
    go : Dec (h ≡ n) → (h < n → get_or (replaced_up_to rows words replaced k x n) (2 * k + h) 0 ≡ get_or (words_up_to rows words x h) (written_word rows h x) 0)
        → get_or (set (replaced_up_to rows words replaced k x n) (2 * k + n) (get_or (words_up_to rows words x n) (written_word rows n x) 0)) (2 * k + h) 0
        ≡ get_or (words_up_to rows words x h) (written_word rows h x) 0
    go (yes q) ih = rw q (get_or-set_same (replaced_up_to rows words replaced k x n) (2 * k + n) _ 0 (omega (arith, kept_length rows words replaced k x n)))
    go (no q) ih = get_or-set_other (replaced_up_to rows words replaced k x n) (2 * k + n) (2 * k + h) _ 0 (λ e. q (omega arith)) ∙ ih (omega arith)

pub kept_other : (rows words replaced : List ℕ) (k x n i : ℕ) → i < 2 * k → get_or (replaced_up_to rows words replaced k x n) i 0 ≡ get_or replaced i 0
unfolding replaced_up_to
kept_other rows words replaced k x zero i l = refl
kept_other rows words replaced k x (suc n) i l =
    get_or-set_other (replaced_up_to rows words replaced k x n) (2 * k + n) i _ 0 (λ e. omega arith) ∙ kept_other rows words replaced k x n i l

-- the words are put back
pub back_again : (rows words replaced : List ℕ) (k x n : ℕ)
    → ((h : ℕ) → h < n → get_or replaced (2 * k + h) 0 ≡ get_or (words_up_to rows words x h) (written_word rows h x) 0)
    → words_back rows (words_up_to rows words x n) replaced k x n ≡ words
unfolding words_up_to words_back
back_again rows words replaced k x zero were = refl
back_again rows words replaced k x (suc n) were =
    ap (λ (ws : List ℕ). words_back rows ws replaced k x n)
    (ap (set (words_up_to rows words x (suc n)) (written_word rows n x)) (were n (omega arith)) ∙ restored (words_up_to rows words x n) (written_word rows n x) _)
    ∙ back_again rows words replaced k x n (λ h l. were h (omega arith))
