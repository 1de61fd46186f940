-- What the walk asks and promises.
use Rattle.std.specs.Prelude.{ℕ, Option, Some, None, ◌+◌, ◌*◌, ◌<◌, ◌≤◌, ◌≡◌, Bool, true, false, not, ◌&&◌, ◌||◌, List, [], ◌∷◌, ◌++◌, ◌⊎◌, length, get_or, set, take, eqb}
use Rattle.base.specs.Lists.{member, distinct}
use Rattle.base.specs.Lex.{Less}
use Rattle.relation_places.specs.Places.{Placed}
use Rattle.search_sets.specs.Set.{holds}
use Rattle.search_sets.specs.Tables.{none}
use Rattle.search_sets.specs.declared.Set.{Set}
use Rattle.search_admit.specs.Rows.{written_word, words_written, words_up_to, words_with, replaced_with, words_after}
use Rattle.search_admit.specs.Fits.{due_after, due_of, refused, enabled, Tested}
use Rattle.search_enabled.specs.Affects.{enabled_after}
use Rattle.search_walk.specs.declared.Level.{Level}

-- Three sets a level, of each number of entries from 0 to 128: the operations that stand, those that are enabled behind them, and those of these that may follow as
-- far as rule 12 goes.
module _ (levels : List Level) (j : ℕ) where
  abbrev pub level_at : Level
  level_at = get_or levels j (record { standing = none; enabled = none; candidates = none })

  abbrev pub stands : ℕ → Bool
  stands a = holds level_at.standing.lo level_at.standing.hi a

  abbrev pub enables : ℕ → Bool
  enables a = holds level_at.enabled.lo level_at.enabled.hi a

  abbrev pub opens : ℕ → Bool
  opens a = holds level_at.candidates.lo level_at.candidates.hi a

  -- the words of the set of those that stand
  abbrev pub low : ℕ
  low = level_at.standing.lo

  abbrev pub high : ℕ
  high = level_at.standing.hi

-- level j has the sets of the first j entries, up to `size`
pub record Levels (n : ℕ) (rows position : List ℕ) (levels : List Level) (size : ℕ) : Type 0 where
  pub stood : (j a : ℕ) → j ≤ size → a < 128 → stands levels j a ≡ member (take j position) a
  pub able : (j a : ℕ) → j ≤ size → a < n
      → enables levels j a ≡ (not (stands levels j a) && enabled rows (low levels j) (high levels j) (words_after rows (take j position)) a)
  pub due : (j a : ℕ) → j ≤ size → a < n → opens levels j a ≡ (due_of rows (take j position) (low levels j) (high levels j) a && enables levels j a)

-- level k + 1 is made from level k by operation x, and the levels up to k are as they were
pub record NextLevel (rows : List ℕ) (affected : List Set) (words : List ℕ) (x k : ℕ) (levels levels' : List Level) : Type 0 where
  pub below : (j : ℕ) → j ≤ k → level_at levels' j ≡ level_at levels j
  pub stands_more : (a : ℕ) → stands levels' (k + 1) a ≡ (stands levels k a || eqb a x)
  pub enables_more : (a : ℕ) → a < 128
      → enables levels' (k + 1) a
      ≡ enabled_after rows affected words (level_at levels k).enabled.lo (level_at levels k).enabled.hi (low levels' (k + 1)) (high levels' (k + 1)) x a
  pub opens_more : (a : ℕ) → opens levels' (k + 1) a ≡ (due_after rows x (low levels' (k + 1)) (high levels' (k + 1)) a && enables levels' (k + 1) a)

-- Operation x at the place k, where it is not refused; else all as it was.
pub record Entered (rows : List ℕ) (affected : List Set) (x k : ℕ) (r : Bool) (places : List ℕ) (levels : List Level) (words replaced places' : List ℕ) (levels' : List Level)
    (words' replaced' : List ℕ) : Type 0 where
  pub told : r ≡ not (refused rows places (low levels k) (high levels k) x)
  pub made : r ≡ true
      → (places' ≡ set places x k) × (words' ≡ words_with rows words x)
      × (replaced' ≡ replaced_with rows words replaced k x) × NextLevel rows affected words' x k levels levels' × (length replaced ≡ 256)
  pub left : r ≡ false → (places' ≡ places) × (levels' ≡ levels) × (words' ≡ words) × (replaced' ≡ replaced)

-- the words are those after the first `size` entries, and for each of these the words that it wrote over are kept
pub record Remembered (rows position words replaced : List ℕ) (size : ℕ) : Type 0 where
  pub now_are : words ≡ words_after rows (take size position)
  pub were : (j h : ℕ) → j < size → h < words_written rows (get_or position j 0)
      → get_or replaced (2 * j + h) 0 ≡ get_or (words_up_to rows (words_after rows (take j position)) (get_or position j 0) h) (written_word rows h (get_or position j 0)) 0

-- with a prefix each shorter one passes the test
abbrev pub Closed : (List ℕ → Bool) → Type 0
Closed c = (xs : List ℕ) (x : ℕ) → c (xs ++ (x ∷ [])) ≡ true → c xs ≡ true

-- a prefix of different operations below n that passes the test
abbrev pub Passes : (List ℕ → Bool) → ℕ → List ℕ → Type 0
Passes c n xs = (c xs ≡ true) × (distinct n [] xs ≡ true)

-- ys is the next that passes after xs: nothing that passes lies between
pub record IsNext (c : List ℕ → Bool) (n : ℕ) (xs ys : List ℕ) : Type 0 where
  pub passes : Passes c n ys
  pub after : Less xs ys
  pub first : (zs : List ℕ) → Passes c n zs → Less xs zs → (zs ≡ ys) ⊎ Less ys zs

-- nothing that passes lies after xs
abbrev pub IsLast : (List ℕ → Bool) → ℕ → List ℕ → Type 0
IsLast c n xs = (zs : List ℕ) → Passes c n zs → Less xs zs → ⊥

-- what an answer means, from xs
abbrev pub Means : (List ℕ → Bool) → ℕ → List ℕ → Option ℕ → List ℕ → Type 0
Means c n xs (Some k) position = IsNext c n xs (take k position)
Means c n xs None position = IsLast c n xs

-- What is kept of a position of `size` entries: places, sets, words.
pub record Kept (n : ℕ) (rows position places : List ℕ) (levels : List Level) (words replaced : List ℕ) (size : ℕ) : Type 0 where
  pub placed : Placed n (take size position) places
  pub levelled : Levels n rows position levels size
  pub remembered : Remembered rows position words replaced size

-- the position reached is ready to be walked from
abbrev pub Ready : ℕ → List ℕ → Option ℕ → List ℕ → List ℕ → List Level → List ℕ → List ℕ → Type 0
Ready n rows (Some k) position places levels words replaced =
    (k ≤ n) × (length position ≡ 128) × (length places ≡ 128) × (length words ≡ 128) × Kept n rows position places levels words replaced k
Ready n rows None position places levels words replaced = Unit {0}

pub record Walked (n : ℕ) (rows xs : List ℕ) (r : Option ℕ) (position places : List ℕ) (levels : List Level) (words replaced : List ℕ) : Type 0 where
  pub ready : Ready n rows r position places levels words replaced
  pub means : (c : List ℕ → Bool) → Tested c n rows → Closed c → c xs ≡ true → Means c n xs r position
