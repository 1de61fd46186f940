-- The lexicographic order of lists of numbers: by the first entry that differs, a shorter list before its extensions.
use Rattle.std.specs.Prelude.{ℕ, ◌≡◌, Bool, true, false, cond, ◌&&◌, ◌||◌, List, [], ◌∷◌, eqb, ltb}

-- the first list is less than the second
unfoldable pub lex_less : List ℕ → List ℕ → Bool
lex_less xs [] = false
lex_less [] (y ∷ ys) = true
lex_less (x ∷ xs) (y ∷ ys) = ltb x y || (eqb x y && lex_less xs ys)

abbrev pub Less : List ℕ → List ℕ → Type 0
Less xs ys = lex_less xs ys ≡ true

-- the least of some lists
unfoldable pub least : List (List ℕ) → List ℕ
least [] = []
least (x ∷ []) = x
least (x ∷ (y ∷ ys)) = cond (lex_less (least (y ∷ ys)) x) (least (y ∷ ys)) x
