-- The program-order rules as a table of five kinds against five, earlier kind by row, later kind by column. (A semaphore takes another
-- kind's row and column: `kind_row`.)
use Rattle.std.specs.Prelude.{ℕ, List, [], ◌∷◌, get_or}
use Rattle.model.specs.Execution.{Kind, kind_row}

-- a mark is the number of a rule: A is rule 2, L rule 3, F rule 4
abbrev A : ℕ
A = 2

abbrev L : ℕ
L = 3

abbrev F : ℕ
F = 4

-- every rule of an entry applies
unfoldable pub rule_marks : List (List (List ℕ))
rule_marks =
    ([] ∷ [] ∷ [] ∷ (L ∷ []) ∷ (F ∷ []) ∷ [])
    ∷ ((A ∷ []) ∷ (A ∷ []) ∷ (A ∷ []) ∷ (A ∷ L ∷ []) ∷ (A ∷ F ∷ []) ∷ [])
    ∷ ([] ∷ [] ∷ [] ∷ (L ∷ []) ∷ (F ∷ []) ∷ [])
    ∷ ([] ∷ [] ∷ [] ∷ (L ∷ []) ∷ (F ∷ []) ∷ [])
    ∷ ((F ∷ []) ∷ (F ∷ []) ∷ (F ∷ []) ∷ (F ∷ []) ∷ (F ∷ []) ∷ [])
    ∷ []

unfoldable pub marks : Kind → Kind → List ℕ
marks earlier later = get_or (get_or rule_marks (kind_row earlier).row []) (kind_row later).column []
