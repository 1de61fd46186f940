-- The consistent prefixes in lexicographic order, and what a search finds among them.
use Rattle.std.specs.Prelude.{ℕ, zero, suc, Bool, not, cond, List, [], ◌∷◌, ◌++◌, length, get_or, eqb, ltb}
use Rattle.base.specs.Lists.{keep, for, below, member}
use Rattle.base.specs.Lex.{lex_less}

-- the operations, of n, that do not stand in a prefix
unfoldable pub absent : ℕ → List ℕ → List ℕ
absent n xs = keep (λ o. not (member xs o)) (below n)

-- up to and with the first list of length n
unfoldable pub up_to_full : ℕ → List (List ℕ) → List (List ℕ)
up_to_full n [] = []
up_to_full n (x ∷ xs) = cond (eqb (length x) n) (x ∷ []) (x ∷ up_to_full n xs)

pub data Verdict : Type 0 where
  allowed forbidden unfinished : Verdict

-- what a search from a position comes to: its verdict, its steps and the position it leaves
pub record Outcome : Type 0 where
  pub verdict : Verdict
  pub steps : ℕ
  pub position : List ℕ

-- for n operations and a test of prefixes
module _ (n : ℕ) (consistent : List ℕ → Bool) where
  -- the consistent prefixes that extend xs by at most `more` operations, in lexicographic order
  unfoldable pub extensions : ℕ → List ℕ → List (List ℕ)
  extensions zero xs = []
  extensions (suc more) xs = for (absent n xs) (λ o.
      let ys = xs ++ (o ∷ []) in
      let found = ys ∷ extensions more ys in
      cond (consistent ys) found [])

  -- all of them, the empty one first: element s is consistent prefix number s
  unfoldable pub prefixes : List (List ℕ)
  prefixes = [] ∷ extensions n []

  -- those after a position, up to and with the first full one. Their number is document 01's m.
  unfoldable pub after : List ℕ → List (List ℕ)
  after position = up_to_full n (keep (lex_less position) prefixes)

  abbrev pub full : List ℕ → Bool
  full xs = eqb (length xs) n

  -- the position that s steps from a position reach
  unfoldable pub reached : List ℕ → ℕ → List ℕ
  reached position s = get_or (position ∷ after position) s []

  unfoldable pub search_from : List ℕ → ℕ → Outcome
  search_from position allowance =
      let m = length (after position) in
      cond (full position) (record { verdict = allowed; steps = 0; position = position })
      (cond (ltb allowance m) (record { verdict = unfinished; steps = allowance; position = reached position allowance })
      (cond (full (reached position m)) (record { verdict = allowed; steps = m; position = reached position m })
      (record { verdict = forbidden; steps = m; position = position })))
