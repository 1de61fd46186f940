-- The chain table: to which operations one or more links lead.
use Rattle.std.specs.Prelude.{ℕ, zero, suc, Bool, cond, ◌&&◌, List, [], ◌∷◌, map, eqb}
use Rattle.base.specs.Lists.{any, keep, for, below, member}
use Rattle.model.specs.Rules.{Link}

module _ (n : ℕ) (links : List Link) where
  -- a link leads from a to b
  unfoldable pub leads : ℕ → ℕ → Bool
  leads a b = any (λ l. eqb l.0 a && eqb l.1 b) links

  -- the operations, of n, to which one link or more, and at most k, lead from a
  unfoldable pub reached_by : ℕ → ℕ → List ℕ
  reached_by zero a = []
  reached_by (suc k) a =
      let passed = a ∷ reached_by k a in
      keep (λ b. any (λ c. leads c b) passed) (below n)

  -- mark (a, b): one or more links lead from a to b. (Of a shortest path the links are at most n.)
  unfoldable pub chain_mark : ℕ → ℕ → ℕ
  chain_mark a b = cond (member (reached_by n a) b) 1 0

  -- n rows of n marks
  unfoldable pub chain_marks : List ℕ
  chain_marks = for (below n) (λ a. map (chain_mark a) (below n))
