-- What the comparison of two byte strings answers.
use Rattle.std.specs.Prelude.{ℕ, ◌≡◌, List}
use Rattle.base.specs.Lex as lex
use Rattle.std.specs.declared.cmp.Ordering.{Ordering}
use Rattle.std.specs.declared.cmp.Ordering.TheVariants.{Less, Equal, Greater}

-- the first is less than the second, the same, or greater
abbrev pub LexOrdered : Ordering → List ℕ → List ℕ → Type 0
LexOrdered Less xs ys = lex.Less xs ys
LexOrdered Equal xs ys = xs ≡ ys
LexOrdered Greater xs ys = lex.Less ys xs
