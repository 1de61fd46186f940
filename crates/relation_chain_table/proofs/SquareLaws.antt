-- Squares of marks: tests as marks, and the closure by way of one number after the other.
use Prim.Native.Nat.{ℕ, ◌+◌, ◌<◌, ◌≤◌}
use native.Mathlib.Nat.{le_antisymm}
use native.Mathlib.Numerals.{add-one}
use native.Mathlib.Omega.{arith}
use mathlib.Core.Path.{◌≡◌, refl, ap, ◌∙◌}
use mathlib.Core.Bool.{Bool, true, false}
use mathlib.Core.List.{List}
use lib.Dec.{eqb}
use Rattle.relation_chain_table.specs.Squares.{mark_of, marked, MarksAre, via, closed_by}

-- a mark is 1 where the test holds
pub mark_test : (b : Bool) → eqb (mark_of b) 1 ≡ b
mark_test true = refl
mark_test false = refl

pub marks_as : {x : ℕ} {b : Bool} → x ≡ mark_of b → eqb x 1 ≡ b
marks_as {x} {b} h = ap (λ (y : ℕ). eqb y 1) h ∙ mark_test b

-- The invariant: the square is closed by way of the numbers below k.
pub record Closing (n : ℕ) (links : List (List ℕ)) (k : ℕ) (m : List (List ℕ)) : Type 0 where
  pub within : k ≤ n
  pub made : MarksAre n m (closed_by k (marked links))

pub closing_none : {n : ℕ} {links : List (List ℕ)} → Closing n links 0 links
unfolding closed_by
closing_none {n} {links} = record { within = omega arith; made = λ a b h l. refl }

module _ {n : ℕ} {links : List (List ℕ)} {k : ℕ} {m : List (List ℕ)} (inv : Closing n links k m) where
  pub closing_more : {next : List (List ℕ)} → k < n → MarksAre n next (via k (marked m)) → Closing n links (k + 1) next
  unfolding closed_by via
  closing_more {next} l h = record {
    within = omega arith;
    made = λ a b p q. rw add-one (h a b p q ∙ cc (inv.made a b p q, inv.made a k p l, inv.made k b l q));
  }

  -- the end of the loop
  pub closing_all : n ≤ k → MarksAre n m (closed_by n (marked links))
  closing_all h a b p q = inv.made a b p q ∙ ap (λ (j : ℕ). closed_by j (marked links) a b) (le_antisymm inv.within h)
