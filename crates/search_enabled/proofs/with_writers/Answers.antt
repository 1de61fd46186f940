-- One word that is read after the other.
use Prim.Native.Nat.{ℕ, ◌%◌}
use native.Mathlib.Omega.{arith}
use mathlib.Core.Path.{◌≡◌, ap, ◌∙◌}
use mathlib.Core.Bool.{◌||◌}
use Rattle.base.specs.Below.{any_below}
use Rattle.search_sets.specs.Set.{holds}
use Rattle.search_sets.specs.Tables.{set_at}
use Rattle.search_admit.specs.Rows.{visible_word}
use Rattle.search_enabled.proofs.AffectLaws.{writers_none, writers_more}
use Rattle.search_enabled.proofs.with_writers.Goals as goal

pub loop-h-init : goal.loop-h-init
loop-h-init c = (c.requires.1, omega arith, λ a. writers_none _ _)

pub loop-h-smaller : goal.loop-h-smaller
loop-h-smaller c = omega (arith, c.loop-h-test.true)

pub loop-h-preserved : goal.loop-h-preserved
loop-h-preserved c =
    let g = c.args in
    let inv = c.loop-h.invariant in (
      inv.0,
      omega (arith, c.loop-h-test.true),
      λ a. writers_more (λ j. set_at g.writers.now (visible_word g.rows.now j g.y.0 % 64) a) _ (holds g.set.lo g.set.hi a) (inv.2 a)
          (ap (λ (v : ℕ). set_at g.writers.now (v % 64) a) c.word_of-place.ensures.0) (c.bitor-all.ensures a),
    )

pub returns : goal.returns
returns c =
    λ a.
    let g = c.args in
    let inv = c.loop-h.invariant in
    inv.2 a ∙ ap (λ (n : ℕ). holds g.set.lo g.set.hi a || any_below n (λ j. set_at g.writers.now (visible_word g.rows.now j g.y.0 % 64) a))
    (let z : c.loop-h.h ≡ g.count = omega (arith, inv.1, c.loop-h-test.false) in z)
