-- One operation after the other.
use native.Mathlib.Omega.{arith}
use mathlib.Core.Path.{refl, sym, ap, ◌∙◌}
use mathlib.Core.Bool.{Bool, ◌&&◌}
use borrow.Author.Tests.{le-ltb, lt-ltb}
use Rattle.search_sets.specs.Tables.{set_at}
use Rattle.search_enabled.specs.Affects.{writes_at}
use Rattle.search_enabled.proofs.AffectLaws.{empty_at, below_more}
use Rattle.search_enabled.proofs.all_writers.Goals as goal

pub loop-a-init : goal.loop-a-init
loop-a-init c = (
  omega arith,
  λ p k l. empty_at 64 p k l ∙ sym (ap (λ (b : Bool). b && writes_at c.args.rows.now k p) (le-ltb k 0 (omega arith))),
)

pub loop-a-smaller : goal.loop-a-smaller
loop-a-smaller c = omega (arith, c.loop-a-test.true)

pub loop-a-preserved : goal.loop-a-preserved
loop-a-preserved c =
    let l = c.loop-a in
    let rows = c.args.rows.now in (
      omega (arith, c.loop-a-test.true),
      λ p k small. c.put_written.ensures p k ∙ below_more (λ i. writes_at rows i p) l.a k (set_at l.writers p k) (writes_at rows l.a p) (l.invariant.1 p k small) (λ e. refl),
    )

pub returns : goal.returns
returns c =
    λ p a small l. c.loop-a.invariant.1 p a small
    ∙ ap (λ (b : Bool). b && writes_at c.args.rows.now a p) (lt-ltb a _ (omega (arith, c.loop-a-test.false)))
