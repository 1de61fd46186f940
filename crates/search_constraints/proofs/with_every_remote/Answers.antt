-- Each turn takes in one RV more.
use Prim.Native.Nat.{ℕ}
use mathlib.Core.Path.{◌≡◌, ap, ◌∙◌}
use mathlib.Core.Bool.{◌||◌}
use lib.Dec.{eqb}
use native.Mathlib.Omega.{arith}
use Rattle.base.specs.Below.{any_below}
use Rattle.model.specs.Execution.{RV, number_from}
use Rattle.search_sets.specs.Set.{holds}
use Rattle.search_sets.proofs.Loops.{grown_starts, grown_more}
use Rattle.search_constraints.specs.Rows.{is_remote}
use Rattle.record_decoded.specs.Kinds.{meant}
use Rattle.search_constraints.proofs.with_every_remote.Goals as goal

pub loop-to-init : goal.loop-to-init
loop-to-init c = (omega arith, grown_starts _ _)

pub loop-to-smaller : goal.loop-to-smaller
loop-to-smaller c = omega (arith, c.loop-to-test.true)

pub loop-to-preserved : goal.loop-to-preserved
loop-to-preserved c =
    let m = c.loop-to.more in (
      omega (arith, c.loop-to-test.true),
      grown_more c.loop-to.invariant.1 _
          (λ a l. c.insert_if-more.ensures a l ∙ ap (λ (rv : ℕ). holds m.lo m.hi a || eqb a rv) c.number_of-rv.ensures),
    )

pub returns : goal.returns
unfolding is_remote
returns c = λ a l.
    let g = c.args in
    let (few, grown) = c.loop-to.invariant in
    let all : c.loop-to.to ≡ g.processors = omega (arith, c.loop-to-test.false) in
    grown.has a l ∙ ap (λ (n : ℕ). holds g.set.lo g.set.hi a || any_below n (λ q. eqb a (number_from g.first.0 (meant g.kind) (RV q)))) all
