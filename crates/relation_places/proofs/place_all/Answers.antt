-- Each turn places one entry; an entry that is no operation, or stands already, decides.
use mathlib.Core.Path.{refl, ◌∙◌, sym}
use native.Mathlib.Omega.{arith}
use Rattle.relation_places.proofs.PlaceLaws.{placed_there, placed_none, placing_none, placing_short, placing_more, placing_large, placing_twice, placing_done}
use Rattle.relation_places.proofs.place_all.Goals as goal
use Rattle.relation_places.proofs.place_all.Goals.{then-o-n-via-then-o-n, then-o-n-via-else-o-n+then-places-o}

pub loop-k-init : goal.loop-k-init
loop-k-init c = placing_none c.requires refl placed_none

pub returns-then-o-n : goal.returns-then-o-n
returns-then-o-n c =
    let o : _ = c.wide-o.result in
    elim c.then-o-n.branch [
      | then-o-n-via-then-o-n w ↦ placing_large c.loop-k.invariant c.loop-k-test.true o c.wide-o.ensures.0 w.if-o-n.true
      | then-o-n-via-else-o-n+then-places-o w ↦
          placing_twice c.loop-k.invariant c.loop-k-test.true o c.wide-o.ensures.0
          (λ h. w.if-places-o.true (sym (placed_there c.loop-k.places o (omega arith)) ∙ h))
    ]

pub overflow_cast-places : goal.overflow_cast-places
overflow_cast-places c = omega (arith, placing_short c.loop-k.invariant)

pub loop-k-preserved : goal.loop-k-preserved
loop-k-preserved c =
    placing_more c.loop-k.invariant c.loop-k-test.true c.wide-o.result c.wide-o.ensures.0 c.if-o-n.false
    (placed_there c.loop-k.places c.wide-o.result (omega arith) ∙ c.if-places-o.false)

pub returns : goal.returns
returns c = (c.loop-k.invariant.long, placing_done c.loop-k.invariant c.loop-k-test.false)
