-- One of those that affect y after the other.
use native.Mathlib.Omega.{arith}
use mathlib.Core.Path.{ap, ◌∙◌}
use mathlib.Core.Bool.{Bool, ◌||◌, and_comm}
use lib.Dec.{eqb}
use lib.ListN.{length-set}
use Rattle.search_sets.specs.Tables.{set_at}
use Rattle.search_sets.proofs.Loops.{member_more, member_all}
use Rattle.search_enabled.proofs.AffectLaws.{set_more}
use Rattle.search_enabled.proofs.put_affected.Goals as goal

pub loop-a-preserved : goal.loop-a-preserved
loop-a-preserved c =
    let y = c.args.y.0 in (
      tt,
      tt,
      length-set c.loop-a.affected c.in-Some.a c.insert.result ∙ c.loop-a.invariant.2,
      λ a k l. member_more c.in-Some.ensures.steps a (eqb k y) _
          (set_more c.loop-a.affected c.in-Some.a y c.insert.result k (omega (arith, c.in-Some.ensures.steps.few, c.loop-a.invariant.2)) c.insert.ensures a ∙ ap (λ (b : Bool). set_at c.loop-a.affected a k || b) (and_comm (eqb k y) (eqb a c.in-Some.a)))
          ∙ c.loop-a.invariant.3 a k l,
    )

pub returns : goal.returns
returns c = λ a k l. member_all _ _ c.in-None.ensures.steps a (eqb k c.args.y.0) l ∙ c.loop-a.invariant.3 a k l
