-- Each turn takes in one operation more.
use Prim.Native.Nat.{ℕ, ◌+◌, ◌<◌}
use native.Mathlib.Omega.{arith}
use mathlib.Core.Path.{◌≡◌, ap, ◌∙◌}
use mathlib.Core.Bool.{Bool, ◌&&◌, ◌||◌}
use lib.ListN.{length, get_or}
use lib.Dec.{eqb}
use Rattle.base.specs.Below.{any_below}
use Rattle.model.specs.Execution.{F, Role, kind_row, roles, remotes_at}
use Rattle.model.proofs.Numbers.{role_before_remotes}
use Rattle.record_decoded.specs.Kinds.{meant, role_numbered}
use Rattle.relation_links.specs.Linked.{linked_by}
use Rattle.search_sets.specs.Set.{holds}
use Rattle.search_sets.proofs.Loops.{grown_starts, grown_more}
use Rattle.search_constraints.specs.Rows.{local_linked}
use Rattle.search_constraints.proofs.RemoteLaws.{remotes_few}
use Rattle.search_constraints.proofs.with_local.Goals as goal

pub loop-place-init : goal.loop-place-init
loop-place-init c = (omega arith, grown_starts _ _)

pub loop-place-smaller : goal.loop-place-smaller
loop-place-smaller c = omega (arith, c.loop-place-test.true)

pub loop-place-preserved : goal.loop-place-preserved
loop-place-preserved c =
    let g = c.args in
    let m = c.loop-place.more in
    let j = c.loop-place.place in
    let k = meant g.kind in
    let few : j < c.before_remotes-n.result = omega (arith, c.loop-place-test.true) in
    let here : j < length (roles 0 k) = omega (arith, c.before_remotes-n.ensures.0, remotes_few 0 0 0 0 0 0 k) in
    let role : role_numbered c.role_of.result ≡ get_or (kind_row k).before_remotes j F =
    c.role_of.ensures 0 here ∙ role_before_remotes 0 k j (omega (arith, c.before_remotes-n.ensures.0)) in (
      omega (arith, c.loop-place-test.true),
      grown_more c.loop-place.invariant.1 _
          (λ a l. c.insert_if-more.ensures a l
          ∙ ap (λ (b : Bool). holds m.lo m.hi a || b && eqb a (g.first.0 + j))
          (c.is_linked-linked.ensures ∙ ap (λ (r : Role). linked_by g.marks g.processor r (role_numbered g.role)) role)),
    )

pub returns : goal.returns
unfolding local_linked
returns c =
    λ a l.
    let g = c.args in
    let (few, grown) = c.loop-place.invariant in
    let all : c.loop-place.place ≡ remotes_at (meant g.kind) = omega (arith, c.loop-place-test.false, c.before_remotes-n.ensures.0) in
    grown.has a l
    ∙ ap (λ (n : ℕ). holds g.set.lo g.set.hi a || any_below n (λ j. linked_by g.marks g.processor (get_or (kind_row (meant g.kind)).before_remotes j F) (role_numbered g.role) && eqb a (g.first.0 + j))) all
