-- All RVs by rule 4; none, or two at most by rules 1 and 3.
use Prim.Native.Nat.{◌-◌}
use mathlib.Core.Path.{◌≡◌, refl, sym, ap, ◌∙◌}
use mathlib.Core.Bool.{Bool, not, ◌&&◌, ◌||◌}
use lib.Dec.{eqb, ltb}
use Rattle.search_constraints.proofs.with_remotes.Goals.{then-has_mark-2, else-has_mark-2, then-to_other, else-to_other, then-released, else-released}
use Rattle.search_sets.specs.Set.{holds}
use Rattle.search_constraints.proofs.RemoteLaws.{nothing_more, fence_links, no_remotes, two_linked, both_in}
use Rattle.record_decoded.specs.Kinds.{meant}
use Rattle.search_constraints.proofs.with_remotes.Goals as goal

pub returns-then-has_mark : goal.returns-then-has_mark
returns-then-has_mark c = λ a l.
    let g = c.args in
    c.with_every_remote.ensures a l
    ∙ ap (λ (b : Bool). holds g.set.lo g.set.hi a || b)
    (fence_links g.marks (meant g.kind) g.processor g.first.0 g.processors a g.role (sym c.has_mark.ensures ∙ c.if-has_mark.true))

pub returns-then-role-lt-ROLE_RV : goal.returns-then-role-lt-ROLE_RV
returns-then-role-lt-ROLE_RV c = λ a l.
    let g = c.args in
    nothing_more (holds g.set.lo g.set.hi a)
    (no_remotes g.marks (meant g.kind) g.processor g.first.0 g.processors a g.role c.if-role-lt-ROLE_RV.true (sym c.has_mark.ensures ∙ c.if-has_mark.false))

pub returns : goal.returns
returns c = λ a l.
    let g = c.args in
    let own = c.number_of-own_rv.result.0 in
    let same = c.number_of-same_rv.result.0 in
    let to_other : c.if-has_mark-2.to_other ≡ (c.has_mark-2.result && not (eqb (g.role - 3) g.processor)) =
    elim c.if-has_mark-2.branch [
      | then-has_mark-2 w ↦ rw w.if-has_mark-2.true w.to_other-is
      | else-has_mark-2 w ↦ rw w.if-has_mark-2.false (w.to_other-is ∙ w.if-has_mark-2.false)
    ] in
    let by_own : c.if-to_other.insert_if ≡ (c.if-has_mark-2.to_other && ltb c.wide-own.result g.processors) =
    elim c.if-to_other.branch [
      | then-to_other w ↦ rw w.if-to_other.true w.insert_if-is
      | else-to_other w ↦ rw w.if-to_other.false (w.insert_if-is ∙ w.if-to_other.false)
    ] in
    let by_same : c.if-released.insert_if ≡ (c.has_mark-released.result && ltb c.wide-same.result g.processors) =
    elim c.if-released.branch [
      | then-released w ↦ rw w.if-released.true w.insert_if-is
      | else-released w ↦ rw w.if-released.false (w.insert_if-is ∙ w.if-released.false)
    ] in
    both_in (holds g.set.lo g.set.hi a) (c.if-to_other.insert_if && eqb a own) (c.if-released.insert_if && eqb a same)
    (c.insert_if-by_own.ensures a l) (c.insert_if.ensures a l)
    (two_linked g.marks (meant g.kind) g.processor g.first.0 g.processors a g.role (g.role - 3) c.wide-own.result c.wide-same.result own same
    (sym c.has_mark.ensures ∙ c.if-has_mark.false)
    c.if-role-lt-ROLE_RV.false refl
    c.wide-own.ensures.0 c.wide-same.ensures.0
    c.number_of-own_rv.ensures c.number_of-same_rv.ensures
    c.has_mark-2.ensures to_other
    by_own c.has_mark-released.ensures by_same)
