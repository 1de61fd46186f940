-- Each turn refuses a candidate or takes an entry away; the first candidate that is open and not refused is the answer.
use Rattle.search_walk.proofs.Search.{search_starts, search_to, search_on, search_up, last_below, search_ends, search_spent, search_found, search_same}
use Rattle.search_sets.proofs.Loops.{first_or}
use borrow.Author.Tests.{not-true, not-false}
use lib.ListN.{get_or}
use mathlib.Core.Path.{◌≡◌, refl, sym, ◌∙◌, subst}
use Rattle.search_sets.specs.Set.{holds, LowestMember}
use native.Mathlib.Omega.{arith}
use Prim.Native.Nat.{◌+◌, ◌*◌, ◌-◌}
use Rattle.search_walk.proofs.walk.Goals as goal
use Rattle.search_walk.proofs.walk.Goals.{then-x-n+else-enter, else-x-n+else-k-eq0}

pub loop-init : goal.loop-init
loop-init c =
    search_same
    (search_starts (record { few = c.requires.kept.0; room = c.requires.kept.1; start = refl; levelled = c.requires.kept.2.levelled; whole = c.requires.lengths.0 }) c.requires.kept.2 c.requires.lengths.1 c.requires.lengths.2 refl)
    refl refl refl refl refl refl refl refl (omega arith)

pub returns-then-enter : goal.returns-then-enter
returns-then-enter c =
    let at = c.loop in
    let low : LowestMember (holds at.candidates.lo at.candidates.hi) at.c 128 c.unwrap_or-x.result =
    subst (LowestMember (holds at.candidates.lo at.candidates.hi) at.c 128) (sym c.unwrap_or-x.ensures) (first_or _ _ _ c.first_from.ensures) in
    let t = c.enter.ensures in
    let e = t.made c.if-enter.true in
    search_found (search_to at.invariant c.unwrap_or-x.result low.onward (omega (arith, c.if-x-n.true)) low.none) c.args.affected.now c.requires.kept.3 e.4 c.if-x-n.true (low.here (omega (arith, at.invariant.from.few, c.if-x-n.true)))
    (not-true _ (sym t.told ∙ c.if-enter.true))
    refl e.0 e.1 e.2 e.3

pub returns-then-k-eq0 : goal.returns-then-k-eq0
returns-then-k-eq0 c =
    let at = c.loop in
    let low : LowestMember (holds at.candidates.lo at.candidates.hi) at.c 128 c.unwrap_or-x.result =
    subst (LowestMember (holds at.candidates.lo at.candidates.hi) at.c 128) (sym c.unwrap_or-x.ensures) (first_or _ _ _ c.first_from.ensures) in
    search_ends (search_to at.invariant c.args.n at.invariant.bounded (omega arith) (λ i a b. low.none i a (omega (arith, c.if-x-n.false)))) c.if-k-eq0.true (omega arith)

pub remove_entry-removed-requires : goal.remove_entry-removed-requires
remove_entry-removed-requires c =
    let at = c.loop in
    let below = last_below at.invariant (at.k - 1) (get_or at.position (at.k - 1) 0) (omega (arith, c.if-k-eq0.false)) refl at.invariant.from.whole in
    (omega (arith, at.invariant.within, at.invariant.from.room, at.invariant.from.few, at.invariant.from.whole), omega (arith, at.invariant.within, at.invariant.from.room, at.invariant.from.few), omega (arith, at.invariant.within, at.invariant.from.room, at.invariant.from.few), omega (arith, below, at.invariant.from.few), at.invariant.long, at.invariant.wide)

pub overflow_add-c-else-x-n : goal.overflow_add-c-else-x-n
overflow_add-c-else-x-n c =
    let at = c.loop in
    omega (arith, last_below at.invariant (at.k - 1) c.remove_entry-removed.result.0 (omega (arith, c.if-k-eq0.false)) c.remove_entry-removed.ensures.0 at.invariant.from.whole, at.invariant.from.few)

pub loop-preserved : goal.loop-preserved
loop-preserved c =
    let at = c.loop in
    let a = c.args in
    let fewer : a.n * a.n - (at.counter + 1) ≡ a.n * a.n - at.counter - 1 = omega arith in
    let low : LowestMember (holds at.candidates.lo at.candidates.hi) at.c 128 c.unwrap_or-x.result =
    subst (LowestMember (holds at.candidates.lo at.candidates.hi) at.c 128) (sym c.unwrap_or-x.ensures) (first_or _ _ _ c.first_from.ensures) in
    elim c.if-x-n.branch [
      | then-x-n+else-enter w ↦
          let t = w.enter.ensures in
          let left = t.left w.if-enter.false in
          search_same
          (search_on (search_to at.invariant c.unwrap_or-x.result low.onward (omega (arith, w.if-x-n.true)) low.none) w.if-x-n.true
          (not-false _ (sym t.told ∙ w.if-enter.false)))
          refl (w.places-is ∙ left.0) (w.levels-is ∙ left.1) (w.words-is ∙ left.2) (w.replaced-is ∙ left.3) w.k-is w.c-is w.candidates-is fewer
      | else-x-n+else-k-eq0 w ↦
          let r = w.remove_entry-removed in
          search_same
          (search_up (search_to at.invariant a.n at.invariant.bounded (omega arith) (λ i a b. low.none i a (omega (arith, w.if-x-n.false)))) (at.k - 1) r.result.0 (omega (arith, w.if-k-eq0.false)) r.ensures.0 at.invariant.from.whole _ (omega (arith, w.if-k-eq0.false)) refl)
          refl (w.places-is ∙ r.ensures.1) w.levels-is (w.words-is ∙ r.ensures.2) w.replaced-is w.k-is w.c-is w.candidates-is fewer
    ]

pub returns : goal.returns
returns c =
    search_spent c.loop.invariant (omega (arith, c.loop-test.false))
