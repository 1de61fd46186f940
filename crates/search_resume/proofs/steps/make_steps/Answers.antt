-- Each turn makes one step; the walk of the last only sees whether anything is left.
use Prim.Native.Nat.{ℕ}
use native.Mathlib.Omega.{arith}
use mathlib.Core.Path.{sym, ap, ◌∙◌, subst}
use mathlib.Core.Bool.{Bool, cond}
use mathlib.Core.List.{List}
use lib.ListN.{take}
use lib.Dec.{eqb}
use borrow.Author.Tests.{eq-eqb}
use Rattle.search_resume.proofs.ReplayLaws.{either_long}
use lib.ListN as ListN
use Rattle.record_decoded.specs.Positions.{position_of}
use Rattle.model.specs.Search.{unfinished}
use Rattle.search_resume.proofs.Going.{Comes, going_starts, going_ends, going_found, going_on, going_spent, going_whole}
use Rattle.search_resume.proofs.steps.make_steps.Goals as goal

pub loop-size-init : goal.loop-size-init
loop-size-init c =
    (going_starts c.requires.kept.0 c.requires.kept.1 c.requires.lengths.0 c.requires.lengths.1 c.requires.lengths.2 c.requires.kept.2, omega (arith, c.requires.kept.1), c.requires.lengths.0, c.requires.lengths.0)

pub keep_if-requires : goal.keep_if-requires
keep_if-requires c = let l = c.loop-size in (l.invariant.0.whole, l.invariant.3)

pub walk-requires : goal.walk-requires
walk-requires c =
    let inv = c.loop-size.invariant.0 in
    record { kept = (inv.few, inv.room, inv.kept, c.requires.kept.3); lengths = (inv.whole, inv.long, inv.wide) }

pub returns-in_default : goal.returns-in_default
returns-in_default c =
    let l = c.loop-size in
    record {
      comes = going_ends l.invariant.0 c.walk.ensures c.in_default.is;
      bounded = record { short = l.invariant.1; whole = l.invariant.2 };
    }

pub returns-then-last : goal.returns-then-last
returns-then-last c =
    let g = c.args in
    let l = c.loop-size in
    let same = c.keep_if.ensures ∙ ap (λ (b : Bool). cond b l.entries l.reached) (eq-eqb _ _ c.if-last.true) in
    record {
      comes = subst (λ (entries : List ℕ). Comes g.n g.rows.now (position_of g.given) g.allowance (record { verdict = unfinished; steps = l.steps; position = take l.length entries })) (sym same)
          (going_spent l.invariant.0 c.walk.ensures _ c.in-Some.is (omega (arith, c.if-last.true)));
      bounded = record { short = omega (arith, l.invariant.0.room); whole = ap ListN.length same ∙ l.invariant.0.whole };
    }

pub overflow_add-steps : goal.overflow_add-steps
overflow_add-steps c =
    let l = c.loop-size in
    omega (arith, l.invariant.0.allows, c.if-last.false)

pub returns-then-length-n : goal.returns-then-length-n
returns-then-length-n c =
    let g = c.args in
    let l = c.loop-size in
    let walked = c.walk.ensures in
    let found = c.in-Some.is in
    record {
      comes = going_found l.invariant.0 walked _ found (omega (arith, l.invariant.0.allows, c.if-last.false)) c.if-length-n.true;
      bounded = record { short = omega (arith, c.if-length-n.true); whole = going_whole l.invariant.0 walked _ found };
    }

pub loop-size-smaller : goal.loop-size-smaller
loop-size-smaller c =
    let l = c.loop-size in
    omega (arith, l.invariant.0.allows, c.if-last.false)

pub loop-size-preserved : goal.loop-size-preserved
loop-size-preserved c =
    let l = c.loop-size in (
      going_on l.invariant.0 c.walk.ensures _ c.in-Some.is (omega (arith, l.invariant.0.allows, c.if-last.false)) c.if-length-n.false,
      l.invariant.1,
      l.invariant.2,
      ap ListN.length c.keep_if.ensures ∙ either_long (eqb l.steps c.args.allowance) l.entries l.reached l.invariant.0.whole l.invariant.3,
    )
