-- The rows are made, the search runs in arrays of its own; a position that is not consistent is refused, else its position is written.
use Prim.Native.Nat.{◌≤◌}
use native.Mathlib.Omega.{arith}
use mathlib.Core.Path.{◌≡◌, refl, sym, ap, ◌∙◌}
use mathlib.Core.Bool.{true}
use mathlib.Core.List.{[]}
use lib.ListN.{length, take}
use Rattle.base.specs.Lists.{distinct}
use Rattle.model.specs.Rules.{rules, keeps}
use Rattle.model.specs.Calls.{search_reply}
use Rattle.record_decoded.specs.Decoded.{execution_of}
use Rattle.record_decoded.specs.Positions.{position_of}
use Rattle.search_call.proofs.CallLaws.{consistent_closed, empty_keeps, outcome_reply, searched_21, searched_from, tested_keeps, keeps_is}
use Rattle.search_call.proofs.call.search_on.Goals as goal

pub put_rows-requires : goal.put_rows-requires
put_rows-requires c = let pre = c.requires in (pre.accepted.1, pre.accepted.0, refl)

pub saved_position-given-requires : goal.saved_position-given-requires
saved_position-given-requires c =
    let pre = c.requires in
    let compiled = pre.accepted.1 c.args.bytes.now in
    let a = c.args in (
      (let z : a.saved ≤ 128 = omega (arith, pre.saved.0, compiled.tabled.counts, pre.accepted.0.operations_few) in z),
      (let z : a.saved ≤ length a.buffer.now = omega (arith, pre.saved.0, pre.saved.1) in z),
    )

pub affected_by-affected-requires : goal.affected_by-affected-requires
affected_by-affected-requires c = let pre = c.requires in
    let compiled = pre.accepted.1 c.args.bytes.now in omega (arith, compiled.tabled.counts, pre.accepted.0.operations_few)

pub search_from-requires : goal.search_from-requires
search_from-requires c =
    let pre = c.requires in
    let compiled = pre.accepted.1 c.args.bytes.now in
    let p = c.saved_position-given.ensures in (
      omega (arith, compiled.tabled.counts, pre.accepted.0.operations_few),
      omega (arith, p.1, pre.saved.0),
      ap (distinct c.args.t.count []) p.0 ∙ pre.saved.2,
      p.2,
      c.affected_by-affected.ensures,
    )

pub returns-in_default : goal.returns-in_default
unfolding search_reply
returns-in_default c =
    let a = c.args in
    let pre = c.requires in
    let compiled = pre.accepted.1 c.args.bytes.now in
    let e = execution_of a.bytes.now a.x in
    ap (search_reply a.saved a.buffer.now) (searched_21 e (take a.saved a.buffer.now) a.allowance
    (keeps_is e (take a.saved a.buffer.now) ∙ ap (keeps (rules e)) (sym c.saved_position-given.ensures.0)
    ∙ c.in_default.ensures (keeps (rules e)) (tested_keeps c.put_rows.ensures pre.accepted.0 a.t.count compiled.tabled.counts) (consistent_closed e) (empty_keeps e)))

pub write_position-requires : goal.write_position-requires
write_position-requires c =
    let pre = c.requires in
    let compiled = pre.accepted.1 c.args.bytes.now in
    let a = c.args in (
      omega (arith, c.in-Some.ensures.1.bounded.short, compiled.tabled.counts, pre.accepted.0.operations_few),
      (let z : c.in-Some.outcome.position.length ≤ length a.buffer.now = omega (arith, c.in-Some.ensures.1.bounded.short, pre.saved.1) in z),
    )

pub returns : goal.returns
returns c =
    let a = c.args in
    let pre = c.requires in
    let compiled = pre.accepted.1 c.args.bytes.now in
    let e = execution_of a.bytes.now a.x in
    let p = c.saved_position-given.ensures in
    let d = c.in-Some.ensures.1 in
    let count = compiled.tabled.counts in
    let table = tested_keeps c.put_rows.ensures pre.accepted.0 a.t.count count in
    let passes : keeps (rules e) (position_of c.saved_position-given.result) ≡ true = c.in-Some.ensures.0 (keeps (rules e)) table (consistent_closed e) (empty_keeps e) in
    outcome_reply e a.buffer.now _ a.saved a.allowance a.t.count count (position_of c.saved_position-given.result) p.0 c.in-Some.outcome
    (d.comes (keeps (rules e)) table (consistent_closed e) passes)
    (omega (arith, d.bounded.short, d.bounded.whole, count, pre.accepted.0.operations_few)) c.write_position.ensures
    ∙ ap (search_reply a.saved a.buffer.now) (searched_from e (take a.saved a.buffer.now) a.allowance (keeps_is e (take a.saved a.buffer.now) ∙ ap (keeps (rules e)) (sym p.0) ∙ passes))
