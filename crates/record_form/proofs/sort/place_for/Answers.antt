-- Processor n comes after those passed; the first that it comes before has its place.
use Prim.Native.Nat.{ℕ, ◌<◌}
use native.Mathlib.Omega.{arith}
use mathlib.Core.Path.{◌≡◌, sym, ap, ◌∙◌, subst}
use lib.ListN.{length}
use Rattle.record_decoded.specs.Decoded.{instructions_of, pairs_of}
use Rattle.record_renumbering.specs.Keys.{key_less}
use Rattle.record_form.proofs.LocatedLaws.{few}
use Rattle.record_form.proofs.SortLaws.{none_passed, one_passed, place_found, place_last}
use borrow.Author.Rules.{rules}
use Rattle.record_form.proofs.sort.place_for.Goals as goal

pub loop-j-init : goal.loop-j-init
loop-j-init c = none_passed

pub bounds-order-j : goal.bounds-order-j
bounds-order-j c =
    let a = c.args in
    omega (arith, c.requires.2, (few a.bytes.now a.x c.requires.0).processors_few)

pub key_less-requires : goal.key_less-requires
key_less-requires c =
    let a = c.args in
    let pre = c.requires in
    (pre.0, pre.1, pre.2, subst (λ (k : ℕ). k < a.x.processors) (sym c.wide.ensures.0) (pre.3 c.loop-j.j (omega arith)))

pub returns-then-key_less : goal.returns-then-key_less
returns-then-key_less c =
    let a = c.args in
    let long : length a.order.processors ≡ 8 = search rules in
    let f = (few a.bytes.now a.x c.requires.0).processors_few in
    let tested = c.key_less.ensures ∙ ap (λ (k : ℕ). key_less (instructions_of a.x.instructions) (pairs_of a.x.pairs) a.n k) c.wide.ensures.0 in
    (place_found c.loop-j.invariant (omega (arith, c.requires.2)) (omega arith) tested c.if-key_less.true, omega arith)

pub loop-j-preserved : goal.loop-j-preserved
loop-j-preserved c =
    let a = c.args in
    let tested = c.key_less.ensures ∙ ap (λ (k : ℕ). key_less (instructions_of a.x.instructions) (pairs_of a.x.pairs) a.n k) c.wide.ensures.0 in
    one_passed c.loop-j.invariant (omega arith) tested c.if-key_less.false

pub returns : goal.returns
returns c =
    let a = c.args in
    let long : length a.order.processors ≡ 8 = search rules in
    let f = (few a.bytes.now a.x c.requires.0).processors_few in
    (place_last c.loop-j.invariant (omega (arith, c.requires.2)) (omega arith), omega arith)
