-- Each turn makes the words of one line of one instruction.
use Prim.Native.Nat.{ℕ, ◌+◌, ◌*◌, ◌/◌, ◌%◌, ◌<◌}
use native.Mathlib.Omega.{arith}
use mathlib.Core.Path.{◌≡◌, refl, ap, ap₂, ◌∙◌}
use lib.ListN.{get_or}
use Rattle.base.proofs.Entries.{entered_none, entered_more}
use Rattle.model.specs.Execution.{Kind, kind_of}
use Rattle.model.specs.Questions.{written_from}
use Rattle.search_rows.specs.Lent.{covered_bit, relative_bit}
use Rattle.search_rows.proofs.LineLaws.{covers_by, data_by}
use Rattle.search_rows.proofs.words.put_words.Goals as goal

pub loop-j-init : goal.loop-j-init
loop-j-init c = let l = c.requires.lengths in (refl, omega arith, entered_none l.0, entered_none l.1, entered_none l.2)

pub line_words-words-requires : goal.line_words-words-requires
line_words-words-requires c =
    let j = c.loop-j.j in
    let few : j / 2 < c.args.x.instructions.count = omega (arith, c.loop-j-test.true) in
    let inside = c.requires.bounds.2 (j / 2) few in (
      c.requires.bounds.1,
      omega (arith, few, c.requires.bounds.0),
      c.wide-address.ensures.1,
      omega (arith, inside.two_lines, c.wide-address.ensures.0, c.wide-size.ensures.0),
      omega (arith, inside.few, c.wide-size.ensures.0, ap written_from c.kind_of-kind.ensures),
      omega arith,
    )

pub overflow_step-j : goal.overflow_step-j
overflow_step-j c = omega (arith, c.loop-j-test.true, c.requires.bounds.0)

pub loop-j-smaller : goal.loop-j-smaller
loop-j-smaller c = omega (arith, c.loop-j-test.true)

pub loop-j-preserved : goal.loop-j-preserved
loop-j-preserved c =
    let turn = c.loop-j-test.true in
    let j = c.loop-j.j in
    let inv = c.loop-j.invariant in
    let address = c.wide-address.ensures.0 in
    let size = c.wide-size.ensures.0 in
    let made = c.line_words-words.ensures in
    let here = relative_bit c.args.bytes.now c.args.x.lines.count c.args.x.instructions.bytes in
    let room : j < 80 = omega (arith, turn, c.requires.bounds.0) in (
      refl,
      omega (arith, turn),
      entered_more inv.2 c.line_words-words.result.bits room (λ i l. made.0 i l ∙ ap₂ (λ (a s : ℕ). covered_bit a s (64 * (j % 2) + i)) address size),
      entered_more inv.3 c.line_words-words.result.seen room (λ i l. made.1 i l ∙ ap₂ (λ (a s : ℕ). here (16 * (j / 2) + 0) a s (64 * (j % 2) + i)) address size),
      entered_more inv.4 c.line_words-words.result.written room
          (λ i l. made.2 i l ∙ ap (λ (k : Kind). here (16 * (j / 2) + written_from k) c.wide-address.result c.wide-size.result (64 * (j % 2) + i)) c.kind_of-kind.ensures
          ∙ ap₂ (λ (a s : ℕ). here (16 * (j / 2) + written_from (kind_of (get_or c.args.x.instructions.kinds (j / 2) 0))) a s (64 * (j % 2) + i)) address size),
    )

pub returns : goal.returns
returns c =
    let g = c.args in
    let inv = c.loop-j.invariant in
    let is = g.x.instructions in
    let here = relative_bit g.bytes.now g.x.lines.count is.bytes in (
      λ w h i l few low. inv.2.holds (2 * w + h) (omega (arith, l, few, inv.0, c.loop-j-test.false)) i low
          ∙ ap₂ (λ (v k : ℕ). covered_bit (get_or is.addresses v 0) (get_or is.sizes v 0) (64 * k + i)) (let z : (2 * w + h) / 2 ≡ w = omega arith in z) (let z : (2 * w + h) % 2 ≡ h = omega arith in z)
          ∙ covers_by g.x w refl refl (64 * h + i),
      record {
        seen_is = λ w h i l few low. inv.3.holds (2 * w + h) (omega (arith, l, few, inv.0, c.loop-j-test.false)) i low
            ∙ ap₂ (λ (v k : ℕ). here (16 * v + 0) (get_or is.addresses v 0) (get_or is.sizes v 0) (64 * k + i)) (let z : (2 * w + h) / 2 ≡ w = omega arith in z) (let z : (2 * w + h) % 2 ≡ h = omega arith in z)
            ∙ data_by g.x w refl refl g.bytes.now refl 0 (64 * h + i);
        written_is = λ w h i l few low. inv.4.holds (2 * w + h) (omega (arith, l, few, inv.0, c.loop-j-test.false)) i low
            ∙ ap₂ (λ (v k : ℕ). here (16 * v + written_from (kind_of (get_or is.kinds v 0))) (get_or is.addresses v 0) (get_or is.sizes v 0) (64 * k + i)) (let z : (2 * w + h) / 2 ≡ w = omega arith in z) (let z : (2 * w + h) % 2 ≡ h = omega arith in z)
            ∙ data_by g.x w refl refl g.bytes.now refl (written_from (kind_of (get_or is.kinds w 0))) (64 * h + i);
      },
    )
