-- The bytes that lie in the line, and what they are there.
use native.Mathlib.Omega.{arith}
use Prim.Native.Nat.{ℕ, ◌+◌, ◌*◌, ◌-◌, ◌%◌}
use mathlib.Core.Path.{◌≡◌, ap, ◌∙◌}
use Rattle.model.specs.Questions.{written_from}
use Rattle.record_decoded.specs.Kinds.{meant}
use Rattle.search_rows.specs.Lent.{relative_bit}
use Rattle.search_rows.proofs.LineLaws.{written_few, covered_part, relative_part}
use Rattle.search_rows.proofs.words.line_words.Goals as goal

pub relative_from-seen-requires : goal.relative_from-seen-requires
relative_from-seen-requires c =
    let inside = c.span_in-span.ensures in
    (c.requires.0, c.requires.1, omega (arith, inside.data_within 0 (omega arith) (omega (arith, c.requires.4))), omega (arith, inside.low, c.requires.2, c.requires.5), omega (arith, inside.low, inside.onward, inside.within))

pub written_value-written-requires : goal.written_value-written-requires
written_value-written-requires c =
    let inside = c.span_in-span.ensures in
    let seen = c.relative_from-seen.ensures in
    let g = c.args in
    let skipped = 8 * g.h + c.span_in-span.result.first - g.address % 8 in record {
      bounds = (c.requires.0, c.requires.1, omega (arith, inside.low, c.requires.2, c.requires.5), omega (arith, inside.low, inside.onward, inside.within), inside.data_within (written_from (meant g.kind)) (written_few (meant g.kind)) c.requires.4);
      seen_is = λ i l. seen i l ∙ ap (λ (at : ℕ). relative_bit g.bytes.now g.count g.«data».now at (g.address + skipped) c.span_in-span.result.count i) (let z : 16 * g.w.0 + skipped ≡ 16 * g.w.0 + (0 + skipped) = omega arith in z);
    }

pub returns : goal.returns
returns c =
    let inside = c.span_in-span.ensures in
    let g = c.args in
    let skipped = 8 * g.h + c.span_in-span.result.first - g.address % 8 in
    let n = c.span_in-span.result.count in
    let here = relative_bit g.bytes.now g.count g.«data».now in
    let from = written_from (meant g.kind) in (
      λ i l. c.bits_from-bits.ensures i l ∙ covered_part g.address g.size g.h inside i l,
      λ i l. c.relative_from-seen.ensures i l ∙ ap (λ (at : ℕ). here at (g.address + skipped) n i) (let z : 16 * g.w.0 + skipped ≡ 16 * g.w.0 + 0 + skipped = omega arith in z)
          ∙ relative_part g.address g.size g.h inside i l g.bytes.now g.count g.«data».now (16 * g.w.0 + 0),
      λ i l. c.written_value-written.ensures i l ∙ ap (λ (at : ℕ). here at (g.address + skipped) n i) (let z : 16 * g.w.0 + (from + skipped) ≡ 16 * g.w.0 + from + skipped = omega arith in z)
          ∙ relative_part g.address g.size g.h inside i l g.bytes.now g.count g.«data».now (16 * g.w.0 + from),
    )
