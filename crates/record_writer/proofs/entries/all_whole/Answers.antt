-- Each turn takes one entry; where the bytes of the last one are not all there, something is left.
use Prim.Native.Nat.{ℕ}
use native.Mathlib.Omega.{arith}
use mathlib.Core.Path.{◌≡◌, ap, ◌∙◌}
use lib.ListN.{drop}
use Rattle.base.proofs.Copies.{rest}
use Rattle.model.specs.Sections.{section_entry_length, all_whole}
use Rattle.record_writer.proofs.WalkLaws.{whole_behind, whole_ends}
use Rattle.record_writer.proofs.entries.all_whole.Goals as goal

pub loop-rest-preserved : goal.loop-rest-preserved
loop-rest-preserved c =
    let left = c.loop-rest.left.now in
    let found = c.in-Some.ensures.lookup.0 in
    let behind : c.in-Some.rest.now ≡ drop (section_entry_length left) left =
    found.2 ∙ rest c.entry_length.result left ∙ ap (λ (n : ℕ). drop n left) c.entry_length.ensures.0
    in
    ap all_whole behind ∙ whole_behind left (omega (arith, found.0, c.entry_length.ensures.0)) ∙ c.loop-rest.invariant

pub returns : goal.returns
returns c =
    let left = c.loop-rest.left.now in
    c.is_empty.ensures ∙ whole_ends left (omega (arith, c.in_default.ensures.lookup.0, c.entry_length.ensures.0)) ∙ c.loop-rest.invariant
