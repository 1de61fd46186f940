-- Every line of the access has the number of the first.
use Prim.Native.Nat.{◌+◌, ◌/◌}
use mathlib.Core.Path.{◌∙◌}
use lib.ListN.{get_or}
use lib.Dec.{eqb}
use Rattle.std.proofs.Common.{rules}
use Rattle.base.proofs.Chains.{all_range}
use Rattle.model.specs.Execution.{WC, attribute_number}
use Rattle.record_decoded.specs.Decoded.{attributes_of}
use Rattle.record_programs.proofs.EntryLaws.{lines_by_index}
use Rattle.record_programs.proofs.one_attribute.Goals as goal

pub returns : goal.returns
returns c =
    let a = c.args in
    let lines = attributes_of a.lines in
    let first = c.wide-first.result / 8 in
    let n = (c.wide.result + 7) / 8 in
    let number = c.number_at_line.result in
    c.lines_alike.ensures
    ∙ all_range (λ i. eqb (attribute_number (get_or lines (first + i) WC)) number) n
    ∙ lines_by_index lines a.size a.address first n number (search rules) (search rules) (search rules)
