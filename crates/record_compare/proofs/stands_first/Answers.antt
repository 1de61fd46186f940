-- Each answer of the comparison has its record.
use mathlib.Core.Path.{◌≡◌, ap, ◌∙◌}
use Rattle.std.proofs.Common.{rules}
use Rattle.model.specs.Calls.{says, refuses}
use Rattle.model.specs.Renumbering.{equal, left_first, right_first, compare_call, stands_first}
use Rattle.record_decoded.specs.Refusals.{question_number}
use Rattle.record_compare.proofs.CompareLaws.{handed_equal, handed_left, handed_right, handed_none}
use Rattle.record_compare.proofs.stands_first.Goals as goal

pub returns-in-Ok-Equal : goal.returns-in-Ok-Equal
returns-in-Ok-Equal c =
    let told : says equal ≡ compare_call c.args.left.now c.args.right.now = search rules in
    handed_equal ∙ ap stands_first told

pub returns-in-Ok-Less : goal.returns-in-Ok-Less
returns-in-Ok-Less c =
    let told : says left_first ≡ compare_call c.args.left.now c.args.right.now = search rules in
    handed_left ∙ ap stands_first told

pub returns-in-Ok-Greater : goal.returns-in-Ok-Greater
returns-in-Ok-Greater c =
    let told : says right_first ≡ compare_call c.args.left.now c.args.right.now = search rules in
    handed_right ∙ ap stands_first told

pub returns-in-Err : goal.returns-in-Err
returns-in-Err c = handed_none (question_number c.in-Err.field-0) ∙ ap stands_first c.in-Err.ensures
