-- The record that stands first, or the empty part of the left one.
use mathlib.Core.Path.{sym, ap, ◌∙◌}
use Rattle.record_compare.specs.Compared.{handed_meant}
use Rattle.record_compare.proofs.CompareLaws.{left_handed, right_handed, none_handed}
use Rattle.record_compare.proofs.first.Goals as goal

pub returns-in-Left : goal.returns-in-Left
returns-in-Left c = left_handed c.args.left.now c.args.right.now (ap handed_meant (sym c.in-Left.is) ∙ c.stands_first.ensures)

pub returns-in-Right : goal.returns-in-Right
returns-in-Right c = right_handed c.args.left.now c.args.right.now (ap handed_meant (sym c.in-Right.is) ∙ c.stands_first.ensures)

pub returns-in-Empty : goal.returns-in-Empty
returns-in-Empty c = none_handed c.args.left.now c.args.right.now (ap handed_meant (sym c.in-Empty.is) ∙ c.stands_first.ensures)
