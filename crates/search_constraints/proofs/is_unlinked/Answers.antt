-- No mark that a link asks for.
use borrow.Author.Tests.{eqb-true}
use mathlib.Core.Path.{sym, ◌∙◌}
use lib.Bits.{bit_and, and_mask}
use Rattle.search_constraints.proofs.RemoteLaws.{no_mark_below, no_mark_to_remote}
use Rattle.search_constraints.proofs.is_unlinked.Goals as goal

pub returns-then-role-lt-ROLE_RV : goal.returns-then-role-lt-ROLE_RV
returns-then-role-lt-ROLE_RV c = λ h. let g = c.args in no_mark_below g.marks g.role (sym (and_mask g.marks 7) ∙ eqb-true (bit_and g.marks 127) 0 h)

pub returns-else-role-lt-ROLE_RV : goal.returns-else-role-lt-ROLE_RV
returns-else-role-lt-ROLE_RV c = λ h. let g = c.args in no_mark_to_remote g.marks g.role c.if-role-lt-ROLE_RV.false (sym (and_mask g.marks 4) ∙ eqb-true (bit_and g.marks 15) 0 h)
