-- An LV, or an RV.
use Rattle.search_rows.proofs.RowLaws.{writing_LV, writing_by}
use Rattle.search_rows.proofs.row.is_writing.Goals as goal

pub returns-then-role-eq-ROLE_LV : goal.returns-then-role-eq-ROLE_LV
returns-then-role-eq-ROLE_LV c = writing_LV c.args.role c.if-role-eq-ROLE_LV.true

pub returns-else-role-eq-ROLE_LV : goal.returns-else-role-eq-ROLE_LV
returns-else-role-eq-ROLE_LV c = writing_by c.args.role c.if-role-eq-ROLE_LV.false
