-- An LV, neither, and an RV.
use mathlib.Core.Path.{◌∙◌}
use Rattle.search_rows.proofs.RowLaws.{word_LV, word_none, word_RV}
use Rattle.search_rows.proofs.row.word_of.Goals as goal

pub returns-then-role-eq-ROLE_LV : goal.returns-then-role-eq-ROLE_LV
returns-then-role-eq-ROLE_LV c w =
    let a = c.args in
    c.own_at.ensures.0 ∙ word_LV a.role a.processor a.line c.if-role-eq-ROLE_LV.true w

pub returns-then-role-lt-ROLE_RV : goal.returns-then-role-lt-ROLE_RV
returns-then-role-lt-ROLE_RV c =
    let a = c.args in
    word_none a.role a.processor a.line c.if-role-eq-ROLE_LV.false c.if-role-lt-ROLE_RV.true

pub returns : goal.returns
returns c w =
    let a = c.args in
    c.visible_at.ensures.0 ∙ word_RV a.role a.processor a.line c.if-role-eq-ROLE_LV.false c.wide.ensures.0 w
