-- The own RVs by their places; then, for an own RV, the R of its semaphore; then, where both are own RVs, or for an R, the LVs.
use Rattle.search_admit.proofs.TestLaws.{waits_first, waits_not, waits_read, waits_not_own, waits_last}
use Rattle.search_admit.proofs.waits_for.Goals as goal

pub returns-then-before : goal.returns-then-before
returns-then-before c =
    let a = c.args in
    waits_first a.rows.now a.places.now a.x.0 a.m.0 c.field_of-own_m.ensures c.field_of-own_x.ensures c.before-2.ensures c.if-before.true

pub returns-then-own_m-m : goal.returns-then-own_m-m
returns-then-own_m-m c =
    let a = c.args in
    waits_not a.rows.now a.places.now a.x.0 a.m.0 c.field_of-own_m.ensures c.field_of-own_x.ensures c.before-2.ensures c.if-before.false c.if-own_m-m.true

pub returns-then-before-2 : goal.returns-then-before-2
returns-then-before-2 c =
    let a = c.args in
    waits_read a.rows.now a.places.now a.x.0 a.m.0 c.field_of-own_m.ensures c.field_of-own_x.ensures c.before-2.ensures c.if-before.false c.if-own_m-m.false c.field_of-read_m.ensures c.before-3.ensures c.if-before-2.true

pub returns-then-own_x-x : goal.returns-then-own_x-x
returns-then-own_x-x c =
    let a = c.args in
    waits_not_own a.rows.now a.places.now a.x.0 a.m.0 c.field_of-own_m.ensures c.field_of-own_x.ensures c.before-2.ensures c.if-before.false c.if-own_m-m.false c.field_of-read_m.ensures c.before-3.ensures c.if-before-2.false c.if-own_x-x.true

pub returns : goal.returns
returns c =
    let a = c.args in
    waits_last a.rows.now a.places.now a.x.0 a.m.0 c.field_of-own_m.ensures c.field_of-own_x.ensures c.before-2.ensures c.if-before.false c.if-own_m-m.false c.field_of-read_m.ensures c.before-3.ensures c.if-before-2.false c.if-own_x-x.false
    c.field_of-local_m.ensures c.field_of-local_x.ensures c.before-4.ensures
