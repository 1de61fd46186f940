-- Head, programs and pairs, put one behind the other in the order of the keys, are the smallest form.
use native.Mathlib.Omega.{arith}
use Rattle.record_form.proofs.LocatedLaws.{few}
use Rattle.record_form.proofs.FormLaws.{order_is, programs_fit, count_fits, pairs_fit, all_put, form_put}
use Rattle.record_form.proofs.form.put_form.Goals as goal

pub starts_of-starts-requires : goal.starts_of-starts-requires
starts_of-starts-requires c =
    let small = few c.args.bytes.now c.args.x c.requires.0 in
    (small.processors_few, small.lines_few, small.instructions_few)

pub sorted_processors-order-requires : goal.sorted_processors-order-requires
sorted_processors-order-requires c = (c.requires.0, c.starts_of-starts.ensures)

pub put_head-next-requires : goal.put_head-next-requires
put_head-next-requires c = c.requires

pub put_programs-next-requires : goal.put_programs-next-requires
put_programs-next-requires c =
    let a = c.args in
    let sorts = c.sorted_processors-order in
    (c.requires.0, c.starts_of-starts.ensures, order_is a.bytes.now a.x sorts.result c.requires.0 sorts.ensures.0, programs_fit a.bytes.now a.x sorts.result c.requires.0 sorts.ensures.0 c.requires.1 c.put_head-next.ensures)

pub overflow_cast-out : goal.overflow_cast-out
overflow_cast-out c = omega (arith, (few c.args.bytes.now c.args.x c.requires.0).pairs_few)

pub bounds-out-next : goal.bounds-out-next
bounds-out-next c =
    let a = c.args in
    let sorts = c.sorted_processors-order in
    count_fits a.bytes.now a.x sorts.result c.requires.0 sorts.ensures.0 c.requires.1 c.put_head-next.ensures c.put_programs-next.ensures

pub overflow_add-next : goal.overflow_add-next
overflow_add-next c =
    let a = c.args in
    let sorts = c.sorted_processors-order in
    omega (arith, count_fits a.bytes.now a.x sorts.result c.requires.0 sorts.ensures.0 c.requires.1 c.put_head-next.ensures c.put_programs-next.ensures, c.put_programs-next.ensures.long, c.put_head-next.ensures.long, c.requires.1)

pub put_pairs-requires : goal.put_pairs-requires
put_pairs-requires c =
    let a = c.args in
    let sorts = c.sorted_processors-order in
    (c.requires.0, c.starts_of-starts.ensures, order_is a.bytes.now a.x sorts.result c.requires.0 sorts.ensures.0, pairs_fit a.bytes.now a.x sorts.result c.requires.0 sorts.ensures.0 c.requires.1 c.put_head-next.ensures c.put_programs-next.ensures)

pub shape_of-out : goal.shape_of-out
shape_of-out c =
    let a = c.args in
    let sorts = c.sorted_processors-order in
    (all_put a.bytes.now a.x sorts.result c.requires.0 sorts.ensures.0 c.requires.1 c.put_head-next.ensures c.put_programs-next.ensures c.put_pairs.ensures).long

pub returns : goal.returns
returns c =
    let a = c.args in
    let sorts = c.sorted_processors-order in
    form_put a.bytes.now a.x sorts.result c.requires.0 sorts.ensures.0 c.requires.1 c.put_head-next.ensures c.put_programs-next.ensures c.put_pairs.ensures
