-- By the count of pairs: too many, or the count and the pairs.
use native.Mathlib.Omega.{arith}
use Rattle.record_writer.proofs.RecordLaws.{pairs_many, pairs_room, pairs_few}
use Rattle.record_writer.proofs.compose.put_pairs.Goals as goal

pub returns-then-n : goal.returns-then-n
returns-then-n c = pairs_many c.args.pairs.now c.if-n.true c.requires.0

pub copy_bytes-requires : goal.copy_bytes-requires
copy_bytes-requires c =
    let a = c.args in
    (pairs_room a.out.now a.at a.pairs.now c.if-n.false c.requires.1 c.requires.0, omega arith)

pub overflow_add-result-2 : goal.overflow_add-result-2
overflow_add-result-2 c = omega arith

pub overflow_add-result-3 : goal.overflow_add-result-3
overflow_add-result-3 c = omega arith

pub shape_of-out : goal.shape_of-out
shape_of-out c =
    let a = c.args in
    (pairs_few {x = a.out.now} a.pairs.now c.if-n.false c.requires.1 c.requires.0 c.copy_bytes.ensures).long

pub returns : goal.returns
returns c =
    pairs_few c.args.pairs.now c.if-n.false c.requires.1 c.requires.0 c.copy_bytes.ensures
