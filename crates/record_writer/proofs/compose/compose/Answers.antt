-- By the counts of processors and lines: the record is cut behind the one that is too large, or the programs and the pairs follow.
use native.Mathlib.Omega.{arith}
use Rattle.record_writer.proofs.RecordLaws.{record_fails, lines_fail, lines_short, lines_room, programs_asked, record_long, record_ends}
use Rattle.record_writer.proofs.compose.compose.Goals as goal

pub returns-then-processors-gt-MOST_PROCESSORS : goal.returns-then-processors-gt-MOST_PROCESSORS
returns-then-processors-gt-MOST_PROCESSORS c =
    let a = c.args in
    record_fails a.processors a.lines.now a.instructions.now a.pairs.now a.out.now c.requires c.if-processors-gt-MOST_PROCESSORS.true

pub returns-then-n : goal.returns-then-n
returns-then-n c =
    let a = c.args in
    lines_fail a.processors a.lines.now a.instructions.now a.pairs.now a.out.now c.requires c.if-processors-gt-MOST_PROCESSORS.false c.if-n.true

pub copy_bytes-requires : goal.copy_bytes-requires
copy_bytes-requires c =
    let a = c.args in
    (lines_room a.processors a.lines.now a.instructions.now a.pairs.now a.out.now c.requires c.if-processors-gt-MOST_PROCESSORS.false c.if-n.false, omega arith)

pub overflow_add-lines : goal.overflow_add-lines
overflow_add-lines c =
    let a = c.args in
    omega (arith, lines_short a.processors a.lines.now a.instructions.now a.pairs.now a.out.now c.requires c.if-processors-gt-MOST_PROCESSORS.false c.if-n.false)

pub put_programs-requires : goal.put_programs-requires
put_programs-requires c =
    let a = c.args in
    programs_asked a.processors a.lines.now a.instructions.now a.pairs.now a.out.now c.requires c.if-processors-gt-MOST_PROCESSORS.false c.if-n.false c.copy_bytes.ensures

pub shape_of-out : goal.shape_of-out
shape_of-out c =
    let a = c.args in
    record_long a.processors a.lines.now a.instructions.now a.pairs.now a.out.now c.requires c.if-processors-gt-MOST_PROCESSORS.false c.if-n.false c.copy_bytes.ensures c.put_programs.ensures

pub returns : goal.returns
returns c =
    let a = c.args in
    record_ends a.processors a.lines.now a.instructions.now a.pairs.now a.out.now c.requires c.if-processors-gt-MOST_PROCESSORS.false c.if-n.false c.copy_bytes.ensures c.put_programs.ensures
