-- The questions in turn, then the record.
use mathlib.Core.Path.{◌∙◌}
use Rattle.std.proofs.Common.{rules}
use Rattle.model.specs.Calls.{record_reply}
use Rattle.model.specs.Sections.{sections_from}
use Rattle.record_sections.proofs.Sections.{lines_cut_off, instructions_cut_off, pairs_cut_off, none_cut_off}
use Rattle.record_writer.proofs.ReplyLaws.{call_23, call_24, call_record}
use Rattle.record_writer.proofs.write.Goals as goal
use Rattle.record_writer.proofs.write.Goals.{then-lines-ne0-via-then-lines-ne0, then-lines-ne0-via-else-lines-ne0+then-not-all_whole, then-lines-ne0-via-else-lines-ne0+else-not-all_whole+then-pairs-ne0}

pub returns-then-lines-ne0 : goal.returns-then-lines-ne0
unfolding record_reply
returns-then-lines-ne0 c =
    let a = c.args in
    let s = sections_from a.processors a.lines.now a.instructions.now a.pairs.now in
    elim c.then-lines-ne0.branch [
      | then-lines-ne0-via-then-lines-ne0 w ↦ call_23 s a.buffer.now (lines_cut_off s (search rules))
      | then-lines-ne0-via-else-lines-ne0+then-not-all_whole w ↦ call_23 s a.buffer.now (instructions_cut_off s (search rules))
      | then-lines-ne0-via-else-lines-ne0+else-not-all_whole+then-pairs-ne0 w ↦ call_23 s a.buffer.now (pairs_cut_off s (search rules))
    ]

pub returns-then-not-all_below : goal.returns-then-not-all_below
unfolding record_reply
returns-then-not-all_below c =
    let a = c.args in
    let s = sections_from a.processors a.lines.now a.instructions.now a.pairs.now in
    call_24 s a.buffer.now (none_cut_off s (search rules) (search rules) (search rules)) (search rules)

pub write_record-requires : goal.write_record-requires
write_record-requires c =
    let a = c.args in
    none_cut_off (sections_from a.processors a.lines.now a.instructions.now a.pairs.now) (search rules) (search rules) (search rules)

pub returns : goal.returns
returns c =
    let a = c.args in
    let s = sections_from a.processors a.lines.now a.instructions.now a.pairs.now in
    c.write_record.ensures ∙ call_record s a.buffer.now (none_cut_off s (search rules) (search rules) (search rules)) (search rules)
