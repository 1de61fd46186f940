-- Each way out is one answer of the instruction's questions.
use native.Mathlib.Omega.{arith}
use mathlib.Core.Path.{sym, ◌∙◌}
use Rattle.std.proofs.Common.{rules}
use Rattle.record_decoded.specs.Kinds.{meant}
use Rattle.record_decoded.specs.Decoded.{attributes_of}
use Rattle.base.proofs.Copies.{rest}
use Rattle.record_decoded.proofs.Arrays.{attributes_length}
use Rattle.record_programs.proofs.EntryLaws.{entry_short, entry_kind, entry_size, entry_cut, entry_address, entry_line, entry_lines, entry_data, entry_passes, entry_is}
use Rattle.record_programs.proofs.read_entry.Goals as goal

pub split_at-requires : goal.split_at-requires
split_at-requires c = omega arith

pub returns-then-part-lt-ENTRY_LENGTH-clause-walked : goal.returns-then-part-lt-ENTRY_LENGTH-clause-walked
returns-then-part-lt-ENTRY_LENGTH-clause-walked c = λ processors p done.
    entry_short c.args.part.now (attributes_of c.args.lines) c.args.lines.count (attributes_length c.args.lines) processors p done (search rules)

pub returns-then-k-gt-LAST_KIND-clause-walked : goal.returns-then-k-gt-LAST_KIND-clause-walked
returns-then-k-gt-LAST_KIND-clause-walked c = λ processors p done.
    entry_kind c.args.part.now (attributes_of c.args.lines) c.args.lines.count (attributes_length c.args.lines) processors p done (search rules) (search rules)

pub returns-then-not-size_passes-clause-walked : goal.returns-then-not-size_passes-clause-walked
returns-then-not-size_passes-clause-walked c = λ processors p done.
    entry_size c.args.part.now (attributes_of c.args.lines) c.args.lines.count (attributes_length c.args.lines) processors p done (search rules) (search rules) (meant c.kind_of-kind.result) c.kind_of-kind.ensures (search rules)

pub returns-then-part-length-clause-walked : goal.returns-then-part-length-clause-walked
returns-then-part-length-clause-walked c = λ processors p done.
    entry_cut c.args.part.now (attributes_of c.args.lines) c.args.lines.count (attributes_length c.args.lines) processors p done (search rules) (search rules) (meant c.kind_of-kind.result) c.kind_of-kind.ensures (search rules) (search rules)

pub returns-then-not-address_passes-clause-walked : goal.returns-then-not-address_passes-clause-walked
returns-then-not-address_passes-clause-walked c = λ processors p done.
    entry_address c.args.part.now (attributes_of c.args.lines) c.args.lines.count (attributes_length c.args.lines) processors p done (search rules) (search rules) (meant c.kind_of-kind.result) c.kind_of-kind.ensures (search rules) (search rules) (search rules)

pub returns-then-not-line_passes-clause-walked : goal.returns-then-not-line_passes-clause-walked
returns-then-not-line_passes-clause-walked c = λ processors p done.
    entry_line c.args.part.now (attributes_of c.args.lines) c.args.lines.count (attributes_length c.args.lines) processors p done (search rules) (search rules) (meant c.kind_of-kind.result) c.kind_of-kind.ensures (search rules) (search rules) (search rules) (search rules)

pub returns-then-not-one_attribute-clause-walked : goal.returns-then-not-one_attribute-clause-walked
returns-then-not-one_attribute-clause-walked c = λ processors p done.
    entry_lines c.args.part.now (attributes_of c.args.lines) c.args.lines.count (attributes_length c.args.lines) processors p done (search rules) (search rules) (meant c.kind_of-kind.result) c.kind_of-kind.ensures (search rules) (search rules) (search rules) (search rules) (sym c.one_attribute.ensures ∙ c.if-not-one_attribute.true)

pub returns-then-not-data_passes-clause-walked : goal.returns-then-not-data_passes-clause-walked
returns-then-not-data_passes-clause-walked c = λ processors p done.
    let behind = rest 3 c.split_at.result.0.now in
    entry_data c.args.part.now (attributes_of c.args.lines) c.args.lines.count (attributes_length c.args.lines) processors p done (search rules) (search rules) (meant c.kind_of-kind.result) c.kind_of-kind.ensures (search rules) (search rules) (search rules) (search rules) (search rules) (search rules)

pub returns-clause-walked : goal.returns-clause-walked
returns-clause-walked c = λ processors p done.
    let behind = rest 3 c.split_at.result.0.now in
    let passes = entry_passes c.args.part.now (attributes_of c.args.lines) c.args.lines.count (attributes_length c.args.lines) processors p done (search rules) (search rules) (meant c.kind_of-kind.result) c.kind_of-kind.ensures (search rules) (search rules) (search rules) (search rules) (search rules) (search rules) in
    search rules

pub returns-clause-entry : goal.returns-clause-entry
returns-clause-entry c =
    let entry = entry_is c.args.part.now (meant c.kind_of-kind.result) c.kind_of-kind.ensures (search rules) (search rules) in
    search rules
