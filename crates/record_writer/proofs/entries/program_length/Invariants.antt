-- Those counted, and those among the entries that are left, are all.
use Rattle.model.specs.Sections.{entries_of}
use Rattle.record_writer.proofs.WalkLaws.{Counting}
use Rattle.record_writer.proofs.entries.program_length.Given as goal

abbrev pub invariant-loop-entry : goal.invariant-loop-entry
invariant-loop-entry l =
    goal.iterator-loop-entry.can_next l.entry-iterator × goal.iterator-loop-entry.is_finite l.entry-iterator
    × Counting l.part l.p l.count (entries_of l.entry-iterator.rest.now)
