-- What is put, and what is left, make the whole.
use Rattle.model.specs.Sections.{entries_of}
use Rattle.record_writer.proofs.EntryLaws.{Putting}
use Rattle.record_writer.proofs.entries.put_entries.Given as goal

abbrev pub invariant-loop-entry : goal.invariant-loop-entry
invariant-loop-entry l =
    goal.iterator-loop-entry.can_next l.entry-iterator × goal.iterator-loop-entry.is_finite l.entry-iterator
    × Putting l.initial.out l.at l.part l.p l.out l.next (entries_of l.entry-iterator.rest.now)
