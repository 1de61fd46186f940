-- Nothing is left, or the entry at the front is taken off.
use Rattle.std.proofs.Common.{rules}
use Rattle.record_writer.proofs.WalkLaws.{none_left, entry_taken, fewer_left}
use Rattle.record_writer.proofs.entries.EntriesIterator.next.Goals as goal

pub returns-then-is_empty-clause-steps : goal.returns-then-is_empty-clause-steps
returns-then-is_empty-clause-steps c =
    let none = none_left c.args.self.now.rest.now (search rules) in
    (none, none)

pub returns-clause-steps : goal.returns-clause-steps
returns-clause-steps c =
    let taken = entry_taken c.args.self.now.rest.now (search rules) c.min-n.result (search rules) in
    search rules

pub returns-clause-goes : goal.returns-clause-goes
returns-clause-goes c =
    let fewer = fewer_left c.args.self.now.rest.now (search rules) c.min-n.result (search rules) in
    record { on = λ h. (tt, tt, search rules); keeps = tt; rests = λ h. tt }
