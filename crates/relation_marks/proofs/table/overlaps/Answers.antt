-- Where the bytes shared begin before their end.
use Rattle.relation_marks.proofs.MarkLaws.{some_shared}
use Rattle.relation_marks.proofs.table.overlaps.Goals as goal

pub returns : goal.returns
returns c = some_shared _ _ c.shared_bytes-shared.ensures
