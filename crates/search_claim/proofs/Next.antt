-- The walk gives the next consistent prefix.
use Rattle.model.specs.Execution.{Execution}
use Rattle.model.specs.Rules.{rules, consistent}
use Rattle.model.proofs.Accepted.{read_accepted}
use Rattle.model.proofs.Consistent.{keeps_shorter}
use Rattle.record_decoded.specs.Decoded.{execution_of}
use Rattle.search_walk.specs.Walks.{Closed}
use Rattle.search_meaning.proofs.Meaning.{tested}
use Rattle.search_claim.specs.NextPrefix.{NextPrefix}

consistent_closed : (e : Execution) → Closed (consistent e)
unfolding consistent
consistent_closed e xs x h = keeps_shorter xs x (rules e) h

pub next_prefix : NextPrefix
next_prefix bytes x t marks rows xs r position places levels words replaced from =
    from.walked.means (consistent (execution_of bytes x))
    (tested {t = record { bytes = bytes; execution = x; operations = t; marks = marks; rows = rows }} from.rows_mean (read_accepted bytes (execution_of bytes x) from.accepted))
    (consistent_closed (execution_of bytes x)) from.consists
