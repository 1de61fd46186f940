-- Each turn tests one entry and makes what is kept of one more.
use Rattle.search_resume.proofs.ReplayLaws.{Replaying}
use Rattle.search_resume.proofs.replay.replay.Given as goal

abbrev pub invariant-loop-j : goal.invariant-loop-j
invariant-loop-j l =
    Replaying l.n l.rows l.size l.entries l.places l.levels l.words l.replaced l.j
