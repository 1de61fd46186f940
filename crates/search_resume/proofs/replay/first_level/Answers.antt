-- Nothing stands, and what is enabled may follow.
use borrow.Author.Rules.{rules}
use Rattle.search_resume.proofs.ReplayLaws.{levels_none}
use lib.Seq.{get_or-set_same}
use Rattle.search_resume.proofs.replay.first_level.Goals as goal

pub returns : goal.returns
returns c =
    let e = c.first_enabled-enabled in
    levels_none c.args.rows.now _ e.result e.ensures (get_or-set_same c.args.levels.now 0 _ _ (search rules))
