-- A store that may give the byte does not begin after it.
use Rattle.std.proofs.Common.{rules}
use Rattle.judge_sights.proofs.SightLaws.{gives_from}
use Rattle.judge_sights.proofs.Sight.latest_with.Goals as goal

pub overflow_sub-k : goal.overflow_sub-k
overflow_sub-k c =
    let s = c.args.self.now in
    gives_from s.instructions.now s.load.0 s.address c.args.local c.args.w.0 c.address_of.result c.address_of.ensures.0 (search rules)
