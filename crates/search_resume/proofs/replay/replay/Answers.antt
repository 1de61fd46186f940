-- Each turn tests one entry and makes what is kept of one more.
use Rattle.search_resume.proofs.ReplayLaws.{entry_low, replay_closed, replay_refused, replay_more}
use native.Mathlib.Omega.{arith}
use Rattle.search_resume.proofs.replay.replay.Goals as goal

pub has-requires : goal.has-requires
has-requires c =
    let inv = c.loop-j.invariant in omega (arith, inv.few, entry_low inv c.wide-x.result c.loop-j-test.true c.wide-x.ensures.0)

pub returns-then-not-has : goal.returns-then-not-has
returns-then-not-has c = replay_closed c.loop-j.invariant c.wide-x.result c.loop-j-test.true c.wide-x.ensures.0 c.has.ensures c.if-not-has.true

pub enter-requires : goal.enter-requires
enter-requires c =
    let inv = c.loop-j.invariant in
    (omega (arith, inv.few, inv.room, c.loop-j-test.true), omega (arith, inv.few, entry_low inv c.wide-x.result c.loop-j-test.true c.wide-x.ensures.0), inv.long, inv.wide)

pub returns-then-not-enter : goal.returns-then-not-enter
returns-then-not-enter c =
    replay_refused c.loop-j.invariant c.wide-x.result c.loop-j-test.true c.wide-x.ensures.0 c.has.ensures c.enter.ensures c.if-not-enter.true

pub loop-j-preserved : goal.loop-j-preserved
loop-j-preserved c =
    replay_more c.loop-j.invariant c.wide-x.result c.loop-j-test.true c.wide-x.ensures.0 c.has.ensures c.enter.ensures c.if-not-has.false c.if-not-enter.false c.requires.kept.4
