-- The position is made again; what follows depends on whether it is consistent and whether it is full.
use Rattle.search_resume.proofs.ReplayLaws.{kept_none, replay_told}
use Rattle.search_resume.proofs.Onward.{onward_done}
use Rattle.record_decoded.specs.Positions.{position_of}
use lib.Seq.{length-take-le}
use mathlib.Core.Path.{refl, sym, ◌∙◌}
use native.Mathlib.Omega.{arith}
use borrow.Author.Rules.{rules}
use Rattle.search_resume.proofs.steps.search_from.Goals as goal

pub replay-requires : goal.replay-requires
replay-requires c =
    let pre = c.requires in
    record { kept = (pre.0, pre.1, pre.2, kept_none pre.0 refl (c.first_level.ensures _), pre.4); lengths = (pre.3, refl, search rules) }

pub returns-then-not-replay : goal.returns-then-not-replay
returns-then-not-replay c = replay_told c.replay.ensures c.if-not-replay.true

pub returns-then-length-n : goal.returns-then-length-n
returns-then-length-n c =
    let pre = c.requires in (
      replay_told c.replay.ensures c.if-not-replay.false,
      record {
        comes = λ p tested closed passes. sym (onward_done c.args.n p closed (position_of c.args.given) c.args.allowance (length-take-le c.args.given.length c.args.given.entries (omega (arith, pre.0, pre.1, pre.3)) ∙ c.if-length-n.true));
        bounded = record { short = pre.1; whole = pre.3 };
      },
    )

pub make_steps-requires : goal.make_steps-requires
make_steps-requires c =
    let pre = c.requires in
    let made = c.replay.ensures in
    record { kept = (pre.0, omega (arith, pre.1, c.if-length-n.false), made.kept c.if-not-replay.false, pre.4); lengths = (pre.3, made.long, made.wide) }

pub returns : goal.returns
returns c = (replay_told c.replay.ensures c.if-not-replay.false, c.make_steps.ensures)
