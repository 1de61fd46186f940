-- With room the byte is stored, without nothing is.
use Rattle.verdict.proofs.TextLaws.{appends_byte, appends_no_room}
use Rattle.verdict.proofs.text.write_byte.Goals as goal

pub returns-then-at-out : goal.returns-then-at-out
returns-then-at-out c = appends_byte _ c.if-at-out.true

pub returns : goal.returns
returns c = appends_no_room _ c.if-at-out.false
