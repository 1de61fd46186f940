-- Of a longer input the first 1,024 bytes, else all.
use Rattle.verdict.proofs.LineLaws.{first_bytes}
use Rattle.verdict.proofs.record_of.Goals as goal

pub returns : goal.returns
returns c = first_bytes c.min.result c.args.input.now c.min.ensures
