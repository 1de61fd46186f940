-- Less than a word is left, or a word and more.
use mathlib.Core.Path.{refl}
use Rattle.search_rows.proofs.LineLaws.{span_part, span_all}
use Rattle.search_rows.proofs.words.span_in.Goals as goal

pub returns-then-left-lt8 : goal.returns-then-left-lt8
returns-then-left-lt8 c =
    span_part c.args.place c.args.size c.args.h c.requires.0 c.requires.1 c.requires.2 c.above-first.ensures c.above-left.ensures c.if-left-lt8.true c.above-count.ensures

pub returns-else-left-lt8 : goal.returns-else-left-lt8
returns-else-left-lt8 c =
    span_all c.args.place c.args.size c.args.h c.requires.0 c.requires.1 c.requires.2 c.above-first.ensures c.above-left.ensures c.if-left-lt8.false refl
