-- The words passed are as recorded; the first that is not decides.
use mathlib.Core.Path.{ap}
use mathlib.Core.Bool.{not}
use native.Mathlib.Omega.{arith}
use Rattle.base.proofs.Tests.{starts, turns, stops, ends}
use Rattle.search_admit.proofs.TestLaws.{word_is, reads_all}
use borrow.Author.Rules.{rules}
use Rattle.search_admit.proofs.reads_words.Goals as goal

pub loop-h-init : goal.loop-h-init
loop-h-init c = (c.words_read-n.ensures.1, starts)

pub local_bits-local-requires : goal.local_bits-local-requires
local_bits-local-requires c = (search rules, c.word_of-visible.ensures.0)

pub returns-then-not-reads_word : goal.returns-then-not-reads_word
returns-then-not-reads_word c =
    let a = c.args in
    let l = c.loop-h in
    reads_all a.rows.now a.words.now a.stand.lo a.stand.hi a.x.0 c.words_read-n.ensures.0
    (stops l.invariant.1 c.loop-h-test.true
    (word_is a.rows.now a.words.now a.stand.lo a.stand.hi a.x.0 l.h _ c.reads_word.ensures c.local_bits-local.ensures) (ap not c.if-not-reads_word.true))

pub loop-h-smaller : goal.loop-h-smaller
loop-h-smaller c = omega (arith, c.loop-h-test.true)

pub loop-h-preserved : goal.loop-h-preserved
loop-h-preserved c =
    let a = c.args in
    let l = c.loop-h in (
      l.invariant.0,
      turns l.invariant.1 c.loop-h-test.true
          (word_is a.rows.now a.words.now a.stand.lo a.stand.hi a.x.0 l.h _ c.reads_word.ensures c.local_bits-local.ensures) (ap not c.if-not-reads_word.false),
    )

pub returns : goal.returns
returns c =
    let a = c.args in
    reads_all a.rows.now a.words.now a.stand.lo a.stand.hi a.x.0 c.words_read-n.ensures.0 (ends c.loop-h.invariant.1 c.loop-h-test.false)
