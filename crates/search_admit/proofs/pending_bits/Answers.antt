-- The missing stores, one after the other: a bit is set where one of them wrote it.
use Rattle.search_admit.proofs.TestLaws.{stands_local}
use Rattle.search_admit.specs.Rows.{writes_bit}
use Rattle.search_sets.proofs.Bit.{has_or}
use Rattle.search_sets.proofs.Loops.{passes_more, passes_all}
use mathlib.Core.Bool.{◌&&◌}
use mathlib.Core.Path.{◌∙◌}
use Rattle.search_admit.proofs.pending_bits.Goals as goal

pub loop-m-preserved : goal.loop-m-preserved
loop-m-preserved c =
    let a = c.args in (
      tt,
      tt,
      λ i. passes_more c.in-Some.ensures.steps (λ k. stands_local a.rows.now a.stand.lo a.stand.hi k && writes_bit a.rows.now a.word k i)
          _ (has_or c.loop-m.bits c.bits_of-bits.result i) (c.bits_of-bits.ensures i) ∙ c.loop-m.invariant.2 i,
    )

pub returns : goal.returns
returns c =
    let a = c.args in
    λ i. passes_all _ _ c.in-None.ensures.steps (λ k. stands_local a.rows.now a.stand.lo a.stand.hi k && writes_bit a.rows.now a.word k i) ∙ c.loop-m.invariant.2 i
