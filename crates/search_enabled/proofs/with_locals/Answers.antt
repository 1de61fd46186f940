-- One store after the other.
use Rattle.base.proofs.Bools.{eqb_swap}
use mathlib.Core.Path.{ap, ◌∙◌}
use Prim.Native.Nat.{ℕ}
use lib.Dec.{eqb}
use Rattle.search_sets.proofs.Loops.{passes_more, passes_all}
use Rattle.search_admit.specs.Rows.{local_of}
use Rattle.search_enabled.proofs.with_locals.Goals as goal

pub loop-m-preserved : goal.loop-m-preserved
loop-m-preserved c = (
  tt,
  tt,
  λ a l. passes_more c.in-Some.ensures.steps (λ m. eqb (local_of c.args.rows.now m) a) _ (c.insert_if-all.ensures a l)
      (eqb_swap a _ ∙ ap (λ (o : ℕ). eqb o a) c.field_of-local.ensures) ∙ c.loop-m.invariant.2 a l,
)

pub returns : goal.returns
returns c = λ a l. passes_all _ _ c.in-None.ensures.steps (λ m. eqb (local_of c.args.rows.now m) a) ∙ c.loop-m.invariant.2 a l
