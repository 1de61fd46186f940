-- Each turn writes one operation number.
use native.Mathlib.Omega.{arith}
use Prim.Native.Nat.{ℕ}
use mathlib.Core.Path.{refl, ap}
use mathlib.Core.List.{◌++◌}
use Rattle.std.proofs.Common.{rules}
use Rattle.model.specs.Verdict.{blank, decimal}
use Rattle.verdict.proofs.TextLaws.{appends_same, writes_start, writes_turn, writes_end}
use Rattle.verdict.proofs.write_order.Goals as goal

pub loop-o-init : goal.loop-o-init
loop-o-init c = (refl, writes_start)

pub loop-o-preserved : goal.loop-o-preserved
loop-o-preserved c = (
  refl,
  writes_turn c.loop-o.invariant.1 (omega arith) c.write_number-next.auto.out
      (appends_same (ap (λ (n : ℕ). blank ++ decimal n) (search rules)) c.write_number-next.ensures),
)

pub returns : goal.returns
returns c = writes_end c.loop-o.invariant.1 (omega arith)
