-- Each turn writes one operation number.
use mathlib.Core.Path.{◌≡◌}
use mathlib.Core.List.{◌++◌}
use lib.ListN.{length}
use Rattle.model.specs.Verdict.{blank, decimal}
use Rattle.verdict.proofs.TextLaws.{Writing}
use Rattle.verdict.proofs.write_order.Given as goal

abbrev pub invariant-loop-o : goal.invariant-loop-o
invariant-loop-o l = (l.o-index-end ≡ length l.order) × Writing l.initial.out l.at l.order (λ o. blank ++ decimal o) l.o-index l.out l.next
