-- The attribute goes to the next place of its array, and the initial bytes stand where the next line's do: one line more.
use native.Mathlib.Omega.{arith}
use Prim.Native.Nat.{ℕ}
use mathlib.Core.Path.{◌≡◌, refl, sym, ap}
use lib.ListN.{length, set}
use Rattle.std.proofs.Common.{rules}
use Rattle.record_lines.proofs.LineLaws.{line_more}
use Rattle.record_lines.proofs.with_line.Goals as goal

pub returns-clause-holds : goal.returns-clause-holds
returns-clause-holds c = λ part e.
    let x = c.args.x in
    let long : length x.attributes ≡ 8 = search rules in
    line_more x _ part _ (omega arith) refl long refl (ap (λ (a : ℕ). set x.attributes x.count a) (sym e))
