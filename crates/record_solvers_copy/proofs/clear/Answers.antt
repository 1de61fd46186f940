-- No byte, or all of them at once.
use native.Mathlib.Omega.{arith}
use Prim.Native.Nat.{ℕ, ◌+◌, ◌-◌}
use mathlib.Core.Path.{◌≡◌, sym, ap, ◌∙◌}
use Rattle.std.proofs.Common.{rules}
use Rattle.std.proofs.lemmas.Slice.{put_mid-paste}
use lib.ListN.{length, replicate, length-replicate}
use Rattle.base.specs.Lists.{count}
use Rattle.model.specs.SolversCopy.{zeroed}
use Rattle.record_seen.proofs.Zeroed.{zeroed_none}
use Rattle.record_solvers_copy.proofs.ClearLaws.{ends_within, over}
use Rattle.record_solvers_copy.proofs.clear.Goals as goal

pub overflow_add-at : goal.overflow_add-at
overflow_add-at c =
    let a = c.args in
    omega (arith, ends_within a.at a.n (length a.bytes.now) c.if-n-gt0.true c.requires)

pub slice_bounds-fill-end : goal.slice_bounds-fill-end
slice_bounds-fill-end c =
    let a = c.args in
    let ends = ends_within a.at a.n (length a.bytes.now) c.if-n-gt0.true c.requires in
    search rules

pub returns-then-n-gt0 : goal.returns-then-n-gt0
returns-then-n-gt0 c =
    let a = c.args in
    let l = a.bytes.now in
    let zeros : c.fill.new.self ≡ replicate a.n 0 = search rules in
    put_mid-paste a.at (a.at + a.n - a.at) l c.fill.new.self (replicate a.n 0) a.n zeros (omega arith) (sym (length-replicate {A = ℕ} a.n 0))
    ∙ over l a.at a.n a.n (ends_within a.at a.n (length l) c.if-n-gt0.true c.requires) (omega arith)

pub returns-else-n-gt0 : goal.returns-else-n-gt0
unfolding count
returns-else-n-gt0 c =
    let none : 0 ≡ c.args.n = search rules in
    zeroed_none c.args.bytes.now ∙ ap (λ (n : ℕ). zeroed (count c.args.at n) c.args.bytes.now) none
