-- Bytes written over by zeros are bytes cleared.
use Prim.Native.Nat.{ℕ, zero, suc, ◌+◌, ◌-◌, ◌≤◌, ◌<◌}
use native.Mathlib.Omega.{arith}
use mathlib.Core.Path.{◌≡◌, sym, ap, ◌∙◌}
use mathlib.Core.Bool.{true}
use mathlib.Core.List.{List, [], ◌∷◌, ◌++◌}
use lib.ListN.{length, set, replicate, length-replicate}
use lib.Seq.{paste, paste-zero, paste-suc}
use Rattle.std.proofs.lemmas.List.{get_or-replicate}
use lib.Dec.{ltb}
use borrow.Author.Tests.{ltb-true}
use Rattle.base.specs.Lists.{all, count}
use Rattle.base.proofs.Lists.{all_member, in_count, count_more}
use Rattle.model.specs.SolversCopy.{zeroed}
use Rattle.record_seen.proofs.Zeroed.{zeroed_length, zeroed_none, zeroed_append, zeroed_one}

-- some bytes that may be cleared end within the whole
pub ends_within : (at n m : ℕ) → 0 < n → all (λ k. ltb k m) (count at n) ≡ true → at + n ≤ m
ends_within at n m some within =
    let last : at + (n - 1) < m = ltb-true (at + (n - 1)) m (all_member (λ k. ltb k m) (in_count at n (at + (n - 1)) (omega arith) (omega arith)) within) in
    omega (arith, last)

-- the first j of n zeros written over the bytes from `at` on
pub over : (l : List ℕ) (at n j : ℕ) → at + n ≤ length l → j ≤ n → paste l at (replicate n 0) j ≡ zeroed (count at j) l
unfolding count
over l at n zero h few = sym (paste-zero l at (replicate n 0)) ∙ zeroed_none l
over l at n (suc j) h few =
    let so_far = over l at n j h (omega arith) in
    sym (paste-suc l at (replicate n 0) j 0 (omega arith) (omega (arith, length-replicate {A = ℕ} n 0)))
    ∙ ap (set (paste l at (replicate n 0) j) (at + j)) (get_or-replicate n j 0 0 (omega arith))
    ∙ ap (λ (k : List ℕ). set k (at + j) 0) so_far
    ∙ zeroed_one (at + j) (zeroed (count at j) l) (omega (arith, zeroed_length (count at j) l))
    ∙ zeroed_append (count at j) ((at + j) ∷ []) l
    ∙ ap (λ (p : List ℕ). zeroed p l) (sym (count_more at j))
