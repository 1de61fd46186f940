-- Each turn makes the words of one line of one instruction.
use Prim.Native.Nat.{ℕ, ◌+◌, ◌*◌, ◌/◌, ◌%◌, ◌≤◌, ◌<◌}
use mathlib.Core.Path.{◌≡◌}
use lib.ListN.{get_or}
use Rattle.base.specs.Bits.{bit}
use Rattle.base.proofs.Entries.{Entered}
use Rattle.model.specs.Execution.{kind_of}
use Rattle.model.specs.Questions.{written_from}
use Rattle.search_rows.specs.Lent.{covered_bit, relative_bit}
use Rattle.search_rows.proofs.words.put_words.Given as goal

abbrev pub invariant-loop-j : goal.invariant-loop-j
invariant-loop-j l =
    (l.all ≡ 2 * l.n) × (l.j ≤ l.all)
    × Entered 80 0 (λ v a. (i : ℕ) → i < 64 → bit a i ≡ covered_bit (get_or l.addresses (v / 2) 0) (get_or l.sizes (v / 2) 0) (64 * (v % 2) + i)) l.j l.bits
    × Entered 80 0 (λ v a. (i : ℕ) → i < 64 → bit a i ≡ relative_bit l.bytes l.count l.data (16 * (v / 2) + 0) (get_or l.addresses (v / 2) 0) (get_or l.sizes (v / 2) 0) (64 * (v % 2) + i)) l.j l.seen
    × Entered 80 0 (λ v a. (i : ℕ) → i < 64 → bit a i ≡ relative_bit l.bytes l.count l.data (16 * (v / 2) + written_from (kind_of (get_or l.kinds (v / 2) 0))) (get_or l.addresses (v / 2) 0) (get_or l.sizes (v / 2) 0) (64 * (v % 2) + i)) l.j l.written
