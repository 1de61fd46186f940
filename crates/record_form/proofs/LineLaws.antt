-- Which lines are touched, and the lines of a record as they are taken.
use Prim.Native.Nat.{ℕ, ◌+◌, ◌/◌, ◌≤◌, ◌<◌}
use native.Mathlib.Omega.{arith}
use mathlib.Core.Path.{◌≡◌, sym}
use mathlib.Core.Bool.{Bool, false}
use lib.ListN.{get_or}
use lib.Dec.{ltb}
use borrow.Author.Tests.{lt-ltb, ltb-true}
use Rattle.base.specs.Lists.{count, member}
use Rattle.base.specs.Below.{any_below}
use Rattle.base.proofs.Bools.{agree, is_false}
use Rattle.base.proofs.Lists.{in_count, of_count, member_in, in_member}
use Rattle.base.proofs.Tests.{any_numbered}
use Rattle.model.specs.Execution.{lines_from}
use Rattle.model.specs.Renumbering.{touched}
use Rattle.record_decoded.specs.declared.types.Instructions.{Instructions}
use Rattle.record_decoded.specs.Decoded.{instruction_at, instructions_of}

-- an access of so many bytes at an address, as the numbers a and s, and a line of it
pub touches_from : {a s : ℕ} (address size line : ℕ) → a ≡ address → s ≡ size → a / 8 ≤ line → ltb line (a / 8 + (s + 7) / 8) ≡ member (lines_from address size) line
unfolding lines_from
touches_from {a} {s} address size line ea es low =
    agree (ltb line (a / 8 + (s + 7) / 8)) (member (count (address / 8) ((size + 7) / 8)) line)
    (λ h. in_member (in_count (address / 8) ((size + 7) / 8) line (omega arith) (omega (arith, ltb-true line (a / 8 + (s + 7) / 8) h))))
    (λ h. lt-ltb line (a / 8 + (s + 7) / 8) (omega (arith, of_count (address / 8) ((size + 7) / 8) (member_in (count (address / 8) ((size + 7) / 8)) line h))))

pub touches_not : {a : ℕ} (address size line : ℕ) → a ≡ address → line < a / 8 → false ≡ member (lines_from address size) line
unfolding lines_from
touches_not {a} address size line ea high =
    sym (is_false (member (count (address / 8) ((size + 7) / 8)) line) (λ h.
    omega (arith, of_count (address / 8) ((size + 7) / 8) (member_in (count (address / 8) ((size + 7) / 8)) line h))))

-- an instruction touches a line, by its number
abbrev pub touches_at : Instructions → ℕ → ℕ → Bool
touches_at x line k = member (lines_from (get_or x.addresses k 0) (get_or x.sizes k 0)) line

pub touched_numbered : (x : Instructions) (line : ℕ) → any_below x.count (touches_at x line) ≡ touched (instructions_of x) line
unfolding touched instructions_of instruction_at
touched_numbered x line = sym (any_numbered (λ i. member (lines_from i.address i.size) line) (instruction_at x) x.count)
