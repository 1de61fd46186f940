-- The pairs, then question 15.
use Prim.Native.Nat.{ℕ, ◌<◌}
use mathlib.Core.Path.{◌≡◌, sym, ◌∙◌}
use mathlib.Core.Bool.{Bool, true, false}
use mathlib.Core.List.{List}
use Rattle.std.proofs.Common.{rules}
use Rattle.std.specs.Bool.{◌==◌}
use lib.ListN.{length, drop}
use Rattle.record_decoded.specs.Decoded.{lines_of, instructions_of, execution_of}
use Rattle.record_reader.proofs.ReadingLaws.{end_fails, end_more, end_here}
use Rattle.record_reader.proofs.reader.read_end.Goals as goal

some_left : {b : Bool} (l : List ℕ) → b ≡ (length l == 0) → b ≡ false → 0 < length l
some_left l e f = let z : (length l == 0) ≡ false = sym e ∙ f in search rules

none_left : {b : Bool} (l : List ℕ) → b ≡ (length l == 0) → b ≡ true → length l ≡ 0
none_left l e f = let z : (length l == 0) ≡ true = sym e ∙ f in search rules

pub returns-in_err-pairs : goal.returns-in_err-pairs
returns-in_err-pairs c = λ bytes.
    let a = c.args in
    let fails = end_fails a.processors (lines_of (drop 1 bytes) a.lines) (instructions_of a.instructions) a.part.now c.in_err-pairs.ensures in
    search rules

pub returns-then-not-is_empty : goal.returns-then-not-is_empty
returns-then-not-is_empty c = λ bytes.
    let a = c.args in
    end_more a.processors (lines_of (drop 1 bytes) a.lines) (instructions_of a.instructions) a.part.now c.in_ok-pairs.ensures (some_left c.in_ok-pairs.rest.now c.is_empty.ensures c.if-not-is_empty.true)

pub returns : goal.returns
unfolding execution_of
returns c = λ bytes.
    let a = c.args in
    end_here a.processors (lines_of (drop 1 bytes) a.lines) (instructions_of a.instructions) a.part.now c.in_ok-pairs.ensures (none_left c.in_ok-pairs.rest.now c.is_empty.ensures c.if-not-is_empty.false)
