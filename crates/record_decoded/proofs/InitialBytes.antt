-- The initial byte of an address is the one byte of the record.
use Prim.Native.Nat.{ℕ, ◌+◌, ◌*◌, ◌/◌, ◌%◌, ◌≤◌, ◌<◌}
use native.Mathlib.Omega.{arith}
use mathlib.Core.Path.{◌≡◌, ap, ◌∙◌}
use mathlib.Core.List.{List}
use lib.ListN.{get_or, drop, get_or-eq_default}
use lib.Seq.{get_or-take, get_or-drop}
use lib.Dec.{ltb}
use borrow.Author.Tests.{lt-ltb, ltb-true, le-ltb, ltb-false}
use Rattle.base.proofs.Bools.{split}
use Rattle.base.proofs.Lists.{getD_below}
use Rattle.model.specs.Execution as model
use Rattle.model.specs.Execution.{no_line, initial_byte}
use Rattle.model.specs.Questions.{initial_place}
use Rattle.record_decoded.specs.declared.types.Execution.{Execution}
use Rattle.record_decoded.specs.Decoded.{decoded_line, lines_of, initial_of, execution_of}
use Rattle.record_decoded.proofs.Arrays.{lines_length}

-- past the lines, past the record, and in them
pub initial_past : (bytes : List ℕ) (count address : ℕ) → count ≤ address / 8 → 0 ≡ initial_of bytes count address
unfolding initial_of
initial_past bytes count address h = rw (le-ltb (address / 8) count h)

pub initial_there : (bytes : List ℕ) (count address : ℕ) → address / 8 < count → get_or bytes (initial_place address) 0 ≡ initial_of bytes count address
unfolding initial_of
initial_there bytes count address h = rw (lt-ltb (address / 8) count h)

pub initial_is : (bytes : List ℕ) (x : Execution) (address : ℕ) → initial_byte (execution_of bytes x) address ≡ initial_of bytes x.lines.count address
unfolding initial_byte model.line_at execution_of lines_of decoded_line
initial_is bytes x address =
    split (ltb (address / 8) x.lines.count)
    (λ h.
    let less = ltb-true (address / 8) x.lines.count h in
    ap (λ (l : model.Line). get_or l.initial (address % 8) 0) (getD_below (decoded_line (drop 1 bytes) x.lines) no_line x.lines.count (address / 8) less)
    ∙ get_or-take 8 (drop (2 + 9 * (address / 8)) (drop 1 bytes)) (address % 8) 0 (omega arith)
    ∙ get_or-drop (2 + 9 * (address / 8)) (drop 1 bytes) (address % 8) 0
    ∙ get_or-drop 1 bytes (2 + 9 * (address / 8) + address % 8) 0
    ∙ ap (λ (i : ℕ). get_or bytes i 0) (omega arith)
    ∙ initial_there bytes x.lines.count address less)
    (λ h.
    let past = ltb-false (address / 8) x.lines.count h in
    ap (λ (l : model.Line). get_or l.initial (address % 8) 0)
    (get_or-eq_default (lines_of (drop 1 bytes) x.lines) no_line {n = address / 8} (omega (arith, lines_length (drop 1 bytes) x.lines)))
    ∙ initial_past bytes x.lines.count address past)
