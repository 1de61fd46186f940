-- The marks of two instructions, put together from what the arrays say of them.
use Prim.Native.Nat.{ℕ, ◌+◌, ◌*◌, ◌/◌}
use mathlib.Core.Path.{◌≡◌, refl}
use native.Mathlib.Omega.{arith}
use mathlib.Core.Bool.{Bool, true, false, not, cond, ◌&&◌, ◌||◌}
use mathlib.Core.List.{List}
use lib.ListN.{length, get_or, drop}
use lib.Dec.{eqb, ltb}
use Rattle.base.specs.Bits.{packed, packed_on}
use Rattle.model.specs.Execution as model
use Rattle.model.specs.Execution.{kind_of, is_load, is_store, is_semaphore, is_release, is_WB, is_UC, same_domain, WC, line_at, attribute_at}
use Rattle.model.specs.Rules.{conflict}
use Rattle.record_decoded.specs.declared.types.Execution.{Execution}
use Rattle.record_decoded.specs.Decoded.{attributes_of, pairs_of, instruction_at, execution_of}
use Rattle.relation_marks.specs.Marks.{program_marks, shared_by, given_pair, earlier_of, marks_of, marks_by, marks_between}
use Rattle.record_decoded.proofs.Arrays.{attribute_at_lem}
use Rattle.relation_marks.proofs.MarkLaws.{overlap_shares}

-- the marks are those that only an earlier instruction has, and the others, each at its bit
pub put_together : (same own earlier overlaps given : Bool) (a b : model.Kind) (of_a of_b : model.Attribute)
    → 1 * cond same 1 0
    + cond earlier (program_marks a b + 16 * cond overlaps 1 0 + 64 * cond (same_domain of_a of_b) 1 0) 0
    + 32 * cond given 1 0
    + 128 * cond (is_store a && is_store b && (not same && overlaps && ((is_WB of_a || is_UC of_a) && (is_WB of_b || is_UC of_b)))) 1 0
    + 256 * cond (is_store a && is_load b && (is_UC of_a && (own && overlaps))) 1 0
    + 512 * cond (same && (is_store a && (is_release a && is_WB of_a))) 1 0
    + 1024 * cond (is_semaphore a && is_store b && (not same && overlaps)) 1 0
    + 2048 * cond (is_semaphore a) 1 0
    + 4096 * cond (is_semaphore b) 1 0
    ≡ marks_by same own earlier overlaps given a b of_a of_b
unfolding marks_by program_marks packed packed_on
put_together same own true overlaps given a b of_a of_b = omega arith
put_together same own false overlaps given a b of_a of_b = omega arith

-- the marks by each fact that the arrays give
pub between_made : (bytes : List ℕ) (x : Execution) (m n : ℕ)
    → marks_by (eqb m n) (eqb (get_or x.instructions.processors m 0) (get_or x.instructions.processors n 0))
    (eqb (get_or x.instructions.processors m 0) (get_or x.instructions.processors n 0) && ltb m n)
    (ltb 0 (length (shared_by (get_or x.instructions.addresses m 0) (get_or x.instructions.sizes m 0) (get_or x.instructions.addresses n 0) (get_or x.instructions.sizes n 0))))
    (given_pair (pairs_of x.pairs) m n) (kind_of (get_or x.instructions.kinds m 0)) (kind_of (get_or x.instructions.kinds n 0))
    (get_or (attributes_of x.lines) (get_or x.instructions.addresses m 0 / 8) WC)
    (get_or (attributes_of x.lines) (get_or x.instructions.addresses n 0 / 8) WC)
    ≡ marks_between (execution_of bytes x) (instruction_at x.instructions m) (instruction_at x.instructions n)
unfolding marks_between marks_of marks_by earlier_of conflict attribute_at line_at execution_of instruction_at
between_made bytes x m n =
    rw (
      attribute_at_lem (drop 1 bytes) x.lines (get_or x.instructions.addresses m 0 / 8),
      attribute_at_lem (drop 1 bytes) x.lines (get_or x.instructions.addresses n 0 / 8),
      overlap_shares (instruction_at x.instructions m) (instruction_at x.instructions n),
    ) refl
