-- Two records with their rows that meet the hypotheses of `OneInitialByte` and `OneInitialByteTested`: K2 (one processor, st x=1, ld x sees 0) with accesses of two
-- bytes, so of addresses 0 and 1, and 7 in address 0 at the start. The second record has 9 in address 1, which the load reads too; b is address 0.
use Rattle.std.specs.Prelude.{ℕ, ◌+◌, ◌*◌, ◌-◌, ◌≡◌, true, replicate}
use mathlib.Core.List.{List, [], ◌∷◌, ◌++◌, Memᴰ}
use Rattle.base.specs.Lists.{distinct}
use Rattle.model.specs.Execution.{Instruction, loads, operations}
use Rattle.model.specs.Rules.{accesses}
use Rattle.model.specs.Notation.{record_of}
use Rattle.model.specs.Claims.{DifferElsewhere}
use Rattle.record_decoded.specs.declared.types.Execution.{Execution}
use Rattle.record_decoded.specs.Decoded.{instruction_at, execution_of}
use Rattle.relation_places.specs.Places.{Placed}
use Rattle.search_admit.specs.Rows.{row_length, table_length, RowsMean}
use Rattle.search_admit.specs.Fits.{Standing}
use Rattle.search_claim.specs.NextRow.{k2_operations, k2_marks}

-- the record, with 7 and v at the start
unfoldable pub wide : ℕ → List ℕ
wide v = record_of ((0 ∷ 7 ∷ v ∷ replicate 6 0) ∷ []) (((2 ∷ 0 ∷ 2 ∷ 1 ∷ replicate 7 0) ∷ (0 ∷ 0 ∷ 2 ∷ replicate 8 0) ∷ []) ∷ []) []

-- The decoded arrays have no initial bytes: both records have these. Operations and marks are K2's.
unfoldable pub wide_arrays : Execution
wide_arrays = record {
  processors = 1;
  lines = record { count = 1; attributes = replicate 8 0 };
  instructions = record {
    count = 2;
    operations = 3;
    processors = replicate 40 0;
    kinds = 2 ∷ 0 ∷ replicate 38 0;
    addresses = replicate 40 0;
    sizes = 2 ∷ 2 ∷ replicate 38 0;
    firsts = 0 ∷ 2 ∷ replicate 38 0;
    bytes = 1 ∷ replicate 639 0;
  };
  pairs = record { count = 0; earlier = replicate 40 0; later = replicate 40 0 };
}

-- K2's rows with two bytes. What is written and what was seen (words 10 and 15) are 1 and 0, then 0: relative to 7 and v they are 6 and 7, then v.
unfoldable pub wide_rows : ℕ → List ℕ
wide_rows v =
    (0 ∷ 0 ∷ 0 ∷ 0 ∷ 64 ∷ 65535 ∷ 0 ∷ (6 + 256 * v) ∷ 0 ∷ 0 ∷ 0 ∷ 0 ∷ 0 ∷ 0 ∷ 0 ∷ 0 ∷ 0 ∷ 0 ∷ 1 ∷ 0 ∷ 0 ∷ [])
    ++ (0 ∷ 0 ∷ 0 ∷ 0 ∷ 0 ∷ 65535 ∷ 0 ∷ (6 + 256 * v) ∷ 0 ∷ 1 ∷ 0 ∷ 0 ∷ 0 ∷ 0 ∷ 0 ∷ 0 ∷ 0 ∷ 0 ∷ 1 ∷ 0 ∷ 1 ∷ [])
    ++ (0 ∷ 0 ∷ 0 ∷ 0 ∷ 127 ∷ 0 ∷ 0 ∷ 0 ∷ 0 ∷ 1 ∷ 0 ∷ 2 ∷ 0 ∷ 0 ∷ 65535 ∷ 0 ∷ (7 + 256 * v) ∷ 0 ∷ 2 ∷ 2 ∷ 2 ∷ [])
    ++ replicate (table_length - 3 * row_length) 0

abbrev pub the_load : Instruction
the_load = instruction_at wide_arrays.instructions 1

-- The two records differ elsewhere, and have these rows; the load is one of theirs and reads address 0; the prefix is 0, the store's LV, with the set of what stands
-- and the places.
pub record ReadValueRow : Type 0 where
  pub differ : DifferElsewhere 0 (wide 0) (wide 9) (execution_of (wide 0) wide_arrays) (execution_of (wide 9) wide_arrays)
  pub loads_it : Memᴰ the_load (loads (execution_of (wide 0) wide_arrays))
  pub reads_it : accesses the_load 0 ≡ true
  pub rows_mean : RowsMean (wide 0) wide_arrays k2_operations k2_marks (wide_rows 0)
  pub other_rows_mean : RowsMean (wide 9) wide_arrays k2_operations k2_marks (wide_rows 9)
  pub different : distinct (operations (execution_of (wide 0) wide_arrays)) [] (0 ∷ []) ≡ true
  pub standing : Standing (0 ∷ []) 1 0
  pub placed : Placed 3 (0 ∷ []) (0 ∷ replicate 127 255)
