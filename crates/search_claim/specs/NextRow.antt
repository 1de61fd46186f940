-- Rows that meet the hypotheses of `NextPrefix`, of K2: one processor, st x=1, ld x sees 0. Its consistent prefixes are the empty one, 0 and 0 1, in this
-- order, and none of them is full.
use Rattle.std.specs.Prelude.{ℕ, Some, None, ◌*◌, ◌-◌, List, [], ◌∷◌, ◌++◌, set, replicate}
use Rattle.model.specs.PaperTable.{k2}
use Rattle.record_decoded.specs.declared.types.Execution.{Execution}
use Rattle.relation_links.specs.declared.operations.Operations.{Operations}
use Rattle.search_admit.specs.Rows.{row_length, table_length}
use Rattle.search_walk.specs.declared.Level.{Level}
use Rattle.search_claim.specs.NextPrefix.{WalkedFrom}

-- What is made of K2

-- Instruction 0 is the store (kind 2) of the byte 1, and 1 the load (kind 0), which saw the byte 0. Both have address 0 and size 1.
unfoldable pub k2_arrays : Execution
k2_arrays = record {
  processors = 1;
  lines = record { count = 1; attributes = replicate 8 0 };
  instructions = record {
    count = 2;
    operations = 3;
    processors = replicate 40 0;
    kinds = 2 ∷ 0 ∷ replicate 38 0;
    addresses = replicate 40 0;
    sizes = 1 ∷ 1 ∷ replicate 38 0;
    firsts = 0 ∷ 2 ∷ replicate 38 0;
    bytes = 1 ∷ replicate 639 0;
  };
  pairs = record { count = 0; earlier = replicate 40 0; later = replicate 40 0 };
}

-- Operations 0 and 1 are the store's LV and RV (roles 1 and 3), 2 is the load's R (role 0).
unfoldable pub k2_operations : Operations
k2_operations = record { count = 3; owners = 0 ∷ 0 ∷ 1 ∷ replicate 125 0; roles = 1 ∷ 3 ∷ 0 ∷ replicate 125 0 }

-- Mark 1: one instruction. Mark 16: the store and the later load share a byte.
unfoldable pub k2_marks : List (List ℕ)
k2_marks = (1 ∷ 16 ∷ []) ∷ (0 ∷ 1 ∷ []) ∷ []

-- A row of 21 words for each operation (`search_admit/specs/Rows.antt`), then zeros: no more rows. K2's initial bytes are zero, and relative to them a
-- byte is itself. Words 0 and 1 of a row: 0 must stand before 1 and before 2. Words 6 and 7: the R may read the byte of the store whose own RV is 1 before that
-- stands. Words 8 to 12: the LV writes the byte 1 to word 64 of memory, the RV to word 0, and nothing to the next. Words 13 to 17: the R reads a byte, of which it
-- saw 0, from word 0 or, 64 behind, from what its processor wrote, and nothing from the next. Words 18 and 19: of the LV and the RV both the own RV and the LV, of
-- the R itself. Word 20: itself, since there is no semaphore.
unfoldable pub k2_rows : List ℕ
k2_rows =
    (0 ∷ 0 ∷ 0 ∷ 0 ∷ 64 ∷ 255 ∷ 0 ∷ 1 ∷ 0 ∷ 0 ∷ 0 ∷ 0 ∷ 0 ∷ 0 ∷ 0 ∷ 0 ∷ 0 ∷ 0 ∷ 1 ∷ 0 ∷ 0 ∷ [])
    ++ (0 ∷ 0 ∷ 0 ∷ 0 ∷ 0 ∷ 255 ∷ 0 ∷ 1 ∷ 0 ∷ 1 ∷ 0 ∷ 0 ∷ 0 ∷ 0 ∷ 0 ∷ 0 ∷ 0 ∷ 0 ∷ 1 ∷ 0 ∷ 1 ∷ [])
    ++ (0 ∷ 0 ∷ 0 ∷ 0 ∷ 127 ∷ 0 ∷ 0 ∷ 0 ∷ 0 ∷ 1 ∷ 0 ∷ 2 ∷ 0 ∷ 0 ∷ 255 ∷ 0 ∷ 0 ∷ 0 ∷ 2 ∷ 2 ∷ 2 ∷ [])
    ++ replicate (table_length - 3 * row_length) 0

-- What the walk leaves at 0 1

-- two entries, the rest is not asked
abbrev pub next_position : List ℕ
next_position = 0 ∷ 1 ∷ replicate 126 0

-- 0 stands at 0, 1 at 1
abbrev pub next_places : List ℕ
next_places = 0 ∷ 1 ∷ replicate 126 255

-- a level of small sets, by the low word of each
abbrev pub small : ℕ → ℕ → ℕ → Level
small standing enabled candidates = record {
  standing = record { lo = standing; hi = 0 };
  enabled = record { lo = enabled; hi = 0 };
  candidates = record { lo = candidates; hi = 0 };
}

-- A level for each of the prefixes, the empty one, 0 and 0 1, then empty ones. Of each the set that stands, the set that is enabled behind it and the set that may
-- follow: first 0 may follow, then 1, then nothing. The R is enabled behind neither 0 nor 0 1: it would read 1, behind 0 from its own processor's word 64 and
-- behind 0 1 from word 0.
abbrev pub next_levels : List Level
next_levels = small 0 1 1 ∷ small 1 2 2 ∷ small 3 0 0 ∷ replicate 126 (small 0 0 0)

-- the LV wrote its byte to word 64, the RV to word 0
abbrev pub next_words : List ℕ
next_words = set (set (replicate 128 0) 64 1) 0 1

-- what each of the two entries wrote over, two words each: zero
abbrev pub next_replaced : List ℕ
next_replaced = replicate 256 0

-- From 0 the walk comes to 0 1, which the claim then says is the next.
abbrev pub NextRow : Type 0
NextRow = WalkedFrom k2 k2_arrays k2_operations k2_marks k2_rows (0 ∷ []) (Some 2) next_position next_places next_levels next_words next_replaced

-- From 0 1 it comes to the end: the claim says that none comes after. Both entries are taken back, so that no place and no word of theirs is left; the rest
-- stays. (What the walk leaves at the end is not asked.)
abbrev pub EndRow : Type 0
EndRow = WalkedFrom k2 k2_arrays k2_operations k2_marks k2_rows (0 ∷ 1 ∷ []) None next_position (replicate 128 255) next_levels (replicate 128 0) next_replaced
