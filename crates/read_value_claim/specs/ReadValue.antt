-- P4, of the tests of one byte of a load that the judge and the search make. (`OneInitialByte` in `model` says it of the definitions.)
use Rattle.std.specs.Prelude.{ℕ, ◌+◌, ◌-◌, ◌/◌, ◌%◌, ◌≡◌, true, get_or}
use mathlib.Core.List.{List, [], Memᴰ}
use Rattle.base.specs.Lists.{distinct}
use Rattle.base.specs.Bits.{bit}
use Rattle.model.specs.Execution.{Instruction, R, number_of, loads, operations}
use Rattle.model.specs.Rules.{accesses}
use Rattle.model.specs.Claims.{DifferElsewhere}
use Rattle.record_decoded.specs.declared.types.Execution.{Execution}
use Rattle.record_decoded.specs.Decoded.{execution_of}
use Rattle.relation_links.specs.declared.operations.Operations.{Operations}
use Rattle.relation_places.specs.Places.{Placed}
use Rattle.judge_sights.specs.Sights.{sight_broken}
use Rattle.search_admit.specs.Rows.{read_bits, read_data, visible_word, own_word, words_after, RowsMean}
use Rattle.search_admit.specs.Fits.{bit_recorded, Standing}

-- The judge's test of the load's byte at address b, for the places of every prefix
abbrev pub JudgedAlike : ℕ → List ℕ → List ℕ → Execution → Execution → Instruction → Type 0
JudgedAlike b bytes others x y l =
    (n : ℕ) (xs places : List ℕ) → Placed n xs places
    → sight_broken bytes x places l.number (b - l.address) ≡ sight_broken others y places l.number (b - l.address)

-- What two tables of rows have of a bit that operation o reads of its word h, behind the prefix xs: in its row, in the words of memory that it reads, and the
-- test of the bit
pub record SameBit (rows other_rows xs : List ℕ) (lo hi h o i : ℕ) : Type 0 where
  pub read : bit (read_bits rows h o) i ≡ bit (read_bits other_rows h o) i
  pub recorded : bit (read_data rows h o) i ≡ bit (read_data other_rows h o) i
  pub visible : bit (get_or (words_after rows xs) (visible_word rows h o) 0) i ≡ bit (get_or (words_after other_rows xs) (visible_word other_rows h o) 0) i
  pub own : bit (get_or (words_after rows xs) (own_word rows h o) 0) i ≡ bit (get_or (words_after other_rows xs) (own_word other_rows h o) 0) i
  pub tested : bit_recorded rows lo hi (words_after rows xs) h o i ≡ bit_recorded other_rows lo hi (words_after other_rows xs) h o i

-- The search's test of the load's byte at address b, which is h lines behind the load's first, bit by bit, behind every prefix of different operations
abbrev pub SearchedAlike : ℕ → List ℕ → List ℕ → Execution → Execution → Instruction → Type 0
SearchedAlike b bytes others x y l =
    (t u : Operations) (marks other_marks : List (List ℕ)) (rows other_rows : List ℕ)
    → RowsMean bytes x t marks rows → RowsMean others y u other_marks other_rows
    → (xs : List ℕ) → distinct (operations (execution_of bytes x)) [] xs ≡ true
    → (lo hi : ℕ) → Standing xs lo hi
    → (h i : ℕ) → b / 8 ≡ l.address / 8 + h → i / 8 ≡ b % 8 → SameBit rows other_rows xs lo hi h (number_of l R) i

-- For every load and each of its bytes, in any two accepted records that differ only in other initial bytes, both tests give the same answer for every prefix.
abbrev pub OneInitialByteTested : Type 0
OneInitialByteTested =
    (b : ℕ) (bytes others : List ℕ) (x y : Execution)
    → DifferElsewhere b bytes others (execution_of bytes x) (execution_of others y)
    → (l : Instruction) → Memᴰ l (loads (execution_of bytes x)) → accesses l b ≡ true
    → JudgedAlike b bytes others x y l × SearchedAlike b bytes others x y l
