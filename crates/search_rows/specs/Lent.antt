-- What is lent for all rows: the arrays of an execution's operations and instructions, and the words of its instructions.
use Rattle.std.specs.Prelude.{ℕ, ◌+◌, ◌*◌, ◌-◌, ◌/◌, ◌%◌, ◌≤◌, ◌<◌, ◌≡◌, Bool, ◌&&◌, List, get_or, leb, ltb}
use Rattle.base.specs.Bits.{bit}
use Rattle.model.specs.Execution.{kind_of}
use Rattle.model.specs.Questions.{written_from}
use Rattle.record_decoded.specs.Decoded.{initial_of}
use Rattle.record_decoded.specs.declared.types.Instructions.{Instructions}
use Rattle.record_decoded.specs.declared.types.Execution.{Execution}
use Rattle.relation_links.specs.declared.operations.Operations.{Operations}
use Rattle.search_admit.specs.Rows.{covers, relative, data_bit}

-- the arrays
pub record Lent (x : Execution) (t : Operations) (owners roles kinds firsts processors addresses sizes : List ℕ) : Type 0 where
  pub owners_are : owners ≡ t.owners
  pub roles_are : roles ≡ t.roles
  pub kinds_are : kinds ≡ x.instructions.kinds
  pub firsts_are : firsts ≡ x.instructions.firsts
  pub processors_are : processors ≡ x.instructions.processors
  pub addresses_are : addresses ≡ x.instructions.addresses
  pub sizes_are : sizes ≡ x.instructions.sizes

-- each access stays in its line and the next, and what it wrote ends among sixteen data bytes
pub record InLines (is : Instructions) (w : ℕ) : Type 0 where
  pub two_lines : get_or is.addresses w 0 % 8 + get_or is.sizes w 0 ≤ 16
  pub few : written_from (kind_of (get_or is.kinds w 0)) + get_or is.sizes w 0 ≤ 16

-- two words for each instruction, of its line and of the next: the bits of its bytes there
abbrev pub CoveredBits : Execution → List ℕ → Type 0
CoveredBits x bits = (w h i : ℕ) → w < x.instructions.count → h < 2 → i < 64 → bit (get_or bits (2 * w + h) 0) i ≡ covers x w (64 * h + i)

-- and what it saw there, and what it wrote, relative to the initial bytes of the record
pub record RelativeValues (bytes : List ℕ) (x : Execution) (seen written : List ℕ) : Type 0 where
  pub seen_is : (w h i : ℕ) → w < x.instructions.count → h < 2 → i < 64 → bit (get_or seen (2 * w + h) 0) i ≡ data_bit bytes x w 0 (64 * h + i)
  pub written_is : (w h i : ℕ) → w < x.instructions.count → h < 2 → i < 64
      → bit (get_or written (2 * w + h) 0) i ≡ data_bit bytes x w (written_from (kind_of (get_or x.instructions.kinds w 0))) (64 * h + i)

-- bit i, counted from the start of an address's line, lies in so many bytes from the address on
abbrev pub covered_bit : ℕ → ℕ → ℕ → Bool
covered_bit address size i = leb (address % 8) (i / 8) && ltb (i / 8) (address % 8 + size)

-- what it is there, by the data from an index on: relative to the initial bytes of a record of so many lines
abbrev pub relative_bit : List ℕ → ℕ → List ℕ → ℕ → ℕ → ℕ → ℕ → Bool
relative_bit bytes count values at address size i =
    covered_bit address size i
    && bit (relative (get_or values (at + (i / 8 - address % 8)) 0) (initial_of bytes count (8 * (address / 8) + i / 8))) (i % 8)

-- Of so many bytes from a place of a line on, those in word h of the line and the next are `count` from `first` on.
pub record InWord (place size h first count : ℕ) : Type 0 where
  pub low : first < 8
  pub within : first + count ≤ 8
  pub onward : place ≤ 8 * h + first
  pub data_within : (from : ℕ) → from ≤ 8 → from + size ≤ 16 → from + (8 * h + first - place) + count ≤ 16
  pub same : (k : ℕ) → k < 8 → (leb first k && ltb k (first + count)) ≡ (leb place (8 * h + k) && ltb (8 * h + k) (place + size))

-- the two words of instruction w in an array
pub record PairAt (words : List ℕ) (w first next : ℕ) : Type 0 where
  pub first_is : first ≡ get_or words (2 * w) 0
  pub next_is : next ≡ get_or words (2 * w + 1) 0
