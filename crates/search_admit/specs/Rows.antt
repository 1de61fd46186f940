-- What is compiled of an execution: a row of 21 words for each operation. The words of memory, and what a row has of them, are relative to the initial bytes.
use Rattle.std.specs.Prelude.{ℕ, zero, suc, ◌+◌, ◌*◌, ◌-◌, ◌/◌, ◌%◌, ◌<◌, ◌≡◌, Bool, true, cond, ◌&&◌, ◌||◌, List, [], ◌∷◌, length, get_or, set, replicate, eqb, leb, ltb}
use Rattle.std.specs.Int.Bits.{bit_and, bit_or, bit_xor}
use Rattle.base.specs.Lists.{any, member}
use Rattle.base.specs.Below.{any_below}
use Rattle.base.specs.Bits.{bit}
use Rattle.model.specs.Execution.{Kind, is_store, is_semaphore, is_release, kind_of, R, LV, RV, stores, operations, number_from, number_of}
use Rattle.model.specs.Questions.{written_from}
use Rattle.model.specs.Rules.{linked, in_WB, RV_own, remote_of, accesses, overlap}
use Rattle.record_decoded.specs.declared.types.Execution.{Execution}
use Rattle.record_decoded.specs.Decoded.{initial_of, instruction_at, execution_of}
use Rattle.relation_marks.specs.Marks.{has_mark, conflict_mark, bypass_mark, mark_at}
use Rattle.relation_links.specs.declared.operations.Operations.{Operations}
use Rattle.relation_links.specs.Operations.{operation_at}
use Rattle.relation_links.specs.Compiled.{CompiledIn}
use Rattle.search_sets.specs.Set.{holds}

-- the words of a row, and of all 128 rows
abbrev pub row_length : ℕ
row_length = 21

abbrev pub table_length : ℕ
table_length = 128 * row_length

-- word f of the row of operation x
abbrev pub field : List ℕ → ℕ → ℕ → ℕ
field rows f x = get_or rows (row_length * x + f) 0

-- operation a is in the set of words f and f + 1
abbrev pub set_by : List ℕ → ℕ → ℕ → ℕ → Bool
set_by rows f x a = holds (field rows f x) (field rows (f + 1) x) a

module _ (rows : List ℕ) where
  -- The rows, by what they hold of operation x

  -- a must stand before x
  abbrev pub precedes : ℕ → ℕ → Bool
  precedes x a = set_by rows 9 x a

  -- a is an RV of the release to WB that x is an RV of
  abbrev pub partner_by : ℕ → ℕ → Bool
  partner_by x a = set_by rows 2 x a

  -- x may have to wait for a by rule 9, 10, 14 or 16
  abbrev pub awaited : ℕ → ℕ → Bool
  awaited x a = set_by rows 0 x a

  -- a is the own RV of a store whose bytes the R x may read before it
  abbrev pub bypasses : ℕ → ℕ → Bool
  bypasses x a = set_by rows 11 x a

  -- An access goes to its line's word of memory and, where it lies on two lines, to the next: these are its words 0 and 1.

  -- the bits that x writes to its word h, what it writes, and which word that is
  abbrev pub written_bits : ℕ → ℕ → ℕ
  written_bits h x = field rows (5 + h) x

  abbrev pub written_data : ℕ → ℕ → ℕ
  written_data h x = field rows (7 + h) x

  abbrev pub written_word : ℕ → ℕ → ℕ
  written_word h x = (field rows 4 x + h) % 128

  -- how many words it writes: the next one only where it has bits there
  abbrev pub words_written : ℕ → ℕ
  words_written x = cond (eqb (written_bits 1 x) 0) 1 2

  -- the bits that the R x reads of its word h, what it saw, and the words where others' and, 64 behind, where its own processor's stores are
  abbrev pub read_bits : ℕ → ℕ → ℕ
  read_bits h x = field rows (14 + h) x

  abbrev pub read_data : ℕ → ℕ → ℕ
  read_data h x = field rows (16 + h) x

  abbrev pub visible_word : ℕ → ℕ → ℕ
  visible_word h x = (field rows 13 x + h) % 128

  abbrev pub own_word : ℕ → ℕ → ℕ
  own_word h x = (visible_word h x + 64) % 128

  -- how many words it reads: none, where it has no bits in the first
  abbrev pub words_read : ℕ → ℕ
  words_read x = cond (eqb (read_bits 0 x) 0) 0 (cond (eqb (read_bits 1 x) 0) 1 2)

  -- the own RV and the LV of x's store; of another operation itself
  abbrev pub own_of : ℕ → ℕ
  own_of x = field rows 18 x

  abbrev pub local_of : ℕ → ℕ
  local_of x = field rows 19 x

  -- the R of the semaphore that x is an LV or an RV of; of another operation itself
  abbrev pub read_of : ℕ → ℕ
  read_of x = field rows 20 x

  -- x writes bit i of word v of memory
  unfoldable pub writes_bit : ℕ → ℕ → ℕ → Bool
  writes_bit v x i = eqb (written_word 0 x) v && bit (written_bits 0 x) i || eqb (written_word 1 x) v && bit (written_bits 1 x) i

-- a word with some bits written anew
abbrev pub merged : ℕ → ℕ → ℕ → ℕ
merged word bits data' = bit_or (bit_xor word (bit_and word bits)) data'

-- the words of memory, with the one that is operation x's word h
abbrev pub word_over : List ℕ → List ℕ → ℕ → ℕ → List ℕ
word_over rows words x h =
    set words (written_word rows h x) (merged (get_or words (written_word rows h x) 0) (written_bits rows h x) (written_data rows h x))

-- with the first n that it writes
unfoldable pub words_up_to : List ℕ → List ℕ → ℕ → ℕ → List ℕ
words_up_to rows words x zero = words
words_up_to rows words x (suc h) = word_over rows (words_up_to rows words x h) x h

-- what these n were before, kept from entry 2 k on
unfoldable pub replaced_up_to : List ℕ → List ℕ → List ℕ → ℕ → ℕ → ℕ → List ℕ
replaced_up_to rows words replaced k x zero = replaced
replaced_up_to rows words replaced k x (suc h) =
    set (replaced_up_to rows words replaced k x h) (2 * k + h) (get_or (words_up_to rows words x h) (written_word rows h x) 0)

-- the words with these n put back, the last first
unfoldable pub words_back : List ℕ → List ℕ → List ℕ → ℕ → ℕ → ℕ → List ℕ
words_back rows words replaced k x zero = words
words_back rows words replaced k x (suc h) = words_back rows (set words (written_word rows h x) (get_or replaced (2 * k + h) 0)) replaced k x h

-- the words after operation x, what it wrote over kept as that of entry k, and the words with that put back
abbrev pub words_with : List ℕ → List ℕ → ℕ → List ℕ
words_with rows words x = words_up_to rows words x (words_written rows x)

abbrev pub replaced_with : List ℕ → List ℕ → List ℕ → ℕ → ℕ → List ℕ
replaced_with rows words replaced k x = replaced_up_to rows words replaced k x (words_written rows x)

abbrev pub words_without : List ℕ → List ℕ → List ℕ → ℕ → ℕ → List ℕ
words_without rows words replaced k x = words_back rows words replaced k x (words_written rows x)

-- the words after more operations, in order
unfoldable pub words_from : List ℕ → List ℕ → List ℕ → List ℕ
words_from rows words [] = words
words_from rows words (x ∷ xs) = words_from rows (words_with rows words x) xs

-- the words before any operation: every byte is its initial byte, so relative to it 0
abbrev pub first_words : List ℕ
first_words = replicate 128 0

-- the words after the operations of a prefix
abbrev pub words_after : List ℕ → List ℕ → List ℕ
words_after rows xs = words_from rows first_words xs

-- What the rows hold of an execution

-- a release to WB of which o is an RV, and so is a
unfoldable pub partner : List ℕ → Execution → ℕ → ℕ → Bool
partner bytes x o a =
    any (λ w. is_release w.kind && in_WB (execution_of bytes x) w && (member (remote_of (execution_of bytes x) w) o && member (remote_of (execution_of bytes x) w) a)) (stores (execution_of bytes x))

-- bit i, counted from the start of the line of instruction w, is one of its bytes'
unfoldable pub covers : Execution → ℕ → ℕ → Bool
covers x w i = accesses (instruction_at x.instructions w) (8 * (get_or x.instructions.addresses w 0 / 8) + i / 8)

-- a byte relative to the initial byte of its address: both, bit by bit, exclusive or
abbrev pub relative : ℕ → ℕ → ℕ
relative byte initial = bit_xor byte initial

-- bit i of instruction w's data from a place on, counted from the start of its line, relative to the initial bytes of the record
unfoldable pub data_bit : List ℕ → Execution → ℕ → ℕ → ℕ → Bool
data_bit bytes x w from i =
    covers x w i
    && bit (relative (get_or x.instructions.bytes (16 * w + from + (i / 8 - get_or x.instructions.addresses w 0 % 8)) 0)
    (initial_of bytes x.lines.count (8 * (get_or x.instructions.addresses w 0 / 8) + i / 8))) (i % 8)

-- Words of memory: what is visible to processor p, line by line, and from 64 on what its own stores wrote.
abbrev pub visible_at : ℕ → ℕ → ℕ
visible_at p line = 8 * p + line

abbrev pub own_at : ℕ → ℕ → ℕ
own_at p line = 64 + 8 * p + line

-- the role of an LV or an RV
abbrev pub writes : ℕ → Bool
writes role = eqb role 1 || leb 3 role

-- The operation for which one with a role may have to wait because of an instruction, by the marks of the two: of a conflicting store the RV to the same
-- processor (so of a semaphore by rule 16, which question 26 has on WB), for an R the own RV of a UC store. The instruction is given by its kind, the number of its first operation and its processor.
unfoldable pub awaited_by : ℕ → ℕ → Kind → ℕ → ℕ → ℕ → Bool
awaited_by marks role kind first processor a =
    cond (eqb role 0) (has_mark marks bypass_mark && eqb a (number_from first kind (RV processor)))
    (leb 3 role && (has_mark marks conflict_mark && eqb a (number_from first kind (RV (role - 3)))))

module _ (x : Execution) (t : Operations) (marks : List (List ℕ)) (o : ℕ) where
  abbrev pub owner : ℕ
  owner = get_or t.owners o 0

  abbrev pub role : ℕ
  role = get_or t.roles o 0

  abbrev pub kind : Kind
  kind = kind_of (get_or x.instructions.kinds owner 0)

  abbrev pub processor : ℕ
  processor = get_or x.instructions.processors owner 0

  abbrev pub line : ℕ
  line = get_or x.instructions.addresses owner 0 / 8

  -- o may have to wait for a because of instruction v
  abbrev pub awaited_of : ℕ → ℕ → Bool
  awaited_of v a =
      awaited_by (mark_at marks v owner) role (kind_of (get_or x.instructions.kinds v 0)) (get_or x.instructions.firsts v 0) (get_or x.instructions.processors v 0) a

  -- instruction v is a store of o's processor to some of its bytes
  abbrev pub own_store : ℕ → Bool
  own_store v =
      is_store (kind_of (get_or x.instructions.kinds v 0))
      && (eqb (get_or x.instructions.processors v 0) processor && overlap (instruction_at x.instructions v) (instruction_at x.instructions owner))

  -- o is an R, and a the own RV of such a store v
  abbrev pub bypass_of : ℕ → ℕ → Bool
  bypass_of v a = eqb role 0 && (own_store v && eqb a (RV_own (instruction_at x.instructions v)))

  pub record RowOf (bytes : List ℕ) (row : ℕ → ℕ) : Type 0 where
    pub preds_are : (a : ℕ) → a < 128
        → holds (row 9) (row 10) a
        ≡ (ltb a (operations (execution_of bytes x)) && linked (execution_of bytes x) (operation_at x.instructions t a) (operation_at x.instructions t o))
    pub partners_are : (a : ℕ) → a < 128 → holds (row 2) (row 3) a ≡ partner bytes x o a
    pub awaited_are : (a : ℕ) → a < 128 → holds (row 0) (row 1) a ≡ any_below x.instructions.count (λ v. awaited_of v a)
    pub bypasses_are : (a : ℕ) → a < 128 → holds (row 11) (row 12) a ≡ any_below x.instructions.count (λ v. bypass_of v a)
    pub writes_bits : (h i : ℕ) → h < 2 → i < 64 → bit (row (5 + h)) i ≡ (writes role && covers x owner (64 * h + i))
    pub writes_data : (h i : ℕ) → h < 2 → i < 64 → bit (row (7 + h)) i ≡ (writes role && data_bit bytes x owner (written_from kind) (64 * h + i))
    pub writes_word : writes role ≡ true → row 4 ≡ cond (eqb role 1) (own_at processor line) (visible_at (role - 3) line)
    pub reads_bits : (h i : ℕ) → h < 2 → i < 64 → bit (row (14 + h)) i ≡ (eqb role 0 && covers x owner (64 * h + i))
    pub reads_data : (h i : ℕ) → h < 2 → i < 64 → bit (row (16 + h)) i ≡ (eqb role 0 && data_bit bytes x owner 0 (64 * h + i))
    pub reads_visible : role ≡ 0 → row 13 ≡ visible_at processor line
    pub own_is : row 18 ≡ cond (writes role) (RV_own (instruction_at x.instructions owner)) o
    pub local_is : row 19 ≡ cond (writes role) (number_of (instruction_at x.instructions owner) LV) o
    pub read_is : row 20 ≡ cond (writes role && is_semaphore kind) (number_of (instruction_at x.instructions owner) R) o

-- bytes are below 256
abbrev pub Bytes : List ℕ → Type 0
Bytes l = (j : ℕ) → get_or l j 0 < 256

-- the rows hold what they should of the execution
pub record RowsMean (bytes : List ℕ) (x : Execution) (t : Operations) (marks : List (List ℕ)) (rows : List ℕ) : Type 0 where
  pub compiled : CompiledIn bytes x t marks
  pub rowed : (o : ℕ) → o < operations (execution_of bytes x) → RowOf x t marks o bytes (λ f. field rows f o)
  pub whole : length rows ≡ table_length
  pub data_bytes_lem : Bytes x.instructions.bytes
  pub record_bytes : Bytes bytes
