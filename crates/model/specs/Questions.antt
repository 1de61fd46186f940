-- The record is walked left to right: question 1 before each item, then the item's own questions. The first 'no' gives its number.
use Rattle.std.specs.Prelude.{ℕ, zero, suc, ◌+◌, ◌*◌, ◌/◌, ◌%◌, Bool, true, false, not, cond, ◌&&◌, ◌||◌, List, [], ◌∷◌, ◌++◌, map, length, get_or, take, drop, eqb, leb, ltb}
use Rattle.base.specs.Lists.{all, member}
use Rattle.model.specs.Execution.{Kind, kind_of, is_load, is_store, is_fence, is_semaphore, is_only_store, mf, Attribute, WC, is_WB, attribute_number, attribute_of, attributes, Line, Instruction, Execution, operation_count, lines_from}

-- What a walk comes to: the number of the first question answered 'no', or a value and the bytes after it.
pub data Found (A : Type 0) : Type 0 where
  no_to : ℕ → Found A
  found : A → List ℕ → Found A

-- a walk over the bytes that are left
abbrev pub Reader : Type 0 → Type 0
Reader A = List ℕ → Found A

module _ {A : Type 0} where
  abbrev pub pure : A → Reader A
  pure a bytes = found a bytes

module _ {A B : Type 0} where
  unfoldable pub next : Found A → (A → Reader B) → Found B
  next (no_to q) f = no_to q
  next (found a bytes) f = f a bytes

  abbrev pub ◌>>=◌ : Reader A → (A → Reader B) → Reader B
  ◌>>=◌ m f bytes = next (m bytes) f

module _ {B : Type 0} where
  abbrev pub ◌>>◌ : Reader (Unit {0}) → Reader B → Reader B
  ◌>>◌ m f bytes = next (m bytes) (λ _. f)

-- 1: does the item end within the bytes?
unfoldable pub item : ℕ → Reader (List ℕ)
item n bytes = cond (leb n (length bytes)) (found (take n bytes) (drop n bytes)) (no_to 1)

-- an item of one byte
unfoldable pub byte : Reader ℕ
byte [] = no_to 1
byte (b ∷ bytes) = found b bytes

unfoldable pub ask : ℕ → Bool → Reader (Unit {0})
ask q true bytes = found tt bytes
ask q false bytes = no_to q

-- byte k of an item
abbrev pub at : List ℕ → ℕ → ℕ
at x k = get_or x k 0

-- the bytes of a line
abbrev pub line_length : ℕ
line_length = 9

-- the place of an address's initial byte in a record: P, the count of lines and the line's attribute stand before it
abbrev pub initial_place : ℕ → ℕ
initial_place a = 3 + line_length * (a / 8) + a % 8

-- the bytes of an instruction: a kind, an address, a size, eight data bytes; for a semaphore and for size 16 eight more
abbrev pub entry_length : ℕ
entry_length = 11

abbrev pub more_length : Kind → ℕ → ℕ
more_length k size = cond (is_semaphore k || eqb size 16) 8 0

-- the bytes of a pair
abbrev pub pair_length : ℕ
pair_length = 2

-- 2: is P from 1 to 8?
unfoldable pub question2 : ℕ → Bool
question2 p = leb 1 p && leb p 8

-- 3: are there 1 to 8 lines?
unfoldable pub question3 : ℕ → Bool
question3 n = leb 1 n && leb n 8

-- 4: is the attribute 0, 1, 2, 17, 33 or 49 (document 02, P6)?
unfoldable pub question4 : ℕ → Bool
question4 a = member (map attribute_number attributes) a

-- 5: are there at most 40 instructions with this count added?
unfoldable pub question5 : List Instruction → ℕ → Bool
question5 done n = leb (length done + n) 40

-- 6: is the kind 0 to 6?
unfoldable pub question6 : ℕ → Bool
question6 k = leb k 6

-- 7: is the size 1, 2, 4 or 8 (mf: 0), or, where it is no semaphore, 16 (document 02, P7)?
abbrev pub sizes_of : Kind → List ℕ
sizes_of k = cond (is_fence k) (0 ∷ []) (1 ∷ 2 ∷ 4 ∷ 8 ∷ cond (is_semaphore k) [] (16 ∷ []))

unfoldable pub question7 : Kind → ℕ → Bool
question7 k size = member (sizes_of k) size

-- 8: is the address a multiple of the size, within the lines (mf: 0)?
unfoldable pub question8 : ℕ → Kind → ℕ → ℕ → Bool
question8 lines k size address =
    cond (is_fence k) (eqb address 0) (eqb (address % size) 0 && leb (address + size) (8 * lines))

-- 26 (document 02, P3), at once after 8: is a semaphore's line WB?
unfoldable pub question26 : List Attribute → Kind → ℕ → Bool
question26 lines k address = cond (is_semaphore k) (is_WB (get_or lines (address / 8) WC)) true

-- 27 (document 02, P7), at once after these: have all lines of the access the attribute byte of the first?
unfoldable pub question27 : List Attribute → ℕ → ℕ → Bool
question27 lines size address = all (λ k. eqb (number k) (number (address / 8))) (lines_from address size)
  where
    number : ℕ → ℕ
    number k = attribute_number (get_or lines k WC)

-- 9: are data bytes past the size zero, of the first eight and of those after them? (Size 16 leaves none.)
unfoldable pub question9 : ℕ → List ℕ → Bool
question9 size bytes = spare (take 8 bytes) && spare (drop 8 bytes)
  where
    spare : List ℕ → Bool
    spare value = all (eqb 0) (drop size value)

-- 10 is not asked: document 02, P2, accepts a record with no instruction. The number stays unused.

-- 11, after the last program: is N at most 128?
unfoldable pub question11 : ℕ → Bool
question11 n = leb n 128

-- 12: are there at most 40 pairs?
unfoldable pub question12 : ℕ → Bool
question12 n = leb n 40

abbrev pub no_instruction : Instruction
no_instruction = record { number = 0; first = 0; processor = 0; kind = mf; address = 0; size = 0; seen = []; wrote = [] }

-- 13: is the pair's first number below its second, both in one program, neither an mf, not both stores (a semaphore is none here)?
unfoldable pub question13 : List Instruction → ℕ → ℕ → Bool
question13 is m n =
    let i = get_or is m no_instruction in
    let j = get_or is n no_instruction in
    ltb m n
    && (ltb n (length is) && eqb i.processor j.processor)
    && (not (is_fence i.kind) && not (is_fence j.kind))
    && not (is_only_store i.kind && is_only_store j.kind)

-- 14: is the pair above the one before it (first number, then second)?
unfoldable pub question14 : List (ℕ × ℕ) → ℕ → ℕ → Bool
question14 [] m n = true
question14 (p ∷ []) m n = ltb p.0 m || (eqb p.0 m && ltb p.1 n)
question14 (p ∷ (q ∷ ps)) m n = question14 (q ∷ ps) m n

-- 15: does the record end here?
unfoldable pub question15 : Reader (Unit {0})
question15 [] = found tt []
question15 (b ∷ bytes) = no_to 15

-- The walk

-- n values one after the other, each read with those before it in `done`
module _ {A : Type 0} (read : List A → Reader A) where
  unfoldable pub many : ℕ → List A → Reader (List A)
  many zero done = pure done
  many (suc left) done = do
    a ← read done
    many left (done ++ (a ∷ []))

-- a line
unfoldable pub line_of : List ℕ → Line
line_of x = record { attribute = attribute_of (at x 0); initial = drop 1 x }

unfoldable pub read_line : Reader Line
read_line = do
  x ← item line_length
  ask 4 (question4 (at x 0))
  pure (line_of x)

unfoldable pub read_lines : Reader (List Line)
read_lines = do
  n ← byte
  ask 3 (question3 n)
  many (λ done. read_line) n []

-- what an instruction saw and what it wrote, of its size, by its data bytes: a semaphore has both, the eight bytes seen first
unfoldable pub seen_of : Kind → ℕ → List ℕ → List ℕ
seen_of k size bytes = cond (is_load k) (take size bytes) []

-- where the bytes written begin: in a semaphore behind the eight seen
abbrev pub written_from : Kind → ℕ
written_from k = cond (is_semaphore k) 8 0

unfoldable pub wrote_of : Kind → ℕ → List ℕ → List ℕ
wrote_of k size bytes = cond (is_store k) (take size (drop (written_from k) bytes)) []

-- an instruction of processor p, by all bytes of its entry; `done` are those before it
unfoldable pub instruction_of : ℕ → ℕ → List Instruction → List ℕ → Instruction
instruction_of processors p done x = record {
  number = length done;
  first = operation_count processors done;
  processor = p;
  kind = kind_of (at x 0);
  address = at x 1;
  size = at x 2;
  seen = seen_of (kind_of (at x 0)) (at x 2) (drop 3 x);
  wrote = wrote_of (kind_of (at x 0)) (at x 2) (drop 3 x);
}

-- `lines` are the attributes of the lines
unfoldable pub read_instruction : ℕ → List Attribute → ℕ → List Instruction → Reader Instruction
read_instruction processors lines p done = do
  x ← item entry_length
  ask 6 (question6 (at x 0))
  ask 7 (question7 (kind_of (at x 0)) (at x 2))
  y ← item (more_length (kind_of (at x 0)) (at x 2))
  ask 8 (question8 (length lines) (kind_of (at x 0)) (at x 2) (at x 1))
  ask 26 (question26 lines (kind_of (at x 0)) (at x 1))
  ask 27 (question27 lines (at x 2) (at x 1))
  ask 9 (question9 (at x 2) (drop 3 (x ++ y)))
  pure (instruction_of processors p done (x ++ y))

-- the program of processor p, from its count on
unfoldable pub read_program : ℕ → List Attribute → ℕ → List Instruction → Reader (List Instruction)
read_program processors lines p done = do
  n ← byte
  ask 5 (question5 done n)
  many (read_instruction processors lines p) n done

-- the programs of so many processors, from processor p on
unfoldable pub read_programs : ℕ → List Attribute → ℕ → ℕ → List Instruction → Reader (List Instruction)
read_programs processors lines p zero done = pure done
read_programs processors lines p (suc left) done = do
  more ← read_program processors lines p done
  read_programs processors lines (suc p) left more

unfoldable pub read_instructions : ℕ → List Attribute → Reader (List Instruction)
read_instructions processors lines = do
  is ← read_programs processors lines 0 processors []
  ask 11 (question11 (operation_count processors is))
  pure is

-- a dependence pair; `done` are those before it
unfoldable pub read_pair : List Instruction → List (ℕ × ℕ) → Reader (ℕ × ℕ)
read_pair is done = do
  x ← item pair_length
  ask 13 (question13 is (at x 0) (at x 1))
  ask 14 (question14 done (at x 0) (at x 1))
  pure (at x 0, at x 1)

unfoldable pub read_pairs : List Instruction → Reader (List (ℕ × ℕ))
read_pairs is = do
  n ← byte
  ask 12 (question12 n)
  many (read_pair is) n []

abbrev pub line_attributes : List Line → List Attribute
line_attributes lines = map (λ l. l.attribute) lines

unfoldable pub read_record : Reader Execution
read_record = do
  p ← byte
  ask 2 (question2 p)
  lines ← read_lines
  is ← read_instructions p (line_attributes lines)
  pairs ← read_pairs is
  question15
  pure (record { processors = p; lines = lines; instructions = is; pairs = pairs })
