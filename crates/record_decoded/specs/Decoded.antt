-- What the decoded arrays and the record's initial bytes hold, in the model's terms.
use Rattle.std.specs.Prelude.{ℕ, ◌+◌, ◌*◌, ◌/◌, ◌≤◌, ◌≡◌, cond, List, map, get_or, take, drop, ltb}
use Rattle.base.specs.Lists.{below}
use Rattle.model.specs.Execution as model
use Rattle.model.specs.Execution.{kind_of, attribute_of, operation_count}
use Rattle.model.specs.Questions.{line_length, initial_place, seen_of, wrote_of}
use Rattle.record_decoded.specs.declared.types.Lines.{Lines}
use Rattle.record_decoded.specs.declared.types.Instructions.{Instructions}
use Rattle.record_decoded.specs.declared.types.Pairs.{Pairs}
use Rattle.record_decoded.specs.declared.types.Execution.{Execution}

-- the sixteen data bytes of an instruction
unfoldable pub data_of : List ℕ → ℕ → List ℕ
data_of l i = take 16 (drop (16 * i) l)

-- line k, whose initial bytes stay in the record: `part` is the record from the count of lines on
unfoldable pub decoded_line : List ℕ → Lines → ℕ → model.Line
decoded_line part x k = record { attribute = attribute_of (get_or x.attributes k 0); initial = take 8 (drop (2 + line_length * k) part) }

unfoldable pub lines_of : List ℕ → Lines → List model.Line
lines_of part x = map (decoded_line part x) (below x.count)

-- the attributes of the lines
unfoldable pub attributes_of : Lines → List model.Attribute
attributes_of x = map (λ k. attribute_of (get_or x.attributes k 0)) (below x.count)

-- the initial byte of an address in a record of so many lines; 0 past the lines and past the record
unfoldable pub initial_of : List ℕ → ℕ → ℕ → ℕ
initial_of bytes count address = cond (ltb (address / 8) count) (get_or bytes (initial_place address) 0) 0

-- instruction i
unfoldable pub instruction_at : Instructions → ℕ → model.Instruction
instruction_at x i = record {
  number = i;
  first = get_or x.firsts i 0;
  processor = get_or x.processors i 0;
  kind = kind_of (get_or x.kinds i 0);
  address = get_or x.addresses i 0;
  size = get_or x.sizes i 0;
  seen = seen_of (kind_of (get_or x.kinds i 0)) (get_or x.sizes i 0) (data_of x.bytes i);
  wrote = wrote_of (kind_of (get_or x.kinds i 0)) (get_or x.sizes i 0) (data_of x.bytes i);
}

unfoldable pub instructions_of : Instructions → List model.Instruction
instructions_of x = map (instruction_at x) (below x.count)

-- The arrays hold at most 40 instructions, and `operations` is the number of their operations.
pub record Counted (processors : ℕ) (x : Instructions) : Type 0 where
  pub few : x.count ≤ 40
  pub counted : x.operations ≡ operation_count processors (instructions_of x)
  pub bounded : x.operations ≤ 10 * x.count

-- pair k
unfoldable pub pair_at : Pairs → ℕ → ℕ × ℕ
pair_at x k = (get_or x.earlier k 0, get_or x.later k 0)

unfoldable pub pairs_of : Pairs → List (ℕ × ℕ)
pairs_of x = map (pair_at x) (below x.count)

-- the pair at an index of the record
abbrev pub pair_of : List ℕ → ℕ → ℕ × ℕ
pair_of part at = (get_or part at 0, get_or part (at + 1) 0)

-- the execution that the decoded arrays hold, with the initial bytes of the record, in which P stands before the lines
unfoldable pub execution_of : List ℕ → Execution → model.Execution
execution_of bytes x = record {
  processors = x.processors;
  lines = lines_of (drop 1 bytes) x.lines;
  instructions = instructions_of x.instructions;
  pairs = pairs_of x.pairs;
}
