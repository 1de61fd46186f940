-- Paths of links by what they are, with no algorithm; what it is for marks and bytes to be the paths, and the claim that those of the call are.
use Rattle.std.specs.Prelude.{ℕ, ◌+◌, ◌*◌, ◌<◌, ◌≤◌, ◌≡◌, ◌↔◌, length, get_or}
use mathlib.Core.List.{List, Memᴰ}
use Rattle.model.specs.Execution.{Execution, operations}
use Rattle.model.specs.Rules.{Link, links_of, linked}
use Rattle.model.specs.Chains.{chain_mark}
use Rattle.model.specs.Calls.{says, read_all, table_call}

-- a path from a to b: one link, or a link and then a path
pub data Path (links : List Link) : ℕ → ℕ → Type 0 where
  one : {a b : ℕ} → Memᴰ (a, b) links → Path links a b
  more : {a b c : ℕ} → Memᴰ (a, b) links → Path links b c → Path links a c

-- the links are between numbers below n
abbrev pub Within : ℕ → List Link → Type 0
Within n links = (a b : ℕ) → Memᴰ (a, b) links → (a < n) × (b < n)

-- the chain mark (a, b) is 1 exactly where a path leads from a to b
abbrev pub MarksArePaths : ℕ → List Link → Type 0
MarksArePaths n links = (a b : ℕ) → a < n → b < n → (chain_mark n links a b ≡ 1) ↔ Path links a b

-- mark (a, b) of a table of n rows of n marks: the byte at a × n + b
abbrev pub mark : ℕ → List ℕ → ℕ → ℕ → ℕ
mark n table a b = get_or table (a * n + b) 0

-- mark (a, b) of a table, a and b below n, is 1 exactly where a path leads from a to b
abbrev pub BytesArePaths : ℕ → List Link → List ℕ → Type 0
BytesArePaths n links table = (a b : ℕ) → a < n → b < n → (mark n table a b ≡ 1) ↔ Path links a b

-- Where the record is accepted and the table has room, the call leaves a mark of 1 exactly where a path of links leads.
abbrev pub ChainsArePaths : Type 0
ChainsArePaths =
    (bytes table : List ℕ) (e : Execution) → read_all bytes ≡ says e → operations e * operations e ≤ length table
    → BytesArePaths (operations e) (links_of e (linked e)) (table_call bytes table).table
