-- An execution whose processors are numbered anew.
use Prim.Native.Nat.{ℕ, ◌<◌}
use mathlib.Core.Path.{◌≡◌}
use mathlib.Core.Bool.{true}
use mathlib.Core.List.{Memᴰ}
use Rattle.model.specs.Execution.{Instruction, Execution, operations, line_at}
use Rattle.model.specs.Rules.{accesses}

-- an instruction under another number, with another first operation, of another processor; else as it was
abbrev pub moved : (ℕ → ℕ) → (Instruction → ℕ) → (Instruction → ℕ) → Instruction → Instruction
moved to number first i = record {
  number = number i;
  first = first i;
  processor = to i.processor;
  kind = i.kind;
  address = i.address;
  size = i.size;
  seen = i.seen;
  wrote = i.wrote;
}

-- The processors of e numbered anew give f: programs and pairs are carried along.
pub record Renumbers (e f : Execution) : Type 0 where
  pub to : ℕ → ℕ  -- the new number of a processor
  pub number : Instruction → ℕ  -- the new number of an instruction
  pub first : Instruction → ℕ  -- the new number of its first operation
  pub to_low : (p : ℕ) → p < e.processors → to p < e.processors
  pub to_one : (p q : ℕ) → to p ≡ to q → p ≡ q
  -- as many processors, as many operations; the line of each address that is accessed, as it is
  pub same_processors : e.processors ≡ f.processors
  pub same_lines : (i : Instruction) → Memᴰ i e.instructions → (a : ℕ) → accesses i a ≡ true → line_at f a ≡ line_at e a
  pub same_operations : operations e ≡ operations f
  -- the instructions of f are those of e, moved
  pub into : (i : Instruction) → Memᴰ i e.instructions → Memᴰ (moved to number first i) f.instructions
  pub onto : (j : Instruction) → Memᴰ j f.instructions → (i : Instruction) × Memᴰ i e.instructions × (moved to number first i ≡ j)
  -- different ones get different numbers; within a program their order stays
  pub number_one : (i j : Instruction) → Memᴰ i e.instructions → Memᴰ j e.instructions → number i ≡ number j → i.number ≡ j.number
  pub number_rises : (i j : Instruction) → Memᴰ i e.instructions → Memᴰ j e.instructions
      → i.processor ≡ j.processor → i.number < j.number → number i < number j
  -- the pairs go with their instructions
  pub pairs_go : (i j : Instruction) → Memᴰ i e.instructions → Memᴰ j e.instructions
      → Memᴰ (i.number, j.number) e.pairs → Memᴰ (number i, number j) f.pairs
