-- Each operation of the table is one of the execution, of an instruction of the record; what an accepted execution gives the functions that make tables.
use Prim.Native.Nat.{ℕ, ◌≤◌, ◌<◌}
use native.Mathlib.Omega.{arith}
use mathlib.Core.Path.{◌≡◌, sym, ap, ◌∙◌, subst}
use mathlib.Core.List.Memᴰ
use mathlib.Core.List.{List, Memᴰ}
use lib.ListN.{length, get_or, drop, length-map}
use Rattle.base.specs.Lists.{for, below}
use Rattle.base.proofs.Lists.{length_count, in_below, of_below}
use Rattle.model.specs.Execution as model
use Rattle.model.specs.Execution.{roles, number_of, operation_count, operations, operations_of, all_operations}
use Rattle.model.specs.Accepted.{Consecutive, Sound, SoundLines, Each, Accepted}
use Rattle.record_decoded.specs.declared.types.Execution.{Execution}
use Rattle.record_decoded.specs.Kinds.{role_numbered}
use Rattle.record_decoded.specs.Decoded.{lines_of, pair_at, pairs_of, instruction_at, instructions_of, execution_of}
use Rattle.record_decoded.proofs.Arrays.{lines_length, attributes_are, instructions_length}
use Rattle.relation_links.specs.declared.operations.Operations.{Operations}
use Rattle.relation_marks.specs.Marks.{marks_between, mark_at}
use Rattle.relation_links.specs.Operations.{operation_at, table_of, Tabled}
use Rattle.relation_links.specs.Compiled.{CompiledIn}
use Rattle.model.proofs.Ownership.{operation_of_lem, operation_role, operation_number}

module _ {bytes : List ℕ} {x : Execution} {t : Operations} {marks : List (List ℕ)} (h : CompiledIn bytes x t marks) where
  -- operation o of the table is one of the execution
  pub operation_there : (o : ℕ) → o < t.count → Memᴰ (operation_at x.instructions t o) (all_operations (execution_of bytes x))
  unfolding table_of
  operation_there o l = subst (Memᴰ (operation_at x.instructions t o)) h.tabled.holds (Memᴰ.map (operation_at x.instructions t) (in_below t.count o l))

  -- its instruction, its role and its number
  module _ (o : ℕ) (l : o < t.count) where
    abbrev owner : model.Instruction
    owner = instruction_at x.instructions (get_or t.owners o 0)

    abbrev role : model.Role
    role = role_numbered (get_or t.roles o 0)

    pub owner_in : Memᴰ owner (execution_of bytes x).instructions
    unfolding operation_at
    owner_in = operation_of_lem (execution_of bytes x) (operation_at x.instructions t o) (operation_there o l)

    pub role_in : Memᴰ role (roles (execution_of bytes x).processors owner.kind)
    unfolding operation_at
    role_in = operation_role (execution_of bytes x) (operation_at x.instructions t o) (operation_there o l)

    pub number_is : o ≡ number_of owner role
    unfolding operation_at
    number_is = operation_number (execution_of bytes x) (operation_at x.instructions t o) (operation_there o l)

  -- its instruction is one of the record
  pub owner_there : (o : ℕ) → o < t.count → get_or t.owners o 0 < x.instructions.count
  unfolding operation_at instructions_of instruction_at execution_of
  owner_there o l =
      let (k, m, q) = Memᴰ.of_map (instruction_at x.instructions) (below x.instructions.count)
      (operation_of_lem (execution_of bytes x) (operation_at x.instructions t o) (operation_there o l)) in
      subst (λ (i : ℕ). i < x.instructions.count) (ap (λ (i : model.Instruction). i.number) q) (of_below x.instructions.count m)

  -- the operation of a number
  pub operation_numbered : (o : model.Operation) → Memᴰ o (all_operations (execution_of bytes x)) → operation_at x.instructions t o.number ≡ o
  unfolding table_of operation_at
  operation_numbered o m =
      let (i, w, q) = Memᴰ.of_map (operation_at x.instructions t) (below t.count) (subst (Memᴰ o) (sym h.tabled.holds) m) in
      ap (operation_at x.instructions t) (ap (λ (k : model.Operation). k.number) (sym q)) ∙ q

-- what the arrays of an accepted execution hold
module _ (bytes : List ℕ) (x : Execution) (a : Accepted (execution_of bytes x)) where
  pub few_processors : x.processors ≤ 8
  unfolding execution_of
  few_processors = a.processors_few

  pub few_lines : x.lines.count ≤ 8
  unfolding execution_of
  few_lines = omega (arith, a.lines_few, lines_length (drop 1 bytes) x.lines)

  pub few_instructions : x.instructions.count ≤ 40
  unfolding execution_of
  few_instructions = omega (arith, a.instructions_few, instructions_length x.instructions)

  pub few_pairs : x.pairs.count ≤ 40
  unfolding execution_of pairs_of below
  few_pairs = omega (arith, a.pairs_few, length-map (below x.pairs.count) (pair_at x.pairs), length_count 0 x.pairs.count)

  pub few_operations : operation_count x.processors (instructions_of x.instructions) ≤ 128
  unfolding execution_of operations
  few_operations = a.operations_few

  pub consecutive_here : Consecutive x.processors 0 0 (instructions_of x.instructions)
  unfolding execution_of
  consecutive_here = a.consecutive

-- what the functions that make tables promise, together
pub compiled : (bytes : List ℕ) (x : Execution) {t : Operations} {marks : List (List ℕ)}
    → Tabled x.instructions t (for (instructions_of x.instructions) (operations_of x.processors)) (operation_count x.processors (instructions_of x.instructions))
    → ((i j : ℕ) → i < x.instructions.count → j < x.instructions.count
    → mark_at marks i j ≡ marks_between (execution_of bytes x) (instruction_at x.instructions i) (instruction_at x.instructions j))
    → CompiledIn bytes x t marks
unfolding execution_of operations all_operations
compiled bytes x h k = record { tabled = h; marked = k }

-- whether an execution is accepted does not hang on its initial bytes
pub accepted_anyhow : (bytes : List ℕ) (x : Execution) → Accepted (execution_of bytes x) → (others : List ℕ) → Accepted (execution_of others x)
unfolding execution_of operations
accepted_anyhow bytes x a others = record {
  processors_few = a.processors_few;
  lines_some = subst (λ (n : ℕ). 1 ≤ n) same a.lines_some;
  lines_few = subst (λ (n : ℕ). n ≤ 8) same a.lines_few;
  instructions_few = a.instructions_few;
  operations_few = a.operations_few;
  pairs_few = a.pairs_few;
  consecutive = a.consecutive;
  sound = subst (λ (n : ℕ). Each (Sound x.processors n) (instructions_of x.instructions)) same a.sound;
  sound_lines = subst (λ (l : List model.Attribute). Each (SoundLines l) (instructions_of x.instructions))
      (attributes_are (drop 1 bytes) x.lines ∙ sym (attributes_are (drop 1 others) x.lines)) a.sound_lines;
  rising = a.rising;
}
  where
    same : length (lines_of (drop 1 bytes) x.lines) ≡ length (lines_of (drop 1 others) x.lines)
    same = lines_length (drop 1 bytes) x.lines ∙ sym (lines_length (drop 1 others) x.lines)
