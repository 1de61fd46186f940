-- Each turn reads one instruction more; what is left decides the whole.
use Prim.Native.Nat.{◌+◌}
use mathlib.Core.Path.{◌≡◌}
use lib.ListN.{drop}
use Rattle.model.specs.Questions.{read_instruction, many}
use Rattle.record_decoded.specs.Decoded.{attributes_of, instructions_of, Counted}
use Rattle.record_decoded.proofs.Items.{Going}
use Rattle.record_programs.proofs.read_program.Given as goal

abbrev pub invariant-loop : goal.invariant-loop
invariant-loop l =
    Going (read_instruction l.processors (attributes_of l.lines) l.p) (many (read_instruction l.processors (attributes_of l.lines) l.p) l.n (instructions_of l.initial.instructions) (drop 1 l.part)) l.n l.counter (instructions_of l.instructions) l.rest
    × Counted l.processors l.instructions × (l.instructions.count ≡ l.initial.instructions.count + l.counter)
