-- Each turn reads one program more; what is left decides the whole.
use Rattle.record_decoded.specs.Decoded.{attributes_of, instructions_of, Counted}
use Rattle.record_programs.proofs.ProgramLaws.{Programs}
use Rattle.record_programs.proofs.read_programs.Given as goal

abbrev pub invariant-loop-p : goal.invariant-loop-p
invariant-loop-p l = Programs l.processors (attributes_of l.lines) l.part l.p (instructions_of l.instructions) l.rest × Counted l.processors l.instructions
