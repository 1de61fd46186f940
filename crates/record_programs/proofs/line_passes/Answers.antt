-- A semaphore's line is asked for, another's is not.
use Rattle.std.proofs.Common.{rules}
use Rattle.model.specs.Questions.{question26}
use Rattle.record_programs.proofs.line_passes.Goals as goal

pub returns-then-not-is_semaphore : goal.returns-then-not-is_semaphore
unfolding question26
returns-then-not-is_semaphore c = search rules

pub returns-else-not-is_semaphore : goal.returns-else-not-is_semaphore
unfolding question26
returns-else-not-is_semaphore c = search rules
