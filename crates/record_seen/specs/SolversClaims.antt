-- Document 02, P12: the claims about the solvers' copy. The first is secrecy, as a statement about two runs.
use Rattle.std.specs.Prelude.{ℕ, ◌≡◌, Bool, true, ◌&&◌, ◌||◌, List, map, length, take, replicate, eqb}
use Rattle.base.specs.Lists.{all, below, member}
use Rattle.model.specs.Execution.{Instruction, Execution}
use Rattle.model.specs.Questions.{at}
use Rattle.model.specs.Calls.{says, read_all, done}
use Rattle.model.specs.SolversCopy.{seen_in, solvers_copy_call}

-- as many bytes, and the same at all other places
unfoldable pub alike_but : List ℕ → List ℕ → List ℕ → Bool
alike_but places a b = eqb (length a) (length b) && all (λ k. member places k || eqb (at a k) (at b k)) (below (length a))

-- 'Two accepted records that differ only there must give identical copies': nothing of the reply tells them apart.
abbrev pub SameCopies : Type 0
SameCopies =
    (a b : List ℕ) (e f : Execution) → read_all a ≡ says e → read_all b ≡ says f → alike_but (seen_in e) a b ≡ true
    → (buffer : List ℕ) → solvers_copy_call a buffer ≡ solvers_copy_call b buffer

-- an instruction that saw zeros
unfoldable pub saw_zeros : Instruction → Instruction
saw_zeros i = record {
  number = i.number;
  first = i.first;
  processor = i.processor;
  kind = i.kind;
  address = i.address;
  size = i.size;
  seen = replicate (length i.seen) 0;
  wrote = i.wrote;
}

-- the same execution but for what was seen
unfoldable pub unseen : Execution → Execution
unseen e = record { processors = e.processors; lines = e.lines; instructions = map saw_zeros e.instructions; pairs = e.pairs }

-- The bytes at the front of the buffer are an accepted record: that of the same execution but for what was seen.
abbrev pub CopyIsRead : Type 0
CopyIsRead =
    (bytes buffer : List ℕ) → (solvers_copy_call bytes buffer).answer ≡ says done
    → (e : Execution)
    × (read_all bytes ≡ says e)
    × (read_all (take (solvers_copy_call bytes buffer).length (solvers_copy_call bytes buffer).buffer) ≡ says (unseen e))
