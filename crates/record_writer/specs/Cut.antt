-- The record to be written, cut behind the first count that is too large; of lines, instructions and pairs there stands 9 or 41, which is too large whatever came
-- before. What was cut off no walk meets.
use Rattle.std.specs.Prelude.{ℕ, zero, suc, ◌+◌, ◌/◌, cond, List, [], ◌∷◌, ◌++◌, length, leb}
use Rattle.model.specs.Questions.{line_length, pair_length}
use Rattle.model.specs.Sections.{Sections, program_of, program_bytes}

unfoldable pub cut_pairs : List ℕ → List ℕ
cut_pairs pairs = cond (leb (length pairs / pair_length) 40) (length pairs / pair_length ∷ pairs) (41 ∷ [])

-- the programs of so many processors from p on, behind `done` instructions, then the pairs
unfoldable pub cut_programs : List ℕ → List ℕ → ℕ → ℕ → ℕ → List ℕ
cut_programs instructions pairs p zero done = cut_pairs pairs
cut_programs instructions pairs p (suc left) done =
    let program = program_of instructions p in
    cond (leb (done + length program) 40)
    (program_bytes program ++ cut_programs instructions pairs (suc p) left (done + length program))
    (41 ∷ [])

unfoldable pub cut_lines : Sections → List ℕ
cut_lines s =
    let n = length s.lines / line_length in
    cond (leb n 8) (n ∷ s.lines ++ cut_programs s.instructions s.pairs 0 s.processors 0) (9 ∷ [])

unfoldable pub cut_record : Sections → List ℕ
cut_record s = s.processors ∷ cond (leb s.processors 8) (cut_lines s) []
