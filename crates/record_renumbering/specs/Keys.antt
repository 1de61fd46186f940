-- Keys of processors: whoever sorts the processors by them has the smallest form of the record.
use Rattle.std.specs.Prelude.{ℕ, Bool, List, [], ◌∷◌, ◌++◌}
use Rattle.base.specs.Lists.{for}
use Rattle.base.specs.Lex.{lex_less}
use Rattle.base.specs.Orders.{sorted}
use Rattle.model.specs.Execution.{Instruction, Execution}
use Rattle.model.specs.Sections.{pair_bytes}
use Rattle.model.specs.Renumbering.{Processor, processor_at}

-- the pairs of a processor in its key: their bytes, and one above all instruction numbers, so that of two lists the one that begins the other comes later
abbrev pub pairs_key : List (ℕ × ℕ) → List ℕ
pairs_key pairs = for pairs pair_bytes ++ (255 ∷ [])

-- the key of a processor: its program, then its own pairs
unfoldable pub key : Processor → List ℕ
key c = c.program ++ pairs_key c.pairs

-- processor a has a lower key than processor b
abbrev pub key_less : List Instruction → List (ℕ × ℕ) → ℕ → ℕ → Bool
key_less is pairs a b = lex_less (key (processor_at is pairs a)) (key (processor_at is pairs b))

abbrev pub sorted_processors : Execution → List ℕ
sorted_processors e = sorted (key_less e.instructions e.pairs) e.processors
