-- How many lines, instructions and pairs the arrays hold, the attributes of the lines, the instruction and the pair at a number, and one more of them.
use Prim.Native.Nat.{ℕ, ◌+◌, ◌<◌}
use native.Mathlib.Numerals.{add-one}
use native.Mathlib.Omega.{arith}
use mathlib.Core.Path.{◌≡◌, sym, ap, ◌∙◌}
use mathlib.Core.List.{List, [], ◌∷◌, ◌++◌}
use lib.ListN.{length, get_or, take, length-map, get_or-map}
use lib.Seq.{take-suc}
use Rattle.base.specs.Lists.{below}
use Rattle.base.proofs.Lists.{length_count, getD_below, map_map}
use Rattle.model.specs.Execution as model
use Rattle.model.specs.Execution.{attribute_of}
use Rattle.model.specs.Questions.{line_attributes}
use Rattle.record_decoded.specs.declared.types.Lines.{Lines}
use Rattle.record_decoded.specs.declared.types.Instructions.{Instructions}
use Rattle.record_decoded.specs.declared.types.Pairs.{Pairs}
use Rattle.record_decoded.specs.Decoded.{decoded_line, lines_of, attributes_of, instruction_at, instructions_of, pair_at, pairs_of}

pub lines_length : (part : List ℕ) (x : Lines) → length (lines_of part x) ≡ x.count
unfolding lines_of below
lines_length part x = length-map (below x.count) (decoded_line part x) ∙ length_count 0 x.count

-- the attributes of the lines, whatever their initial bytes are
pub attributes_are : (part : List ℕ) (x : Lines) → line_attributes (lines_of part x) ≡ attributes_of x
unfolding lines_of attributes_of decoded_line
attributes_are part x = map_map (λ (l : model.Line). l.attribute) (decoded_line part x) (below x.count)

pub attributes_length : (x : Lines) → length (attributes_of x) ≡ x.count
unfolding attributes_of below
attributes_length x = length-map (below x.count) (λ k. attribute_of (get_or x.attributes k 0)) ∙ length_count 0 x.count

pub attribute_at_lem : (part : List ℕ) (x : Lines) (k : ℕ) → get_or (attributes_of x) k model.WC ≡ (get_or (lines_of part x) k model.no_line).attribute
attribute_at_lem part x k =
    ap (λ (l : List model.Attribute). get_or l k model.WC) (sym (attributes_are part x)) ∙ get_or-map (λ (l : model.Line). l.attribute) (lines_of part x) k model.no_line

pub instructions_length : (x : Instructions) → length (instructions_of x) ≡ x.count
unfolding instructions_of below
instructions_length x = length-map (below x.count) (instruction_at x) ∙ length_count 0 x.count

pub instruction_there : (x : Instructions) (i : ℕ) (d : model.Instruction) → i < x.count → get_or (instructions_of x) i d ≡ instruction_at x i
unfolding instructions_of
instruction_there x i d h = getD_below (instruction_at x) d x.count i h

-- one instruction more
pub instructions_more : (x : Instructions) (i : ℕ) → i < x.count → take (i + 1) (instructions_of x) ≡ take i (instructions_of x) ++ (instruction_at x i ∷ [])
instructions_more x i h =
    ap (λ (j : ℕ). take j (instructions_of x)) (add-one i)
    ∙ take-suc (instructions_of x) i (instruction_at x i) (omega (arith, h, instructions_length x))
    ∙ ap (λ (j : model.Instruction). take i (instructions_of x) ++ (j ∷ [])) (instruction_there x i (instruction_at x i) h)

pub pairs_length : (x : Pairs) → length (pairs_of x) ≡ x.count
unfolding pairs_of below
pairs_length x = length-map (below x.count) (pair_at x) ∙ length_count 0 x.count

-- one pair more
pub pairs_more : (x : Pairs) (j : ℕ) → j < x.count → take (j + 1) (pairs_of x) ≡ take j (pairs_of x) ++ (pair_at x j ∷ [])
unfolding pairs_of
pairs_more x j h =
    ap (λ (k : ℕ). take k (pairs_of x)) (add-one j)
    ∙ take-suc (pairs_of x) j (pair_at x j) (omega (arith, h, pairs_length x))
    ∙ ap (λ (q : ℕ × ℕ). take j (pairs_of x) ++ (q ∷ [])) (getD_below (pair_at x) (pair_at x j) x.count j h)
