-- One line more: what is set in the arrays is the line read, and the lines before it are as they were.
use Prim.Native.Nat.{ℕ, ◌+◌, ◌-◌, ◌*◌, ◌≤◌, ◌<◌}
use native.Mathlib.Omega.{arith}
use native.Mathlib.Nat.{add-zero}
use native.Mathlib.Numerals.{add-one}
use mathlib.Core.Path.{◌≡◌, sym, ap, ◌∙◌}
use mathlib.Core.List.{List, [], ◌∷◌, ◌++◌, map}
use lib.ListN.{length, get_or, take, drop, set}
use lib.Seq.{get_or-set_same, get_or-set_other, get_or-take, get_or-drop, drop-drop}
use mathlib.Core.Bool.{true, false, and-false}
use lib.Dec.{leb}
use borrow.Author.Tests.{le-leb, lt-leb}
use Rattle.base.specs.Lists.{below}
use Rattle.base.proofs.Lists.{map_below_more}
use Rattle.model.specs.Execution.{Line, attribute_of}
use Rattle.model.specs.Questions.{line_of, Found, read_line, read_lines, many, no_to, found, next, ask, question3, question4}
use Rattle.record_decoded.specs.declared.types.Lines.{Lines}
use Rattle.record_decoded.specs.Decoded.{decoded_line, lines_of}
use Rattle.record_decoded.proofs.Items.{Going, going_on, item_short, item_there, byte_short, byte_there}
use Rattle.record_decoded.proofs.DataBytes.{drop_take}

module _ (x r : Lines) (part : List ℕ) (at : ℕ) (few : x.count < 8) (here : at ≡ 1 + 9 * x.count)
    (long : length x.attributes ≡ 8)
    (counted : r.count ≡ x.count + 1)
    (attributes : r.attributes ≡ set x.attributes x.count (get_or part at 0)) where
  line_new : decoded_line part r x.count ≡ line_of (take 9 (drop at part))
  unfolding decoded_line line_of
  line_new = λ i. record {
    attribute = attribute_of (same i);
    initial = bytes i;
  }
    where
      same : get_or r.attributes x.count 0 ≡ get_or (take 9 (drop at part)) 0 0
      same =
          ap (λ (l : List ℕ). get_or l x.count 0) attributes
          ∙ get_or-set_same x.attributes x.count (get_or part at 0) 0 (omega arith)
          ∙ sym (get_or-take 9 (drop at part) 0 0 (omega arith) ∙ get_or-drop at part 0 0 ∙ ap (λ (k : ℕ). get_or part k 0) (add-zero at))

      bytes : take 8 (drop (2 + 9 * x.count) part) ≡ drop 1 (take 9 (drop at part))
      bytes =
          let next : 2 + 9 * x.count ≡ at + 1 = omega arith in
          ap (λ (k : ℕ). take 8 (drop k part)) next
          ∙ sym (drop_take 1 8 (drop at part) ∙ ap (take 8) (drop-drop 1 at part))

  line_old : (j : ℕ) → j < x.count → decoded_line part r j ≡ decoded_line part x j
  unfolding decoded_line
  line_old j h = λ i. record {
    attribute = attribute_of (same i);
    initial = take 8 (drop (2 + 9 * j) part);
  }
    where
      same : get_or r.attributes j 0 ≡ get_or x.attributes j 0
      same =
          ap (λ (l : List ℕ). get_or l j 0) attributes
          ∙ get_or-set_other x.attributes x.count j (get_or part at 0) 0 (omega arith)

  pub line_more : lines_of part r ≡ lines_of part x ++ (line_of (take 9 (drop at part)) ∷ [])
  unfolding lines_of
  line_more =
      ap (λ (k : ℕ). map (decoded_line part r) (below k)) (counted ∙ add-one x.count)
      ∙ map_below_more (decoded_line part r) (decoded_line part x) x.count line_old
      ∙ ap (λ (l : Line). lines_of part x ++ (l ∷ [])) line_new

-- the questions of a line
module _ (part : List ℕ) where
  pub line_short : length part < 9 → read_line part ≡ no_to 1
  unfolding read_line next
  line_short h = rw (item_short 9 part h)

  pub line_unknown : 9 ≤ length part → question4 (get_or (take 9 part) 0 0) ≡ false → read_line part ≡ no_to 4
  unfolding read_line next ask
  line_unknown room h = rw (item_there 9 part room, h)

  pub line_passes : 9 ≤ length part → question4 (get_or (take 9 part) 0 0) ≡ true → read_line part ≡ found (line_of (take 9 part)) (drop 9 part)
  unfolding read_line next ask
  line_passes room h = rw (item_there 9 part room, h)

-- the count of lines, and its question
module _ (part : List ℕ) where
  pub lines_short : length part < 1 → read_lines part ≡ no_to 1
  unfolding read_lines next
  lines_short h = rw (byte_short part h)

  module _ (room : 1 ≤ length part) where
    pub lines_refused : question3 (get_or part 0 0) ≡ false → read_lines part ≡ no_to 3
    unfolding read_lines next ask
    lines_refused h = rw (byte_there part room, h)

    pub lines_counted : question3 (get_or part 0 0) ≡ true → read_lines part ≡ many (λ done. read_line) (get_or part 0 0) [] (drop 1 part)
    unfolding read_lines next ask
    lines_counted h = rw (byte_there part room, h)

pub too_few : (n : ℕ) → n < 1 → question3 n ≡ false
unfolding question3
too_few n h = rw (lt-leb 1 n h)

pub too_many : (n : ℕ) → 8 < n → question3 n ≡ false
unfolding question3
too_many n h = rw (lt-leb n 8 h) (and-false (leb 1 n))

pub enough : (n : ℕ) → 1 ≤ n → n ≤ 8 → question3 n ≡ true
unfolding question3
enough n h k = rw (le-leb 1 n h, le-leb n 8 k)

-- a turn of the loop over lines: it is read from the bytes that are left, and taken in
module _ (part : List ℕ) (x r : Lines) (n i a : ℕ) {rest after : List ℕ} {whole : Found (List Line)}
    (going : Going (λ done. read_line) whole n i (lines_of part x) rest) (counted : x.count ≡ i) (here : rest ≡ drop (1 + 9 * i) part) where
  pub line_turn : i < n → read_line rest ≡ found (line_of (take 9 rest)) after → a ≡ get_or rest 0 0 → after ≡ drop 9 rest
      → r.count ≡ x.count + 1
      → (get_or part (1 + 9 * x.count) 0 ≡ a → lines_of part r ≡ lines_of part x ++ (line_of (take 9 (drop (1 + 9 * x.count) part)) ∷ []))
      → Going (λ done. read_line) whole n (i + 1) (lines_of part r) after × (r.count ≡ i + 1) × (after ≡ drop (1 + 9 * (i + 1)) part)
  line_turn few read first left more holds =
      let rest_is : rest ≡ drop (1 + 9 * x.count) part = here ∙ ap (λ (k : ℕ). drop (1 + 9 * k) part) (sym counted) in
      let byte : get_or part (1 + 9 * x.count) 0 ≡ a =
      ap (λ (k : ℕ). get_or part k 0) (sym (add-zero (1 + 9 * x.count))) ∙ sym (first ∙ ap (λ (l : List ℕ). get_or l 0 0) rest_is ∙ get_or-drop (1 + 9 * x.count) part 0 0) in (
        going_on going few read (holds byte ∙ ap (λ (l : List ℕ). lines_of part x ++ (line_of (take 9 l) ∷ [])) (sym rest_is)),
        omega (arith, more, counted),
        left ∙ ap (drop 9) here ∙ drop-drop 9 (1 + 9 * i) part ∙ ap (λ (k : ℕ). drop k part) (let z : 1 + 9 * i + 9 ≡ 1 + 9 * (i + 1) = omega arith in z),
      )
