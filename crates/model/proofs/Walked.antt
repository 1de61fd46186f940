-- The start of a record that is found, by its bytes: P, the lines one after the other, and what follows them.
use Prim.Native.Nat.{ℕ, zero, suc, ◌+◌, ◌*◌, ◌<◌}
use native.Mathlib.Omega.{arith}
use mathlib.Core.Path.{◌≡◌, sym, ap, ◌∙◌, subst}
use mathlib.Core.List.{List, [], ◌∷◌, ◌++◌}
use lib.ListN.{length, get_or, take, drop, length-append, get_or-append}
use lib.Seq.{drop-drop, get_or-take, get_or-drop, get_or-append_seam}
use Rattle.model.specs.Execution.{Line, no_line, Execution}
use Rattle.model.specs.Questions.{found, item, byte, ask, many, question2, question3, question4, question15, line_of, read_line, read_lines, line_attributes, read_instructions, read_pairs, read_record}
use Rattle.model.proofs.Accepted.{step, asked_on, byte_came, item_came, many_length}

-- a line is the next nine bytes
line_came : (bytes : List ℕ) (l : Line) (r : List ℕ) → read_line bytes ≡ found l r → (line_of (take 9 bytes) ≡ l) × (drop 9 bytes ≡ r)
unfolding read_line
line_came bytes l r h =
    step (item 9 bytes) _ l r h (λ x b1 e1 h1.
    step (ask 4 _ b1) _ l r h1 (λ u2 b2 e2 h2.
    let (_, t, d) = item_came 9 bytes x b1 e1 in
    let w = asked_on 4 (question4 (get_or x 0 0)) b1 u2 b2 e2 in
    (cc, cc)))

-- those read before stay
many_front : (n : ℕ) (before : List Line) (bytes : List ℕ) (lines : List Line) (r : List ℕ) → many (λ d. read_line) n before bytes ≡ found lines r
    → (j : ℕ) → j < length before → get_or lines j no_line ≡ get_or before j no_line
unfolding many
many_front zero before bytes lines r h j l = let z : before ≡ lines = cc in ap (λ (ls : List Line). get_or ls j no_line) (sym z)
many_front (suc n) before bytes lines r h j l =
    step (read_line bytes) _ lines r h (λ a rest e k.
    many_front n (before ++ (a ∷ [])) rest lines r k j (omega (arith, length-append before (a ∷ []))) ∙ get_or-append before (a ∷ []) no_line j l)

many_at : (n : ℕ) (before : List Line) (bytes : List ℕ) (lines : List Line) (r : List ℕ) → many (λ d. read_line) n before bytes ≡ found lines r
    → (k : ℕ) → k < n → get_or lines (length before + k) no_line ≡ line_of (take 9 (drop (9 * k) bytes))
unfolding many
many_at zero before bytes lines r h k l = absurd (omega arith)
many_at (suc n) before bytes lines r h zero l =
    step (read_line bytes) _ lines r h (λ a rest e g.
    let (is_line, is_rest) = line_came bytes a rest e in
    let here : length before + 0 ≡ length before = omega arith in
    ap (λ (j : ℕ). get_or lines j no_line) here
    ∙ many_front n (before ++ (a ∷ [])) rest lines r g (length before) (omega (arith, length-append before (a ∷ [])))
    ∙ get_or-append_seam before a [] no_line ∙ sym is_line)
many_at (suc n) before bytes lines r h (suc k) l =
    step (read_line bytes) _ lines r h (λ a rest e g.
    let (is_line, is_rest) = line_came bytes a rest e in
    let there : length before + suc k ≡ length (before ++ (a ∷ [])) + k = omega (arith, length-append before (a ∷ [])) in
    let next : 9 + 9 * k ≡ 9 * suc k = omega arith in
    ap (λ (j : ℕ). get_or lines j no_line) there
    ∙ many_at n (before ++ (a ∷ [])) rest lines r g k (omega arith)
    ∙ ap (λ (b : List ℕ). line_of (take 9 (drop (9 * k) b))) (sym is_rest)
    ∙ ap (λ (b : List ℕ). line_of (take 9 b)) (drop-drop (9 * k) 9 bytes ∙ ap (λ (j : ℕ). drop j bytes) next))

many_rest : (n : ℕ) (before : List Line) (bytes : List ℕ) (lines : List Line) (r : List ℕ) → many (λ d. read_line) n before bytes ≡ found lines r
    → drop (9 * n) bytes ≡ r
unfolding many
many_rest zero before bytes lines r h = cc
many_rest (suc n) before bytes lines r h =
    step (read_line bytes) _ lines r h (λ a rest e g.
    let (is_line, is_rest) = line_came bytes a rest e in
    let next : 9 * suc n ≡ 9 + 9 * n = omega arith in
    ap (λ (j : ℕ). drop j bytes) next ∙ sym (drop-drop (9 * n) 9 bytes) ∙ ap (drop (9 * n)) is_rest ∙ many_rest n (before ++ (a ∷ [])) rest lines r g)

-- the attribute byte of line k
pub attribute_place : (bytes : List ℕ) (k : ℕ) → get_or (take 9 (drop (9 * k) (drop 2 bytes))) 0 0 ≡ get_or bytes (2 + 9 * k) 0
attribute_place bytes k =
    let place : 2 + (9 * k + 0) ≡ 2 + 9 * k = omega arith in
    get_or-take 9 (drop (9 * k) (drop 2 bytes)) 0 0 (omega arith) ∙ get_or-drop (9 * k) (drop 2 bytes) 0 0 ∙ get_or-drop 2 bytes (9 * k + 0) 0
    ∙ ap (λ (i : ℕ). get_or bytes i 0) place

-- a record that is found, up to its instructions
pub record Begins (bytes : List ℕ) (e : Execution) : Type 0 where
  pub processors_are : get_or bytes 0 0 ≡ e.processors
  pub lines_are : get_or bytes 1 0 ≡ length e.lines
  pub line_is : (k : ℕ) → k < length e.lines → get_or e.lines k no_line ≡ line_of (take 9 (drop (9 * k) (drop 2 bytes)))
  pub rest : List ℕ
  pub instructions_are : read_instructions e.processors (line_attributes e.lines) (drop (9 * length e.lines) (drop 2 bytes)) ≡ found e.instructions rest

pub begins : (bytes : List ℕ) (e : Execution) (rest : List ℕ) → read_record bytes ≡ found e rest → Begins bytes e
unfolding read_record read_lines
begins bytes e rest h =
    step (byte bytes) _ e rest h (λ p b1 e1 h1.
    step (ask 2 _ b1) _ e rest h1 (λ u2 b2 e2 h2.
    step (read_lines b2) _ e rest h2 (λ lines b3 e3 h3.
    step (read_instructions p (line_attributes lines) b3) _ e rest h3 (λ is b4 e4 h4.
    step (read_pairs is b4) _ e rest h4 (λ pairs b5 e5 h5.
    step (question15 b5) _ e rest h5 (λ u6 b6 e6 h6.
    step (byte b2) _ lines b3 e3 (λ n c1 g1 k1.
    step (ask 3 _ c1) _ lines b3 k1 (λ v2 c2 g2 k2.
    let z : record { processors = p; lines = lines; instructions = is; pairs = pairs } ≡ e = cc in
    let bytes_are : bytes ≡ p ∷ b2 = byte_came bytes p b1 e1 ∙ ap (λ (b : List ℕ). p ∷ b) (asked_on 2 (question2 p) b1 u2 b2 e2) in
    let lines_are : b2 ≡ n ∷ c2 = byte_came b2 n c1 g1 ∙ ap (λ (b : List ℕ). n ∷ b) (asked_on 3 (question3 n) c1 v2 c2 g2) in
    let whole : bytes ≡ p ∷ n ∷ c2 = bytes_are ∙ ap (λ (b : List ℕ). p ∷ b) lines_are in
    let counted : length lines ≡ n = omega (arith, many_length (λ d. read_line) n [] c2 lines b3 k2) in
    subst (Begins bytes) z (record {
      processors_are = ap (λ (b : List ℕ). get_or b 0 0) whole;
      lines_are = ap (λ (b : List ℕ). get_or b 1 0) whole ∙ sym counted;
      line_is = λ k l. (let z : k ≡ 0 + k = omega arith in ap (λ (j : ℕ). get_or lines j no_line) z) ∙ many_at n [] c2 lines b3 k2 k (omega arith) ∙ ap (λ (b : List ℕ). line_of (take 9 (drop (9 * k) (drop 2 b)))) (sym whole);
      rest = b4;
      instructions_are =
          ap (λ (m : ℕ). read_instructions p (line_attributes lines) (drop (9 * m) (drop 2 bytes))) counted
          ∙ ap (λ (b : List ℕ). read_instructions p (line_attributes lines) (drop (9 * n) (drop 2 b))) whole
          ∙ ap (read_instructions p (line_attributes lines)) (many_rest n [] c2 lines b3 k2) ∙ e4;
    })))))))))
