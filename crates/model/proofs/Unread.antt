-- Initial bytes that a load does not read: rule 11 asks the same of it in records that differ in them.
use Prim.Native.Nat.{ℕ, ◌+◌, ◌*◌, ◌/◌, ◌%◌, ◌≤◌, ◌<◌}
use native.Mathlib.Omega.{arith}
use mathlib.Core.Path.{◌≡◌, sym, ap, ◌∙◌}
use mathlib.Core.List.{List, map}
use lib.ListN.{length, get_or, take, drop, length-drop, length-map, get_or-eq_default, get_or-map}
use lib.Seq.{get_or-take, get_or-drop, ext_get_or}
use lib.Dec.{eqb, ltb}
use borrow.Author.Tests.{ltb-true, ltb-false}
use Rattle.base.specs.Lists.{keep}
use Rattle.base.proofs.Bools.{split}
use Rattle.model.specs.Execution.{Attribute, WC, attribute_of, Line, no_line, Instruction, Execution, is_store, R, LV, RV, number_of, stores, line_at, initial_byte}
use Rattle.model.specs.Questions.{initial_place, found, line_of, line_attributes, read_instructions}
use Rattle.model.specs.Rules.{accesses, byte_seen, byte_written, Sight, sees, sight_of, broken}
use Rattle.model.specs.Claims.{DifferElsewhere, OneInitialByte}
use Rattle.model.proofs.Accepted.{read_found}
use Rattle.model.proofs.Walked.{Begins, begins, attribute_place}

-- the initial byte of an address is the one of its place
initial_there : (bytes : List ℕ) (e : Execution) → Begins bytes e → (a : ℕ) → a < 8 * length e.lines → initial_byte e a ≡ get_or bytes (initial_place a) 0
unfolding initial_byte line_at line_of
initial_there bytes e w a l =
    let place : 2 + (9 * (a / 8) + (1 + a % 8)) ≡ initial_place a = omega arith in
    ap (λ (x : Line). get_or x.initial (a % 8) 0) (w.line_is (a / 8) (omega arith))
    ∙ get_or-drop 1 (take 9 (drop (9 * (a / 8)) (drop 2 bytes))) (a % 8) 0
    ∙ get_or-take 9 (drop (9 * (a / 8)) (drop 2 bytes)) (1 + a % 8) 0 (omega arith)
    ∙ get_or-drop (9 * (a / 8)) (drop 2 bytes) (1 + a % 8) 0
    ∙ get_or-drop 2 bytes (9 * (a / 8) + (1 + a % 8)) 0
    ∙ ap (λ (i : ℕ). get_or bytes i 0) place

initial_past : (e : Execution) (a : ℕ) → 8 * length e.lines ≤ a → initial_byte e a ≡ 0
unfolding initial_byte line_at
initial_past e a l = ap (λ (x : Line). get_or x.initial (a % 8) 0) (get_or-eq_default e.lines no_line {n = a / 8} (omega arith))

-- the attribute of a line is that of its byte
attribute_there : (bytes : List ℕ) (e : Execution) → Begins bytes e → (k : ℕ) → k < length e.lines → (get_or e.lines k no_line).attribute ≡ attribute_of (get_or bytes (2 + 9 * k) 0)
unfolding line_of
attribute_there bytes e w k l =
    ap (λ (x : Line). x.attribute) (w.line_is k l) ∙ ap attribute_of (attribute_place bytes k)

-- Two records that differ elsewhere

module _ {b : ℕ} {bytes others : List ℕ} {e d : Execution} (h : DifferElsewhere b bytes others e d) where
  one : Begins bytes e
  one = let (rest, f) = read_found bytes e h.accepted in begins bytes e rest f

  two : Begins others d
  two = let (rest, f) = read_found others d h.others_accepted in begins others d rest f

  pub same_processors : e.processors ≡ d.processors
  same_processors = sym one.processors_are ∙ h.same_else 0 (λ a l q. absurd (omega arith)) ∙ two.processors_are

  same_lines : length e.lines ≡ length d.lines
  same_lines = sym one.lines_are ∙ h.same_else 1 (λ a l q. absurd (omega arith)) ∙ two.lines_are

  -- what follows the lines
  same_rest : drop (9 * length e.lines) (drop 2 bytes) ≡ drop (9 * length e.lines) (drop 2 others)
  same_rest =
      let n = length e.lines in
      ext_get_or 0 (drop (9 * n) (drop 2 bytes)) (drop (9 * n) (drop 2 others))
      (omega (arith, length-drop (9 * n) (drop 2 bytes), length-drop (9 * n) (drop 2 others), length-drop 2 bytes, length-drop 2 others, h.same_length))
      (λ i l.
      get_or-drop (9 * n) (drop 2 bytes) i 0 ∙ get_or-drop 2 bytes (9 * n + i) 0
      ∙ h.same_else (2 + (9 * n + i)) (λ a m q. absurd (omega arith))
      ∙ sym (get_or-drop (9 * n) (drop 2 others) i 0 ∙ get_or-drop 2 others (9 * n + i) 0))

  -- a line's attribute is no initial byte
  same_attribute : (k : ℕ) → k < length e.lines → (get_or e.lines k no_line).attribute ≡ (get_or d.lines k no_line).attribute
  same_attribute k l =
      attribute_there bytes e one k l
      ∙ ap attribute_of (h.same_else (2 + 9 * k) (λ a m q. absurd (omega arith)))
      ∙ sym (attribute_there others d two k (omega (arith, same_lines)))

  same_attributes : line_attributes e.lines ≡ line_attributes d.lines
  same_attributes =
      ext_get_or WC (line_attributes e.lines) (line_attributes d.lines)
      (length-map e.lines (λ l. l.attribute) ∙ same_lines ∙ sym (length-map d.lines (λ l. l.attribute)))
      (λ k l.
      let short : k < length e.lines = omega (arith, length-map e.lines (λ l. l.attribute)) in
      get_or-map (λ l. l.attribute) e.lines k no_line ∙ same_attribute k short ∙ sym (get_or-map (λ l. l.attribute) d.lines k no_line))

  pub same_instructions : e.instructions ≡ d.instructions
  same_instructions =
      let here : read_instructions e.processors (line_attributes e.lines) (drop (9 * length e.lines) (drop 2 bytes)) ≡ found d.instructions two.rest =
      ap (read_instructions e.processors (line_attributes e.lines)) same_rest
      ∙ ap (λ (p : ℕ). read_instructions p (line_attributes e.lines) (drop (9 * length e.lines) (drop 2 others))) same_processors
      ∙ ap (λ (ls : List Attribute). read_instructions d.processors ls (drop (9 * length e.lines) (drop 2 others))) same_attributes
      ∙ ap (λ (n : ℕ). read_instructions d.processors (line_attributes d.lines) (drop (9 * n) (drop 2 others))) same_lines
      ∙ two.instructions_are in
      cc (sym one.instructions_are ∙ here)

  pub same_initial : initial_byte e b ≡ initial_byte d b
  same_initial = split (ltb b (8 * length e.lines))
      (λ t.
      let l = ltb-true b (8 * length e.lines) t in
      initial_there bytes e one b l ∙ h.same_else (initial_place b) (λ a m q. omega arith)
      ∙ sym (initial_there others d two b (omega (arith, same_lines))))
      (λ t.
      let l = ltb-false b (8 * length e.lines) t in
      initial_past e b l ∙ sym (initial_past d b (omega (arith, same_lines))))

  pub same_sight : (l : Instruction) → sight_of e l b ≡ sight_of d l b
  unfolding sight_of stores
  same_sight l = λ i. record {
    reads = number_of l R;
    writers = map (λ w. record {
      own = eqb w.processor l.processor;
      lv = number_of w LV;
      rv = number_of w (RV l.processor);
      wrote = byte_written w b;
    }) (keep (λ w. accesses w b) (keep (λ w. is_store w.kind) (same_instructions i)));
    initial = same_initial i;
    seen = byte_seen l b;
  }

pub one_initial_byte : OneInitialByte
one_initial_byte b bytes others e d h = (same_instructions h, λ l xs. ap (λ (s : Sight). broken xs (sees s)) (same_sight h l))
