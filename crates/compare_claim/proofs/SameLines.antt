-- Records whose heads agree, untouched lines taken as zero, agree in the line of each address that is accessed.
use Prim.Native.Nat.{ℕ, ◌/◌, ◌<◌}
use native.Mathlib.Omega.{arith}
use mathlib.Core.Path.{◌≡◌, refl, sym, ap, ◌∙◌}
use mathlib.Core.Bool.{true}
use mathlib.Core.List.{List, Memᴰ}
use lib.ListN.{length, get_or, drop}
use Rattle.base.specs.Lists.{for, below, member}
use Rattle.base.proofs.Lists.{any_member, in_member, in_count, in_below, of_below}
use Rattle.model.specs.Execution.{attribute_of, attribute_number, Line, Instruction, Execution, no_line, line_at, lines_from}
use Rattle.model.specs.Rules.{accesses}
use Rattle.model.specs.Accepted.{Sound}
use Rattle.model.specs.Sections.{line_bytes}
use Rattle.model.specs.Renumbering.{touched, line_taken, head_taken}
use Rattle.model.proofs.Accesses.{accessed, on_lines}
use Rattle.model.proofs.Ownership.{each_in}
use Rattle.model.proofs.Uncacheable.{attribute_numbers}
use Rattle.record_renumbering.proofs.Parts.{Parts}
use Rattle.record_renumbering.proofs.Programs.{same_parts}
use Rattle.record_renumbering.proofs.Straight.{line_length_lem}

-- parts of the same lengths, each for itself
each_part : {A : Type 0} (g h : A → List ℕ) {a : A} {l : List A} → Memᴰ a l → ((b : A) → Memᴰ b l → length (g b) ≡ length (h b)) → for l g ≡ for l h → g a ≡ h a
unfolding for
each_part {A} g h (Memᴰ.head {x = x} {xs = l} e) long same =
    ap g e ∙ (same_parts (g x) (h x) (for l g) (for l h) (long x (Memᴰ.head refl)) same).0 ∙ ap h (sym e)
each_part {A} g h (Memᴰ.tail {x = x} {xs = l} m) long same =
    each_part g h m (λ b k. long b (Memᴰ.tail k)) (same_parts (g x) (h x) (for l g) (for l h) (long x (Memᴰ.head refl)) same).1

-- the bytes of a line tell the line
one_line : (l m : Line) → line_bytes l ≡ line_bytes m → l ≡ m
unfolding line_bytes
one_line l m h =
    let number : attribute_number l.attribute ≡ attribute_number m.attribute = cc in
    let bytes : l.initial ≡ m.initial = cc in
    let attribute : l.attribute ≡ m.attribute = sym (attribute_numbers.0 l.attribute) ∙ ap attribute_of number ∙ attribute_numbers.0 m.attribute in
    λ x. record { attribute = attribute x; initial = bytes x }

-- an access touches the line of each of its addresses
touches : {processors lines : ℕ} {i : Instruction} {is : List Instruction} → Sound processors lines i → Memᴰ i is → (a : ℕ) → accesses i a ≡ true → touched is (a / 8) ≡ true
unfolding touched lines_from
touches {i = i} s m a h =
    let (from, to) = accessed i a h in
    let (on, inside) = on_lines s in
    any_member (λ i. member (lines_from i.address i.size) (a / 8)) m (in_member (in_count (i.address / 8) _ (a / 8) (omega arith) (omega arith)))

module _ {left right : List ℕ} {e f : Execution} (r : Parts left e) (s : Parts right f) (heads : head_taken e ≡ head_taken f) where
  pub same_processors : e.processors ≡ f.processors
  unfolding head_taken
  same_processors = ap (λ (l : List ℕ). get_or l 0 0) heads

  lines_many : length e.lines ≡ length f.lines
  unfolding head_taken
  lines_many = ap (λ (l : List ℕ). get_or l 1 0) heads

  taken_same : (k : ℕ) → k < length e.lines → line_taken e k ≡ line_taken f k
  unfolding head_taken
  taken_same k l =
      let n = length e.lines in
      each_part (line_taken e) (line_taken f) (in_below n k l)
      (λ k m. line_length_lem r k (of_below n m) ∙ sym (line_length_lem s k (omega (arith, of_below n m, lines_many))))
      (ap (drop 2) heads ∙ ap (λ (n : ℕ). for (below n) (line_taken f)) (sym lines_many))

  -- where an instruction of the other record has its address and size
  pub accessed_line : (i j : Instruction) → Memᴰ i e.instructions → Memᴰ j f.instructions → j.address ≡ i.address → j.size ≡ i.size
      → (a : ℕ) → accesses i a ≡ true → line_at f a ≡ line_at e a
  unfolding line_at line_taken accesses
  accessed_line i j mi mj address size a h =
      let si = each_in _ r.accepted.sound mi in
      let sj = each_in _ s.accepted.sound mj in
      let (from, to) = accessed i a h in
      let (on, inside) = on_lines si in
      let te = touches si mi a h in
      let tf = touches sj mj a (rw (address, size) h) in
      let taken = rw (te, tf) at (taken_same (a / 8) (omega arith)) in
      sym (one_line (get_or e.lines (a / 8) no_line) (get_or f.lines (a / 8) no_line) taken)
