-- Records that differ only in what was seen give the same copies: kinds, sizes and counts are not hidden, so both have the same mask.
use Prim.Native.Nat.{ℕ, suc, ◌*◌}
use native.Mathlib.Omega.{arith}
use mathlib.Core.Path.{◌≡◌, refl, sym, ap, ap₂, ◌∙◌}
use mathlib.Core.Bool.{Bool, true, false, cond, ◌||◌}
use mathlib.Core.List.{List, [], ◌∷◌, ◌++◌, append_assoc, map, head-eq_of_cons-eq, tail-eq_of_cons-eq}
use lib.ListN.{length, get_or, drop, replicate, length-replicate}
use lib.Seq.{drop_at}
use lib.Dec.{eqb, leb}
use borrow.Author.Tests.{eqb-true}
use Rattle.base.specs.Lists.{all, for, below, member}
use Rattle.base.proofs.Bools.{and_parts}
use Rattle.base.proofs.Lists.{all_member, map_same}
use Rattle.model.specs.Execution.{kind_of, kind_number, Instruction, Execution}
use Rattle.model.specs.Accepted.{Each}
use Rattle.model.specs.Calls.{says, and_then, asks, read_all, question25, record_reply}
use Rattle.model.specs.Sections.{line_bytes, data_bytes, entry_bytes, pair_bytes}
use Rattle.model.proofs.Asking.{after_says}
use Rattle.record_sections.proofs.Rendered.{kind_numbered, Own, OwnFrom}
use Rattle.model.specs.SolversCopy.{seen_in, zeroed, copying, solvers_copy_call}
use Rattle.model.specs.Renumbering.{bytes_of_program}
use Rattle.record_seen.specs.SolversClaims.{alike_but, SameCopies}
use Rattle.record_seen.proofs.Hiding.{hide, hide_length, hide_append}
use Rattle.record_seen.proofs.Places.{places_of, data_mask, data_mask_length, mask_of, program_mask, record_mask}
use Rattle.record_seen.proofs.Within.{shape, seen_mask, lines_long, seen_hidden}

-- what stands behind parts of one length
behind : (x y u v : List ℕ) → length x ≡ length y → x ++ u ≡ y ++ v → u ≡ v
behind x y u v long h = sym (drop_at x u (length x) refl) ∙ ap (drop (length x)) h ∙ drop_at y v (length x) (sym long)

hidden_behind : (ms ns : List Bool) (x y u v : List ℕ) → length ms ≡ length x → length ms ≡ length y → hide (ms ++ ns) (x ++ u) ≡ hide (ms ++ ns) (y ++ v) → hide ns u ≡ hide ns v
hidden_behind ms ns x y u v l k h =
    behind (hide ms x) (hide ms y) (hide ns u) (hide ns v) (hide_length ms x ∙ sym l ∙ k ∙ sym (hide_length ms y)) (sym (hide_append ms ns x u l) ∙ h ∙ hide_append ms ns y v k)

data_long : (p : ℕ) (i : Instruction) → Own p i → length (data_mask i.kind i.size) ≡ length (data_bytes i)
unfolding entry_bytes
data_long p i o = omega (arith, data_mask_length i.kind i.size, o.long)

same_entries : (p : ℕ) (is js : List Instruction) → Each (Own p) is → Each (Own p) js → length is ≡ length js → (ms : List Bool) (u v : List ℕ)
    → hide (for is mask_of ++ ms) (for is entry_bytes ++ u) ≡ hide (for is mask_of ++ ms) (for js entry_bytes ++ v)
    → (for is mask_of ≡ for js mask_of) × (hide ms u ≡ hide ms v)
unfolding for hide entry_bytes
same_entries p [] [] h k l ms u v e = (refl, e)
same_entries p [] (j ∷ js) h k l ms u v e = absurd (omega arith)
same_entries p (i ∷ is) [] h k l ms u v e = absurd (omega arith)
same_entries p (i ∷ is) (j ∷ js) (o, h) (q, k) l ms u v e =
    let m = data_mask i.kind i.size in
    let kinds : kind_number i.kind ≡ kind_number j.kind = head-eq_of_cons-eq e in
    let behind_address = tail-eq_of_cons-eq (tail-eq_of_cons-eq e) in
    let sizes : i.size ≡ j.size = head-eq_of_cons-eq behind_address in
    let masks : m ≡ data_mask j.kind j.size = ap₂ data_mask (sym (kind_numbered i.kind) ∙ ap kind_of kinds ∙ kind_numbered j.kind) sizes in
    let apart = append_assoc m (for is mask_of) ms in
    let e4 : hide (m ++ (for is mask_of ++ ms)) (data_bytes i ++ (for is entry_bytes ++ u)) ≡ hide (m ++ (for is mask_of ++ ms)) (data_bytes j ++ (for js entry_bytes ++ v)) =
    sym (ap₂ hide apart (append_assoc (data_bytes i) (for is entry_bytes) u)) ∙ tail-eq_of_cons-eq behind_address ∙ ap₂ hide apart (append_assoc (data_bytes j) (for js entry_bytes) v)
    in
    let (rest, tail) =
    same_entries p is js h k (omega arith) ms u v
    (hidden_behind m (for is mask_of ++ ms) (data_bytes i) (data_bytes j) (for is entry_bytes ++ u) (for js entry_bytes ++ v) (data_long p i o) (ap length masks ∙ data_long p j q) e4)
    in
    (ap₂ (λ (a b : List Bool). false ∷ false ∷ false ∷ (a ++ b)) masks rest, tail)

same_programs : (p : ℕ) (ps qs : List (List Instruction)) → OwnFrom p ps → OwnFrom p qs → length ps ≡ length qs → (u v : List ℕ)
    → hide (for ps program_mask) (for ps bytes_of_program ++ u) ≡ hide (for ps program_mask) (for qs bytes_of_program ++ v)
    → for ps program_mask ≡ for qs program_mask
unfolding for hide
same_programs p [] [] h k l u v e = refl
same_programs p [] (js ∷ qs) h k l u v e = absurd (omega arith)
same_programs p (is ∷ ps) [] h k l u v e = absurd (omega arith)
same_programs p (is ∷ ps) (js ∷ qs) (o, h) (q, k) l u v e =
    let counts : length is ≡ length js = head-eq_of_cons-eq e in
    let (here, after) =
    same_entries p is js o q counts (for ps program_mask) (for ps bytes_of_program ++ u) (for qs bytes_of_program ++ v)
    (sym (ap (hide (for is mask_of ++ for ps program_mask)) (append_assoc (for is entry_bytes) (for ps bytes_of_program) u))
    ∙ tail-eq_of_cons-eq e
    ∙ ap (hide (for is mask_of ++ for ps program_mask)) (append_assoc (for js entry_bytes) (for qs bytes_of_program) v))
    in
    ap₂ (λ (a b : List Bool). false ∷ (a ++ b)) here (same_programs (suc p) ps qs h k (omega arith) u v after)

-- two accepted records, one of which has the other's bytes where the mask is not set
module _ (a b : List ℕ) (e f : Execution) (h : read_all a ≡ says e) (k : read_all b ≡ says f) where
  mask_a : List Bool
  mask_a = record_mask (length e.lines) (shape a e h).programs

  mask_b : List Bool
  mask_b = record_mask (length f.lines) (shape b f k).programs

  same_mask : hide mask_a a ≡ hide mask_a b → mask_a ≡ mask_b
  unfolding hide mask_a mask_b
  same_mask same =
      let r = shape a e h in
      let s = shape b f k in
      let lines = replicate (9 * length e.lines) false in
      let masks = for r.programs program_mask in
      let All_same = ap (hide mask_a) (sym r.bytes_are) ∙ same ∙ ap (hide mask_a) s.bytes_are in
      let processors : e.processors ≡ f.processors = head-eq_of_cons-eq All_same in
      let counts : length e.lines ≡ length f.lines = head-eq_of_cons-eq (tail-eq_of_cons-eq All_same) in
      let long : length lines ≡ 9 * length e.lines = length-replicate (9 * length e.lines) false in
      let programs_same =
      same_programs 0 r.programs s.programs r.own s.own (r.counted ∙ processors ∙ sym s.counted) (length e.pairs ∷ for e.pairs pair_bytes) (length f.pairs ∷ for f.pairs pair_bytes)
      (hidden_behind lines masks (for e.lines line_bytes) (for f.lines line_bytes) _ _ (long ∙ sym (lines_long a e h)) (long ∙ ap (λ (n : ℕ). 9 * n) counts ∙ sym (lines_long b f k)) (tail-eq_of_cons-eq (tail-eq_of_cons-eq All_same)))
      in
      ap₂ (λ (n : ℕ) (ms : List Bool). false ∷ false ∷ replicate (9 * n) false ++ ms) counts programs_same

  -- what was seen stands at the same places
  same_places : zeroed (seen_in e) a ≡ zeroed (seen_in e) b → seen_in e ≡ seen_in f
  unfolding mask_a mask_b
  same_places same = seen_mask a e h ∙ ap (places_of 0) (same_mask (sym (seen_hidden a e h a) ∙ same ∙ seen_hidden a e h b)) ∙ sym (seen_mask b f k)

-- bytes that are alike but for some places are the same with zeros there
alike_zeroed : (places a b : List ℕ) → alike_but places a b ≡ true → (length a ≡ length b) × (zeroed places a ≡ zeroed places b)
unfolding alike_but zeroed
alike_zeroed places a b h =
    let (l, others) = and_parts (eqb (length a) (length b)) (all (λ k. member places k || eqb (get_or a k 0) (get_or b k 0)) (below (length a))) h in
    let long = eqb-true (length a) (length b) l in (
      long,
      map_same (λ k. cond (member places k) 0 (get_or a k 0)) (λ k. cond (member places k) 0 (get_or b k 0)) (below (length a))
          (λ k m. alike (member places k) (get_or a k 0) (get_or b k 0) (all_member (λ k. member places k || eqb (get_or a k 0) (get_or b k 0)) m others))
          ∙ ap (λ (n : ℕ). map (λ k. cond (member places k) 0 (get_or b k 0)) (below n)) long,
    )
  where
    alike : (m : Bool) (x y : ℕ) → (m || eqb x y) ≡ true → cond m 0 x ≡ cond m 0 y
    alike true x y h = refl
    alike false x y h = eqb-true x y h

pub same_copies : SameCopies
unfolding solvers_copy_call copying
same_copies a b e f h k alike buffer =
    let (long, same) = alike_zeroed (seen_in e) a b alike in
    ap (record_reply buffer)
    (sym (after_says (λ (g : Execution). and_then (asks 25 (question25 a buffer)) (λ _. says (zeroed (seen_in g) a))) h)
    ∙ ap₂ (λ (n : ℕ) (l : List ℕ). and_then (asks 25 (leb n (length buffer))) (λ _. says l)) long (same ∙ ap (λ (places : List ℕ). zeroed places b) (same_places a b e f h k same))
    ∙ after_says (λ (g : Execution). and_then (asks 25 (question25 b buffer)) (λ _. says (zeroed (seen_in g) b))) k)
