-- The pairs of one processor, put into an array by numbers within its program.
use Prim.Native.Nat.{ℕ, suc, ◌+◌, ◌-◌, ◌*◌, ◌≤◌, ◌<◌}
use native.Mathlib.Numerals.{add-one}
use native.Mathlib.Omega.{arith}
use mathlib.Core.Path.{◌≡◌, refl, sym, ap, ap₂, ◌∙◌}
use mathlib.Core.Bool.{Bool, true, false, cond}
use mathlib.Core.List.{List, [], ◌∷◌, ◌++◌, map, map-append, append-nil, append_assoc}
use lib.ListN.{length, get_or, take, set, length-set}
use lib.Seq.{take-suc-set, take_all}
use lib.Dec.{eqb}
use borrow.Author.Tests.{eq-eqb, ne_eqb}
use Rattle.base.specs.Lists.{keep, for}
use Rattle.base.proofs.Lists.{keep_append, for_append}
use Rattle.model.specs.Execution.{Instruction}
use Rattle.model.specs.Questions.{no_instruction}
use Rattle.model.specs.Sections.{pair_bytes}
use Rattle.model.specs.Renumbering.{lower_instructions, own_pairs, local_pairs}
use Rattle.record_decoded.specs.declared.types.Pairs.{Pairs}
use Rattle.record_decoded.specs.Decoded.{pair_at, pairs_of}
use Rattle.record_decoded.proofs.Arrays.{pairs_length, pairs_more}
use Rattle.record_form.specs.Places.{key_end}

-- one pair more
module _ (is : List Instruction) (p : ℕ) where
  abbrev own_by : ℕ × ℕ → Bool
  own_by q = eqb (get_or is q.0 no_instruction).processor p

  abbrev first : ℕ
  first = length (lower_instructions is p)

  abbrev lowered : ℕ × ℕ → ℕ × ℕ
  lowered q = (q.0 - first, q.1 - first)

  local_more : (l : List (ℕ × ℕ)) (q : ℕ × ℕ) (b : Bool) → own_by q ≡ b → local_pairs is (l ++ (q ∷ [])) p ≡ local_pairs is l p ++ cond b (lowered q ∷ []) []
  unfolding local_pairs own_pairs keep
  local_more l q b e =
      ap (map lowered) (keep_append own_by l (q ∷ []) ∙ ap (λ (c : Bool). keep own_by l ++ cond c (q ∷ []) []) e)
      ∙ map-append lowered (keep own_by l) (cond b (q ∷ []) [])
      ∙ ap (λ (m : List (ℕ × ℕ)). map lowered (keep own_by l) ++ m) (one b)
    where
      one : (b : Bool) → map lowered (cond b (q ∷ []) []) ≡ cond b (lowered q ∷ []) []
      one true = refl
      one false = refl

-- The invariant: those of the first j pairs stand at the front of the array.
pub record OwnPut (is : List Instruction) (x : Pairs) (p j : ℕ) (bytes : List ℕ) (at : ℕ) : Type 0 where
  pub turns : j ≤ x.count
  pub few : at ≤ 2 * j
  pub long : length bytes ≡ 81
  pub made : take at bytes ≡ for (local_pairs is (take j (pairs_of x)) p) pair_bytes

pub own_none : {is : List Instruction} {x : Pairs} {p : ℕ} {bytes : List ℕ} → length bytes ≡ 81 → OwnPut is x p 0 bytes 0
unfolding local_pairs own_pairs keep for
own_none {is} {x} {p} {bytes} long = record { turns = omega arith; few = omega arith; long = long; made = refl }

module _ {is : List Instruction} {x : Pairs} {p j : ℕ} {bytes : List ℕ} {at : ℕ} (inv : OwnPut is x p j bytes at) (few : x.count ≤ 40) where
  pub own_room : j < x.count → at + 1 < 81
  own_room h = omega (arith, inv.few)

  more_made : (b : Bool) → j < x.count → own_by is p (pair_at x j) ≡ b
      → for (local_pairs is (take (j + 1) (pairs_of x)) p) pair_bytes ≡ take at bytes ++ for (cond b (lowered is p (pair_at x j) ∷ []) []) pair_bytes
  more_made b h e =
      ap (λ (l : List (ℕ × ℕ)). for (local_pairs is l p) pair_bytes) (pairs_more x j h)
      ∙ ap (λ (l : List (ℕ × ℕ)). for l pair_bytes) (local_more is p (take j (pairs_of x)) (pair_at x j) b e)
      ∙ for_append (local_pairs is (take j (pairs_of x)) p) (cond b (lowered is p (pair_at x j) ∷ []) []) pair_bytes
      ∙ ap (λ (l : List ℕ). l ++ for (cond b (lowered is p (pair_at x j) ∷ []) []) pair_bytes) (sym inv.made)

  -- two bytes more
  two_put : (u v : ℕ) → at + 1 < 81 → take (at + 2) (set (set bytes at u) (at + 1) v) ≡ take at bytes ++ (u ∷ v ∷ [])
  two_put u v room =
      let once = set bytes at u in
      let long : length once ≡ 81 = length-set bytes at u ∙ inv.long in
      ap (λ (k : ℕ). take k (set once (at + 1) v)) (let z : at + 2 ≡ suc (at + 1) = omega arith in z)
      ∙ take-suc-set once (at + 1) v (omega arith)
      ∙ ap (λ (l : List ℕ). l ++ (v ∷ [])) (ap (λ (k : ℕ). take k once) (add-one at) ∙ take-suc-set bytes at u (omega (arith, inv.long)))
      ∙ append_assoc (take at bytes) (u ∷ []) (v ∷ [])

  pub puts_own : {r u v : ℕ} {after : List ℕ} {next : ℕ} → j < x.count → r ≡ (get_or is (get_or x.earlier j 0) no_instruction).processor → r ≡ p
      → u ≡ get_or x.earlier j 0 - length (lower_instructions is p) → v ≡ get_or x.later j 0 - length (lower_instructions is p)
      → after ≡ set (set bytes at u) (at + 1) v → next ≡ at + 2 → OwnPut is x p (j + 1) after next
  unfolding pair_at for
  puts_own {r} {u} {v} {after} {next} h owner own eu ev ea en = record {
    turns = omega arith;
    few = omega (arith, inv.few);
    long = ap length ea ∙ length-set (set bytes at u) (at + 1) v ∙ length-set bytes at u ∙ inv.long;
    made =
        ap₂ take en ea ∙ two_put u v (own_room h) ∙ ap₂ (λ (a b : ℕ). take at bytes ++ (a ∷ b ∷ [])) eu ev
        ∙ sym (more_made true h (eq-eqb (get_or is (get_or x.earlier j 0) no_instruction).processor p (sym owner ∙ own)));
  }

  pub leaves_pair : {r : ℕ} {after : List ℕ} {next : ℕ} → j < x.count → r ≡ (get_or is (get_or x.earlier j 0) no_instruction).processor → (r ≡ p → ⊥)
      → after ≡ bytes → next ≡ at → OwnPut is x p (j + 1) after next
  unfolding pair_at for
  leaves_pair {r} {after} {next} h owner other ea en = record {
    turns = omega arith;
    few = omega (arith, inv.few);
    long = ap length ea ∙ inv.long;
    made =
        ap₂ take en ea ∙ sym (append-nil (take at bytes))
        ∙ sym (more_made false h (ne_eqb (get_or is (get_or x.earlier j 0) no_instruction).processor p (λ e. other (owner ∙ e))));
  }

  -- all pairs, and the end behind them
  pub own_ends : x.count ≤ j → (take (at + 1) (set bytes at 255) ≡ key_end is (pairs_of x) p) × (at + 1 ≤ 81) × (length (set bytes at 255) ≡ 81)
  own_ends h = (
    ap (λ (k : ℕ). take k (set bytes at 255)) (add-one at) ∙ take-suc-set bytes at 255 (omega (arith, inv.few, inv.turns, inv.long))
        ∙ ap (λ (l : List ℕ). l ++ (255 ∷ [])) (inv.made ∙ ap (λ (l : List (ℕ × ℕ)). for (local_pairs is l p) pair_bytes) (take_all j (pairs_of x) (omega (arith, h, pairs_length x)))),
    omega (arith, inv.few, inv.turns),
    length-set bytes at 255 ∙ inv.long,
  )
