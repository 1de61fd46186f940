-- An instruction read from an entry in which what was seen is hidden: the same, but that it saw zeros.
use Prim.Native.Nat.{ℕ, zero, suc, ◌+◌, ◌-◌, ◌≤◌}
use native.Mathlib.Omega.{arith}
use mathlib.Core.Path.{◌≡◌, refl, sym, ap, ◌∙◌, subst}
use mathlib.Core.Bool.{Bool, true, false, cond, false≢true}
use mathlib.Core.List.{List, [], ◌∷◌, ◌++◌, map}
use lib.ListN.{length, get_or, take, drop, replicate, length-drop, length-map}
use lib.Seq.{length-take-le}
use lib.Dec.{eqb}
use Rattle.base.specs.Lists.{all}
use Rattle.base.proofs.Bools.{and_parts, and_both}
use Rattle.model.specs.Execution.{Kind, ld, ld_acq, st, st_rel, mf, sem_acq, sem_rel, kind_of, is_load, Attribute, Instruction, roles, operation_count}
use Rattle.model.specs.Questions.{found, more_length, question7, question9, seen_of, wrote_of, instruction_of, read_instruction}
use Rattle.model.proofs.Accepted.{data_within}
use Rattle.record_sections.proofs.Rendered.{EntryPasses, entry_came, entry_found}
use Rattle.model.specs.SolversCopy.{seen_length}
use Rattle.record_seen.specs.SolversClaims.{saw_zeros}
use Rattle.record_seen.proofs.Hiding.{hide, hide_length, hide_take, hide_drop, hide_none, hide_all, hide_other, hide_zeros}
use Rattle.record_seen.proofs.Places.{data_mask, data_mask_length, entry_mask, mask_of}

-- Data bytes

take_marks : (size n r : ℕ) → size ≤ n → take size (replicate n true ++ replicate r false) ≡ replicate size true
take_marks zero n r h = refl
take_marks (suc size) zero r h = absurd (omega arith)
take_marks (suc size) (suc n) r h = ap (λ (l : List Bool). true ∷ l) (take_marks size n r (omega arith))

seen_covers : (k : Kind) (size : ℕ) → question7 k size ≡ true → is_load k ≡ true → size ≤ seen_length k size
unfolding seen_length
seen_covers ld size h l = omega (arith, data_within ld size h)
seen_covers ld_acq size h l = omega (arith, data_within ld_acq size h)
seen_covers st size h l = absurd (false≢true l)
seen_covers st_rel size h l = absurd (false≢true l)
seen_covers mf size h l = absurd (false≢true l)
seen_covers sem_acq size h l = omega (arith, data_within sem_acq size h)
seen_covers sem_rel size h l = omega (arith, data_within sem_rel size h)

module _ (k : Kind) (size : ℕ) (d : List ℕ) (long : length d ≡ 8 + more_length k size) (seven : question7 k size ≡ true) where
  load_zeros : is_load k ≡ true → take size (hide (data_mask k size) d) ≡ replicate (length (take size d)) 0
  load_zeros l =
      let room : length (take size d) ≡ size = length-take-le size d (omega (arith, data_within k size seven)) in
      hide_take size (data_mask k size) d
      ∙ ap (λ (ms : List Bool). hide ms (take size d)) (take_marks size (seen_length k size) (8 + more_length k size - seen_length k size) (seen_covers k size seven l) ∙ ap (λ (n : ℕ). replicate n true) (sym room))
      ∙ hide_all (take size d)

  -- what was seen is zeros
  seen_zeros : seen_of k size (hide (data_mask k size) d) ≡ replicate (length (seen_of k size d)) 0
  unfolding seen_of
  seen_zeros = go (is_load k) refl
    where
      go : (b : Bool) → is_load k ≡ b → cond b (take size (hide (data_mask k size) d)) [] ≡ replicate (length (cond b (take size d) [])) 0
      go true e = load_zeros e
      go false e = refl

-- what was written stays
wrote_stays : (k : Kind) (size : ℕ) (d : List ℕ) → wrote_of k size (hide (data_mask k size) d) ≡ wrote_of k size d
unfolding wrote_of seen_length
wrote_stays ld size d = refl
wrote_stays ld_acq size d = refl
wrote_stays st size d = ap (take size) (hide_none (8 + more_length st size - 0) d)
wrote_stays st_rel size d = ap (take size) (hide_none (8 + more_length st_rel size - 0) d)
wrote_stays mf size d = refl
wrote_stays sem_acq size d = ap (take size) (hide_drop 8 (data_mask sem_acq size) d ∙ hide_none 8 (drop 8 d))
wrote_stays sem_rel size d = ap (take size) (hide_drop 8 (data_mask sem_rel size) d ∙ hide_none 8 (drop 8 d))

-- question 9
nine_hidden : (ms : List Bool) (size : ℕ) (d : List ℕ) → question9 size d ≡ true → question9 size (hide ms d) ≡ true
unfolding question9
nine_hidden ms size d h =
    let (a, b) = and_parts (all (eqb 0) (drop size (take 8 d))) (all (eqb 0) (drop size (drop 8 d))) h in
    and_both
    (ap (all (eqb 0)) (ap (drop size) (hide_take 8 ms d) ∙ hide_drop size (take 8 ms) (take 8 d)) ∙ hide_zeros (drop size (take 8 ms)) (drop size (take 8 d)) a)
    (ap (all (eqb 0)) (ap (drop size) (hide_drop 8 ms d) ∙ hide_drop size (drop 8 ms) (drop 8 d)) ∙ hide_zeros (drop size (drop 8 ms)) (drop size (drop 8 d)) b)

-- Instructions that saw zeros

pub unseen_length : (is : List Instruction) → length (map saw_zeros is) ≡ length is
unseen_length is = length-map is saw_zeros

pub unseen_count : (processors : ℕ) (is : List Instruction) → operation_count processors (map saw_zeros is) ≡ operation_count processors is
unfolding operation_count saw_zeros
unseen_count processors [] = refl
unseen_count processors (i ∷ is) = ap (λ (n : ℕ). length (roles processors i.kind) + n) (unseen_count processors is)

-- An entry with what was seen hidden
module _ (lines : List Attribute) (z : List ℕ) (e : EntryPasses lines z) where
  mask : List Bool
  mask = entry_mask (kind_of (get_or z 0 0)) (get_or z 2 0)

  byte0 : get_or (hide mask z) 0 0 ≡ get_or z 0 0
  unfolding mask
  byte0 = hide_other mask z 0 refl

  byte1 : get_or (hide mask z) 1 0 ≡ get_or z 1 0
  unfolding mask
  byte1 = hide_other mask z 1 refl

  byte2 : get_or (hide mask z) 2 0 ≡ get_or z 2 0
  unfolding mask
  byte2 = hide_other mask z 2 refl

  values : drop 3 (hide mask z) ≡ hide (data_mask (kind_of (get_or z 0 0)) (get_or z 2 0)) (drop 3 z)
  unfolding mask
  values = hide_drop 3 mask z

  hidden_passes : EntryPasses lines (hide mask z)
  hidden_passes = record {
    long = rw (byte0, byte2) (hide_length mask z ∙ e.long);
    six = rw byte0 e.six;
    seven = rw (byte0, byte2) e.seven;
    eight = rw (byte0, byte1, byte2) e.eight;
    twenty_six = rw (byte0, byte1) e.twenty_six;
    twenty_seven = rw (byte1, byte2) e.twenty_seven;
    nine = rw (byte2, values) (nine_hidden (data_mask (kind_of (get_or z 0 0)) (get_or z 2 0)) (get_or z 2 0) (drop 3 z) e.nine);
  }

  hidden_instruction : (processors p : ℕ) (done : List Instruction) → instruction_of processors p (map saw_zeros done) (hide mask z) ≡ saw_zeros (instruction_of processors p done z)
  unfolding instruction_of saw_zeros
  hidden_instruction processors p done =
      let k = kind_of (get_or z 0 0) in
      let size = get_or z 2 0 in
      let seen : seen_of (kind_of (get_or (hide mask z) 0 0)) (get_or (hide mask z) 2 0) (drop 3 (hide mask z)) ≡ replicate (length (seen_of k size (drop 3 z))) 0 =
      rw (byte0, byte2, values) (seen_zeros k size (drop 3 z) (omega (arith, length-drop 3 z, e.long)) e.seven)
      in
      let wrote : wrote_of (kind_of (get_or (hide mask z) 0 0)) (get_or (hide mask z) 2 0) (drop 3 (hide mask z)) ≡ wrote_of k size (drop 3 z) =
      rw (byte0, byte2, values) (wrote_stays k size (drop 3 z))
      in
      λ i. record {
        number = unseen_length done i;
        first = unseen_count processors done i;
        processor = p;
        kind = kind_of (byte0 i);
        address = byte1 i;
        size = byte2 i;
        seen = seen i;
        wrote = wrote i;
      }

-- An instruction that was read, read again
pub record EntryAgain (processors : ℕ) (lines : List Attribute) (p : ℕ) (done : List Instruction) (bytes : List ℕ) (i : Instruction) (r : List ℕ) : Type 0 where
  pub entry : List ℕ
  pub bytes_are : bytes ≡ entry ++ r
  pub as_long : length (mask_of i) ≡ length entry
  pub by : i.processor ≡ p
  pub again : (s : List ℕ) → read_instruction processors lines p (map saw_zeros done) (hide (mask_of i) entry ++ s) ≡ found (saw_zeros i) s

pub entry_again : (processors : ℕ) (lines : List Attribute) (p : ℕ) (done : List Instruction) (bytes : List ℕ) (i : Instruction) (r : List ℕ)
    → read_instruction processors lines p done bytes ≡ found i r → EntryAgain processors lines p done bytes i r
unfolding instruction_of mask
entry_again processors lines p done bytes i r h =
    let (z, e, is, here) = entry_came processors lines p done bytes i r h in
    subst (λ (j : Instruction). EntryAgain processors lines p done bytes j r) is (record {
      entry = z;
      bytes_are = here;
      as_long = omega (arith, data_mask_length (kind_of (get_or z 0 0)) (get_or z 2 0), e.long);
      by = refl;
      again = λ s. entry_found processors lines p (map saw_zeros done) (hide (mask lines z e) z) (hidden_passes lines z e) s
          ∙ ap (λ (j : Instruction). found j s) (hidden_instruction lines z e processors p done);
    })
