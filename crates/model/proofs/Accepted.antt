-- Every accepted record is `Accepted`; the steps of a walk that found something.
use Prim.Native.Nat.{ℕ, zero, suc, ◌+◌, ◌≤◌, ◌<◌}
use native.Mathlib.Omega.{arith}
use mathlib.Core.Path.{◌≡◌, refl, sym, ap, ◌∙◌, subst}
use mathlib.Core.Bool.{Bool, true, false, cond, ◌&&◌, ◌||◌}
use mathlib.Core.List.{List, [], ◌∷◌, ◌++◌}
use lib.ListN.{length, get_or, take, drop, length-append, length-map, get_or-append}
use lib.Seq.{length-take-le}
use lib.Dec.{eqb, leb}
use borrow.Author.Tests.{leb-true, ltb-true}
use Rattle.base.specs.Lists.{all}
use Rattle.base.proofs.Bools.{split, and_parts}
use Rattle.base.proofs.Lists.{member_in, all_member}
use Rattle.model.specs.Execution.{Kind, ld, ld_acq, st, st_rel, mf, sem_acq, sem_rel, kind_of, is_semaphore, Attribute, Instruction, Execution, roles, operation_count, operations, Line}
use Rattle.model.specs.Accepted.{Consecutive, Sound, SoundLines, Each, Rises, Accepted}
use Rattle.model.specs.Calls.{says, answer_of, read_all}
use Rattle.model.specs.Questions.{Found, no_to, found, Reader, next, item, byte, ask, many, question2, question3, question5, question7, question8, question26, question27, question11, question12, question13, more_length, sizes_of, written_from, line_attributes, instruction_of, read_line, read_lines, read_instruction, read_program, read_programs, read_instructions, read_pair, read_pairs, question15, read_record}

-- Steps of a walk that found something

module _ {A B : Type 0} where
  pub came : (m : Found A) (f : A → Reader B) (v : B) (r : List ℕ) → next m f ≡ found v r
      → (a : A) × (bytes : List ℕ) × (m ≡ found a bytes) × (f a bytes ≡ found v r)
  unfolding next
  came (no_to q) f v r h = let z : ◌≡◌ {A = ℕ} 0 1 = cc in absurd (omega arith)
  came (found a bytes) f v r h = (a, bytes, refl, h)

  pub step : {C : Type 0} (m : Found A) (f : A → Reader B) (v : B) (r : List ℕ) → next m f ≡ found v r
      → ((a : A) (bytes : List ℕ) → m ≡ found a bytes → f a bytes ≡ found v r → C) → C
  step m f v r h k = let (a, bytes, e, g) = came m f v r h in k a bytes e g

pub asked : (q : ℕ) (b : Bool) (bytes : List ℕ) (u : Unit {0}) (r : List ℕ) → ask q b bytes ≡ found u r → b ≡ true
unfolding ask
asked q true bytes u r h = refl
asked q false bytes u r h = let z : ◌≡◌ {A = ℕ} 0 1 = cc in absurd (omega arith)

-- a question takes no bytes
pub asked_on : (q : ℕ) (b : Bool) (bytes : List ℕ) (u : Unit {0}) (r : List ℕ) → ask q b bytes ≡ found u r → bytes ≡ r
unfolding ask
asked_on q true bytes u r h = cc
asked_on q false bytes u r h = let z : ◌≡◌ {A = ℕ} 0 1 = cc in absurd (omega arith)

pub byte_came : (bytes : List ℕ) (n : ℕ) (r : List ℕ) → byte bytes ≡ found n r → bytes ≡ n ∷ r
unfolding byte
byte_came [] n r h = let z : ◌≡◌ {A = ℕ} 0 1 = cc in absurd (omega arith)
byte_came (b ∷ bytes) n r h = cc

pub item_came : (n : ℕ) (bytes x r : List ℕ) → item n bytes ≡ found x r → (n ≤ length bytes) × (take n bytes ≡ x) × (drop n bytes ≡ r)
unfolding item
item_came n bytes x r h = go (leb n (length bytes)) refl h
  where
    go : (b : Bool) → leb n (length bytes) ≡ b → cond b (found (take n bytes) (drop n bytes)) (no_to 1) ≡ found x r
        → (n ≤ length bytes) × (take n bytes ≡ x) × (drop n bytes ≡ r)
    go true e k = (leb-true n (length bytes) e, cc, cc)
    go false e k = let z : ◌≡◌ {A = ℕ} 0 1 = cc in absurd (omega arith)

item_length : (n : ℕ) (bytes x r : List ℕ) → item n bytes ≡ found x r → length x ≡ n
item_length n bytes x r h = let (enough, z, _) = item_came n bytes x r h in ap length (sym z) ∙ length-take-le n bytes enough

-- what each value that is read keeps, all of them keep
module _ {A : Type 0} (read : List A → Reader A) (Inv : List A → Type 0)
    (keeps : (done : List A) (bytes : List ℕ) (a : A) (r : List ℕ) → Inv done → read done bytes ≡ found a r → Inv (done ++ (a ∷ []))) where
  pub many_keeps : (n : ℕ) (done : List A) (bytes : List ℕ) (out : List A) (r : List ℕ) → Inv done → many read n done bytes ≡ found out r → Inv out
  unfolding many
  many_keeps zero done bytes out r i h = let z : done ≡ out = cc in subst Inv z i
  many_keeps (suc n) done bytes out r i h =
      let (a, rest, e, k) = came (read done bytes) _ out r h in
      many_keeps n (done ++ (a ∷ [])) rest out r (keeps done bytes a rest i e) k

module _ {A : Type 0} (read : List A → Reader A) where
  pub many_length : (n : ℕ) (done : List A) (bytes : List ℕ) (out : List A) (r : List ℕ) → many read n done bytes ≡ found out r → length out ≡ length done + n
  unfolding many
  many_length zero done bytes out r h = let z : done ≡ out = cc in omega (arith, ap length z)
  many_length (suc n) done bytes out r h =
      let (a, rest, e, k) = came (read done bytes) _ out r h in
      omega (arith, many_length n (done ++ (a ∷ [])) rest out r k, length-append done (a ∷ []))

consecutive_more : (p at n : ℕ) (is : List Instruction) (i : Instruction) → Consecutive p at n is → i.first ≡ at + operation_count p is → i.number ≡ n + length is
    → Consecutive p at n (is ++ (i ∷ []))
unfolding operation_count
consecutive_more p at n [] i l f m = (omega arith, omega arith, tt)
consecutive_more p at n (j ∷ is) i l f m =
    (l.0, l.1, consecutive_more p (at + length (roles p j.kind)) (suc n) is i l.2 (omega arith) (omega arith))

module _ {A : Type 0} where
  each_more : (P : A → Type 0) (l : List A) (a : A) → Each P l → P a → Each P (l ++ (a ∷ []))
  each_more P [] a h k = (k, tt)
  each_more P (x ∷ l) a h k = (h.0, each_more P l a h.1 k)

-- the data of an entry whose size passes lie within its bytes
pub data_within : (k : Kind) (size : ℕ) → question7 k size ≡ true → written_from k + size ≤ 8 + more_length k size
unfolding question7 all
data_within k size q =
    leb-true (written_from k + size) (8 + more_length k size)
    (all_member (λ n. leb (written_from k + n) (8 + more_length k n)) (member_in (sizes_of k) size q) (each_size k))
  where
    each_size : (k : Kind) → all (λ n. leb (written_from k + n) (8 + more_length k n)) (sizes_of k) ≡ true
    each_size ld = refl
    each_size ld_acq = refl
    each_size st = refl
    each_size st_rel = refl
    each_size mf = refl
    each_size sem_acq = refl
    each_size sem_rel = refl

pub more_few : (k : Kind) (size : ℕ) → more_length k size ≤ 8
more_few k size = split (is_semaphore k || eqb size 16) (λ h. rw h (omega arith)) (λ h. rw h (omega arith))

abbrev Read : ℕ → List Attribute → List Instruction → Type 0
Read processors lines is = Consecutive processors 0 0 is × Each (Sound processors (length lines)) is × Each (SoundLines lines) is

module _ (processors : ℕ) (lines : List Attribute) where
  module _ (p : ℕ) (own : p < processors) where
    sound : (done : List Instruction) (x : List ℕ) → question7 (kind_of (get_or x 0 0)) (get_or x 2 0) ≡ true
        → question8 (length lines) (kind_of (get_or x 0 0)) (get_or x 2 0) (get_or x 1 0) ≡ true → Sound processors (length lines) (instruction_of processors p done x)
    unfolding instruction_of
    sound done x seven eight = record {
      own = own;
      size_passed = seven;
      address_passed = eight;
    }

    sound_lines : (done : List Instruction) (x : List ℕ) → question26 lines (kind_of (get_or x 0 0)) (get_or x 1 0) ≡ true
        → question27 lines (get_or x 2 0) (get_or x 1 0) ≡ true → SoundLines lines (instruction_of processors p done x)
    unfolding instruction_of
    sound_lines done x six seven = record { semaphore_passed = six; lines_passed = seven }

    more : (done : List Instruction) (x : List ℕ) (i : Instruction) → Read processors lines done → instruction_of processors p done x ≡ i
        → Sound processors (length lines) (instruction_of processors p done x) → SoundLines lines (instruction_of processors p done x)
        → Read processors lines (done ++ (i ∷ []))
    unfolding instruction_of
    more done x i inv e s w =
        subst (λ (j : Instruction). Read processors lines (done ++ (j ∷ []))) e
        (consecutive_more processors 0 0 done _ inv.0 (omega arith) (omega arith), each_more (Sound processors (length lines)) done _ inv.1 s, each_more (SoundLines lines) done _ inv.2 w)

    instruction_keeps : (done : List Instruction) (bytes : List ℕ) (i : Instruction) (r : List ℕ)
        → Read processors lines done → read_instruction processors lines p done bytes ≡ found i r → Read processors lines (done ++ (i ∷ []))
    unfolding read_instruction
    instruction_keeps done bytes i r inv h =
        step (item 11 bytes) _ i r h (λ x b1 e1 h1.
        step (ask 6 _ b1) _ i r h1 (λ u2 b2 e2 h2.
        step (ask 7 _ b2) _ i r h2 (λ u3 b3 e3 h3.
        step (item (more_length (kind_of (get_or x 0 0)) (get_or x 2 0)) b3) _ i r h3 (λ y b4 e4 h4.
        step (ask 8 _ b4) _ i r h4 (λ u5 b5 e5 h5.
        step (ask 26 _ b5) _ i r h5 (λ u6 b6 e6 h6.
        step (ask 27 _ b6) _ i r h6 (λ u7 b7 e7 h7.
        step (ask 9 _ b7) _ i r h7 (λ u8 b8 e8 h8.
        let long = item_length 11 bytes x b1 e1 in
        let byte0 = get_or-append x y 0 0 (omega arith) in
        let byte1 = get_or-append x y 0 1 (omega arith) in
        let byte2 = get_or-append x y 0 2 (omega arith) in
        more done (x ++ y) i inv (cc)
        (sound done (x ++ y)
        (rw (byte0, byte2) (asked 7 (question7 (kind_of (get_or x 0 0)) (get_or x 2 0)) b2 u3 b3 e3))
        (rw (byte0, byte1, byte2) (asked 8 (question8 (length lines) (kind_of (get_or x 0 0)) (get_or x 2 0) (get_or x 1 0)) b4 u5 b5 e5)))
        (sound_lines done (x ++ y)
        (rw (byte0, byte1) (asked 26 (question26 lines (kind_of (get_or x 0 0)) (get_or x 1 0)) b5 u6 b6 e6))
        (rw (byte1, byte2) (asked 27 (question27 lines (get_or x 2 0) (get_or x 1 0)) b6 u7 b7 e7)))))))))))

    program_keeps : (done : List Instruction) (bytes : List ℕ) (out : List Instruction) (r : List ℕ)
        → Read processors lines done → read_program processors lines p done bytes ≡ found out r → Read processors lines out × (length out ≤ 40)
    unfolding read_program question5
    program_keeps done bytes out r inv h =
        step (byte bytes) _ out r h (λ n b1 e1 h1.
        step (ask 5 _ b1) _ out r h1 (λ u2 b2 e2 h2. (
          many_keeps (read_instruction processors lines p) (Read processors lines) instruction_keeps n done b2 out r inv h2,
          omega (
            arith,
            many_length (read_instruction processors lines p) n done b2 out r h2,
            leb-true (length done + n) 40 (asked 5 (leb (length done + n) 40) b1 u2 b2 e2),
          ),
        )))

  programs_keep : (p left : ℕ) (done : List Instruction) (bytes : List ℕ) (out : List Instruction) (r : List ℕ) → p + left ≤ processors
      → Read processors lines done → length done ≤ 40 → read_programs processors lines p left done bytes ≡ found out r → Read processors lines out × (length out ≤ 40)
  unfolding read_programs
  programs_keep p zero done bytes out r few inv short h = let z : done ≡ out = cc in subst (λ (l : List Instruction). Read processors lines l × (length l ≤ 40)) z (inv, short)
  programs_keep p (suc left) done bytes out r few inv short h =
      let (more, rest, e, k) = came (read_program processors lines p done bytes) _ out r h in
      let (inv', short') = program_keeps p (omega arith) done bytes more rest inv e in
      programs_keep (suc p) left more rest out r (omega arith) inv' short' k

pair_keeps : (is : List Instruction) (done : List (ℕ × ℕ)) (bytes : List ℕ) (p : ℕ × ℕ) (r : List ℕ)
    → Each Rises done → read_pair is done bytes ≡ found p r → Each Rises (done ++ (p ∷ []))
unfolding read_pair question13
pair_keeps is done bytes p r inv h =
    step (item 2 bytes) _ p r h (λ x b1 e1 h1.
    step (ask 13 (question13 is (get_or x 0 0) (get_or x 1 0)) b1) _ p r h1 (λ u2 b2 e2 h2.
    step (ask 14 _ b2) _ p r h2 (λ u3 b3 e3 h3.
    let z : (get_or x 0 0, get_or x 1 0) ≡ p = cc in
    let t = asked 13 (question13 is (get_or x 0 0) (get_or x 1 0)) b1 u2 b2 e2 in
    subst (λ (q : ℕ × ℕ). Each Rises (done ++ (q ∷ []))) z
    (each_more Rises done (get_or x 0 0, get_or x 1 0) inv
    (ltb-true (get_or x 0 0) (get_or x 1 0) (and_parts _ _ (and_parts _ _ (and_parts _ _ t).0).0).0)))))

pairs_rise : (is : List Instruction) (bytes : List ℕ) (pairs : List (ℕ × ℕ)) (r : List ℕ) → read_pairs is bytes ≡ found pairs r → Each Rises pairs
unfolding read_pairs
pairs_rise is bytes pairs r h =
    step (byte bytes) _ pairs r h (λ n b1 e1 h1.
    step (ask 12 _ b1) _ pairs r h1 (λ u2 b2 e2 h2.
    many_keeps (read_pair is) (Each Rises) (pair_keeps is) n [] b2 pairs r tt h2))

lines_counted : (bytes : List ℕ) (lines : List Line) (r : List ℕ) → read_lines bytes ≡ found lines r → (1 ≤ length lines) × (length lines ≤ 8)
unfolding read_lines question3
lines_counted bytes lines r h =
    step (byte bytes) _ lines r h (λ n b1 e1 h1.
    step (ask 3 _ b1) _ lines r h1 (λ u2 b2 e2 h2.
    let (some, few) = and_parts (leb 1 n) (leb n 8) (asked 3 (leb 1 n && leb n 8) b1 u2 b2 e2) in
    let long = many_length (λ done. read_line) n [] b2 lines r h2 in
    (omega (arith, leb-true 1 n some, long), omega (arith, leb-true n 8 few, long))))

pairs_counted : (is : List Instruction) (bytes : List ℕ) (pairs : List (ℕ × ℕ)) (r : List ℕ) → read_pairs is bytes ≡ found pairs r → length pairs ≤ 40
unfolding read_pairs question12
pairs_counted is bytes pairs r h =
    step (byte bytes) _ pairs r h (λ n b1 e1 h1.
    step (ask 12 _ b1) _ pairs r h1 (λ u2 b2 e2 h2.
    omega (arith, leb-true n 40 (asked 12 (leb n 40) b1 u2 b2 e2), many_length (read_pair is) n [] b2 pairs r h2)))

pub accepted : (bytes : List ℕ) (e : Execution) (rest : List ℕ) → read_record bytes ≡ found e rest → Accepted e
unfolding read_record read_instructions question2 question11 operations
accepted bytes e rest h =
    step (byte bytes) _ e rest h (λ p b1 e1 h1.
    step (ask 2 _ b1) _ e rest h1 (λ u2 b2 e2 h2.
    step (read_lines b2) _ e rest h2 (λ lines b3 e3 h3.
    step (read_instructions p (line_attributes lines) b3) _ e rest h3 (λ is b4 e4 h4.
    step (read_pairs is b4) _ e rest h4 (λ pairs b5 e5 h5.
    step (question15 b5) _ e rest h5 (λ u6 b6 e6 h6.
    step (read_programs p (line_attributes lines) 0 p [] b3) _ is b4 e4 (λ js b7 e7 h7.
    step (ask 11 _ b7) _ is b4 h7 (λ u8 b8 e8 h8.
    let z : record { processors = p; lines = lines; instructions = is; pairs = pairs } ≡ e = cc in
    let w : js ≡ is = cc in
    let (inv, short) = programs_keep p (line_attributes lines) 0 p [] b3 js b7 (omega arith) (tt, tt, tt) (omega arith) e7 in
    let counted = lines_counted b2 lines b3 e3 in
    let (some, few) = and_parts (leb 1 p) (leb p 8) (asked 2 (leb 1 p && leb p 8) b1 u2 b2 e2) in
    subst Accepted z (record {
      processors_few = leb-true p 8 few;
      lines_some = counted.0;
      lines_few = counted.1;
      instructions_few = subst (λ (l : List Instruction). length l ≤ 40) w short;
      operations_few = subst (λ (l : List Instruction). operation_count p l ≤ 128) w (leb-true (operation_count p js) 128 (asked 11 (leb (operation_count p js) 128) b7 u8 b8 e8));
      pairs_few = pairs_counted is b4 pairs b5 e5;
      consecutive = subst (Consecutive p 0 0) w inv.0;
      sound = subst (λ (n : ℕ). Each (Sound p n) is) (length-map lines (λ l. l.attribute)) (subst (Each (Sound p (length (line_attributes lines)))) w inv.1);
      sound_lines = subst (Each (SoundLines (line_attributes lines))) w inv.2;
      rising = pairs_rise is b4 pairs b5 e5;
    })))))))))

-- The reader's answer

-- a record that is accepted, or refused
pub read_found : (bytes : List ℕ) (e : Execution) → read_all bytes ≡ says e → (rest : List ℕ) × (read_record bytes ≡ found e rest)
unfolding read_all answer_of
read_found bytes e h = go (read_record bytes) h
  where
    go : (f : Found Execution) → answer_of f ≡ says e → (rest : List ℕ) × (f ≡ found e rest)
    go (no_to q) k = let z : ◌≡◌ {A = ℕ} 0 1 = cc in absurd (omega arith)
    go (found a rest) k = let z : a ≡ e = cc in (rest, ap (λ (d : Execution). found d rest) z)

-- the execution of an accepted record
pub read_accepted : (bytes : List ℕ) (e : Execution) → read_all bytes ≡ says e → Accepted e
read_accepted bytes e h = let (rest, f) = read_found bytes e h in accepted bytes e rest f
