-- What a walk found, as bytes: a line, an instruction, a pair and a section are the bytes that they were read from.
use Prim.Native.Nat.{ℕ, zero, suc, ◌+◌, ◌-◌, ◌≤◌, ◌<◌}
use native.Mathlib.Omega.{arith}
use mathlib.Core.Path.{◌≡◌, refl, sym, ap, ap₂, ◌∙◌, subst}
use mathlib.Core.Bool.{Bool, true, false, not, cond, ◌&&◌, ◌||◌, false≢true}
use mathlib.Core.List.{List, [], ◌∷◌, ◌++◌, append-nil, append_assoc}
use lib.ListN.{length, get_or, take, drop, replicate, length-append, length-drop, take-append-drop, get_or-append, drop_of_length-le}
use lib.Seq.{drop-cons, take_all, take-take, length-take-le}
use lib.Dec.{eqb, leb}
use borrow.Author.Tests.{eqb-true, eq-eqb, leb-true}
use Rattle.base.specs.Lists.{all, for, member}
use Rattle.base.proofs.Bools.{and_parts, or_cases}
use Rattle.base.proofs.Lists.{member_in, all_member}
use Rattle.model.specs.Execution.{Kind, ld, ld_acq, st, st_rel, mf, sem_acq, sem_rel, kind_of, kind_number, is_fence, is_semaphore, Attribute, Line, Instruction}
use Rattle.model.specs.Accepted.{Each}
use Rattle.model.specs.Questions.{found, Reader, next, item, byte, ask, many, more_length, sizes_of, written_from, question4, question6, question7, question8, question9, question13, question26, question27, line_of, seen_of, wrote_of, instruction_of, read_line, read_lines, read_instruction, read_program, read_programs, read_pair, read_pairs}
use Rattle.model.specs.Sections.{section_entry_length, is_whole, line_bytes, padded, data_bytes, entry_bytes, section_entry, pair_bytes}
use Rattle.model.specs.Renumbering.{bytes_of_program}
use Rattle.model.proofs.Accepted.{step, asked, asked_on, byte_came, item_came, data_within}
use Rattle.model.proofs.Empty.{item_front}
use Rattle.model.proofs.Uncacheable.{attribute_numbers}

-- an item by its first byte
pub first_byte : (x : List ℕ) → 0 < length x → get_or x 0 0 ∷ drop 1 x ≡ x
first_byte x h = sym (drop-cons x 0 0 h)

-- a line
pub line_bytes_lem : (bytes : List ℕ) (l : Line) (r : List ℕ) → read_line bytes ≡ found l r → (bytes ≡ line_bytes l ++ r) × (length (line_bytes l) ≡ 9)
unfolding read_line line_of line_bytes
line_bytes_lem bytes l r h =
    step (item 9 bytes) _ l r h (λ x b1 e1 h1.
    step (ask 4 _ b1) _ l r h1 (λ u2 b2 e2 h2.
    let (room, t, d) = item_came 9 bytes x b1 e1 in
    let long : length x ≡ 9 = ap length (sym t) ∙ length-take-le 9 bytes room in
    let four = asked 4 (question4 (get_or x 0 0)) b1 u2 b2 e2 in
    let z : line_of x ≡ l = cc in
    let same : line_bytes (line_of x) ≡ x = ap (λ (n : ℕ). n ∷ drop 1 x) (attribute_numbers.1 (get_or x 0 0) four) ∙ first_byte x (omega arith) in
    let here : line_bytes l ≡ x = ap line_bytes (sym z) ∙ same in
    let after : b1 ≡ r = asked_on 4 (question4 (get_or x 0 0)) b1 u2 b2 e2 ∙ (let w : b2 ≡ r = cc in w) in
    (sym (take-append-drop 9 bytes) ∙ ap₂ (λ (a b : List ℕ). a ++ b) (t ∙ sym here) (d ∙ after), ap length here ∙ long)))

-- zeros behind a value
zeros_are : (l : List ℕ) → all (eqb 0) l ≡ true → replicate (length l) 0 ≡ l
unfolding all
zeros_are [] h = refl
zeros_are (b ∷ l) h =
    let (z, t) = and_parts (eqb 0 b) (all (eqb 0) l) h in
    ap₂ (λ (a : ℕ) (m : List ℕ). a ∷ m) (eqb-true 0 b z) (zeros_are l t)

pub padded_value : (n size : ℕ) (v : List ℕ) → length v ≡ n → size ≤ n → all (eqb 0) (drop size v) ≡ true → padded n (take size v) ≡ v
unfolding padded
padded_value n size v long fits spare =
    ap (λ (k : ℕ). take size v ++ replicate k 0) (let z : n - length (take size v) ≡ length (drop size v) = omega (arith, length-take-le size v (omega arith), length-drop size v, long) in z)
    ∙ ap (λ (l : List ℕ). take size v ++ l) (zeros_are (drop size v) spare)
    ∙ take-append-drop size v

-- a kind that question 6 passes, by its number
pub kind_number_lem : (k : ℕ) → question6 k ≡ true → kind_number (kind_of k) ≡ k
unfolding question6
kind_number_lem k h = go k (leb-true k 6 h)
  where
    go : (k : ℕ) → k ≤ 6 → kind_number (kind_of k) ≡ k
    go zero l = refl
    go (suc zero) l = refl
    go (suc (suc zero)) l = refl
    go (suc (suc (suc zero))) l = refl
    go (suc (suc (suc (suc zero)))) l = refl
    go (suc (suc (suc (suc (suc zero))))) l = refl
    go (suc (suc (suc (suc (suc (suc zero)))))) l = refl
    go (suc (suc (suc (suc (suc (suc (suc k))))))) l = absurd (omega arith)

-- and a kind by its own
pub kind_numbered : (k : Kind) → kind_of (kind_number k) ≡ k
kind_numbered ld = refl
kind_numbered ld_acq = refl
kind_numbered st = refl
kind_numbered st_rel = refl
kind_numbered mf = refl
kind_numbered sem_acq = refl
kind_numbered sem_rel = refl

-- an mf has size 0
fence_size : (k : Kind) (size : ℕ) → is_fence k ≡ true → question7 k size ≡ true → size ≡ 0
unfolding question7 member
fence_size mf size f h = go (eqb 0 size) refl h
  where
    go : (b : Bool) → eqb 0 size ≡ b → (b || false) ≡ true → size ≡ 0
    go true e k = sym (eqb-true 0 size e)
    go false e k = absurd (false≢true k)
fence_size ld size f h = absurd (false≢true f)
fence_size ld_acq size f h = absurd (false≢true f)
fence_size st size f h = absurd (false≢true f)
fence_size st_rel size f h = absurd (false≢true f)
fence_size sem_acq size f h = absurd (false≢true f)
fence_size sem_rel size f h = absurd (false≢true f)

-- an entry that passes question 7 is as long in its section as in the record
pub more_same : (k : Kind) (size : ℕ) → question7 k size ≡ true → cond (not (is_fence k)) (more_length k size) 0 ≡ more_length k size
more_same mf size h = ap (more_length mf) (sym (fence_size mf size refl h))
more_same ld size h = refl
more_same ld_acq size h = refl
more_same st size h = refl
more_same st_rel size h = refl
more_same sem_acq size h = refl
more_same sem_rel size h = refl

-- the data of an entry that is no semaphore's: one value
one_value : (k : Kind) (size : ℕ) (d : List ℕ) → is_semaphore k ≡ false → question7 k size ≡ true → seen_of k size d ++ wrote_of k size d ≡ take size d
unfolding seen_of wrote_of
one_value mf size d f h = ap (λ (n : ℕ). take n d) (sym (fence_size mf size refl h))
one_value ld size d f h = append-nil (take size d)
one_value ld_acq size d f h = append-nil (take size d)
one_value st size d f h = refl
one_value st_rel size d f h = refl
one_value sem_acq size d f h = absurd (false≢true (sym f))
one_value sem_rel size d f h = absurd (false≢true (sym f))

-- of a semaphore: two
two_values : (k : Kind) (size : ℕ) (d : List ℕ) → is_semaphore k ≡ true → (seen_of k size d ≡ take size d) × (wrote_of k size d ≡ take size (drop 8 d))
unfolding seen_of wrote_of
two_values sem_acq size d f = (refl, refl)
two_values sem_rel size d f = (refl, refl)
two_values mf size d f = absurd (false≢true f)
two_values ld size d f = absurd (false≢true f)
two_values ld_acq size d f = absurd (false≢true f)
two_values st size d f = absurd (false≢true f)
two_values st_rel size d f = absurd (false≢true f)

-- one value has no more than eight bytes, or fills all that the entry has
one_filled : (k : Kind) (size : ℕ) → is_semaphore k ≡ false → question7 k size ≡ true → (eqb (more_length k size) 0 || leb (8 + more_length k size) size) ≡ true
unfolding question7 all
one_filled k size f h = all_member (λ n. eqb (more_length k n) 0 || leb (8 + more_length k n) n) (member_in (sizes_of k) size h) (each_size k f)
  where
    each_size : (k : Kind) → is_semaphore k ≡ false → all (λ n. eqb (more_length k n) 0 || leb (8 + more_length k n) n) (sizes_of k) ≡ true
    each_size ld f = refl
    each_size ld_acq f = refl
    each_size st f = refl
    each_size st_rel f = refl
    each_size mf f = refl
    each_size sem_acq f = absurd (false≢true (sym f))
    each_size sem_rel f = absurd (false≢true (sym f))

module _ (k : Kind) (size : ℕ) (d : List ℕ) (long : length d ≡ 8 + more_length k size) (seven : question7 k size ≡ true) (nine : question9 size d ≡ true) where
  spares : (all (eqb 0) (drop size (take 8 d)) ≡ true) × (all (eqb 0) (drop size (drop 8 d)) ≡ true)
  unfolding question9
  spares = and_parts (all (eqb 0) (drop size (take 8 d))) (all (eqb 0) (drop size (drop 8 d))) nine

  fits : written_from k + size ≤ 8 + more_length k size
  fits = data_within k size seven

  -- past the size of an entry with one value all is zero
  spare_one : is_semaphore k ≡ false → all (eqb 0) (drop size d) ≡ true
  unfolding all
  spare_one f =
      or_cases (eqb (more_length k size) 0) (leb (8 + more_length k size) size) (one_filled k size f seven)
      (λ none. ap (λ (l : List ℕ). all (eqb 0) (drop size l)) (sym (take_all 8 d (omega (arith, eqb-true (more_length k size) 0 none)))) ∙ spares.0)
      (λ full. ap (all (eqb 0)) (drop_of_length-le d {i = size} (omega (arith, leb-true (8 + more_length k size) size full))))

  pub data_one : is_semaphore k ≡ false → padded (8 + more_length k size) (seen_of k size d ++ wrote_of k size d) ≡ d
  data_one f =
      ap (padded (8 + more_length k size)) (one_value k size d f seven)
      ∙ padded_value (8 + more_length k size) size d long (omega (arith, fits)) (spare_one f)

  pub data_two : is_semaphore k ≡ true → padded 8 (seen_of k size d) ++ padded 8 (wrote_of k size d) ≡ d
  data_two f =
      let more : more_length k size ≡ 8 = rw f in
      let from : written_from k ≡ 8 = rw f in
      let small : size ≤ 8 = omega (arith, fits) in
      ap₂ (λ (a b : List ℕ). padded 8 a ++ padded 8 b) ((two_values k size d f).0 ∙ sym (take-take size 8 d small)) (two_values k size d f).1
      ∙ ap₂ (λ (a b : List ℕ). a ++ b)
      (padded_value 8 size (take 8 d) (length-take-le 8 d (omega arith)) small spares.0)
      (padded_value 8 size (drop 8 d) (omega (arith, length-drop 8 d)) small spares.1)
      ∙ take-append-drop 8 d

either : {x y z : List ℕ} (b : Bool) → (b ≡ true → x ≡ z) → (b ≡ false → y ≡ z) → cond b x y ≡ z
either true f g = f refl
either false f g = g refl

-- an instruction, by all bytes of its entry
module _ (processors p : ℕ) (done : List Instruction) (z : List ℕ) (six : question6 (get_or z 0 0) ≡ true)
    (long : length z ≡ 11 + more_length (kind_of (get_or z 0 0)) (get_or z 2 0)) (seven : question7 (kind_of (get_or z 0 0)) (get_or z 2 0) ≡ true)
    (nine : question9 (get_or z 2 0) (drop 3 z) ≡ true) where
  data_bytes_lem : data_bytes (instruction_of processors p done z) ≡ drop 3 z
  unfolding data_bytes instruction_of
  data_bytes_lem =
      let k = kind_of (get_or z 0 0) in
      let size = get_or z 2 0 in
      let d = drop 3 z in
      let here : length d ≡ 8 + more_length k size = omega (arith, length-drop 3 z) in
      either (is_semaphore k) (data_two k size d here seven nine) (data_one k size d here seven nine)

  pub entry_bytes_lem : entry_bytes (instruction_of processors p done z) ≡ z
  unfolding entry_bytes instruction_of
  entry_bytes_lem =
      ap₂ (λ (k : ℕ) (d : List ℕ). k ∷ get_or z 1 0 ∷ get_or z 2 0 ∷ d) (kind_number_lem (get_or z 0 0) six) data_bytes_lem
      ∙ sym (drop-cons z 0 0 (omega arith)
      ∙ ap (λ (l : List ℕ). get_or z 0 0 ∷ l) (drop-cons z 1 0 (omega arith))
      ∙ ap (λ (l : List ℕ). get_or z 0 0 ∷ get_or z 1 0 ∷ l) (drop-cons z 2 0 (omega arith)))

  -- in its section it is a whole entry
  pub entry_whole : (q : ℕ) → is_whole (q ∷ z) ≡ true
  unfolding is_whole section_entry_length
  entry_whole q =
      eq-eqb (suc (length z)) (12 + cond (question6 (get_or z 0 0) && not (is_fence (kind_of (get_or z 0 0)))) (more_length (kind_of (get_or z 0 0)) (get_or z 2 0)) 0)
      (rw six (omega (arith, long, more_same (kind_of (get_or z 0 0)) (get_or z 2 0) seven)))

-- an instruction of processor p that is a whole entry in its section and in the record, is read back from its data bytes, and has zeros past its size
pub record Own (p : ℕ) (i : Instruction) : Type 0 where
  pub by : i.processor ≡ p
  pub whole : is_whole (section_entry i) ≡ true
  pub long : length (entry_bytes i) ≡ 11 + more_length i.kind i.size
  pub seen_is : i.seen ≡ seen_of i.kind i.size (data_bytes i)
  pub wrote_is : i.wrote ≡ wrote_of i.kind i.size (data_bytes i)
  pub nine : question9 i.size (data_bytes i) ≡ true

-- all bytes of an entry that passes its questions
pub record EntryPasses (lines : List Attribute) (z : List ℕ) : Type 0 where
  pub long : length z ≡ 11 + more_length (kind_of (get_or z 0 0)) (get_or z 2 0)
  pub six : question6 (get_or z 0 0) ≡ true
  pub seven : question7 (kind_of (get_or z 0 0)) (get_or z 2 0) ≡ true
  pub eight : question8 (length lines) (kind_of (get_or z 0 0)) (get_or z 2 0) (get_or z 1 0) ≡ true
  pub twenty_six : question26 lines (kind_of (get_or z 0 0)) (get_or z 1 0) ≡ true
  pub twenty_seven : question27 lines (get_or z 2 0) (get_or z 1 0) ≡ true
  pub nine : question9 (get_or z 2 0) (drop 3 z) ≡ true

-- an entry in its two parts: the first three bytes are those of the first part
module _ (x y : List ℕ) (long : length x ≡ 11) where
  byte0 : get_or (x ++ y) 0 0 ≡ get_or x 0 0
  byte0 = get_or-append x y 0 0 (omega arith)

  byte1 : get_or (x ++ y) 1 0 ≡ get_or x 1 0
  byte1 = get_or-append x y 0 1 (omega arith)

  byte2 : get_or (x ++ y) 2 0 ≡ get_or x 2 0
  byte2 = get_or-append x y 0 2 (omega arith)

module _ (processors : ℕ) (lines : List Attribute) (p : ℕ) (done : List Instruction) where
  -- what was read as an instruction
  pub entry_came : (bytes : List ℕ) (i : Instruction) (r : List ℕ) → read_instruction processors lines p done bytes ≡ found i r
      → (z : List ℕ) × EntryPasses lines z × (instruction_of processors p done z ≡ i) × (bytes ≡ z ++ r)
  unfolding read_instruction
  entry_came bytes i r h =
      step (item 11 bytes) _ i r h (λ x b1 e1 h1.
      step (ask 6 _ b1) _ i r h1 (λ u2 b2 e2 h2.
      step (ask 7 _ b2) _ i r h2 (λ u3 b3 e3 h3.
      step (item (more_length (kind_of (get_or x 0 0)) (get_or x 2 0)) b3) _ i r h3 (λ y b4 e4 h4.
      step (ask 8 _ b4) _ i r h4 (λ u5 b5 e5 h5.
      step (ask 26 _ b5) _ i r h5 (λ u6 b6 e6 h6.
      step (ask 27 _ b6) _ i r h6 (λ u7 b7 e7 h7.
      step (ask 9 _ b7) _ i r h7 (λ u8 b8 e8 h8.
      let (room, t, d) = item_came 11 bytes x b1 e1 in
      let (more_Room, more_t, more_d) = item_came (more_length (kind_of (get_or x 0 0)) (get_or x 2 0)) b3 y b4 e4 in
      let long : length x ≡ 11 = ap length (sym t) ∙ length-take-le 11 bytes room in
      let more : length y ≡ more_length (kind_of (get_or x 0 0)) (get_or x 2 0) = ap length (sym more_t) ∙ length-take-le (more_length (kind_of (get_or x 0 0)) (get_or x 2 0)) b3 more_Room in
      let first = byte0 x y long in
      let second = byte1 x y long in
      let third = byte2 x y long in
      let is : instruction_of processors p done (x ++ y) ≡ i = cc in
      let last : b8 ≡ r = cc in
      let then : b1 ≡ b3 = asked_on 6 _ b1 u2 b2 e2 ∙ asked_on 7 _ b2 u3 b3 e3 in
      let after : b4 ≡ r = asked_on 8 _ b4 u5 b5 e5 ∙ asked_on 26 _ b5 u6 b6 e6 ∙ asked_on 27 _ b6 u7 b7 e7 ∙ asked_on 9 _ b7 u8 b8 e8 ∙ last in (
        x ++ y,
        record {
          long = rw (first, third) (omega (arith, length-append x y));
          six = rw first (asked 6 (question6 (get_or x 0 0)) b1 u2 b2 e2);
          seven = rw (first, third) (asked 7 (question7 (kind_of (get_or x 0 0)) (get_or x 2 0)) b2 u3 b3 e3);
          eight = rw (first, second, third) (asked 8 (question8 (length lines) (kind_of (get_or x 0 0)) (get_or x 2 0) (get_or x 1 0)) b4 u5 b5 e5);
          twenty_six = rw (first, second) (asked 26 (question26 lines (kind_of (get_or x 0 0)) (get_or x 1 0)) b5 u6 b6 e6);
          twenty_seven = rw (second, third) (asked 27 (question27 lines (get_or x 2 0) (get_or x 1 0)) b6 u7 b7 e7);
          nine = rw third (asked 9 (question9 (get_or x 2 0) (drop 3 (x ++ y))) b7 u8 b8 e8);
        },
        is,
        sym (take-append-drop 11 bytes) ∙ ap₂ (λ (a b : List ℕ). a ++ b) t
            (d ∙ then ∙ sym (take-append-drop (more_length (kind_of (get_or x 0 0)) (get_or x 2 0)) b3) ∙ ap₂ (λ (a b : List ℕ). a ++ b) more_t (more_d ∙ after))
            ∙ sym (append_assoc x y r),
      )))))))))

  -- an entry that passes is read, whatever follows
  parts_found : (x y : List ℕ) → length x ≡ 11 → EntryPasses lines (x ++ y) → (r : List ℕ)
      → read_instruction processors lines p done (x ++ (y ++ r)) ≡ found (instruction_of processors p done (x ++ y)) r
  unfolding read_instruction next ask
  parts_found x y long e r =
      let first = sym (byte0 x y long) in
      let second = sym (byte1 x y long) in
      let third = sym (byte2 x y long) in
      let all_long : length (x ++ y) ≡ 11 + more_length (kind_of (get_or x 0 0)) (get_or x 2 0) = rw (first, third) e.long in
      let more : length y ≡ more_length (kind_of (get_or x 0 0)) (get_or x 2 0) = omega (arith, length-append x y) in
      let six : question6 (get_or x 0 0) ≡ true = rw first e.six in
      let seven : question7 (kind_of (get_or x 0 0)) (get_or x 2 0) ≡ true = rw (first, third) e.seven in
      let eight : question8 (length lines) (kind_of (get_or x 0 0)) (get_or x 2 0) (get_or x 1 0) ≡ true = rw (first, second, third) e.eight in
      let twenty_six : question26 lines (kind_of (get_or x 0 0)) (get_or x 1 0) ≡ true = rw (first, second) e.twenty_six in
      let twenty_seven : question27 lines (get_or x 2 0) (get_or x 1 0) ≡ true = rw (second, third) e.twenty_seven in
      let nine : question9 (get_or x 2 0) (drop 3 (x ++ y)) ≡ true = rw third e.nine in
      rw (item_front 11 x (y ++ r) long, six, seven, item_front (more_length (kind_of (get_or x 0 0)) (get_or x 2 0)) y r more, eight, twenty_six, twenty_seven, nine)

  pub entry_found : (z : List ℕ) → EntryPasses lines z → (r : List ℕ) → read_instruction processors lines p done (z ++ r) ≡ found (instruction_of processors p done z) r
  entry_found z e r =
      let whole = take-append-drop 11 z in
      ap (read_instruction processors lines p done) (ap (λ (l : List ℕ). l ++ r) (sym whole) ∙ append_assoc (take 11 z) (drop 11 z) r)
      ∙ parts_found (take 11 z) (drop 11 z) (length-take-le 11 z (omega (arith, e.long))) (subst (EntryPasses lines) (sym whole) e) r
      ∙ ap (λ (l : List ℕ). found (instruction_of processors p done l) r) whole

  entry_own : (z : List ℕ) → EntryPasses lines z → Own p (instruction_of processors p done z)
  unfolding instruction_of
  entry_own z e =
      let same = entry_bytes_lem processors p done z e.six e.long e.seven e.nine in
      let data_same = sym (data_bytes_lem processors p done z e.six e.long e.seven e.nine) in
      record {
        by = refl;
        whole = ap (λ (l : List ℕ). is_whole (p ∷ l)) same ∙ entry_whole processors p done z e.six e.long e.seven e.nine p;
        long = ap length same ∙ e.long;
        seen_is = ap (seen_of (kind_of (get_or z 0 0)) (get_or z 2 0)) data_same;
        wrote_is = ap (wrote_of (kind_of (get_or z 0 0)) (get_or z 2 0)) data_same;
        nine = ap (question9 (get_or z 2 0)) (sym data_same) ∙ e.nine;
      }

  pub instruction_bytes : (bytes : List ℕ) (i : Instruction) (r : List ℕ) → read_instruction processors lines p done bytes ≡ found i r
      → (bytes ≡ entry_bytes i ++ r) × Own p i
  instruction_bytes bytes i r h =
      let (z, e, is, here) = entry_came bytes i r h in
      (here ∙ ap (λ (l : List ℕ). l ++ r) (sym (entry_bytes_lem processors p done z e.six e.long e.seven e.nine) ∙ ap entry_bytes is), subst (Own p) is (entry_own z e))

-- so many values that were read one after the other
module _ {A : Type 0} (read : List A → Reader A) (bytes_of : A → List ℕ) (P : A → Type 0)
    (one : (done : List A) (bytes : List ℕ) (a : A) (r : List ℕ) → read done bytes ≡ found a r → (bytes ≡ bytes_of a ++ r) × P a) where
  pub record Many (n : ℕ) (done : List A) (bytes : List ℕ) (out : List A) (r : List ℕ) : Type 0 where
    pub new : List A
    pub out_is : out ≡ done ++ new
    pub counted : length new ≡ n
    pub bytes_are : bytes ≡ for new bytes_of ++ r
    pub each : Each P new

  pub many_bytes : (n : ℕ) (done : List A) (bytes : List ℕ) (out : List A) (r : List ℕ) → many read n done bytes ≡ found out r → Many n done bytes out r
  unfolding many for
  many_bytes zero done bytes out r h =
      record { new = []; out_is = (let z : out ≡ done = cc in z) ∙ sym (append-nil done); counted = refl; bytes_are = (let z : bytes ≡ r = cc in z); each = tt }
  many_bytes (suc n) done bytes out r h =
      step (read done bytes) _ out r h (λ a rest e k.
      let (here, p) = one done bytes a rest e in
      let m = many_bytes n (done ++ (a ∷ [])) rest out r k in
      record {
        new = a ∷ m.new;
        out_is = m.out_is ∙ append_assoc done (a ∷ []) m.new;
        counted = ap suc m.counted;
        bytes_are = here ∙ ap (λ (l : List ℕ). bytes_of a ++ l) m.bytes_are ∙ sym (append_assoc (bytes_of a) (for m.new bytes_of) r);
        each = (p, m.each);
      })

-- The sections

pub lines_bytes : (bytes : List ℕ) (lines : List Line) (r : List ℕ) → read_lines bytes ≡ found lines r
    → (bytes ≡ length lines ∷ for lines line_bytes ++ r) × Each (λ l. length (line_bytes l) ≡ 9) lines
unfolding read_lines
lines_bytes bytes lines r h =
    step (byte bytes) _ lines r h (λ n b1 e1 h1.
    step (ask 3 _ b1) _ lines r h1 (λ u2 b2 e2 h2.
    let m = many_bytes (λ done. read_line) line_bytes (λ l. length (line_bytes l) ≡ 9) (λ done. line_bytes_lem) n [] b2 lines r h2 in
    let first = byte_came bytes n b1 e1 ∙ ap (λ (l : List ℕ). n ∷ l) (asked_on 3 _ b1 u2 b2 e2) in (
      first ∙ ap₂ (λ (k : ℕ) (l : List ℕ). k ∷ l) (sym m.counted ∙ ap length (sym m.out_is)) (m.bytes_are ∙ ap (λ (ls : List Line). for ls line_bytes ++ r) (sym m.out_is)),
      subst (Each (λ l. length (line_bytes l) ≡ 9)) (sym m.out_is) m.each,
    )))

pair_bytes_lem : (is : List Instruction) (done : List (ℕ × ℕ)) (bytes : List ℕ) (p : ℕ × ℕ) (r : List ℕ) → read_pair is done bytes ≡ found p r
    → (bytes ≡ pair_bytes p ++ r) × Unit {0}
unfolding read_pair
pair_bytes_lem is done bytes p r h =
    step (item 2 bytes) _ p r h (λ x b1 e1 h1.
    step (ask 13 (question13 is (get_or x 0 0) (get_or x 1 0)) b1) _ p r h1 (λ u2 b2 e2 h2.
    step (ask 14 _ b2) _ p r h2 (λ u3 b3 e3 h3.
    let (room, t, d) = item_came 2 bytes x b1 e1 in
    let long : length x ≡ 2 = ap length (sym t) ∙ length-take-le 2 bytes room in
    let z : (get_or x 0 0, get_or x 1 0) ≡ p = cc in
    let last : b3 ≡ r = cc in
    let then : b1 ≡ r = asked_on 13 _ b1 u2 b2 e2 ∙ asked_on 14 _ b2 u3 b3 e3 ∙ last in
    let both : pair_bytes p ≡ x =
    ap pair_bytes (sym z)
    ∙ sym (drop-cons x 0 0 (omega arith)
    ∙ ap (λ (l : List ℕ). get_or x 0 0 ∷ l) (drop-cons x 1 0 (omega arith) ∙ ap (λ (l : List ℕ). get_or x 1 0 ∷ l) (drop_of_length-le x {i = 2} (omega arith))))
    in
    (sym (take-append-drop 2 bytes) ∙ ap₂ (λ (a b : List ℕ). a ++ b) (t ∙ sym both) (d ∙ then), tt))))

pub pairs_bytes : (is : List Instruction) (bytes : List ℕ) (pairs : List (ℕ × ℕ)) (r : List ℕ) → read_pairs is bytes ≡ found pairs r
    → bytes ≡ length pairs ∷ for pairs pair_bytes ++ r
unfolding read_pairs
pairs_bytes is bytes pairs r h =
    step (byte bytes) _ pairs r h (λ n b1 e1 h1.
    step (ask 12 _ b1) _ pairs r h1 (λ u2 b2 e2 h2.
    let m = many_bytes (read_pair is) pair_bytes (λ p. Unit {0}) (pair_bytes_lem is) n [] b2 pairs r h2 in
    byte_came bytes n b1 e1 ∙ ap (λ (l : List ℕ). n ∷ l) (asked_on 12 _ b1 u2 b2 e2)
    ∙ ap₂ (λ (k : ℕ) (l : List ℕ). k ∷ l) (sym m.counted ∙ ap length (sym m.out_is)) (m.bytes_are ∙ ap (λ (ps : List (ℕ × ℕ)). for ps pair_bytes ++ r) (sym m.out_is))))

-- programs of the processors from p on
abbrev pub OwnFrom : ℕ → List (List Instruction) → Type 0
OwnFrom p [] = Unit {0}
OwnFrom p (is ∷ programs) = Each (Own p) is × OwnFrom (suc p) programs

-- the programs that were read behind `done`
pub record Programs (p left : ℕ) (done : List Instruction) (bytes : List ℕ) (out : List Instruction) (r : List ℕ) : Type 0 where
  pub programs : List (List Instruction)
  pub out_is : out ≡ done ++ for programs (λ is. is)
  pub counted : length programs ≡ left
  pub bytes_are : bytes ≡ for programs bytes_of_program ++ r
  pub own : OwnFrom p programs

module _ (processors : ℕ) (lines : List Attribute) where
  pub program_bytes_lem : (p : ℕ) (done : List Instruction) (bytes : List ℕ) (out : List Instruction) (r : List ℕ) → read_program processors lines p done bytes ≡ found out r
      → (new : List Instruction) × (out ≡ done ++ new) × (bytes ≡ bytes_of_program new ++ r) × Each (Own p) new
  unfolding read_program
  program_bytes_lem p done bytes out r h =
      step (byte bytes) _ out r h (λ n b1 e1 h1.
      step (ask 5 _ b1) _ out r h1 (λ u2 b2 e2 h2.
      let m = many_bytes (read_instruction processors lines p) entry_bytes (Own p) (instruction_bytes processors lines p) n done b2 out r h2 in (
        m.new,
        m.out_is,
        byte_came bytes n b1 e1 ∙ ap (λ (l : List ℕ). n ∷ l) (asked_on 5 _ b1 u2 b2 e2) ∙ ap₂ (λ (k : ℕ) (l : List ℕ). k ∷ l) (sym m.counted) m.bytes_are,
        m.each,
      )))

  pub programs_bytes : (p left : ℕ) (done : List Instruction) (bytes : List ℕ) (out : List Instruction) (r : List ℕ)
      → read_programs processors lines p left done bytes ≡ found out r → Programs p left done bytes out r
  unfolding read_programs for
  programs_bytes p zero done bytes out r h =
      record { programs = []; out_is = (let z : out ≡ done = cc in z) ∙ sym (append-nil done); counted = refl; bytes_are = (let z : bytes ≡ r = cc in z); own = tt }
  programs_bytes p (suc left) done bytes out r h =
      step (read_program processors lines p done bytes) _ out r h (λ more rest e k.
      let (new, more_is, here, own) = program_bytes_lem p done bytes more rest e in
      let m = programs_bytes (suc p) left more rest out r k in
      record {
        programs = new ∷ m.programs;
        out_is = m.out_is ∙ ap (λ (l : List Instruction). l ++ for m.programs (λ is. is)) more_is ∙ append_assoc done new (for m.programs (λ is. is));
        counted = ap suc m.counted;
        bytes_are = here ∙ ap (λ (l : List ℕ). bytes_of_program new ++ l) m.bytes_are ∙ sym (append_assoc (bytes_of_program new) (for m.programs bytes_of_program) r);
        own = (own, m.own);
      })
