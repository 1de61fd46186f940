-- The layout of an accepted record: its programs and pairs by processor, and where each stands.
use Prim.Native.Nat.{ℕ, zero, suc, ◌+◌, ◌-◌, ◌*◌, ◌≤◌, ◌<◌}
use native.Mathlib.Nat.{mul_comm}
use native.Mathlib.Omega.{arith}
use native.Mathlib.Decide.{dec_lt}
use mathlib.Core.Path.{◌≡◌, refl, sym, ap, ◌∙◌, subst}
use mathlib.Core.Bool.{true, ◌&&◌}
use mathlib.Core.List.Memᴰ
use mathlib.Core.List.{List, [], ◌∷◌, ◌++◌, append_assoc, Memᴰ}
use mathlib.Core.Logic.{⊎_elim}
use lib.ListN.{length, get_or, take, drop, length-append}
use lib.Seq.{take_at, drop_at, drop-append-add}
use lib.Dec.{eqb, ltb}
use borrow.Author.Tests.{lt-ltb, le-ltb, ltb-true, ltb-false, ne_eqb, eqb-true, eqb-false}
use Rattle.base.specs.Lists.{keep, for, count, below}
use Rattle.base.proofs.Bools.{split, and_parts}
use Rattle.base.proofs.Lists.{of_keep, of_for, of_count, for_append, for_one, below_more, getD_member}
use Rattle.base.proofs.Permutations.{sum}
use Rattle.model.specs.Execution.{kind_of, kind_number, attribute_number, Line, Instruction, Execution, no_line}
use Rattle.model.specs.Accepted.{Each, Sound, Accepted}
use Rattle.model.specs.Calls.{says, read_all}
use Rattle.model.specs.Questions.{found, item, byte, ask, more_length, no_instruction, question2, question4, question13, question14, line_of, seen_of, wrote_of, read_line, read_lines, read_pair, read_pairs}
use Rattle.model.specs.Sections.{line_bytes, data_bytes, entry_bytes, pair_bytes}
use Rattle.model.specs.SolversCopy.{entries_length}
use Rattle.model.specs.Renumbering.{bytes_of_program, own_instructions, lower_instructions, own_pairs, local_pairs}
use Rattle.model.proofs.Accepted.{step, asked, many_keeps, read_found, read_accepted}
use Rattle.model.proofs.Ownership.{each_in}
use Rattle.model.proofs.Uncacheable.{attribute_numbers}
use Rattle.record_sections.proofs.Rendered.{Own, OwnFrom, kind_numbered, line_bytes_lem, many_bytes}
use Rattle.record_sections.proofs.Grouping.{length_for, programs_apart}
use Rattle.record_sections.proofs.ReadIsWritten.{Rendered, rendered}
use Rattle.record_renumbering.proofs.Rising.{Ordered, ordered_append, Rising, below_at}

-- the processor of instruction n
abbrev pub processor_of : List Instruction → ℕ → ℕ
processor_of is n = (get_or is n no_instruction).processor

-- a pair that passed question 13: its instructions are two of one program, the first number below the second
pub record PairOf (is : List Instruction) (q : ℕ × ℕ) : Type 0 where
  pub rises : q.0 < q.1
  pub within : q.1 < length is
  pub one : processor_of is q.0 ≡ processor_of is q.1
  pub passed : question13 is q.0 q.1 ≡ true

-- a pair stands before another by its first number, then by its second
abbrev pub StandsBefore : ℕ × ℕ → ℕ × ℕ → Type 0
StandsBefore p q = (p.0 ≤ q.0) × (p.0 ≡ q.0 → p.1 < q.1)

-- What an accepted record has of its execution: its bytes by processor, instructions that are read back from their entries, program by program, pairs within programs, each
-- behind those before it.
pub record Parts (bytes : List ℕ) (e : Execution) : Type 0 where
  pub accepted : Accepted e
  pub bytes_are :
      bytes
      ≡ e.processors ∷ length e.lines
      ∷ (for e.lines line_bytes ++ (for (below e.processors) (λ p. bytes_of_program (own_instructions e.instructions p)) ++ (length e.pairs ∷ for e.pairs pair_bytes)))
  pub processors_passed : question2 e.processors ≡ true
  pub lines_long : Each (λ l. length (line_bytes l) ≡ 9) e.lines
  pub lines_passed : Each (λ l. question4 (attribute_number l.attribute) ≡ true) e.lines
  pub own : (i : Instruction) → Memᴰ i e.instructions → (i.processor < e.processors) × Own i.processor i
  pub instructions_are : e.instructions ≡ for (below e.processors) (own_instructions e.instructions)
  pub pairs_own : (q : ℕ × ℕ) → Memᴰ q e.pairs → PairOf e.instructions q
  pub pairs_rise : Ordered StandsBefore e.pairs

-- equal entries are of equal kinds, addresses, sizes and values
pub same_entry : (p q : ℕ) (i j : Instruction) → Own p i → Own q j → entry_bytes i ≡ entry_bytes j
    → (i.kind ≡ j.kind) × (i.address ≡ j.address) × (i.size ≡ j.size) × (i.seen ≡ j.seen) × (i.wrote ≡ j.wrote)
unfolding entry_bytes
same_entry p q i j o u h =
    let number : kind_number i.kind ≡ kind_number j.kind = cc in
    let address : i.address ≡ j.address = cc in
    let size : i.size ≡ j.size = cc in
    let same : data_bytes i ≡ data_bytes j = cc in
    let kind : i.kind ≡ j.kind = sym (kind_numbered i.kind) ∙ ap kind_of number ∙ kind_numbered j.kind in (
      kind,
      address,
      size,
      o.seen_is ∙ (λ x. seen_of (kind x) (size x) (same x)) ∙ sym u.seen_is,
      o.wrote_is ∙ (λ x. wrote_of (kind x) (size x) (same x)) ∙ sym u.wrote_is,
    )

-- The pairs, as they were read

before_through : (p q r : ℕ × ℕ) → StandsBefore p q → StandsBefore q r → StandsBefore p r
before_through p q r (a, f) (b, g) = (omega arith, λ e. let k = f (omega arith) in let l = g (omega arith) in omega arith)

-- question 14 asks whether the last one before it stands before a pair
last_before : (p : ℕ × ℕ) (m n : ℕ) → question14 (p ∷ []) m n ≡ true → StandsBefore p (m, n)
unfolding question14
last_before p m n h =
    split (ltb p.0 m) (λ t. let l = ltb-true p.0 m t in (omega arith, λ e. absurd (omega arith)))
    (λ f. let (e, l) = and_parts (eqb p.0 m) (ltb p.1 n) (rw f at h) in (omega (arith, eqb-true p.0 m e), λ _. ltb-true p.1 n l))

-- then all do
all_before : (done : List (ℕ × ℕ)) (m n : ℕ) → Ordered StandsBefore done → question14 done m n ≡ true → (q : ℕ × ℕ) → Memᴰ q done → StandsBefore q (m, n)
unfolding question14
all_before [] m n o h q w = absurd (Memᴰ.not-nil w)
all_before (p ∷ []) m n o h q w = subst (λ (x : ℕ × ℕ). StandsBefore x (m, n)) (sym (Memᴰ.eq_of_singleton w)) (last_before p m n h)
all_before (p ∷ (p2 ∷ ps)) m n o h q (Memᴰ.head e) =
    subst (λ (x : ℕ × ℕ). StandsBefore x (m, n)) (sym e)
    (before_through p p2 (m, n) (o.0 p2 (Memᴰ.head refl)) (all_before (p2 ∷ ps) m n o.1 h p2 (Memᴰ.head refl)))
all_before (p ∷ (p2 ∷ ps)) m n o h q (Memᴰ.tail w) = all_before (p2 ∷ ps) m n o.1 h q w

pair_of : (is : List Instruction) (m n : ℕ) → question13 is m n ≡ true → PairOf is (m, n)
unfolding question13
pair_of is m n h =
    let t = (and_parts _ _ (and_parts _ _ h).0).0 in
    let (a, b) = and_parts (ltb m n) (ltb n (length is) && eqb (processor_of is m) (processor_of is n)) t in
    let (c, d) = and_parts (ltb n (length is)) (eqb (processor_of is m) (processor_of is n)) b in
    record { rises = ltb-true m n a; within = ltb-true n (length is) c; one = eqb-true (processor_of is m) (processor_of is n) d; passed = h }

abbrev Passed : List Instruction → List (ℕ × ℕ) → Type 0
Passed is ps = ((q : ℕ × ℕ) → Memᴰ q ps → PairOf is q) × Ordered StandsBefore ps

pair_passes : (is : List Instruction) (done : List (ℕ × ℕ)) (bytes : List ℕ) (p : ℕ × ℕ) (r : List ℕ) → Passed is done → read_pair is done bytes ≡ found p r → Passed is (done ++ (p ∷ []))
unfolding read_pair
pair_passes is done bytes p r (own, rising) h =
    step (item 2 bytes) _ p r h (λ x b1 e1 h1.
    step (ask 13 (question13 is (get_or x 0 0) (get_or x 1 0)) b1) _ p r h1 (λ u2 b2 e2 h2.
    step (ask 14 (question14 done (get_or x 0 0) (get_or x 1 0)) b2) _ p r h2 (λ u3 b3 e3 h3.
    let z : (get_or x 0 0, get_or x 1 0) ≡ p = cc in
    let thirteen = asked 13 (question13 is (get_or x 0 0) (get_or x 1 0)) b1 u2 b2 e2 in
    let fourteen = asked 14 (question14 done (get_or x 0 0) (get_or x 1 0)) b2 u3 b3 e3 in
    let here = pair_of is (get_or x 0 0) (get_or x 1 0) thirteen in
    subst (λ (v : ℕ × ℕ). Passed is (done ++ (v ∷ []))) z (
      (λ q m. ⊎_elim (own q) (λ k. subst (PairOf is) (sym (Memᴰ.eq_of_singleton k)) here) (Memᴰ.append_cases done m)),
      ordered_append StandsBefore done ((get_or x 0 0, get_or x 1 0) ∷ []) rising ((λ q m. absurd (Memᴰ.not-nil m)), tt)
          (λ q y m k. subst (StandsBefore q) (sym (Memᴰ.eq_of_singleton k)) (all_before done (get_or x 0 0) (get_or x 1 0) rising fourteen q m)),
    ))))

pairs_passed : (is : List Instruction) (bytes : List ℕ) (pairs : List (ℕ × ℕ)) (r : List ℕ) → read_pairs is bytes ≡ found pairs r → Passed is pairs
unfolding read_pairs
pairs_passed is bytes pairs r h =
    step (byte bytes) _ pairs r h (λ n b1 e1 h1.
    step (ask 12 _ b1) _ pairs r h1 (λ u2 b2 e2 h2.
    many_keeps (read_pair is) (Passed is) (pair_passes is) n [] b2 pairs r ((λ q m. absurd (Memᴰ.not-nil m)), tt) h2))

-- The lines, as they were read

line_passes : (bytes : List ℕ) (l : Line) (r : List ℕ) → read_line bytes ≡ found l r → question4 (attribute_number l.attribute) ≡ true
unfolding read_line line_of
line_passes bytes l r h =
    step (item 9 bytes) _ l r h (λ x b1 e1 h1.
    step (ask 4 (question4 (get_or x 0 0)) b1) _ l r h1 (λ u2 b2 e2 h2.
    let four = asked 4 (question4 (get_or x 0 0)) b1 u2 b2 e2 in
    let z : line_of x ≡ l = cc in
    subst (λ (m : Line). question4 (attribute_number m.attribute) ≡ true) z (ap question4 (attribute_numbers.1 (get_or x 0 0) four) ∙ four)))

lines_pass : (bytes : List ℕ) (lines : List Line) (r : List ℕ) → read_lines bytes ≡ found lines r → Each (λ l. question4 (attribute_number l.attribute) ≡ true) lines
unfolding read_lines
lines_pass bytes lines r h =
    step (byte bytes) _ lines r h (λ n b1 e1 h1.
    step (ask 3 _ b1) _ lines r h1 (λ u2 b2 e2 h2.
    let m = many_bytes (λ done. read_line) line_bytes (λ l. question4 (attribute_number l.attribute) ≡ true)
    (λ done b l s k. ((line_bytes_lem b l s k).0, line_passes b l s k)) n [] b2 lines r h2 in
    subst (Each (λ l. question4 (attribute_number l.attribute) ≡ true)) (sym m.out_is) m.each))

-- The whole record

own_from : (p : ℕ) (programs : List (List Instruction)) → OwnFrom p programs → (i : Instruction) → Memᴰ i (for programs (λ is. is)) → Own i.processor i
unfolding for
own_from p [] h i m = absurd (Memᴰ.not-nil m)
own_from p (is ∷ programs) (own, h) i m =
    ⊎_elim
    (λ k. let o = each_in (Own p) own k in subst (λ (q : ℕ). Own q i) (sym o.by) o)
    (own_from (suc p) programs h i) (Memᴰ.append_cases is m)

by_processor : {B : Type 0} (g : List Instruction → List B) {bytes : List ℕ} {e : Execution} (r : Rendered bytes e)
    → for (below e.processors) (λ q. g (own_instructions e.instructions q)) ≡ for r.programs g
unfolding own_instructions below
by_processor g r =
    (λ x. for (count 0 (sym r.counted x)) (λ q. g (keep (λ i. eqb i.processor q) (r.instructions_are x)))) ∙ programs_apart g 0 r.programs r.own

pub parts : (bytes : List ℕ) (e : Execution) → read_all bytes ≡ says e → Parts bytes e
parts bytes e h =
    let (rest, f) = read_found bytes e h in
    let r = rendered bytes e rest f in
    let passed = pairs_passed e.instructions r.behind_programs_lem e.pairs r.behind_pairs r.pairs_read in
    let accepted = read_accepted bytes e h in
    record {
      accepted = accepted;
      bytes_are =
          r.bytes_are
          ∙ ap (λ (l : List ℕ). e.processors ∷ length e.lines ∷ (for e.lines line_bytes ++ (l ++ (length e.pairs ∷ for e.pairs pair_bytes)))) (sym (by_processor bytes_of_program r));
      processors_passed = r.processors_passed;
      lines_long = r.lines_long;
      lines_passed = lines_pass r.from_lines e.lines r.behind_lines r.lines_read;
      own = λ i m. (
        (each_in (Sound e.processors (length e.lines)) accepted.sound m).own,
        own_from 0 r.programs r.own i (subst (Memᴰ i) r.instructions_are m),
      );
      instructions_are = r.instructions_are ∙ sym (by_processor (λ is. is) r);
      pairs_own = passed.0;
      pairs_rise = passed.1;
    }

-- Instructions by processor, of any list

weighed : (size : Instruction → ℕ) (is : List Instruction) (p : ℕ) → sum size (lower_instructions is (suc p)) ≡ sum size (lower_instructions is p) + sum size (own_instructions is p)
unfolding sum keep lower_instructions own_instructions
weighed size [] p = omega arith
weighed size (i ∷ is) p =
    let ih = weighed size is p in
    split (ltb i.processor p)
    (λ t. let l = ltb-true i.processor p t in rw (t, lt-ltb i.processor (suc p) (omega arith), ne_eqb i.processor p (λ z. omega arith)) (omega arith))
    (λ t. let l = ltb-false i.processor p t in
    split (eqb i.processor p)
    (λ s. let k = eqb-true i.processor p s in rw (t, s, lt-ltb i.processor (suc p) (omega arith)) (omega arith))
    (λ s. let k = eqb-false i.processor p s in rw (t, s, le-ltb i.processor (suc p) (omega arith)) (omega arith)))

pub counted : (is : List Instruction) → length is ≡ sum (λ i. 1) is
unfolding sum
counted [] = refl
counted (i ∷ is) = omega (arith, counted is)

bytes_counted : (is : List Instruction) → entries_length is ≡ sum (λ i. 11 + more_length i.kind i.size) is
unfolding sum entries_length
bytes_counted [] = refl
bytes_counted (i ∷ is) = omega (arith, bytes_counted is)

pub lower_more : (is : List Instruction) (p : ℕ) → length (lower_instructions is (suc p)) ≡ length (lower_instructions is p) + length (own_instructions is p)
lower_more is p =
    omega (arith, weighed (λ i. 1) is p, counted (lower_instructions is (suc p)), counted (lower_instructions is p), counted (own_instructions is p))

pub lower_bytes_more : (is : List Instruction) (p : ℕ) → entries_length (lower_instructions is (suc p)) ≡ entries_length (lower_instructions is p) + entries_length (own_instructions is p)
lower_bytes_more is p = omega (
  arith,
  weighed (λ i. 11 + more_length i.kind i.size) is p,
  bytes_counted (lower_instructions is (suc p)),
  bytes_counted (lower_instructions is p),
  bytes_counted (own_instructions is p),
)

pub lower_none : (is : List Instruction) → lower_instructions is 0 ≡ []
unfolding lower_instructions keep
lower_none [] = refl
lower_none (i ∷ is) = rw (le-ltb i.processor 0 (omega arith)) (lower_none is)

pub in_own : (is : List Instruction) (p : ℕ) {i : Instruction} → Memᴰ i (own_instructions is p) → Memᴰ i is × (i.processor ≡ p)
unfolding own_instructions
in_own is p {i} m = let (w, t) = of_keep (λ i. eqb i.processor p) is m in (w, eqb-true i.processor p t)

-- Where the programs stand

pub entries_long : (is : List Instruction) → ((i : Instruction) → Memᴰ i is → length (entry_bytes i) ≡ 11 + more_length i.kind i.size) → length (for is entry_bytes) ≡ entries_length is
unfolding for entries_length
entries_long [] h = refl
entries_long (i ∷ is) h =
    omega (arith, length-append (entry_bytes i) (for is entry_bytes), h i (Memᴰ.head refl), entries_long is (λ j m. h j (Memᴰ.tail m)))

-- line k of lines of nine bytes each
line_at : {A : Type 0} (f : A → List ℕ) (d : A) (l : List A) (rest : List ℕ) (k : ℕ) → Each (λ a. length (f a) ≡ 9) l → k < length l
    → take 9 (drop (9 * k) (for l f ++ rest)) ≡ f (get_or l k d)
unfolding for
line_at f d [] rest k h less = absurd (omega arith)
line_at f d (a ∷ l) rest zero h less = ap (take 9) (append_assoc (f a) (for l f) rest) ∙ take_at (f a) (for l f ++ rest) 9 h.0
line_at f d (a ∷ l) rest (suc k) h less =
    ap (λ (w : List ℕ). take 9 (drop (9 * suc k) w)) (append_assoc (f a) (for l f) rest)
    ∙ ap (λ (m : ℕ). take 9 (drop m (f a ++ (for l f ++ rest)))) (let z : 9 * suc k ≡ length (f a) + 9 * k = omega (arith, h.0) in z)
    ∙ ap (take 9) (drop-append-add (f a) (for l f ++ rest) (9 * k))
    ∙ line_at f d l rest k h.1 (omega arith)

module _ {bytes : List ℕ} {e : Execution} (r : Parts bytes e) where
  abbrev is : List Instruction
  is = e.instructions

  abbrev program_at : ℕ → List ℕ
  program_at p = bytes_of_program (own_instructions e.instructions p)

  pub program_length : (p : ℕ) → length (bytes_of_program (own_instructions e.instructions p)) ≡ 1 + entries_length (own_instructions e.instructions p)
  program_length p = omega (arith, entries_long (own_instructions is p) (λ i m. (r.own i (in_own is p m).0).1.long))

  pub programs_length : (p : ℕ) → length (for (below p) (λ q. bytes_of_program (own_instructions e.instructions q))) ≡ p + entries_length (lower_instructions e.instructions p)
  unfolding for below count entries_length
  programs_length zero = omega (arith, ap entries_length (lower_none is))
  programs_length (suc p) =
      let more = ap (λ (l : List ℕ). length (for l program_at)) (below_more p) ∙ ap length (for_append (below p) (p ∷ []) program_at ∙ ap (λ (l : List ℕ). for (below p) program_at ++ l) (for_one p program_at))
      ∙ length-append (for (below p) program_at) (program_at p) in
      omega (arith, more, program_length p, programs_length p, lower_bytes_more is p)

  pub lines_length : length (for e.lines line_bytes) ≡ 9 * length e.lines
  lines_length = length_for 9 line_bytes e.lines r.lines_long ∙ mul_comm (length e.lines) 9

  -- line k in the record
  pub line_of_lem : (k : ℕ) → k < length e.lines → take 9 (drop (2 + 9 * k) bytes) ≡ line_bytes (get_or e.lines k no_line)
  line_of_lem k h =
      let behind = for (below e.processors) program_at ++ (length e.pairs ∷ for e.pairs pair_bytes) in
      ap (λ (l : List ℕ). take 9 (drop (2 + 9 * k) l)) r.bytes_are
      ∙ ap (take 9) (drop-append-add (e.processors ∷ length e.lines ∷ []) (for e.lines line_bytes ++ behind) (9 * k))
      ∙ line_at line_bytes no_line e.lines behind k r.lines_long h

  pub program_start_lem : (p : ℕ) → p < e.processors
      → take (length (bytes_of_program (own_instructions e.instructions p))) (drop (2 + 9 * length e.lines + (p + entries_length (lower_instructions e.instructions p))) bytes)
      ≡ bytes_of_program (own_instructions e.instructions p)
  unfolding for
  program_start_lem p l =
      let lines = for e.lines line_bytes in
      let before = for (below p) program_at in
      let later = for (count (suc p) (e.processors - suc p)) program_at in
      let pairs = length e.pairs ∷ for e.pairs pair_bytes in
      let front = e.processors ∷ length e.lines ∷ (lines ++ before) in
      let programs : for (below e.processors) program_at ≡ before ++ (program_at p ++ later) =
      ap (λ (c : List ℕ). for c program_at) (below_at e.processors p l) ∙ for_append (below p) (p ∷ count (suc p) (e.processors - suc p)) program_at in
      let whole : bytes ≡ front ++ (program_at p ++ (later ++ pairs)) =
      r.bytes_are
      ∙ ap (λ (c : List ℕ). e.processors ∷ length e.lines ∷ c)
      (ap (λ (c : List ℕ). lines ++ (c ++ pairs)) programs
      ∙ ap (λ (c : List ℕ). lines ++ c) (append_assoc before (program_at p ++ later) pairs ∙ ap (λ (c : List ℕ). before ++ c) (append_assoc (program_at p) later pairs))
      ∙ sym (append_assoc lines before (program_at p ++ (later ++ pairs)))) in
      let n = 2 + 9 * length e.lines + (p + entries_length (lower_instructions is p)) in
      ap (λ (b : List ℕ). take (length (program_at p)) (drop n b)) whole
      ∙ ap (take (length (program_at p))) (drop_at front (program_at p ++ (later ++ pairs)) n (omega (arith, length-append lines before, lines_length, programs_length p)))
      ∙ take_at (program_at p) (later ++ pairs) (length (program_at p)) refl

  pub programs_end : 2 + 9 * length e.lines + (e.processors + entries_length (lower_instructions e.instructions e.processors)) ≤ length bytes
  programs_end =
      let lines = for e.lines line_bytes in
      let programs = for (below e.processors) program_at in
      let pairs = length e.pairs ∷ for e.pairs pair_bytes in
      omega (arith, ap length r.bytes_are, length-append lines (programs ++ pairs), length-append programs pairs, lines_length, programs_length e.processors)

-- Which instructions are of a processor

pub lower_empty : (is : List Instruction) (p : ℕ) → ((i : Instruction) → Memᴰ i is → p ≤ i.processor) → lower_instructions is p ≡ []
unfolding lower_instructions keep
lower_empty [] p h = refl
lower_empty (i ∷ is) p h = rw (le-ltb i.processor p (h i (Memᴰ.head refl))) (lower_empty is p (λ j m. h j (Memᴰ.tail m)))

-- instruction n is of a processor below p exactly when it is one of the first k
abbrev Stands : List Instruction → ℕ → ℕ → ℕ → Type 0
Stands is n p k = (processor_of is n < p → n < k) × (n < k → processor_of is n < p)

-- instructions of processors that do not fall: those of lower processors stand first
lower_stands : (is : List Instruction) → Rising (λ i. i.processor) is → (p n : ℕ) → n < length is → Stands is n p (length (lower_instructions is p))
unfolding lower_instructions keep
lower_stands [] r p n h = absurd (omega arith)
lower_stands (i ∷ is) (low, r) p n h =
    split (ltb i.processor p)
    (λ t. rw t (lower (lower_stands is r p) n (ltb-true i.processor p t) h))
    (λ t. rw t (higher n (ltb-false i.processor p t) h))
  where
    lower : ((n : ℕ) → n < length is → Stands is n p (length (lower_instructions is p))) → (n : ℕ) → i.processor < p → n < length (i ∷ is)
        → Stands (i ∷ is) n p (suc (length (lower_instructions is p)))
    lower ih zero l h = ((λ k. omega arith), λ k. l)
    lower ih (suc n) l h = let (a, b) = ih n (omega arith) in ((λ k. let v = a k in omega arith), λ k. b (omega arith))

    from : p ≤ i.processor → (n : ℕ) → n < length (i ∷ is) → p ≤ processor_of (i ∷ is) n
    from l zero k = l
    from l (suc n) k = omega (arith, low (get_or is n no_instruction) (getD_member is n no_instruction (omega arith)))

    higher : (n : ℕ) → p ≤ i.processor → n < length (i ∷ is) → Stands (i ∷ is) n p (length (lower_instructions is p))
    higher n l h =
        let none = ap length (lower_empty is p (λ j m. omega (arith, low j m))) in
        ((λ k. absurd (omega (arith, from l n h))), λ k. absurd (omega arith))

-- the programs one after the other rise by processor
programs_rise : (is : List Instruction) (from n : ℕ) → Rising (λ i. i.processor) (for (count from n) (own_instructions is))
unfolding for count
programs_rise is from zero = tt
programs_rise is from (suc n) = behind (programs_rise is (suc from) n) (own_instructions is from) (λ i m. (in_own is from m).1)
  where
    behind : Rising (λ i. i.processor) (for (count (suc from) n) (own_instructions is)) → (l : List Instruction) → ((i : Instruction) → Memᴰ i l → i.processor ≡ from)
        → Rising (λ i. i.processor) (l ++ for (count (suc from) n) (own_instructions is))
    behind r [] h = r
    behind r (i ∷ l) h = (
      (λ j m. ⊎_elim
          (λ k. omega (arith, h i (Memᴰ.head refl), h j (Memᴰ.tail k)))
          (λ k. let (q, w, v) = of_for (own_instructions is) (count (suc from) n) k in omega (arith, h i (Memᴰ.head refl), (in_own is q v).1, (of_count (suc from) n w).0))
          (Memᴰ.append_cases l m)),
      behind r l (λ j m. h j (Memᴰ.tail m)),
    )

module _ {bytes : List ℕ} {e : Execution} (r : Parts bytes e) where
  pub processors_rise : Rising (λ i. i.processor) e.instructions
  unfolding below
  processors_rise = subst (Rising (λ i. i.processor)) (sym r.instructions_are) (programs_rise e.instructions 0 e.processors)

  -- the numbers of a processor's instructions, and the processor of a number
  pub own_numbers : (n p : ℕ) → n < length e.instructions → processor_of e.instructions n ≡ p
      → (length (lower_instructions e.instructions p) ≤ n) × (n < length (lower_instructions e.instructions p) + length (own_instructions e.instructions p))
  own_numbers n p l h =
      let under = (lower_stands e.instructions processors_rise p n l).1 in
      let within = (lower_stands e.instructions processors_rise (suc p) n l).0 (omega arith) in
      (from under, omega (arith, lower_more e.instructions p))
    where
      from : (n < length (lower_instructions e.instructions p) → processor_of e.instructions n < p) → length (lower_instructions e.instructions p) ≤ n
      from f = go (dec_lt n (length (lower_instructions e.instructions p)))
        where
          go : Dec (n < length (lower_instructions e.instructions p)) → length (lower_instructions e.instructions p) ≤ n
          go (yes k) = absurd (omega (arith, f k))
          go (no k) = omega arith

  pub in_own_pairs : (p : ℕ) {q : ℕ × ℕ} → Memᴰ q (own_pairs e.instructions e.pairs p) → Memᴰ q e.pairs × (processor_of e.instructions q.0 ≡ p)
  unfolding own_pairs
  in_own_pairs p {q} m =
      let (w, t) = of_keep (λ q. eqb (processor_of e.instructions q.0) p) e.pairs m in (w, eqb-true (processor_of e.instructions q.0) p t)

  -- the pairs of a processor are of its instructions
  pub own_pairs_within : (p : ℕ) (q : ℕ × ℕ) → Memᴰ q (own_pairs e.instructions e.pairs p)
      → (length (lower_instructions e.instructions p) ≤ q.0) × (q.0 < q.1) × (q.1 < length (lower_instructions e.instructions p) + length (own_instructions e.instructions p))
  own_pairs_within p q m =
      let (w, owner) = in_own_pairs p m in
      let o = r.pairs_own q w in
      ((own_numbers q.0 p (omega (arith, o.rises, o.within)) owner).0, o.rises, (own_numbers q.1 p o.within (sym o.one ∙ owner)).1)

  pub local_low : (p : ℕ) (q : ℕ × ℕ) → Memᴰ q (local_pairs e.instructions e.pairs p)
      → (q.0 < length (own_instructions e.instructions p)) × (q.1 < length (own_instructions e.instructions p))
  unfolding local_pairs
  local_low p q m =
      let n = length (lower_instructions e.instructions p) in
      let (u, w, h) = Memᴰ.of_map (λ q. (q.0 - n, q.1 - n)) (own_pairs e.instructions e.pairs p) m in
      let (from, rises, to) = own_pairs_within p u w in
      subst (λ (x : ℕ × ℕ). (x.0 < length (own_instructions e.instructions p)) × (x.1 < length (own_instructions e.instructions p))) h (omega arith, omega arith)
