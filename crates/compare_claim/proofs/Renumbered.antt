-- Two accepted records of which some renumbering turns the one into the other: the execution of the one is that of the other, its processors numbered anew.
use Prim.Native.Nat.{ℕ, ◌+◌, ◌-◌, ◌≤◌, ◌<◌}
use native.Mathlib.Omega.{arith}
use native.Mathlib.Decide.{dec_lt}
use mathlib.Core.Path.{◌≡◌, refl, sym, ap, ◌∙◌, subst}
use mathlib.Core.Bool.{cond}
use mathlib.Core.List.{List, [], ◌∷◌, map, append-nil, Memᴰ}
use lib.ListN.{length, get_or, get_or-map}
use lib.Dec.{ltb}
use borrow.Author.Tests.{lt-ltb, le-ltb}
use Rattle.base.specs.Lists.{for, below}
use Rattle.base.specs.Orders.{OrderOf}
use Rattle.base.proofs.Lists.{getD_member, getD_below, map_same, of_below}
use Rattle.base.proofs.Permutations.{sum, sum_append, sum_map, order_sums, place, order_low, order_one, order_place, mapped_order, straight}
use Rattle.model.specs.Execution.{kind_of, Instruction, Execution, roles, operation_count, operations}
use Rattle.model.specs.Questions.{no_instruction}
use Rattle.model.specs.Sections.{entry_bytes}
use Rattle.model.specs.Renumbering.{Processor, bytes_of_program, own_instructions, local_pairs, processor_at, head_taken}
use Rattle.record_sections.proofs.Rendered.{kind_numbered}
use Rattle.record_renumbering.proofs.Parts.{Parts, processor_of, same_entry, in_own}
use Rattle.record_renumbering.proofs.Programs.{entries_same}
use Rattle.renumbered_marks.proofs.Renumbers.{moved, Renumbers}
use Rattle.compare_claim.proofs.Located.{program_start, stands, Entry, entry, local_pair, of_local_pair}
use Rattle.compare_claim.proofs.SameLines.{same_processors, accessed_line}

-- an instruction by its parts
one_instruction : (to : ℕ → ℕ) (number first : Instruction → ℕ) (i j : Instruction) → number i ≡ j.number → first i ≡ j.first → to i.processor ≡ j.processor
    → (i.kind ≡ j.kind) × (i.address ≡ j.address) × (i.size ≡ j.size) × (i.seen ≡ j.seen) × (i.wrote ≡ j.wrote) → moved to number first i ≡ j
one_instruction to number first i j a b c (kind, address, size, seen, wrote) = λ x. record {
  number = a x;
  first = b x;
  processor = c x;
  kind = kind x;
  address = address x;
  size = size x;
  seen = seen x;
  wrote = wrote x;
}

-- Operations, counted: those of an instruction, by its kind or by its entry

abbrev operations_by : ℕ → Instruction → ℕ
operations_by p i = length (roles p i.kind)

abbrev entry_operations : ℕ → List ℕ → ℕ
entry_operations p entry = length (roles p (kind_of (get_or entry 0 0)))

sum_entries : (p : ℕ) (is : List Instruction) → sum (operations_by p) is ≡ sum (entry_operations p) (map entry_bytes is)
unfolding entry_bytes
sum_entries p is = sym (sum_map (entry_operations p) entry_bytes is ∙ (λ x. sum (λ i. length (roles p (kind_numbered i.kind x))) is))

count_sum : (p : ℕ) (is : List Instruction) → operation_count p is ≡ sum (operations_by p) is
unfolding operation_count sum
count_sum p [] = refl
count_sum p (i ∷ is) = omega (arith, count_sum p is)

sum_for : {A B : Type 0} (g : B → ℕ) (h : A → List B) (l : List A) → sum g (for l h) ≡ sum (λ a. sum g (h a)) l
unfolding for sum
sum_for g h [] = refl
sum_for g h (a ∷ l) = omega (arith, sum_append g (h a) (for l h), sum_for g h l)

by_programs : {bytes : List ℕ} {e : Execution} → Parts bytes e → (p : ℕ) → operation_count p e.instructions ≡ sum (λ q. sum (operations_by p) (own_instructions e.instructions q)) (below e.processors)
by_programs {bytes} {e} r p =
    count_sum p e.instructions ∙ ap (sum (operations_by p)) r.instructions_are ∙ sum_for (operations_by p) (own_instructions e.instructions) (below e.processors)

module _ {left right : List ℕ} {e f : Execution} (r : Parts left e) (s : Parts right f) (order : List ℕ) (o : OrderOf e.processors order)
    (heads : head_taken e ≡ head_taken f)
    (same : map (processor_at e.instructions e.pairs) order ≡ map (processor_at f.instructions f.pairs) (below f.processors)) where
  abbrev n : ℕ
  n = e.processors

  abbrev is : List Instruction
  is = e.instructions

  abbrev js : List Instruction
  js = f.instructions

  -- Processors

  -- the new number of a processor
  to : ℕ → ℕ
  to p = cond (ltb p n) (place order p) p

  to_at : (p : ℕ) → p < n → to p ≡ place order p
  unfolding to
  to_at p l = rw (lt-ltb p n l)

  to_past : (p : ℕ) → n ≤ p → to p ≡ p
  unfolding to
  to_past p l = rw (le-ltb p n l)

  to_below : (p : ℕ) → p < n → to p < n
  to_below p l = omega (arith, to_at p l, (order_place n order o p l).0)

  to_back : (p : ℕ) → p < n → get_or order (to p) 0 ≡ p
  to_back p l = ap (λ (k : ℕ). get_or order k 0) (to_at p l) ∙ (order_place n order o p l).1

  to_entry : (k : ℕ) → k < n → to (get_or order k 0) ≡ k
  to_entry k l =
      let low = order_low n order o k l in
      order_one n order o (to (get_or order k 0)) k (to_below (get_or order k 0) low) l (to_back (get_or order k 0) low)

  to_same : (p q : ℕ) → to p ≡ to q → p ≡ q
  to_same p q h = go (dec_lt p n) (dec_lt q n)
    where
      go : Dec (p < n) → Dec (q < n) → p ≡ q
      go (yes lp) (yes lq) = sym (to_back p lp) ∙ ap (λ (k : ℕ). get_or order k 0) h ∙ to_back q lq
      go (yes lp) (no lq) = absurd (omega (arith, to_below p lp, to_past q (omega arith)))
      go (no lp) (yes lq) = absurd (omega (arith, to_below q lq, to_past p (omega arith)))
      go (no lp) (no lq) = omega (arith, to_past p (omega arith), to_past q (omega arith))

  -- the processor under its new number
  processor_same : (p : ℕ) → p < n → processor_at is e.pairs p ≡ processor_at js f.pairs (to p)
  processor_same p l =
      let at : ℕ → Processor = processor_at is e.pairs in
      ap at (sym (to_back p l))
      ∙ sym (get_or-map at order (to p) 0)
      ∙ ap (λ (cs : List Processor). get_or cs (to p) (at 0)) same
      ∙ getD_below (processor_at js f.pairs) (at 0) f.processors (to p) (omega (arith, to_below p l, same_processors r s heads))

  entries_are : (p : ℕ) → p < n → (length (own_instructions is p) ≡ length (own_instructions js (to p))) × (map entry_bytes (own_instructions is p) ≡ map entry_bytes (own_instructions js (to p)))
  unfolding processor_at
  entries_are p l =
      let programs : bytes_of_program (own_instructions is p) ≡ bytes_of_program (own_instructions js (to p)) = ap (λ (c : Processor). c.program) (processor_same p l) in
      let many : length (own_instructions is p) ≡ length (own_instructions js (to p)) = cc in
      let bytes : for (own_instructions is p) entry_bytes ≡ for (own_instructions js (to p)) entry_bytes = cc in (
        many,
        entries_same (own_instructions is p) (own_instructions js (to p)) [] []
            (λ i m. (r.own i (in_own is p m).0).1.long) (λ i m. (s.own i (in_own js (to p) m).0).1.long) many
            (append-nil (for (own_instructions is p) entry_bytes) ∙ bytes ∙ sym (append-nil (for (own_instructions js (to p)) entry_bytes))),
      )

  local_same : (p : ℕ) → p < n → local_pairs is e.pairs p ≡ local_pairs js f.pairs (to p)
  unfolding processor_at
  local_same p l = ap (λ (c : Processor). c.pairs) (processor_same p l)

  -- Instructions

  -- the new number of an instruction: its place in its program stays
  number : Instruction → ℕ
  number i = program_start js (to i.processor) + (i.number - program_start is i.processor)

  first : Instruction → ℕ
  first i = (get_or js (number i) no_instruction).first

  module _ (i : Instruction) (m : Memᴰ i is) where
    abbrev p : ℕ
    p = i.processor

    abbrev j : ℕ
    j = i.number - program_start is i.processor

    owner : i.processor < n
    owner = (r.own i m).0

    inside : (j < length (own_instructions is p)) × (j < length (own_instructions js (to p)))
    inside = let t = stands r i m in (omega arith, omega (arith, (entries_are p owner).0))

    new_entry : Entry f (to p) j
    new_entry = entry s (to p) j inside.1

    entry_old : get_or (own_instructions is p) j no_instruction ≡ i
    entry_old =
        let t = stands r i m in
        sym (entry r p j inside.0).entry_is
        ∙ ap (λ (k : ℕ). get_or is k no_instruction) (let z : program_start is p + j ≡ i.number = omega arith in z) ∙ t.at_number

    moved_there : moved to number first i ≡ get_or js (number i) no_instruction
    unfolding number first
    moved_there =
        let bytes : entry_bytes i ≡ entry_bytes (get_or js (number i) no_instruction) =
        ap entry_bytes (sym entry_old)
        ∙ sym (get_or-map entry_bytes (own_instructions is p) j no_instruction)
        ∙ ap (λ (l : List (List ℕ)). get_or l j (entry_bytes no_instruction)) (entries_are p owner).1
        ∙ get_or-map entry_bytes (own_instructions js (to p)) j no_instruction
        ∙ ap entry_bytes (sym new_entry.entry_is) in
        one_instruction to number first i (get_or js (number i) no_instruction) (sym new_entry.number_is) refl (sym new_entry.owner_is)
        (same_entry p (processor_of js (number i)) i (get_or js (number i) no_instruction) (r.own i m).1 (s.own (get_or js (number i) no_instruction) (getD_member js (number i) no_instruction new_entry.there)).1 bytes)

    moved_in : Memᴰ (moved to number first i) js
    unfolding number
    moved_in = subst (λ (k : Instruction). Memᴰ k js) (sym moved_there) (getD_member js (number i) no_instruction new_entry.there)

  comes_from : (k : Instruction) → Memᴰ k js → (i : Instruction) × Memᴰ i is × (moved to number first i ≡ k)
  unfolding number
  comes_from k m =
      let t = stands s k m in
      let low : k.processor < n = omega (arith, (s.own k m).0, same_processors r s heads) in
      let p = get_or order k.processor 0 in
      let back : to p ≡ k.processor = to_entry k.processor low in
      let j = k.number - program_start js k.processor in
      let here = entry r p j (omega (arith, t.from, t.up_to, (entries_are p (order_low n order o k.processor low)).0, ap (λ (q : ℕ). length (own_instructions js q)) back)) in
      let i = get_or is (program_start is p + j) no_instruction in
      let there = getD_member is (program_start is p + j) no_instruction here.there in
      let own : i.processor ≡ p = here.owner_is in
      let same_number : number i ≡ k.number = omega (
        arith,
        here.number_is,
        t.from,
        ap (program_start is) own,
        ap (λ (q : ℕ). program_start js (to q)) own,
        ap (program_start js) back,
      ) in
      (i, there, moved_there i there ∙ ap (λ (q : ℕ). get_or js q no_instruction) same_number ∙ t.at_number)

  one_number : (i j : Instruction) → Memᴰ i is → Memᴰ j is → number i ≡ number j → i.number ≡ j.number
  unfolding number
  one_number i j mi mj h =
      let ti = stands r i mi in
      let tj = stands r j mj in
      let own : i.processor ≡ j.processor = to_same i.processor j.processor (sym (new_entry i mi).owner_is ∙ ap (processor_of js) h ∙ (new_entry j mj).owner_is) in
      omega (arith, ti.from, tj.from, ap (program_start is) own, ap (λ (q : ℕ). program_start js (to q)) own)

  number_later : (i j : Instruction) → Memᴰ i is → Memᴰ j is → i.processor ≡ j.processor → i.number < j.number → number i < number j
  unfolding number
  number_later i j mi mj own h =
      omega (arith, (stands r i mi).from, (stands r j mj).from, ap (program_start is) own, ap (λ (q : ℕ). program_start js (to q)) own)

  -- Pairs

  pair_carried : (i j : Instruction) → Memᴰ i is → Memᴰ j is → Memᴰ (i.number, j.number) e.pairs → Memᴰ (number i, number j) f.pairs
  unfolding number
  pair_carried i j mi mj m =
      let own : processor_of is i.number ≡ i.processor = ap (λ (k : Instruction). k.processor) (stands r i mi).at_number in
      let one : i.processor ≡ j.processor =
      sym own ∙ (r.pairs_own (i.number, j.number) m).one ∙ ap (λ (k : Instruction). k.processor) (stands r j mj).at_number in
      let places : Memᴰ (i.number - program_start is i.processor, j.number - program_start is i.processor) (local_pairs js f.pairs (to i.processor)) =
      subst (Memᴰ _) (local_same i.processor (r.own i mi).0) (local_pair r i.processor i.number j.number own m) in
      subst (λ (p : ℕ). Memᴰ (number i, program_start js (to p) + (j.number - program_start is p)) f.pairs) one
      (of_local_pair s (to i.processor) _ _ places)

  -- Operations

  -- the operations of a program are as many under its new number
  program_count : (p : ℕ) → p < n → sum (operations_by n) (own_instructions is p) ≡ sum (operations_by n) (own_instructions js (to p))
  program_count p l =
      sum_entries n (own_instructions is p) ∙ ap (sum (entry_operations n)) (entries_are p l).1 ∙ sym (sum_entries n (own_instructions js (to p)))

  as_many : operations e ≡ operations f
  unfolding operations
  as_many =
      let old : ℕ → ℕ = λ p. sum (operations_by n) (own_instructions is p) in
      let new : ℕ → ℕ = λ p. sum (operations_by n) (own_instructions js p) in
      by_programs r n
      ∙ sym (sum_map (λ k. k) old (below n))
      ∙ ap (sum (λ k. k)) (map_same old (λ p. new (to p)) (below n) (λ p m. program_count p (of_below n m)))
      ∙ sum_map (λ k. k) (λ p. new (to p)) (below n)
      ∙ sym (sum_map new to (below n))
      ∙ order_sums n (map to (below n)) (mapped_order n to to_below (λ p q lp lq. to_same p q) (below n) (straight n)) new
      ∙ ap (λ (k : ℕ). sum new (below k)) (same_processors r s heads)
      ∙ sym (by_programs s n)
      ∙ ap (λ (k : ℕ). operation_count k js) (same_processors r s heads)

  pub renumbers : Renumbers e f
  renumbers = record {
    to = to;
    number = number;
    first = first;
    to_low = to_below;
    to_one = to_same;
    same_processors = same_processors r s heads;
    same_lines = λ i m. accessed_line r s heads i (moved to number first i) m (moved_in i m) refl refl;
    same_operations = as_many;
    into = moved_in;
    onto = comes_from;
    number_one = one_number;
    number_rises = number_later;
    pairs_go = pair_carried;
  }
