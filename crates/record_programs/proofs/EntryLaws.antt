-- The questions of an instruction.
use Prim.Native.Nat.{ℕ, zero, suc, ◌+◌, ◌-◌, ◌*◌, ◌/◌, ◌%◌, ◌≤◌, ◌<◌}
use native.Mathlib.Omega.{arith}
use mathlib.Core.Path.{◌≡◌, refl, sym, ap, ap₂, ◌∙◌}
use mathlib.Core.Bool.{Bool, true, false, cond, ◌&&◌, ◌||◌, or-false, false≢true}
use mathlib.Core.List.{List, [], ◌∷◌, ◌++◌}
use Rattle.std.specs.List.{list_all, list_any}
use lib.ListN.{length, get_or, take, drop, length-take, length-drop, drop_of_length-le}
use lib.Seq.{length-take-le, take-suc, take-add, get_or-take, drop-drop}
use lib.Dec.{eqb, leb, ltb}
use borrow.Author.Tests.{le-leb, lt-leb, ltb-true, eq-eqb, ne_eqb}
use Rattle.base.specs.Lists.{all, member}
use Rattle.base.specs.Below.{all_below, any_below}
use Rattle.base.proofs.Bools.{eqb_swap}
use Rattle.base.proofs.Chains.{all_list}
use Rattle.base.proofs.Lists.{member_in, member_append, all_member}
use Rattle.base.proofs.Tests.{all_same, all_elements, all_count}
use Rattle.model.specs.Execution.{Kind, ld, ld_acq, st, st_rel, mf, sem_acq, sem_rel, Attribute, WC, attribute_number, Instruction, kind_of, is_fence, is_semaphore, lines_from}
use Rattle.model.proofs.Accepted.{data_within}
use Rattle.model.specs.Questions.{Found, no_to, found, question6, question7, question8, question26, question27, question9, sizes_of, more_length, written_from, instruction_of, read_instruction, next, item, ask}
use Rattle.record_decoded.specs.Reads.{Entry}
use Rattle.record_decoded.proofs.Items.{item_short, item_there}

-- std's test for an element
pub member_of : (l : List ℕ) (a : ℕ) → list_any (λ x. eqb x a) l ≡ member l a
unfolding member
member_of [] a = refl
member_of (x ∷ l) a = ap (λ (t : Bool). eqb x a || t) (member_of l a)

-- the same test by another name
pub all_alike : (p q : ℕ → Bool) → ((b : ℕ) → p b ≡ q b) → (l : List ℕ) → all p l ≡ all q l
unfolding all
all_alike p q e [] = refl
all_alike p q e (x ∷ l) = ap₂ (λ (s t : Bool). s && t) (e x) (all_alike p q e l)

-- question 7
module _ (k : Kind) (size : ℕ) where
  pub fence_size : is_fence k ≡ true → eqb size 0 ≡ question7 k size
  unfolding question7 member
  fence_size h = rw h (sym (or-false (eqb 0 size) ∙ eqb_swap 0 size))

  -- the table is the sizes of a load; a semaphore has the first four of them, any other access all five
  pub size_by_count : (count : ℕ) → is_fence k ≡ false → count ≡ cond (is_semaphore k) 4 5
      → member (take count (sizes_of ld)) size ≡ question7 k size
  unfolding question7
  size_by_count count h c = ap (λ (l : List ℕ). member l size) (ap (λ (n : ℕ). take n (sizes_of ld)) c ∙ first k h)
    where
      first : (k : Kind) → is_fence k ≡ false → take (cond (is_semaphore k) 4 5) (sizes_of ld) ≡ sizes_of k
      first ld h = refl
      first ld_acq h = refl
      first st h = refl
      first st_rel h = refl
      first mf h = absurd (false≢true (sym h))
      first sem_acq h = refl
      first sem_rel h = refl

  pub size_positive : is_fence k ≡ false → question7 k size ≡ true → 0 < size
  unfolding question7 all
  size_positive h q = ltb-true 0 size (rw h at (all_member (λ n. is_fence k || ltb 0 n) (member_in (sizes_of k) size q) (each k)))
    where
      each : (k : Kind) → all (λ n. is_fence k || ltb 0 n) (sizes_of k) ≡ true
      each ld = refl
      each ld_acq = refl
      each st = refl
      each st_rel = refl
      each mf = refl
      each sem_acq = refl
      each sem_rel = refl

  -- question 8
  module _ (lines address : ℕ) where
    pub fence_address : is_fence k ≡ true → eqb address 0 ≡ question8 lines k size address
    unfolding question8
    fence_address h = rw h

    pub address_off : is_fence k ≡ false → (address % size ≡ 0 → ⊥) → false ≡ question8 lines k size address
    unfolding question8
    address_off h n = rw (h, ne_eqb (address % size) 0 n)

    pub address_on : is_fence k ≡ false → address % size ≡ 0 → leb (address + size) (8 * lines) ≡ question8 lines k size address
    unfolding question8
    address_on h e = rw (h, eq-eqb (address % size) 0 e)

-- question 27, by index
pub lines_by_index : (lines : List Attribute) (size address first n number : ℕ) → first ≡ address / 8 → n ≡ (size + 7) / 8 → number ≡ attribute_number (get_or lines first WC)
    → all_below n (λ i. eqb (attribute_number (get_or lines (first + i) WC)) number) ≡ question27 lines size address
unfolding question27 lines_from
lines_by_index lines size address first n number f c m =
    rw (m, c, f) (all_count (λ k. eqb (attribute_number (get_or lines k WC)) (attribute_number (get_or lines (address / 8) WC))) (address / 8) ((size + 7) / 8))

-- question 9
pub both_spare : (size : ℕ) (bytes : List ℕ)
    → (list_all (λ b. eqb b 0) (drop size (take 8 bytes)) && list_all (λ b. eqb b 0) (drop size (drop 8 bytes))) ≡ question9 size bytes
unfolding question9
both_spare size bytes = ap₂ (λ (s t : Bool). s && t) (zeros (drop size (take 8 bytes))) (zeros (drop size (drop 8 bytes)))
  where
    zeros : (l : List ℕ) → list_all (λ b. eqb b 0) l ≡ all (eqb 0) l
    zeros l = all_list (λ b. eqb b 0) l ∙ all_alike (λ b. eqb b 0) (eqb 0) (λ b. eqb_swap b 0) l

-- the questions in their order, of the bytes at the front of a part
module _ (part : List ℕ) (lines : List Attribute) (count : ℕ) (counted : length lines ≡ count) (processors p : ℕ) (done : List Instruction) where
  abbrev first : List ℕ
  first = take 11 part

  abbrev pub size : ℕ
  size = get_or part 2 0

  abbrev pub reading : Found Instruction
  reading = read_instruction processors lines p done part

  pub entry_short : length part < 11 → reading ≡ no_to 1
  unfolding read_instruction next
  entry_short h = rw (item_short 11 part h)

  module _ (room : 11 ≤ length part) where
    byte0 : get_or first 0 0 ≡ get_or part 0 0
    byte0 = get_or-take 11 part 0 0 (omega arith)

    byte1 : get_or first 1 0 ≡ get_or part 1 0
    byte1 = get_or-take 11 part 1 0 (omega arith)

    byte2 : get_or first 2 0 ≡ size
    byte2 = get_or-take 11 part 2 0 (omega arith)

    pub entry_kind : 6 < get_or part 0 0 → reading ≡ no_to 6
    unfolding read_instruction next ask question6
    entry_kind h = rw (item_there 11 part room, byte0, lt-leb (get_or part 0 0) 6 h)

    module _ (known : get_or part 0 0 ≤ 6) (k : Kind) (is : k ≡ kind_of (get_or part 0 0)) where
      six : question6 (get_or first 0 0) ≡ true
      unfolding question6
      six = rw byte0 (le-leb (get_or part 0 0) 6 known)

      kind : kind_of (get_or first 0 0) ≡ k
      kind = ap kind_of byte0 ∙ sym is

      pub entry_size : question7 k size ≡ false → reading ≡ no_to 7
      unfolding read_instruction next ask
      entry_size h = rw (item_there 11 part room, six, kind, byte2, h)

      module _ (seven : question7 k size ≡ true) where
        pub entry_cut : length part < 11 + more_length k size → reading ≡ no_to 1
        unfolding read_instruction next ask
        entry_cut h = rw (item_there 11 part room, six, kind, byte2, seven, item_short (more_length k size) (drop 11 part) (omega (arith, length-drop 11 part)))

        module _ (whole : 11 + more_length k size ≤ length part) where
          abbrev pub entry : List ℕ
          entry = take (11 + more_length k size) part

          further : item (more_length k size) (drop 11 part) ≡ found (take (more_length k size) (drop 11 part)) (drop (11 + more_length k size) part)
          further =
              item_there (more_length k size) (drop 11 part) (omega (arith, length-drop 11 part))
              ∙ ap (found (take (more_length k size) (drop 11 part))) (drop-drop (more_length k size) 11 part)

          pub entry_address : question8 count k size (get_or part 1 0) ≡ false → reading ≡ no_to 8
          unfolding read_instruction next ask
          entry_address h = rw (item_there 11 part room, six, kind, byte2, byte1, seven, further, counted, h)

          module _ (eight : question8 count k size (get_or part 1 0) ≡ true) where
            pub entry_line : question26 lines k (get_or part 1 0) ≡ false → reading ≡ no_to 26
            unfolding read_instruction next ask
            entry_line h = rw (item_there 11 part room, six, kind, byte2, byte1, seven, further, counted, eight, h)

            module _ (wb : question26 lines k (get_or part 1 0) ≡ true) where
              pub entry_lines : question27 lines size (get_or part 1 0) ≡ false → reading ≡ no_to 27
              unfolding read_instruction next ask
              entry_lines h = rw (item_there 11 part room, six, kind, byte2, byte1, seven, further, counted, eight, wb, h)

              module _ (same : question27 lines size (get_or part 1 0) ≡ true) where
                -- both items together
                joined : first ++ take (more_length k size) (drop 11 part) ≡ entry
                joined = sym (take-add 11 (more_length k size) part)

                pub entry_data : question9 size (drop 3 entry) ≡ false → reading ≡ no_to 9
                unfolding read_instruction next ask
                entry_data h = rw (item_there 11 part room, six, kind, byte2, byte1, seven, further, counted, eight, wb, same, joined, h)

                pub entry_passes : question9 size (drop 3 entry) ≡ true → reading ≡ found (instruction_of processors p done entry) (drop (11 + more_length k size) part)
                unfolding read_instruction next ask
                entry_passes h = rw (item_there 11 part room, six, kind, byte2, byte1, seven, further, counted, eight, wb, same, joined, h)

-- the entry that was read
pub entry_is : (part : List ℕ) (k : Kind) → k ≡ kind_of (get_or part 0 0) → question7 k (get_or part 2 0) ≡ true → 11 + more_length k (get_or part 2 0) ≤ length part
    → Entry (take (11 + more_length k (get_or part 2 0)) part)
entry_is part k is seven whole =
    let size = get_or part 2 0 in
    let n : ℕ = 11 + more_length k size in
    let long : length (take n part) ≡ n = length-take-le n part whole in
    let byte0 : get_or (take n part) 0 0 ≡ get_or part 0 0 = get_or-take n part 0 0 (omega arith) in
    let byte2 : get_or (take n part) 2 0 ≡ size = get_or-take n part 2 0 (omega arith) in
    let kind : kind_of (get_or (take n part) 0 0) ≡ k = ap kind_of byte0 ∙ sym is in
    record {
      whole = long ∙ ap₂ (λ (j : Kind) (s : ℕ). 11 + more_length j s) (sym kind) (sym byte2);
      data_within = omega (arith, long, data_within k size seven, ap written_from kind, byte2);
    }
