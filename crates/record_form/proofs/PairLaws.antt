-- The pairs put processor by processor, each number raised by the instructions before its program.
use Prim.Native.Nat.{ℕ, zero, suc, ◌+◌, ◌-◌, ◌%◌, ◌≤◌, ◌<◌}
use native.Mathlib.Numerals.{add-one}
use native.Mathlib.Omega.{arith}
use mathlib.Core.Path.{◌≡◌, refl, sym, ap, ap₂, ◌∙◌, subst}
use mathlib.Core.List.{List, [], ◌∷◌, ◌++◌, map, map-append, append-nil, append_assoc}
use lib.ListN.{length, get_or, take, drop, set, length-append, length-map, take-append-drop, drop_of_length-le}
use lib.Seq.{take-suc, drop-cons, take-take, take_at, length-take-le, get_or-take}
use Rattle.base.specs.Lists.{for, count, below}
use Rattle.base.specs.Orders.{OrderOf}
use Rattle.base.proofs.Lists.{below_more, map_same}
use Rattle.base.proofs.Permutations.{sum, sum_append, order_sums}
use Rattle.model.specs.Execution.{Instruction}
use Rattle.model.specs.Calls.{says, read_all}
use Rattle.model.specs.Sections.{pair_bytes}
use Rattle.model.specs.Renumbering.{own_instructions, lower_instructions, local_pairs, processor_at, pairs_from}
use Rattle.record_decoded.specs.declared.types.Execution.{Execution}
use Rattle.record_decoded.specs.Decoded.{instructions_of, pairs_of, execution_of}
use Rattle.record_decoded.proofs.Arrays.{instructions_length}
use Rattle.record_renumbering.proofs.Parts.{parts, lower_none, lower_more}
use Rattle.record_renumbering.proofs.Programs.{proper_at}
use Rattle.record_renumbering.proofs.Slots.{pairs_low}
use Rattle.record_writer.specs.Puts.{Puts}
use Rattle.record_writer.proofs.PutLaws.{puts_none, puts_byte, puts_both, puts_same, puts_next}
use Rattle.record_form.specs.declared.processors.Starts.{Starts}
use Rattle.record_form.specs.declared.sort.Order.{Order}
use Rattle.record_form.specs.Ordered.{in_order}
use Rattle.record_form.specs.Places.{StartsMean}
use Rattle.record_form.proofs.ProcessorLaws.{lower_few}
use Rattle.record_form.proofs.LocatedLaws.{few}

-- The pairs of one processor

-- a number raised, as a byte
abbrev pub raised_byte : ℕ → ℕ → ℕ
raised_byte raise k = (raise + k) % 256

-- The invariant: the first j bytes stand there, raised.
pub record Raised (before : List ℕ) (at raise : ℕ) (own : List ℕ) (n : ℕ) (out : List ℕ) (j : ℕ) : Type 0 where
  pub turns : j ≤ n
  pub put : Puts before at (map (raised_byte raise) (take j own)) out (at + j)

pub raised_none : {before : List ℕ} {at raise : ℕ} {own : List ℕ} {n : ℕ} → at ≤ length before → Raised before at raise own n before 0
raised_none {before} {at} h = record { turns = omega arith; put = rw (let z : at + 0 ≡ at = omega arith in z) (puts_none h) }

module _ {before : List ℕ} {at raise : ℕ} {own : List ℕ} {n : ℕ} {out : List ℕ} {j : ℕ} (inv : Raised before at raise own n out j) where
  pub raised_room : at + n ≤ length before → j < n → at + j < length out
  raised_room room h = omega (arith, inv.put.long)

  pub raised_more : {b : ℕ} → at + n ≤ length before → n ≤ length own → j < n → b ≡ get_or own j 0 → Raised before at raise own n (set out (at + j) (raised_byte raise b)) (j + 1)
  raised_more {b} room long h e = record {
    turns = omega arith;
    put =
        subst (Puts before at (map (raised_byte raise) (take (j + 1) own)) (set out (at + j) (raised_byte raise b))) (let z : at + j + 1 ≡ at + (j + 1) = omega arith in z)
        (puts_same
        (sym
        (ap (λ (k : ℕ). map (raised_byte raise) (take k own)) (add-one j)
        ∙ ap (map (raised_byte raise)) (take-suc own j 0 (omega arith))
        ∙ map-append (raised_byte raise) (take j own) (get_or own j 0 ∷ [])
        ∙ ap (λ (k : ℕ). map (raised_byte raise) (take j own) ++ (raised_byte raise k ∷ [])) (sym e)))
        (puts_both inv.put (puts_byte (raised_byte raise b) (raised_room room h))));
  }

  pub raised_ends : {bytes : List ℕ} → n ≤ j → take n own ≡ bytes → Puts before at (map (raised_byte raise) bytes) out (at + n)
  raised_ends {bytes} h e =
      let same : j ≡ n = omega (arith, inv.turns) in
      subst (λ (k : ℕ). Puts before at (map (raised_byte raise) bytes) out (at + k)) same
      (puts_same (ap (λ (k : ℕ). map (raised_byte raise) (take k own)) same ∙ ap (map (raised_byte raise)) e) inv.put)

-- bytes with an end behind them
module _ (own bytes : List ℕ) (n : ℕ) (end : ℕ) (ended : take n own ≡ bytes ++ (end ∷ [])) (room : n ≤ length own) where
  pub without_end : length bytes + 1 ≡ n
  without_end = omega (arith, length-take-le n own room, ap length ended, length-append bytes (end ∷ []))

  pub front_is : take (n - 1) own ≡ bytes
  front_is = sym (take-take (n - 1) n own (omega arith)) ∙ ap (take (n - 1)) ended ∙ take_at bytes (end ∷ []) (n - 1) (omega (arith, without_end))

-- Sums over a list

sum_front : (f : ℕ → ℕ) (l : List ℕ) (k : ℕ) → sum f (take k l) ≤ sum f l
sum_front f l k = omega (arith, ap (sum f) (take-append-drop k l), sum_append f (take k l) (drop k l))

sum_next : (f : ℕ → ℕ) (l : List ℕ) (k : ℕ) → k < length l → sum f (take (k + 1) l) ≡ sum f (take k l) + f (get_or l k 0)
unfolding sum
sum_next f l k h =
    omega (arith, ap (λ (m : ℕ). sum f (take m l)) (add-one k), ap (sum f) (take-suc l k 0 h), sum_append f (take k l) (get_or l k 0 ∷ []))

-- the instructions of the processors below n, counted one processor after the other
own_sum : (is : List Instruction) (n : ℕ) → sum (λ p. length (own_instructions is p)) (below n) ≡ length (lower_instructions is n)
unfolding sum below count
own_sum is zero = ap length (sym (lower_none is))
own_sum is (suc n) =
    omega (
      arith,
      ap (sum (λ p. length (own_instructions is p))) (below_more n),
      sum_append (λ p. length (own_instructions is p)) (below n) (n ∷ []),
      own_sum is n,
      lower_more is n,
    )

-- The pairs of all processors

-- The invariant: the pairs of the first k processors of the order are put, what is left follows behind so many instructions.
pub record PairsPut (is : List Instruction) (pairs : List (ℕ × ℕ)) (order : List ℕ) (before : List ℕ) (at : ℕ) (out : List ℕ) (next raise k : ℕ) : Type 0 where
  pub so_far : List ℕ
  pub turns : k ≤ length order
  pub put : Puts before at so_far out next
  pub decides : pairs_from 0 (map (processor_at is pairs) order) ≡ so_far ++ pairs_from raise (map (processor_at is pairs) (drop k order))
  pub raised : raise ≡ sum (λ p. length (own_instructions is p)) (take k order)

pub pairs_none : {is : List Instruction} {pairs : List (ℕ × ℕ)} {order before : List ℕ} {at : ℕ} → at ≤ length before → PairsPut is pairs order before at before at 0 0
unfolding sum
pairs_none h = record { so_far = []; turns = omega arith; put = puts_none h; decides = refl; raised = refl }

module _ (bytes : List ℕ) (x : Execution) (starts : Starts) (order : Order) (before : List ℕ) (at : ℕ)
    (pre :
    (read_all bytes ≡ says (execution_of bytes x))
    × StartsMean x.processors x.lines.count (instructions_of x.instructions) starts
    × OrderOf x.processors (take x.processors order.processors)
    × (at + length (pairs_from 0 (in_order x order)) ≤ length before)) where
  abbrev is : List Instruction
  is = instructions_of x.instructions

  abbrev turned : List ℕ
  turned = take x.processors order.processors

  abbrev own : ℕ → List ℕ
  own p = for (local_pairs is (pairs_of x.pairs) p) pair_bytes

  -- no more than 40 instructions
  sum_few : (k : ℕ) → sum (λ p. length (own_instructions is p)) (take k turned) ≤ 40
  sum_few k = omega (
    arith,
    sum_front (λ p. length (own_instructions is p)) turned k,
    order_sums x.processors turned pre.2 (λ p. length (own_instructions is p)),
    own_sum is x.processors,
    lower_few is x.processors,
    instructions_length x.instructions,
    (few bytes x pre.0).instructions_few,
  )

  -- raised by so few, the numbers are bytes
  raised_are : (p raise : ℕ) → raise + length (own_instructions is p) ≤ 40 → map (raised_byte raise) (own p) ≡ map (λ k. raise + k) (own p)
  unfolding execution_of processor_at
  raised_are p raise small =
      map_same (raised_byte raise) (λ k. raise + k) (own p)
      (λ k m. let l = pairs_low (processor_at is (pairs_of x.pairs) p) (proper_at (parts bytes (execution_of bytes x) pre.0) p) k m in
      let z : (raise + k) % 256 ≡ raise + k = omega arith in z)

  module _ {out : List ℕ} {next raise k : ℕ} (inv : PairsPut is (pairs_of x.pairs) turned before at out next raise k) where
    pub raise_few : raise ≤ 40
    raise_few = omega (arith, inv.raised, sum_few k)

    -- the next processor
    module _ {p : ℕ} (more : k < x.processors) (e : p ≡ get_or order.processors k 0) where
      this : get_or turned k 0 ≡ p
      this = get_or-take x.processors order.processors k 0 more ∙ sym e

      sum_more : raise + length (own_instructions is p) ≡ sum (λ p. length (own_instructions is p)) (take (k + 1) turned)
      sum_more = omega (
        arith,
        inv.raised,
        sum_next (λ p. length (own_instructions is p)) turned k (omega (arith, pre.2.0)),
        ap (λ (q : ℕ). length (own_instructions is q)) this,
      )

      pub raise_less : raise + length (own_instructions is p) ≤ 40
      raise_less = omega (arith, sum_more, sum_few (k + 1))

      step : pairs_from 0 (in_order x order)
          ≡ inv.so_far ++ (map (λ k. raise + k) (own p) ++ pairs_from (raise + length (own_instructions is p)) (map (processor_at is (pairs_of x.pairs)) (drop (k + 1) turned)))
      unfolding pairs_from processor_at
      step =
          inv.decides
          ∙ ap (λ (l : List ℕ). inv.so_far ++ pairs_from raise (map (processor_at is (pairs_of x.pairs)) l))
          (drop-cons turned k 0 (omega (arith, pre.2.0)) ∙ ap₂ (λ (q m : ℕ). q ∷ drop m turned) this (sym (add-one k)))

      pub own_room : next + length (own p) ≤ length out
      own_room = omega (
        arith,
        puts_next (omega (arith, pre.3)) inv.put,
        inv.put.long,
        pre.3,
        ap length step,
        length-append inv.so_far (map (λ k. raise + k) (own p) ++ pairs_from (raise + length (own_instructions is p)) (map (processor_at is (pairs_of x.pairs)) (drop (k + 1) turned))),
        length-append (map (λ k. raise + k) (own p)) (pairs_from (raise + length (own_instructions is p)) (map (processor_at is (pairs_of x.pairs)) (drop (k + 1) turned))),
        length-map (own p) (λ k. raise + k),
      )

      pub pairs_more : {after : List ℕ} {n : ℕ} {more_raise : ℕ} → Puts out next (map (raised_byte raise) (own p)) after n
          → more_raise ≡ raise + length (own_instructions is p) → PairsPut is (pairs_of x.pairs) turned before at after n more_raise (k + 1)
      pairs_more put er = record {
        so_far = inv.so_far ++ map (λ k. raise + k) (own p);
        turns = omega (arith, pre.2.0);
        put = puts_both inv.put (puts_same (raised_are p raise raise_less) put);
        decides =
            step
            ∙ sym (append_assoc inv.so_far (map (λ k. raise + k) (own p)) (pairs_from (raise + length (own_instructions is p)) (map (processor_at is (pairs_of x.pairs)) (drop (k + 1) turned))))
            ∙ ap (λ (m : ℕ). inv.so_far ++ map (λ k. raise + k) (own p) ++ pairs_from m (map (processor_at is (pairs_of x.pairs)) (drop (k + 1) turned))) (sym er);
        raised = er ∙ sum_more;
      }

    pub pairs_put : x.processors ≤ k → Puts before at (pairs_from 0 (in_order x order)) out next
    unfolding pairs_from
    pairs_put h =
        puts_same
        (sym
        (inv.decides
        ∙ ap (λ (l : List ℕ). inv.so_far ++ pairs_from raise (map (processor_at is (pairs_of x.pairs)) l)) (drop_of_length-le turned {i = k} (omega (arith, pre.2.0)))
        ∙ append-nil inv.so_far))
        inv.put
