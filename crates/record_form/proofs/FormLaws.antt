-- The smallest form put together: head, programs, the number of pairs, pairs.
use Prim.Native.Nat.{ℕ, ◌+◌, ◌≤◌, ◌<◌}
use native.Mathlib.Omega.{arith}
use mathlib.Core.Path.{◌≡◌, sym, ap, ◌∙◌, subst}
use mathlib.Core.List.{List, ◌∷◌, ◌++◌, append_assoc}
use lib.ListN.{length, take, set, length-set, length-append}
use Rattle.base.specs.Lists.{for}
use Rattle.base.specs.Orders.{OrderOf, sorted}
use Rattle.model.specs.Calls.{says, read_all}
use Rattle.model.specs.Renumbering.{pairs_from, head_taken, record_from, renumbered, smallest_form}
use Rattle.record_decoded.specs.declared.types.Execution.{Execution}
use Rattle.record_decoded.specs.Decoded.{instructions_of, pairs_of, execution_of}
use Rattle.record_decoded.proofs.Arrays.{pairs_length}
use Rattle.record_renumbering.specs.Keys.{key_less}
use Rattle.record_renumbering.proofs.Parts.{parts}
use Rattle.record_renumbering.proofs.Straight.{form_room}
use Rattle.record_renumbering.proofs.Smallest.{sorted_is_smallest, sorted_order_of}
use Rattle.record_writer.specs.Puts.{Puts}
use Rattle.record_writer.proofs.PutLaws.{puts_byte, puts_both, puts_same, puts_next, puts_front}
use Rattle.record_form.specs.declared.sort.Order.{Order}
use Rattle.record_form.specs.Ordered.{in_order}

module _ (bytes : List ℕ) (x : Execution) (order : Order) (said : read_all bytes ≡ says (execution_of bytes x))
    (sorts : take x.processors order.processors ≡ sorted (key_less (instructions_of x.instructions) (pairs_of x.pairs)) x.processors) where
  abbrev head : List ℕ
  head = head_taken (execution_of bytes x)

  abbrev programs : List ℕ
  programs = for (in_order x order) (λ c. c.program)

  abbrev pairs : List ℕ
  pairs = pairs_from 0 (in_order x order)

  pub order_is : OrderOf x.processors (take x.processors order.processors)
  unfolding execution_of
  order_is = subst (OrderOf x.processors) (sym sorts) (sorted_order_of (execution_of bytes x)).0

  renumbered_is : renumbered (execution_of bytes x) (take x.processors order.processors) ≡ head ++ (programs ++ (x.pairs.count ∷ pairs))
  unfolding execution_of renumbered record_from
  renumbered_is = ap (λ (n : ℕ). head_taken (execution_of bytes x) ++ (programs ++ (n ∷ pairs))) (pairs_length x.pairs)

  form_is : head ++ (programs ++ (x.pairs.count ∷ pairs)) ≡ smallest_form (execution_of bytes x)
  unfolding execution_of
  form_is = sym (sorted_is_smallest bytes (execution_of bytes x) said ∙ ap (renumbered (execution_of bytes x)) (sym sorts) ∙ renumbered_is)

  room : length head + (length programs + (1 + length pairs)) ≤ 923
  unfolding execution_of
  room = omega (
    arith,
    form_room (parts bytes (execution_of bytes x) said) (take x.processors order.processors) order_is,
    ap length renumbered_is,
    length-append head (programs ++ (x.pairs.count ∷ pairs)),
    length-append programs (x.pairs.count ∷ pairs),
  )

  module _ {out y : List ℕ} {n : ℕ} (long : length out ≡ 923) (first : Puts out 0 (head_taken (execution_of bytes x)) y n) where
    pub programs_fit : n + length (for (in_order x order) (λ c. c.program)) ≤ length y
    programs_fit = omega (arith, room, puts_next (omega arith) first, first.long)

    module _ {z : List ℕ} {m : ℕ} (second : Puts y n (for (in_order x order) (λ c. c.program)) z m) where
      both : Puts out 0 (head ++ programs) z m
      both = puts_both first second

      pub count_fits : m < length z
      count_fits = omega (arith, room, puts_next (omega arith) both, length-append head programs, both.long)

      pub pairs_fit : m + 1 + length (pairs_from 0 (in_order x order)) ≤ length (set z m x.pairs.count)
      pairs_fit = omega (arith, room, puts_next (omega arith) both, length-append head programs, both.long, length-set z m x.pairs.count)

      module _ {w : List ℕ} {r : ℕ} (third : Puts (set z m x.pairs.count) (m + 1) (pairs_from 0 (in_order x order)) w r) where
        pub all_put : Puts out 0 (smallest_form (execution_of bytes x)) w r
        all_put =
            puts_same (append_assoc head programs (x.pairs.count ∷ pairs) ∙ form_is)
            (puts_both both (puts_both (puts_byte x.pairs.count count_fits) third))

        pub form_put : (take r w ≡ smallest_form (execution_of bytes x)) × (r ≤ 923)
        form_put = (puts_front all_put, omega (arith, all_put.within, all_put.long))
