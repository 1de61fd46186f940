-- The call's questions in turn, and what it then answers and writes.
use Prim.Native.Nat.{ℕ, ◌≤◌, ◌<◌}
use native.Mathlib.Omega.{arith}
use mathlib.Core.Path.{◌≡◌, refl, sym, ap, ◌∙◌}
use mathlib.Core.Bool.{true}
use mathlib.Core.List.{List, ◌++◌}
use lib.ListN.{length, take, drop, drop_of_length-le}
use lib.Seq.{paste, length-take-le}
use Rattle.std.proofs.lemmas.List.{append-nil}
use Rattle.std.proofs.lemmas.List.Edits.{paste_all}
use lib.Dec.{ltb}
use borrow.Author.Tests.{le-leb, lt-leb}
use Rattle.base.specs.Lists.{all}
use Rattle.model.specs.Calls.{says, refuses, and_then, asks, question25, read_all, done, record_reply}
use Rattle.model.proofs.Asking.{after_says, after_refuses, asked_yes, asked_no}
use Rattle.model.proofs.Accepted.{read_accepted}
use Rattle.record_decoded.specs.declared.types.Execution.{Execution}
use Rattle.record_decoded.specs.Decoded.{instructions_of, execution_of}
use Rattle.record_decoded.proofs.Arrays.{lines_length, instructions_length}
use Rattle.model.specs.SolversCopy.{seen_places, zeroed, copying, solvers_copy_call}
use Rattle.record_seen.proofs.Zeroed.{zeroed_length}
use Rattle.record_seen.proofs.Within.{seen_within}

module _ (bytes buffer : List ℕ) where
  -- the record, pasted over the front of the buffer
  pub copied_whole : {out : List ℕ} → length bytes ≤ length buffer → out ≡ paste (take (length bytes) buffer) 0 bytes (length bytes) → out ≡ bytes
  copied_whole enough made =
      made ∙ paste_all (take (length bytes) buffer) 0 bytes (length bytes) refl
      ∙ ap (λ (l : List ℕ). bytes ++ l) (drop_of_length-le (take (length bytes) buffer) (omega (arith, length-take-le (length bytes) buffer enough)))
      ∙ append-nil bytes

  pub copy_refused : (q : ℕ) → read_all bytes ≡ refuses q → record_reply buffer (refuses q) ≡ solvers_copy_call bytes buffer
  unfolding solvers_copy_call copying
  copy_refused q h = ap (record_reply buffer) (after_refuses _ h)

  -- a record that is accepted, by the arrays that hold it
  module _ (x : Execution) (h : read_all bytes ≡ says (execution_of bytes x)) where
    abbrev places : List ℕ
    places = seen_places x.lines.count (instructions_of x.instructions)

    pub copy_lines : x.lines.count ≤ 8
    unfolding execution_of
    copy_lines = omega (arith, (read_accepted bytes (execution_of bytes x) h).lines_few, lines_length (drop 1 bytes) x.lines)

    pub copy_instructions : x.instructions.count ≤ 40
    unfolding execution_of
    copy_instructions = omega (arith, (read_accepted bytes (execution_of bytes x) h).instructions_few, instructions_length x.instructions)

    same_places : places ≡ seen_places (length (execution_of bytes x).lines) (execution_of bytes x).instructions
    unfolding execution_of
    same_places = ap (λ (n : ℕ). seen_places n (instructions_of x.instructions)) (sym (lines_length (drop 1 bytes) x.lines))

    within : all (λ k. ltb k (length bytes)) places ≡ true
    within = ap (all (λ k. ltb k (length bytes))) same_places ∙ seen_within bytes (execution_of bytes x) h

    behind : and_then (asks 25 (question25 bytes buffer)) (λ _. says (zeroed places bytes)) ≡ copying bytes buffer
    unfolding copying
    behind =
        ap (λ (l : List ℕ). and_then (asks 25 (question25 bytes buffer)) (λ _. says (zeroed l bytes))) same_places
        ∙ after_says (λ e. and_then (asks 25 (question25 bytes buffer)) (λ _. says (zeroed (seen_places (length e.lines) e.instructions) bytes))) h

    pub copy_short : length buffer < length bytes → record_reply buffer (refuses 25) ≡ solvers_copy_call bytes buffer
    unfolding solvers_copy_call
    copy_short short = ap (record_reply buffer) (asked_no 25 (says (zeroed places bytes)) (lt-leb (length bytes) (length buffer) short) ∙ behind)

    pub copy_within : all (λ k. ltb k (length bytes)) places ≡ true
    copy_within = within

    pub copy_done : length bytes ≤ length buffer
        → record { answer = says done; length = length bytes; buffer = zeroed places bytes ++ drop (length bytes) buffer } ≡ solvers_copy_call bytes buffer
    unfolding record_reply solvers_copy_call
    copy_done enough =
        (λ i. record {
          answer = says done;
          length = sym (zeroed_length places bytes) i;
          buffer = ap (λ (n : ℕ). zeroed places bytes ++ drop n buffer) (sym (zeroed_length places bytes)) i;
        })
        ∙ ap (record_reply buffer) (asked_yes 25 (says (zeroed places bytes)) (le-leb (length bytes) (length buffer) enough) ∙ behind)
