-- The call's questions in turn, and what it then answers and writes.
use Prim.Native.Nat.{ℕ, ◌≤◌, ◌<◌}
use native.Mathlib.Omega.{arith}
use mathlib.Core.Path.{◌≡◌, sym, ap, ap₂, ◌∙◌}
use mathlib.Core.Bool.{true, false}
use mathlib.Core.List.{List, ◌++◌}
use lib.ListN.{length, take, drop}
use lib.Seq.{length-take-le}
use lib.Dec.{leb}
use borrow.Author.Tests.{le-leb, lt-leb}
use Rattle.model.specs.Execution.{Execution}
use Rattle.model.specs.Calls.{says, refuses, and_then, asks, read_all, done, record_reply}
use Rattle.model.specs.Sections.{Sections, question23, question24, record_of, write_record, writing, write_call}
use Rattle.model.proofs.Asking.{after_says, after_refuses, asked_yes, asked_no}
use Rattle.record_writer.specs.Cut.{cut_record}
use Rattle.record_writer.proofs.CutLaws.{cut_refused, cut_accepted}

-- the call by its questions
module _ (s : Sections) (buffer : List ℕ) where
  pub call_23 : question23 s ≡ false → record_reply buffer (refuses 23) ≡ write_call s buffer
  unfolding write_call writing
  call_23 h = ap (record_reply buffer) (asked_no 23 _ h)

  module _ (whole : question23 s ≡ true) where
    pub call_24 : question24 s.processors s.instructions ≡ false → record_reply buffer (refuses 24) ≡ write_call s buffer
    unfolding write_call writing
    call_24 h = ap (record_reply buffer) (asked_no 24 (write_record (record_of s) buffer) h ∙ asked_yes 23 _ whole)

    pub call_record : question24 s.processors s.instructions ≡ true → record_reply buffer (write_record (record_of s) buffer) ≡ write_call s buffer
    unfolding write_call writing
    call_record h = ap (record_reply buffer) (asked_yes 24 (write_record (record_of s) buffer) h ∙ asked_yes 23 _ whole)

    -- the record in an array, up to the first count that fails
    module _ (x : List ℕ) (n : ℕ) (room : n ≤ length x) (is : take n x ≡ cut_record s) where
      pub reply_refused : (q : ℕ) → read_all (take n x) ≡ refuses q → record_reply buffer (refuses q) ≡ record_reply buffer (write_record (record_of s) buffer)
      unfolding write_record
      reply_refused q h = ap (record_reply buffer) (after_refuses _ (cut_refused s whole q (ap read_all (sym is) ∙ h)))

      module _ (e : Execution) (h : read_all (take n x) ≡ says e) where
        same : take n x ≡ record_of s
        same = is ∙ cut_accepted s whole e (ap read_all (sym is) ∙ h)

        long : length (record_of s) ≡ n
        long = ap length (sym same) ∙ length-take-le n x room

        behind : and_then (asks 25 (leb (length (record_of s)) (length buffer))) (λ _. says (record_of s)) ≡ write_record (record_of s) buffer
        unfolding write_record
        behind = after_says (λ _. and_then (asks 25 (leb (length (record_of s)) (length buffer))) (λ _. says (record_of s))) (ap read_all (sym same) ∙ h)

        pub reply_short : length buffer < n → record_reply buffer (refuses 25) ≡ record_reply buffer (write_record (record_of s) buffer)
        reply_short short = ap (record_reply buffer) (asked_no 25 (says (record_of s)) (lt-leb (length (record_of s)) (length buffer) (omega (arith, long))) ∙ behind)

        pub reply_done : n ≤ length buffer
            → record { answer = says done; length = n; buffer = take n x ++ drop n buffer } ≡ record_reply buffer (write_record (record_of s) buffer)
        unfolding record_reply
        reply_done enough =
            (λ i. record {
              answer = says done;
              length = sym long i;
              buffer = (ap₂ (λ (a : List ℕ) (k : ℕ). a ++ drop k buffer) same (sym long)) i;
            })
            ∙ ap (record_reply buffer) (asked_yes 25 (says (record_of s)) (le-leb (length (record_of s)) (length buffer) (omega (arith, long))) ∙ behind)
