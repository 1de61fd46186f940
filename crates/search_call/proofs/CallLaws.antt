-- The search of an accepted record is the search of its execution; the ways out of the latter.
use Prim.Native.Nat.{ℕ, ◌+◌, ◌≤◌, ◌<◌}
use native.Mathlib.Omega.{arith}
use mathlib.Core.Path.{◌≡◌, refl, sym, ap, ap₂, ◌∙◌, subst}
use mathlib.Core.Bool.{Bool, true, false}
use mathlib.Core.List.{List, [], ◌++◌}
use lib.ListN.{length, take, drop}
use lib.Seq.{paste, length-take-le}
use lib.Dec.{leb}
use borrow.Author.Tests.{le-leb, lt-leb}
use Rattle.base.specs.Lists.{distinct}
use Rattle.model.specs.Execution.{Execution, operations}
use Rattle.model.specs.Rules.{rules, keeps, consistent}
use Rattle.model.specs.Search.{Outcome, search_from}
use Rattle.model.specs.Calls.{says, refuses, read_all, search_position, search_saved, searching, search_reply, search_call}
use Rattle.model.proofs.Asking.{after_says, after_refuses, asked_yes, asked_no}
use Rattle.model.specs.Accepted.{Accepted}
use Rattle.record_decoded.specs.declared.types.Execution as decoded
use Rattle.record_decoded.specs.Decoded.{execution_of}
use Rattle.search_admit.specs.Rows.{RowsMean}
use Rattle.search_admit.specs.Fits.{Tested}
use Rattle.relation_links.specs.declared.operations.Operations.{Operations}
use Rattle.search_meaning.proofs.Meaning.{tested}
use Rattle.model.proofs.Consistent.{keeps_shorter, keeps_empty}
use Rattle.search_walk.specs.Walks.{Closed}
use Rattle.search_resume.specs.declared.steps.Outcome as steps
use Rattle.record_decoded.specs.Positions.{position_of}
use Rattle.search_resume.specs.Replies.{outcome_of, verdict_meant}

module _ (buffer : List ℕ) (saved allowance : ℕ) where
  pub search_accepted : (bytes : List ℕ) (e : Execution) → read_all bytes ≡ says e → search_reply saved buffer (search_saved e buffer saved allowance) ≡ search_call bytes buffer saved allowance
  unfolding search_call searching
  search_accepted bytes e h = ap (search_reply saved buffer) (after_says (λ d. search_saved d buffer saved allowance) h)

  pub search_refused : (bytes : List ℕ) (q : ℕ) → read_all bytes ≡ refuses q → search_reply saved buffer (refuses q) ≡ search_call bytes buffer saved allowance
  unfolding search_call searching
  search_refused bytes q h = ap (search_reply saved buffer) (after_refuses (λ d. search_saved d buffer saved allowance) h)

  -- the questions of the buffer and the saved position
  module _ (e : Execution) (n : ℕ) (is : n ≡ operations e) where
    pub searched_18 : length buffer < n → refuses 18 ≡ search_saved e buffer saved allowance
    unfolding search_saved
    searched_18 h = asked_no 18 _ (lt-leb (operations e) (length buffer) (omega (arith, is)))

    module _ (room : n ≤ length buffer) where
      passes_18 : leb (operations e) (length buffer) ≡ true
      passes_18 = le-leb (operations e) (length buffer) (omega (arith, is))

      pub searched_19 : n < saved → refuses 19 ≡ search_saved e buffer saved allowance
      unfolding search_saved
      searched_19 k = asked_no 19 _ (lt-leb saved (operations e) (omega (arith, is))) ∙ asked_yes 18 _ passes_18

      module _ (short : saved ≤ n) where
        asked_20 : {b : Bool} → distinct n [] (take saved buffer) ≡ b → distinct (operations e) [] (take saved buffer) ≡ b
        asked_20 d = ap (λ (k : ℕ). distinct k [] (take saved buffer)) (sym is) ∙ d

        passes_19 : leb saved (operations e) ≡ true
        passes_19 = le-leb saved (operations e) (omega (arith, is))

        pub searched_20 : distinct n [] (take saved buffer) ≡ false → refuses 20 ≡ search_saved e buffer saved allowance
        unfolding search_saved
        searched_20 d = asked_no 20 _ (asked_20 d) ∙ asked_yes 19 _ passes_19 ∙ asked_yes 18 _ passes_18

        pub searched_on : distinct n [] (take saved buffer) ≡ true → search_position e (take saved buffer) allowance ≡ search_saved e buffer saved allowance
        unfolding search_saved
        searched_on d = asked_yes 20 _ (asked_20 d) ∙ asked_yes 19 _ passes_19 ∙ asked_yes 18 _ passes_18

-- question 21
pub searched_21 : (e : Execution) (position : List ℕ) (allowance : ℕ) → consistent e position ≡ false → refuses 21 ≡ search_position e position allowance
unfolding search_position
searched_21 e position allowance k = asked_no 21 _ k

pub searched_from : (e : Execution) (position : List ℕ) (allowance : ℕ) → consistent e position ≡ true
    → says (search_from (operations e) (keeps (rules e)) position allowance) ≡ search_position e position allowance
unfolding search_position
searched_from e position allowance k = asked_yes 21 _ k

-- with a prefix each shorter one is consistent
pub consistent_closed : (e : Execution) → Closed (keeps (rules e))
consistent_closed e xs x h = keeps_shorter xs x (rules e) h

-- the outcome of the search, written: a reply with its parts, and its position at the front of the buffer
pub outcome_reply : (e : Execution) (buffer after : List ℕ) (saved allowance n : ℕ) → n ≡ operations e → (given : List ℕ) → given ≡ take saved buffer
    → (o : steps.Outcome) → outcome_of o ≡ search_from n (keeps (rules e)) given allowance → o.position.length ≤ length o.position.entries
    → after ≡ paste buffer 0 o.position.entries o.position.length
    → record { answer = says (verdict_meant o.verdict); steps = o.steps; length = o.position.length; buffer = after }
    ≡ search_reply saved buffer (says (search_from (operations e) (keeps (rules e)) (take saved buffer) allowance))
unfolding search_reply
outcome_reply e buffer after saved allowance n is given at o comes there written =
    let size : length (position_of o.position) ≡ o.position.length = length-take-le o.position.length o.position.entries there in
    (λ i. record {
      answer = says (verdict_meant o.verdict);
      steps = o.steps;
      length = sym size i;
      buffer = (written ∙ ap (λ (k : ℕ). position_of o.position ++ drop k buffer) (let z : 0 + o.position.length ≡ length (position_of o.position) = omega (arith, size) in z)) i;
    })
    ∙ ap (λ (u : Outcome). search_reply saved buffer (says u)) (comes ∙ ap₂ (λ (k : ℕ) (g : List ℕ). search_from k (keeps (rules e)) g allowance) is at)

-- the rows of an accepted execution test what is consistent
pub tested_keeps : {bytes : List ℕ} {x : decoded.Execution} {t : Operations} {marks : List (List ℕ)} {table : List ℕ} → RowsMean bytes x t marks table → Accepted (execution_of bytes x) → (n : ℕ) → n ≡ operations (execution_of bytes x)
    → Tested (keeps (rules (execution_of bytes x))) n table
unfolding consistent
tested_keeps {bytes} {x} {t} {marks} {table} h a n is =
    subst (λ (k : ℕ). Tested (keeps (rules (execution_of bytes x))) k table) (sym is) (tested {t = record { bytes = bytes; execution = x; operations = t; marks = marks; rows = table }} h a)

-- the empty position is consistent
pub empty_keeps : (e : Execution) → keeps (rules e) [] ≡ true
empty_keeps e = keeps_empty (rules e)

pub keeps_is : (e : Execution) (xs : List ℕ) → consistent e xs ≡ keeps (rules e) xs
unfolding consistent
keeps_is e xs = refl
