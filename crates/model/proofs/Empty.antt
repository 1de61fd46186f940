-- A record with no instruction: it is accepted, and what every call answers.
use Prim.Native.Nat.{ℕ, zero, suc, ◌+◌}
use native.Mathlib.Omega.{arith}
use mathlib.Core.Path.{◌≡◌, refl, sym, ap, ◌∙◌}
use mathlib.Core.Bool.{Bool, true}
use mathlib.Core.List.{List, [], ◌∷◌, ◌++◌, append-nil, append_assoc, map}
use lib.ListN.{length, take, replicate, length-append, length-replicate}
use lib.Seq.{take_at, drop_at}
use borrow.Author.Tests.{le-leb, lt-leb, ne_eqb}
use Rattle.base.specs.Lists.{for, below, count, distinct, keep}
use Rattle.base.specs.Lex.{lex_less}
use Rattle.model.specs.Execution.{Attribute, Line, Execution, operation_count, operations}
use Rattle.model.specs.Questions.{Found, found, next, item, byte, ask, many, question2, question3, question5, question11, question12, question15, line_length, line_of, line_attributes, read_line, read_lines, read_program, read_programs, read_instructions, read_pairs, read_record}
use Rattle.model.specs.Rules.{rules, keeps, consistent}
use Rattle.model.specs.Search.{allowed, up_to_full, extensions, prefixes, after, search_from}
use Rattle.model.specs.Chains.{chain_marks}
use Rattle.model.specs.Calls.{says, refuses, read_all, judge_order, judge_call, Legal, search_position, search_saved, searching, SearchReply, search_reply, search_call, done, table_marks, tabling, table_reply, table_call}
use Rattle.model.specs.Accepted.{Each}
use Rattle.model.specs.Verdict.{input_limit, position_limit, call_allowance, call_limit, call_once, call_on, not_called, word_allowed, word_steps, blank, line_feed, decimal, lines, verdict_lines}
use Rattle.model.specs.Notation.{record_of}
use Rattle.model.specs.Claims.{LinePasses, EmptyExecution}
use Rattle.model.proofs.Asking.{after_says, asked_yes, asked_no}
use Rattle.model.proofs.Consistent.{keeps_empty}
use Rattle.model.proofs.Legal.{found_says, legal_consistent}

-- an item at the front
pub item_front : (n : ℕ) (x rest : List ℕ) → length x ≡ n → item n (x ++ rest) ≡ found x rest
unfolding item
item_front n x rest h = rw (le-leb n (length (x ++ rest)) (omega (arith, length-append x rest)), take_at x rest n h, drop_at x rest n h)

line_front : (x rest : List ℕ) → LinePasses x → read_line (x ++ rest) ≡ found (line_of x) rest
unfolding read_line next ask
line_front x rest (long, passes) = rw (item_front line_length x rest long, passes)

lines_front : (ls : List (List ℕ)) (before : List Line) (rest : List ℕ) → Each LinePasses ls
    → many (λ d. read_line) (length ls) before (for ls (λ l. l) ++ rest) ≡ found (before ++ map line_of ls) rest
unfolding many for next
lines_front [] before rest h = ap (λ (d : List Line). found d rest) (sym (append-nil before))
lines_front (l ∷ ls) before rest (passes, h) =
    ap (λ (b : List ℕ). next (read_line b) (λ a. many (λ d. read_line) (length ls) (before ++ (a ∷ [])))) (append_assoc l (for ls (λ l. l)) rest)
    ∙ ap (λ (f : Found Line). next f (λ a. many (λ d. read_line) (length ls) (before ++ (a ∷ [])))) (line_front l (for ls (λ l. l) ++ rest) passes)
    ∙ lines_front ls (before ++ (line_of l ∷ [])) rest h
    ∙ ap (λ (d : List Line). found d rest) (append_assoc before (line_of l ∷ []) (map line_of ls))

-- the bytes of so many programs with nothing in them
abbrev empty_programs : ℕ → List ℕ
empty_programs p = for (replicate {A = List (List ℕ)} p []) (λ q. length q ∷ for q (λ i. i))

programs_front : (processors : ℕ) (lines : List Attribute) (p left : ℕ) (rest : List ℕ) → read_programs processors lines p left [] (empty_programs left ++ rest) ≡ found [] rest
unfolding read_programs read_program next byte ask question5 many for
programs_front processors lines p zero rest = refl
programs_front processors lines p (suc left) rest = programs_front processors lines (suc p) left rest

-- the sections, each with its count
lines_come : (ls : List (List ℕ)) (rest : List ℕ) → question3 (length ls) ≡ true → Each LinePasses ls
    → read_lines (length ls ∷ for ls (λ l. l) ++ rest) ≡ found (map line_of ls) rest
unfolding read_lines next byte ask
lines_come ls rest three passes =
    ap (λ (b : Bool). next (ask 3 b (for ls (λ l. l) ++ rest)) (λ _. many (λ d. read_line) (length ls) [])) three
    ∙ lines_front ls [] rest passes

instructions_come : (p : ℕ) (lines : List Attribute) (rest : List ℕ) → read_instructions p lines (empty_programs p ++ rest) ≡ found [] rest
unfolding read_instructions next ask question11 operation_count
instructions_come p lines rest = rw (programs_front p lines 0 p rest)

module _ (p : ℕ) (ls : List (List ℕ)) (two : question2 p ≡ true) (three : question3 (length ls) ≡ true) (passes : Each LinePasses ls) where
  abbrev blank_record : List ℕ
  blank_record = record_of ls (replicate p []) []

  abbrev blank_execution : Execution
  blank_execution = record { processors = p; lines = map line_of ls; instructions = []; pairs = [] }

  -- the record is read to its end
  reads : read_record blank_record ≡ found blank_execution []
  unfolding read_record record_of read_pairs question12 question15 next ask byte many for
  reads =
      ap (λ (b : List ℕ). read_record (length (replicate {A = List (List ℕ)} p []) ∷ length ls ∷ b)) (append_assoc (for ls (λ l. l)) (empty_programs p) (0 ∷ []))
      ∙ rw (length-replicate {A = List (List ℕ)} p [], two, lines_come ls (empty_programs p ++ (0 ∷ [])) three passes, instructions_come p (line_attributes (map line_of ls)) (0 ∷ []))

  accepts : read_all blank_record ≡ says blank_execution
  accepts = found_says blank_record blank_execution [] reads

  none_counted : operations blank_execution ≡ 0
  unfolding operations operation_count
  none_counted = refl

  judges : Legal blank_record []
  unfolding operations operation_count distinct consistent
  judges = (legal_consistent blank_record blank_execution [] reads [] (refl, refl)).1 (keeps_empty (rules blank_execution))

  refuses_order : (o : ℕ) (order : List ℕ) → judge_call blank_record (o ∷ order) ≡ refuses 16
  unfolding judge_call judge_order operations operation_count
  refuses_order o order = sym (asked_no 16 _ (ne_eqb (suc (length order)) 0 (λ z. omega arith)) ∙ after_says (λ e. judge_order e (o ∷ order)) accepts)

  searches : (buffer : List ℕ) (allowance : ℕ)
      → search_call blank_record buffer 0 allowance ≡ record { answer = says allowed; steps = 0; length = 0; buffer = buffer }
  unfolding search_call searching search_saved search_position search_reply search_from operations operation_count distinct consistent
  searches buffer allowance =
      ap (search_reply 0 buffer)
      (sym (asked_yes 21 _ (keeps_empty (rules blank_execution))
      ∙ asked_yes 20 _ refl
      ∙ asked_yes 19 _ refl
      ∙ asked_yes 18 _ (le-leb 0 (length buffer) (omega arith))
      ∙ after_says (λ e. search_saved e buffer 0 allowance) accepts))

  refuses_saved : (buffer : List ℕ) (saved allowance : ℕ)
      → search_call blank_record buffer (suc saved) allowance ≡ record { answer = refuses 19; steps = 0; length = suc saved; buffer = buffer }
  unfolding search_call searching search_saved search_reply operations operation_count
  refuses_saved buffer saved allowance =
      ap (search_reply (suc saved) buffer)
      (sym (asked_no 19 _ (lt-leb (suc saved) 0 (omega arith))
      ∙ asked_yes 18 _ (le-leb 0 (length buffer) (omega arith))
      ∙ after_says (λ e. search_saved e buffer (suc saved) allowance) accepts))

  tables : (table : List ℕ) → table_call blank_record table ≡ record { answer = says done; table = table }
  unfolding table_call tabling table_marks table_reply chain_marks operations operation_count for below count
  tables table =
      ap (table_reply table)
      (sym (asked_yes 22 _ (le-leb 0 (length table) (omega arith)) ∙ after_says (λ e. table_marks e table) accepts))

  none_come_after : after (operations blank_execution) (keeps (rules blank_execution)) [] ≡ []
  unfolding after prefixes extensions up_to_full keep lex_less operations operation_count
  none_come_after = refl

  abbrev reply : SearchReply
  reply = record { answer = says allowed; steps = 0; length = 0; buffer = replicate position_limit 0 }

  called_once : call_once blank_record not_called ≡ reply
  unfolding call_once
  called_once =
      ap (λ (r : SearchReply). record { answer = r.answer; steps = 0 + r.steps; length = r.length; buffer = r.buffer })
      (searches (replicate position_limit 0) call_allowance)

  -- the first call is the last
  called_on : (more : ℕ) → call_on blank_record (suc (suc more)) not_called ≡ reply
  unfolding call_on
  called_on more = ap (call_on blank_record (suc more)) called_once

  prints_allowed : (input : List ℕ) → take input_limit input ≡ blank_record
      → verdict_lines input ≡ word_allowed ++ line_feed ++ word_steps ++ blank ++ decimal 0 ++ line_feed
  unfolding verdict_lines lines for
  prints_allowed input h = ap (λ (b : List ℕ). lines (call_on b call_limit not_called)) h ∙ ap lines (called_on 98)

pub empty_execution : EmptyExecution
empty_execution p ls two three passes = record {
  accepted = accepts p ls two three passes;
  no_operations = none_counted p ls two three passes;
  empty_legal = judges p ls two three passes;
  order_refused = refuses_order p ls two three passes;
  always_allowed = searches p ls two three passes;
  saved_refused = refuses_saved p ls two three passes;
  none_after = none_come_after p ls two three passes;
  table_stays = tables p ls two three passes;
  prints = prints_allowed p ls two three passes;
}
