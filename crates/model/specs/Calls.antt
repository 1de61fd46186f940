-- Each call as one function of what came in: its answer, and every lent byte as it is left.
use Rattle.std.specs.Prelude.{ℕ, ◌*◌, ◌≡◌, Bool, true, false, List, [], ◌++◌, length, take, drop, eqb, leb}
use Rattle.std.proofs.Math.Option.{Option, none, some}
use Rattle.base.specs.Lists.{distinct}
use Rattle.model.specs.Execution.{Execution, operations}
use Rattle.model.specs.Questions.{Found, no_to, found, read_record}
use Rattle.model.specs.Rules.{linked, links_of, rules, keeps, consistent, lowest_broken}
use Rattle.model.specs.Search.{Verdict, Outcome, search_from}
use Rattle.model.specs.Chains.{chain_marks}

-- A call answers, or refuses with the number of the first question answered 'no'.
pub data Answer (A : Type 0) : Type 0 where
  says : A → Answer A
  refuses : ℕ → Answer A

module _ {A B : Type 0} where
  -- what follows an answer; a refusal stands
  unfoldable pub and_then : Answer A → (A → Answer B) → Answer B
  and_then (says a) f = f a
  and_then (refuses q) f = refuses q

  abbrev pub ◌>>=◌ : Answer A → (A → Answer B) → Answer B
  ◌>>=◌ m f = and_then m f

module _ {B : Type 0} where
  abbrev pub ◌>>◌ : Answer (Unit {0}) → Answer B → Answer B
  ◌>>◌ m b = and_then m (λ _. b)

-- a question of a call's own
unfoldable pub asks : ℕ → Bool → Answer (Unit {0})
asks q true = says tt
asks q false = refuses q

-- The record alone

module _ {A : Type 0} where
  unfoldable pub answer_of : Found A → Answer A
  answer_of (no_to q) = refuses q
  answer_of (found a bytes) = says a

unfoldable pub read_all : List ℕ → Answer Execution
read_all bytes = answer_of (read_record bytes)

-- The judge: legal, or the lowest rule that the order breaks

pub data Judgement : Type 0 where
  legal : Judgement
  breaks : ℕ → Judgement

abbrev pub judgement_of : Option ℕ → Judgement
judgement_of none = legal
judgement_of (some k) = breaks k

-- an order of an execution: questions 16 and 17, then the rules
unfoldable pub judge_order : Execution → List ℕ → Answer Judgement
judge_order e order = do
  asks 16 (eqb (length order) (operations e))
  asks 17 (distinct (operations e) [] order)
  says (judgement_of (lowest_broken e order))

unfoldable pub judge_call : List ℕ → List ℕ → Answer Judgement
judge_call bytes order = do
  e ← read_all bytes
  judge_order e order

-- the judge calls the order legal
abbrev pub Legal : List ℕ → List ℕ → Type 0
Legal bytes order = judge_call bytes order ≡ says legal

abbrev pub NoneLegal : List ℕ → Type 0
NoneLegal bytes = (order : List ℕ) → Legal bytes order → ⊥

-- The search. The saved position stands at the front of the buffer.

-- from a position of different operations: question 21, then the search
unfoldable pub search_position : Execution → List ℕ → ℕ → Answer Outcome
search_position e position allowance = do
  asks 21 (consistent e position)
  says (search_from (operations e) (keeps (rules e)) position allowance)

-- from the position saved in a buffer: questions 18 to 21, then the search
unfoldable pub search_saved : Execution → List ℕ → ℕ → ℕ → Answer Outcome
search_saved e buffer saved allowance = do
  asks 18 (leb (operations e) (length buffer))
  asks 19 (leb saved (operations e))
  asks 20 (distinct (operations e) [] (take saved buffer))
  search_position e (take saved buffer) allowance

pub record SearchReply : Type 0 where
  pub answer : Answer Verdict
  pub steps : ℕ
  pub length : ℕ
  pub buffer : List ℕ

-- A refusal leaves length and buffer as they came; else the position is written at the front of the buffer.
unfoldable pub search_reply : ℕ → List ℕ → Answer Outcome → SearchReply
search_reply saved buffer (refuses q) = record { answer = refuses q; steps = 0; length = saved; buffer = buffer }
search_reply saved buffer (says o) = record {
  answer = says o.verdict;
  steps = o.steps;
  length = length o.position;
  buffer = o.position ++ drop (length o.position) buffer;
}

unfoldable pub searching : List ℕ → List ℕ → ℕ → ℕ → Answer Outcome
searching bytes buffer saved allowance = do
  e ← read_all bytes
  search_saved e buffer saved allowance

unfoldable pub search_call : List ℕ → List ℕ → ℕ → ℕ → SearchReply
search_call bytes buffer saved allowance = search_reply saved buffer (searching bytes buffer saved allowance)

-- The chain table

-- the marks of an execution: question 22, then the chains
unfoldable pub table_marks : Execution → List ℕ → Answer (List ℕ)
table_marks e table = do
  asks 22 (leb (operations e * operations e) (length table))
  says (chain_marks (operations e) (links_of e (linked e)))

pub data Done : Type 0 where
  done : Done

pub record TableReply : Type 0 where
  pub answer : Answer Done
  pub table : List ℕ

-- A refusal leaves the table as it came; else the marks are written at its front.
unfoldable pub table_reply : List ℕ → Answer (List ℕ) → TableReply
table_reply table (refuses q) = record { answer = refuses q; table = table }
table_reply table (says marks) = record { answer = says done; table = marks ++ drop (length marks) table }

unfoldable pub tabling : List ℕ → List ℕ → Answer (List ℕ)
tabling bytes table = do
  e ← read_all bytes
  table_marks e table

unfoldable pub table_call : List ℕ → List ℕ → TableReply
table_call bytes table = table_reply table (tabling bytes table)

-- A record written into a buffer

-- 25: has the buffer room for it?
abbrev pub question25 : List ℕ → List ℕ → Bool
question25 bytes buffer = leb (length bytes) (length buffer)

pub record RecordReply : Type 0 where
  pub answer : Answer Done
  pub length : ℕ
  pub buffer : List ℕ

-- A refusal has length 0 and leaves the buffer as it came; else the record is written at its front.
unfoldable pub record_reply : List ℕ → Answer (List ℕ) → RecordReply
record_reply buffer (refuses q) = record { answer = refuses q; length = 0; buffer = buffer }
record_reply buffer (says bytes) = record { answer = says done; length = length bytes; buffer = bytes ++ drop (length bytes) buffer }
