-- Claims about the definitions that a reader may quote.
use Rattle.std.specs.Prelude.{ℕ, suc, ◌+◌, ◌*◌, ◌/◌, ◌≤◌, ◌<◌, ◌≡◌, Bool, true, false, ◌&&◌, ◌||◌, ◌↔◌, length, get_or, take, set, replicate}
use mathlib.Core.List.{List, [], ◌∷◌, ◌++◌, map, Memᴰ}
use Rattle.base.specs.Lists.{member, distinct}
use Rattle.base.specs.Lex.{Less}
use Rattle.base.specs.Orders.{OrderOf}
use Rattle.model.specs.Execution.{Kind, is_load, is_store, is_acquire, is_release, is_fence, Attribute, WB, UC, WC, attribute_number, attribute_of, Line, Instruction, Execution, Operation, operations, semaphores, line_at, lines_from, attribute_at}
use Rattle.model.specs.Questions.{at, line_length, initial_place, question2, question3, question4, line_of}
use Rattle.model.specs.Rules.{accesses, is_R_or_LV, earlier, link8, in_UC, link13, Claim, must, sees, links_of, sight_of, rules, local, broken, keeps, consistent}
use Rattle.model.specs.ProgramOrder.{marks}
use Rattle.model.specs.Search.{allowed, prefixes, after}
use Rattle.model.specs.Calls.{says, refuses, read_all, judge_order, judge_call, Legal, search_saved, search_reply, search_call, done, table_marks, table_reply, table_call}
use Rattle.model.specs.Accepted.{Each}
use Rattle.model.specs.Verdict.{input_limit, word_allowed, word_steps, blank, line_feed, decimal, verdict_lines}
use Rattle.model.specs.Notation.{record_of}

-- Document 01: 'A full beginning, of N, is clean exactly when legal.'
abbrev pub FullIsLegal : Type 0
FullIsLegal =
    (bytes : List ℕ) (e : Execution) → read_all bytes ≡ says e
    → (order : List ℕ) → OrderOf (operations e) order
    → Legal bytes order ↔ (consistent e order ≡ true)

-- what a prefix settles stays settled: where a prefix is consistent, each shorter one is
abbrev pub PrefixIsConsistent : Type 0
PrefixIsConsistent = (e : Execution) (xs ys : List ℕ) → consistent e (xs ++ ys) ≡ true → consistent e xs ≡ true

-- each list is less than all after it
abbrev pub Ascending : List (List ℕ) → Type 0
Ascending [] = Unit {0}
Ascending (x ∷ xs) = ((y : List ℕ) → Memᴰ y xs → Less x y) × Ascending xs

-- the enumeration that a search goes through has exactly the consistent prefixes, in strictly ascending order
abbrev pub PrefixesAre : Type 0
PrefixesAre =
    (e : Execution)
    → Ascending (prefixes (operations e) (keeps (rules e)))
    × ((xs : List ℕ) → Memᴰ xs (prefixes (operations e) (keeps (rules e))) ↔ ((distinct (operations e) [] xs ≡ true) × (consistent e xs ≡ true)))

-- the table of marks, by earlier and later kind, is rules 2, 3 and 4
abbrev pub TableIsRules : Type 0
TableIsRules =
    (earlier later : Kind)
    → (member (marks earlier later) 2 ≡ is_acquire earlier)
    × (member (marks earlier later) 3 ≡ ((is_load earlier || is_store earlier) && is_release later))
    × (member (marks earlier later) 4 ≡ (is_fence earlier || is_fence later))

-- Document 02, P2: what every call answers where the record has no instruction
pub record EmptyAnswers (bytes : List ℕ) (e : Execution) : Type 0 where
  -- The record is accepted, and N is 0.
  pub accepted : read_all bytes ≡ says e
  pub no_operations : operations e ≡ 0
  -- The empty order is legal; every other fails question 16.
  pub empty_legal : Legal bytes []
  pub order_refused : (o : ℕ) (order : List ℕ) → judge_call bytes (o ∷ order) ≡ refuses 16
  -- A search answers 'allowed' with 0 steps at every allowance, in every buffer; a saved length above 0 fails question 19.
  pub always_allowed : (buffer : List ℕ) (allowance : ℕ)
      → search_call bytes buffer 0 allowance ≡ record { answer = says allowed; steps = 0; length = 0; buffer = buffer }
  pub saved_refused : (buffer : List ℕ) (saved allowance : ℕ)
      → search_call bytes buffer (suc saved) allowance ≡ record { answer = refuses 19; steps = 0; length = suc saved; buffer = buffer }
  -- No consistent prefix comes after the empty one: document 02's count of beginnings is 0.
  pub none_after : after (operations e) (keeps (rules e)) [] ≡ []
  -- The chain table call answers done and changes nothing.
  pub table_stays : (table : List ℕ) → table_call bytes table ≡ record { answer = says done; table = table }
  -- The verdict program prints the word allowed with no blank after it, then 'steps 0'.
  pub prints : (input : List ℕ) → take input_limit input ≡ bytes
      → verdict_lines input ≡ word_allowed ++ line_feed ++ word_steps ++ blank ++ decimal 0 ++ line_feed

-- the nine bytes of a line whose attribute passes question 4
abbrev pub LinePasses : List ℕ → Type 0
LinePasses x = (length x ≡ line_length) × (question4 (at x 0) ≡ true)

-- P2, for every number of processors that passes question 2 and all lines that pass questions 3 and 4
abbrev pub EmptyExecution : Type 0
EmptyExecution =
    (p : ℕ) (lines : List (List ℕ)) → question2 p ≡ true → question3 (length lines) ≡ true → Each LinePasses lines
    → EmptyAnswers (record_of lines (replicate p []) []) (record { processors = p; lines = map line_of lines; instructions = []; pairs = [] })

-- Document 02, P6: each attribute is that of its number, and each number that passes question 4 is that of its attribute. What document 01's question 4 passed
-- passes, and is what it was, UC in domain 0.
abbrev pub AttributeNumbers : Type 0
AttributeNumbers =
    ((a : Attribute) → attribute_of (attribute_number a) ≡ a)
    × ((n : ℕ) → question4 n ≡ true → attribute_number (attribute_of n) ≡ n)
    × ((n : ℕ) → n ≤ 2 → (question4 n ≡ true) × (attribute_of n ≡ get_or (WB ∷ UC 0 ∷ []) n WC))

-- the attribute, with domain 0 for every domain
abbrev pub without_domain : Attribute → Attribute
without_domain WB = WB
without_domain (UC d) = UC 0
without_domain WC = WC

abbrev pub line_without_domain : Line → Line
line_without_domain l = record { attribute = without_domain l.attribute; initial = l.initial }

-- the execution with all its UC lines in one domain
unfoldable pub one_domain : Execution → Execution
one_domain e = record {
  processors = e.processors;
  lines = map line_without_domain e.lines;
  instructions = e.instructions;
  pairs = e.pairs;
}

-- document 01's rule 13: two UC accesses of one program. All UC lines form one domain.
unfoldable pub old_link13 : Execution → Operation → Operation → Bool
old_link13 e a b = earlier a b && (in_UC e a.instruction && in_UC e b.instruction) && (is_R_or_LV a && is_R_or_LV b)

-- the rules with that one for rule 13, which is element 12 of the list, counted from 0
unfoldable pub old_rules : Execution → List (List Claim)
old_rules e = set (rules e) 12 (map must (links_of e (old_link13 e)))

-- With one domain, rule 13 is document 01's. No other rule minds the domains, in any execution. (Of the links, those of rules 8 and 13 ask the execution.)
abbrev pub OneDomain : Type 0
OneDomain =
    (e : Execution)
    → (rules (one_domain e) ≡ old_rules e)
    × ((a b : Operation) → (link8 (one_domain e) a b ≡ link8 e a b) × (link13 (one_domain e) a b ≡ old_link13 e a b))

-- the attribute byte of line k of a record: P and the count of lines stand before the lines
abbrev pub attribute_byte : List ℕ → ℕ → ℕ
attribute_byte bytes k = get_or bytes (2 + line_length * k) 0

-- The execution is that with one domain; so rules and links are document 01's, and the calls answer as with one domain.
pub record OldAnswers (bytes : List ℕ) (e : Execution) : Type 0 where
  pub one : one_domain e ≡ e
  pub rules_are : rules e ≡ old_rules e
  pub links_are : (a b : Operation) → link13 e a b ≡ old_link13 e a b
  pub judged : (order : List ℕ) → judge_call bytes order ≡ judge_order (one_domain e) order
  pub searched : (buffer : List ℕ) (saved allowance : ℕ)
      → search_call bytes buffer saved allowance ≡ search_reply saved buffer (search_saved (one_domain e) buffer saved allowance)
  pub tabled : (table : List ℕ) → table_call bytes table ≡ table_reply table (table_marks (one_domain e) table)

-- P6: 'Old records mean what they meant.' The attribute bytes of an old record are 0 to 2.
abbrev pub OldRecords : Type 0
OldRecords =
    (bytes : List ℕ) (e : Execution) → read_all bytes ≡ says e
    → ((k : ℕ) → k < length e.lines → attribute_byte bytes k ≤ 2)
    → OldAnswers bytes e

-- Two accepted records of one length, with the same byte at every place but those of the initial bytes of addresses other than b
pub record DifferElsewhere (b : ℕ) (bytes others : List ℕ) (e d : Execution) : Type 0 where
  pub accepted : read_all bytes ≡ says e
  pub others_accepted : read_all others ≡ says d
  pub same_length : length bytes ≡ length others
  pub same_else : (i : ℕ) → ((a : ℕ) → a < 8 * length e.lines → i ≡ initial_place a → a ≡ b) → get_or bytes i 0 ≡ get_or others i 0

-- P4, of the definitions: the records have the same instructions, and what rule 11 asks of a load's byte at address b is answered alike for every prefix.
abbrev pub OneInitialByte : Type 0
OneInitialByte =
    (b : ℕ) (bytes others : List ℕ) (e d : Execution) → DifferElsewhere b bytes others e d
    → (e.instructions ≡ d.instructions)
    × ((l : Instruction) (xs : List ℕ) → broken xs (sees (sight_of e l b)) ≡ broken xs (sees (sight_of d l b)))

-- P3, Lemma 1 of the note: in a legal order no semaphore is local for a byte it reads.
abbrev pub NoSemaphoreLocal : Type 0
NoSemaphoreLocal =
    (bytes : List ℕ) (e : Execution) → read_all bytes ≡ says e
    → (order : List ℕ) → Legal bytes order
    → (s : Instruction) → Memᴰ s (semaphores e)
    → (b : ℕ) → accesses s b ≡ true → local order (sight_of e s b) ≡ false

-- P7: an access lies on one line or two, and its attribute, with the domain, is that of either.
abbrev pub EitherLine : Type 0
EitherLine =
    (bytes : List ℕ) (e : Execution) → read_all bytes ≡ says e
    → (i : Instruction) → Memᴰ i e.instructions
    → (length (lines_from i.address i.size) ≤ 2)
    × ((b : ℕ) → accesses i b ≡ true → (member (lines_from i.address i.size) (b / 8) ≡ true) × ((line_at e b).attribute ≡ attribute_at e i))
