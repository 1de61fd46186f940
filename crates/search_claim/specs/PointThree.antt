-- Point 3: one claim about every list of search calls over one lent buffer.
use Rattle.std.specs.Prelude.{ℕ, ◌<◌, ◌≤◌, min, ◌≡◌, true, cond, List, [], ◌∷◌, ◌⊎◌, ◌↔◌, length, get_or, take, ltb}
use Rattle.std.proofs.Math.Option.{none, some}
use Rattle.base.specs.Lex.{Less}
use Rattle.model.specs.Execution.{Execution, operations}
use Rattle.model.specs.Questions.{found, read_record}
use Rattle.model.specs.Rules.{rules, keeps}
use Rattle.model.specs.Search.{allowed, forbidden, unfinished, prefixes, after}
use Rattle.model.specs.Calls.{says, Legal, NoneLegal}
use Rattle.model.specs.Courses.{Call, Course, start, course}

-- a legal order that every other legal order follows
abbrev pub FirstLegal : List ℕ → List ℕ → Type 0
FirstLegal bytes order = Legal bytes order × ((other : List ℕ) → Legal bytes other → (other ≡ order) ⊎ Less order other)

-- The position left: the returned length is its own, and its entries stand at the front of the buffer.
pub record Left (t : Course) (position : List ℕ) : Type 0 where
  pub length_is : t.length ≡ length position
  pub entries_are : take (length position) t.buffer ≡ position

-- entry i of the first of these positions that is longer than i, else d
unfoldable pub entry_of : List (List ℕ) → ℕ → ℕ → ℕ
entry_of [] i d = d
entry_of (p ∷ ps) i d = cond (ltb i (length p)) (get_or p i d) (entry_of ps i d)

-- the number of consistent prefixes of one operation or more, up to and with the first full one
abbrev pub total : Execution → ℕ
total e = length (after (operations e) (keeps (rules e)) [])

-- The claim, where a list of calls of the record has come to t over a buffer that came as b.
pub record CourseClaim (bytes : List ℕ) (e : Execution) (b : List ℕ) (t : Course) : Type 0 where
  -- A call given the record and the whole buffer is accepted.
  pub all_accepted : t.accepted ≡ true
  -- The answer and the steps belong to the record and the sum of the allowances.
  pub unfinished_when : (t.answer ≡ none → ⊥) → (t.answer ≡ some (says unfinished)) ↔ (t.sum < total e)
  pub forbidden_when : (t.answer ≡ none → ⊥) → total e ≤ t.sum → (t.answer ≡ some (says forbidden)) ↔ NoneLegal bytes
  pub allowed_when : (t.answer ≡ none → ⊥) → total e ≤ t.sum → (t.answer ≡ some (says allowed)) ↔ (NoneLegal bytes → ⊥)
  pub steps_are : t.steps ≡ min t.sum (total e)
  -- The position left: consistent prefix number `sum`; the order; the position given.
  pub unfinished_leaves : t.sum < total e → Left t (get_or (prefixes (operations e) (keeps (rules e))) t.sum [])
  pub allowed_leaves : t.answer ≡ some (says allowed) → (order : List ℕ) × FirstLegal bytes order × Left t order
  pub forbidden_leaves : t.answer ≡ some (says forbidden) → Left t t.given
  pub nothing_called : t.answer ≡ none → Left t []
  -- Byte i of the buffer is entry i of the latest position left by a call and longer than i, else as it came.
  pub buffer_length : length t.buffer ≡ length b
  pub buffer_bytes : (i : ℕ) → get_or t.buffer i 0 ≡ entry_of t.left i (get_or b i 0)

-- Point 3: for every accepted record, every buffer of N bytes or more and every list of calls of which the others are refused
abbrev pub PointThree : Type 0
PointThree =
    (bytes : List ℕ) (e : Execution) (rest : List ℕ) → read_record bytes ≡ found e rest
    → (b : List ℕ) → operations e ≤ length b
    → (calls : List Call) → (course bytes calls (start b)).refused ≡ true
    → CourseClaim bytes e b (course bytes calls (start b))
