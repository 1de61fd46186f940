-- A list of search calls over one lent buffer, and how far it comes.
use Rattle.std.specs.Prelude.{ℕ, ◌+◌, Bool, true, false, cond, ◌&&◌, List, [], ◌∷◌, ◌++◌, take, drop}
use Rattle.std.proofs.Math.Option.{Option, none, some}
use Rattle.model.specs.Search.{Verdict, allowed, forbidden, unfinished}
use Rattle.model.specs.Calls.{Answer, says, refuses, search_call}

-- A call of the list, with its allowance: given the record and the whole buffer, or given other bytes as its record or a part of the buffer (from an index on, so many bytes).
pub data Call : Type 0 where
  proper : ℕ → Call
  other : List ℕ → ℕ → ℕ → ℕ → Call  -- bytes, index, size, allowance

-- How far a list of calls has come
pub record Course : Type 0 where
  pub buffer : List ℕ
  pub length : ℕ  -- that the last call returned
  pub steps : ℕ  -- of all calls
  pub sum : ℕ  -- the allowances of the proper calls
  pub answer : Option (Answer Verdict)  -- of the last proper call
  pub given : List ℕ  -- the position that it was given
  pub left : List (List ℕ)  -- the positions that the proper calls left, the latest first
  pub accepted : Bool  -- each proper call was accepted
  pub refused : Bool  -- each other call was refused

-- the empty position, in a buffer with any bytes
unfoldable pub start : List ℕ → Course
start b = record {
  buffer = b;
  length = 0;
  steps = 0;
  sum = 0;
  answer = none;
  given = [];
  left = [];
  accepted = true;
  refused = true;
}

abbrev pub is_says : Answer Verdict → Bool
is_says (says v) = true
is_says (refuses q) = false

abbrev pub is_refuses : Answer Verdict → Bool
is_refuses (says v) = false
is_refuses (refuses q) = true

-- what one call more makes of it
unfoldable pub called : List ℕ → Call → Course → Course
called bytes (proper allowance) s =
    let r = search_call bytes s.buffer s.length allowance in
    record {
      buffer = r.buffer;
      length = r.length;
      steps = s.steps + r.steps;
      sum = s.sum + allowance;
      answer = some r.answer;
      given = take s.length s.buffer;
      left = take r.length r.buffer ∷ s.left;
      accepted = s.accepted && is_says r.answer;
      refused = s.refused;
    }
called bytes (other others index size allowance) s =
    let r = search_call others (take size (drop index s.buffer)) s.length allowance in
    record {
      buffer = take index s.buffer ++ r.buffer ++ drop (index + size) s.buffer;
      length = r.length;
      steps = s.steps + r.steps;
      sum = s.sum;
      answer = s.answer;
      given = s.given;
      left = s.left;
      accepted = s.accepted;
      refused = s.refused && is_refuses r.answer;
    }

-- the list stops at the first 'allowed' or 'forbidden'
abbrev pub ended : Option (Answer Verdict) → Bool
ended none = false
ended (some (says allowed)) = true
ended (some (says forbidden)) = true
ended (some (says unfinished)) = false
ended (some (refuses q)) = false

unfoldable pub course : List ℕ → List Call → Course → Course
course bytes [] s = s
course bytes (c ∷ cs) s =
    let onward = course bytes cs (called bytes c s) in
    cond (ended s.answer) s onward
