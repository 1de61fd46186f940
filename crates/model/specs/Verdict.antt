-- What the verdict program prints for the bytes of its standard input.
use Rattle.std.specs.Prelude.{ℕ, zero, suc, ◌+◌, ◌/◌, ◌%◌, Bool, true, false, cond, List, [], ◌∷◌, ◌++◌, take, replicate, ltb}
use Rattle.base.specs.Lists.{for}
use Rattle.model.specs.Search.{Verdict, allowed, forbidden, unfinished}
use Rattle.model.specs.Calls.{Answer, says, refuses, SearchReply, search_call}

-- the most bytes that are taken as the record, the most operations of a record, an allowance, the most calls
abbrev pub input_limit : ℕ
input_limit = 1024

abbrev pub position_limit : ℕ
position_limit = 128

abbrev pub call_allowance : ℕ
call_allowance = 1_000_000

abbrev pub call_limit : ℕ
call_limit = 100

abbrev pub is_unfinished : Answer Verdict → Bool
is_unfinished (says allowed) = false
is_unfinished (says forbidden) = false
is_unfinished (says unfinished) = true
is_unfinished (refuses q) = false

-- one call more from where the last one stopped; the steps add up
unfoldable pub call_once : List ℕ → SearchReply → SearchReply
call_once bytes s =
    let r = search_call bytes s.buffer s.length call_allowance in
    record { answer = r.answer; steps = s.steps + r.steps; length = r.length; buffer = r.buffer }

-- at most so many calls, while unfinished
unfoldable pub call_on : List ℕ → ℕ → SearchReply → SearchReply
call_on bytes zero s = s
call_on bytes (suc more) s =
    let next = call_on bytes more (call_once bytes s) in
    cond (is_unfinished s.answer) next s

abbrev pub not_called : SearchReply
not_called = record { answer = says unfinished; steps = 0; length = 0; buffer = replicate position_limit 0 }

-- The lines, in bytes. Words: allowed, forbidden, unfinished, refused, steps.

abbrev pub word_allowed : List ℕ
word_allowed = 97 ∷ 108 ∷ 108 ∷ 111 ∷ 119 ∷ 101 ∷ 100 ∷ []

abbrev pub word_forbidden : List ℕ
word_forbidden = 102 ∷ 111 ∷ 114 ∷ 98 ∷ 105 ∷ 100 ∷ 100 ∷ 101 ∷ 110 ∷ []

abbrev pub word_unfinished : List ℕ
word_unfinished = 117 ∷ 110 ∷ 102 ∷ 105 ∷ 110 ∷ 105 ∷ 115 ∷ 104 ∷ 101 ∷ 100 ∷ []

abbrev pub word_refused : List ℕ
word_refused = 114 ∷ 101 ∷ 102 ∷ 117 ∷ 115 ∷ 101 ∷ 100 ∷ []

abbrev pub word_steps : List ℕ
word_steps = 115 ∷ 116 ∷ 101 ∷ 112 ∷ 115 ∷ []

abbrev pub blank : List ℕ
blank = 32 ∷ []

abbrev pub line_feed : List ℕ
line_feed = 10 ∷ []

-- a number of at most so many decimal digits, without leading zeros
unfoldable pub digits : ℕ → ℕ → List ℕ
digits zero n = []
digits (suc more) n =
    let front = digits more (n / 10) in
    let last = (48 + n % 10) ∷ [] in
    cond (ltb n 10) last (front ++ last)

abbrev pub decimal : ℕ → List ℕ
decimal n = digits 20 n

unfoldable pub lines : SearchReply → List ℕ
lines r = lines_of r.answer
  where
    steps_line : List ℕ
    steps_line = word_steps ++ blank ++ decimal r.steps ++ line_feed

    lines_of : Answer Verdict → List ℕ
    lines_of (says allowed) = word_allowed ++ for (take r.length r.buffer) (λ o. blank ++ decimal o) ++ line_feed ++ steps_line
    lines_of (says forbidden) = word_forbidden ++ line_feed ++ steps_line
    lines_of (says unfinished) = word_unfinished ++ line_feed ++ steps_line
    lines_of (refuses q) = word_refused ++ blank ++ decimal q ++ line_feed

unfoldable pub verdict_lines : List ℕ → List ℕ
verdict_lines input = lines (call_on (take input_limit input) call_limit not_called)
