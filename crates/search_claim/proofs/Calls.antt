-- What every list of calls keeps: nothing was called, or the last call left a prefix of the enumeration, or the list has come to its end.
use Prim.Native.Nat.{ℕ, ◌+◌, ◌<◌, ◌≤◌, min}
use native.Mathlib.Nat.{add-zero}
use native.Mathlib.Omega.{arith}
use mathlib.Core.Path.{◌≡◌, refl, sym, ap, ◌∙◌, subst}
use mathlib.Core.Bool.{Bool, true, false, cond, ◌&&◌, and-true, false≢true}
use mathlib.Core.List.{List, [], ◌∷◌, ◌++◌}
use mathlib.Core.Option.{none, some}
use lib.ListN.{length, get_or, take, drop}
use lib.Seq.{take-append_seam}
use lib.Dec.{ltb}
use borrow.Author.Tests.{le-leb, ltb-true, ltb-false}
use Rattle.base.proofs.Bools.{clash, and_parts}
use Rattle.base.proofs.Lists.{distinct_length}
use Rattle.model.specs.Execution.{Execution, operations}
use Rattle.model.specs.Questions.{found, read_record}
use Rattle.model.specs.Rules.{rules, keeps, consistent}
use Rattle.model.specs.Search.{allowed, forbidden, unfinished, Outcome, reached}
use Rattle.model.specs.Calls.{Answer, says, refuses, and_then, asks, answer_of, read_all, search_position, search_saved, searching, SearchReply, search_reply, search_call}
use Rattle.model.specs.Courses.{Call, proper, other, Course, start, is_refuses, called, ended, course}
use Rattle.search_claim.specs.PointThree.{Left, entry_of, total}
use Rattle.model.proofs.Legal.{consistent_ascend, consistent_are}
use Rattle.search_claim.proofs.Reach.{outcome, outcome_at, search_reach}
use Rattle.search_claim.proofs.Orders.{prefix_at, prefix_member, is_full}
use Rattle.search_claim.proofs.Buffer.{written, written_length, written_byte, part_back}

-- where a course stands, by the last proper call: none, 'unfinished', 'allowed', 'forbidden'
pub data Stage (e : Execution) (t : Course) : Type 0 where
  new : t.answer ≡ none → t.sum ≡ 0 → Left t [] → Stage e t
  midway : t.answer ≡ some (says unfinished) → t.sum < total e → Left t (prefix_at e t.sum) → Stage e t
  succeeded : t.answer ≡ some (says allowed) → total e ≤ t.sum → is_full e (prefix_at e (total e)) ≡ true → Left t (prefix_at e (total e)) → Stage e t
  exhausted : t.answer ≡ some (says forbidden) → total e ≤ t.sum → is_full e (prefix_at e (total e)) ≡ false → Left t t.given → Stage e t

-- The invariant of a course over a buffer that came as b
pub record CourseInvariant (e : Execution) (b : List ℕ) (t : Course) : Type 0 where
  pub all_accepted : t.accepted ≡ true
  pub steps_are : t.steps ≡ min t.sum (total e)
  pub buffer_length : length t.buffer ≡ length b
  pub buffer_bytes : (i : ℕ) → get_or t.buffer i 0 ≡ entry_of t.left i (get_or b i 0)
  pub stage : Stage e t

-- it holds where nothing was called
keeps_start : (e : Execution) (b : List ℕ) → CourseInvariant e b (start b)
unfolding start entry_of
keeps_start e b = record {
  all_accepted = refl;
  steps_are = omega arith;
  buffer_length = refl;
  buffer_bytes = λ i. refl;
  stage = new refl refl (record { length_is = refl; entries_are = refl });
}

-- a course that has not ended leaves the prefix that the sum of the allowances numbers
pub here : (e : Execution) (t : Course) → Stage e t → ended t.answer ≡ false → (t.sum ≤ total e) × Left t (prefix_at e t.sum)
unfolding reached
here e t (new a z left) h = (omega arith, subst (λ (s : ℕ). Left t (prefix_at e s)) (sym z) left)
here e t (midway a m left) h = (omega arith, left)
here e t (succeeded a m f left) h = clash (ap ended a) h
here e t (exhausted a m f left) h = clash (ap ended a) h

-- Calls that are refused

-- such a call changes nothing
other_same : (bytes others : List ℕ) (index size allowance : ℕ) (t : Course) → (called bytes (other others index size allowance) t).refused ≡ true
    → called bytes (other others index size allowance) t ≡ t
unfolding called search_call search_reply
other_same bytes others index size allowance t h = go (searching others (take size (drop index t.buffer)) t.length allowance) h
  where
    put : SearchReply → Course
    put r = record {
      buffer = take index t.buffer ++ r.buffer ++ drop (index + size) t.buffer;
      length = r.length;
      steps = t.steps + r.steps;
      sum = t.sum;
      answer = t.answer;
      given = t.given;
      left = t.left;
      accepted = t.accepted;
      refused = t.refused && is_refuses r.answer;
    }

    go : (o : Answer Outcome) → (put (search_reply t.length (take size (drop index t.buffer)) o)).refused ≡ true
        → put (search_reply t.length (take size (drop index t.buffer)) o) ≡ t
    go (says o) k = absurd (false≢true (and_parts t.refused false k).1)
    go (refuses q) k = rw (part_back, add-zero, and-true)

-- where every other call of a list was refused, so was every one before the list
refused_before : (bytes : List ℕ) (calls : List Call) (t : Course) → (course bytes calls t).refused ≡ true → t.refused ≡ true
unfolding course called
refused_before bytes [] t h = h
refused_before bytes (call ∷ calls) t h = go (ended t.answer) (refused_before bytes calls (called bytes call t)) h
  where
    once : (call : Call) → (called bytes call t).refused ≡ true → t.refused ≡ true
    once (proper allowance) k = k
    once (other others index size allowance) k = (and_parts t.refused _ k).0

    go : (b : Bool) → ((course bytes calls (called bytes call t)).refused ≡ true → (called bytes call t).refused ≡ true)
        → (cond b t (course bytes calls (called bytes call t))).refused ≡ true → t.refused ≡ true
    go true ih k = k
    go false ih k = once call (ih k)

-- Calls that are accepted

-- the course after such a call, by its outcome
abbrev heard : Course → ℕ → Outcome → Course
heard t allowance o = record {
  buffer = written o.position t.buffer;
  length = length o.position;
  steps = t.steps + o.steps;
  sum = t.sum + allowance;
  answer = some (says o.verdict);
  given = take t.length t.buffer;
  left = take (length o.position) (written o.position t.buffer) ∷ t.left;
  accepted = t.accepted && true;
  refused = t.refused;
}

-- the position that it is given, and the one that it leaves
position_given : (t : Course) (p : List ℕ) → Left t p → take t.length t.buffer ≡ p
position_given t p left = ap (λ (k : ℕ). take k t.buffer) left.length_is ∙ left.entries_are

heard_left : (t : Course) (allowance : ℕ) (o : Outcome) → Left (heard t allowance o) o.position
heard_left t allowance o = record { length_is = refl; entries_are = take-append_seam o.position (drop (length o.position) t.buffer) }

-- it holds after an accepted call, where the position left has room and the steps and the stage are right
keeps_heard : (e : Execution) (b : List ℕ) (t : Course) (allowance : ℕ) (o : Outcome) → CourseInvariant e b t → length o.position ≤ length b
    → t.steps + o.steps ≡ min (t.sum + allowance) (total e) → Stage e (heard t allowance o) → CourseInvariant e b (heard t allowance o)
unfolding entry_of
keeps_heard e b t allowance o k short counted stage = record {
  all_accepted = rw k.all_accepted;
  steps_are = counted;
  buffer_length = written_length o.position t.buffer (omega (arith, k.buffer_length)) ∙ k.buffer_length;
  buffer_bytes = λ i.
      rw (take-append_seam o.position (drop (length o.position) t.buffer), ← k.buffer_bytes i)
      (written_byte o.position t.buffer i (get_or b i 0));
  stage = stage;
}

-- a prefix of the enumeration is no longer than the buffer must be
prefix_short : (e : Execution) (s : ℕ) → s ≤ total e → length (prefix_at e s) ≤ operations e
prefix_short e s h =
    distinct_length (operations e) (prefix_at e s) ((consistent_are e (prefix_at e s)).0 (prefix_member e s h)).0

module _ (bytes : List ℕ) (e : Execution) (rest : List ℕ) (read : read_record bytes ≡ found e rest) where
  -- a call given the record and the whole buffer, with a prefix of the enumeration at its front, passes questions 18 to 21
  proper_heard : (t : Course) (allowance s : ℕ) → operations e ≤ length t.buffer → s ≤ total e → Left t (prefix_at e s)
      → called bytes (proper allowance) t ≡ heard t allowance (outcome_at (operations e) (keeps (rules e)) s allowance)
  unfolding called search_call searching read_all search_saved search_position search_reply answer_of and_then asks consistent
  proper_heard t allowance s long within left =
      let (d, c) = (consistent_are e (prefix_at e s)).0 (prefix_member e s within) in
      rw (
        read,
        le-leb (operations e) (length t.buffer) long,
        le-leb t.length (operations e) (omega (arith, left.length_is, prefix_short e s within)),
        position_given t (prefix_at e s) left,
        d,
        c,
        search_reach (operations e) (keeps (rules e)) (consistent_ascend e) s within allowance,
      )

  module _ (b : List ℕ) (room : operations e ≤ length b) where
    -- one call more keeps the invariant
    proper_keeps : (t : Course) (allowance : ℕ) → CourseInvariant e b t → ended t.answer ≡ false → CourseInvariant e b (called bytes (proper allowance) t)
    proper_keeps t allowance k h =
        let (within, left) = here e t k.stage h in
        subst (CourseInvariant e b) (sym (proper_heard t allowance t.sum (omega (arith, k.buffer_length)) within left))
        (go (ltb (t.sum + allowance) (total e)) refl (is_full e (prefix_at e (total e))) refl within left)
      where
        o : Bool → Bool → Outcome
        o stops ends = outcome (operations e) (keeps (rules e)) stops ends t.sum allowance

        go : (stops : Bool) → ltb (t.sum + allowance) (total e) ≡ stops → (ends : Bool) → is_full e (prefix_at e (total e)) ≡ ends
            → t.sum ≤ total e → Left t (prefix_at e t.sum) → CourseInvariant e b (heard t allowance (o stops ends))
        go true p ends q within left =
            let m : t.sum + allowance < total e = ltb-true (t.sum + allowance) (total e) p in
            keeps_heard e b t allowance (o true ends) k (omega (arith, prefix_short e (t.sum + allowance) (omega arith))) (omega (arith, k.steps_are))
            (midway refl m (heard_left t allowance (o true ends)))
        go false p true q within left =
            let m : total e ≤ t.sum + allowance = ltb-false (t.sum + allowance) (total e) p in
            keeps_heard e b t allowance (o false true) k (omega (arith, prefix_short e (total e) (omega arith))) (omega (arith, k.steps_are))
            (succeeded refl m q (heard_left t allowance (o false true)))
        go false p false q within left =
            let m : total e ≤ t.sum + allowance = ltb-false (t.sum + allowance) (total e) p in
            keeps_heard e b t allowance (o false false) k (omega (arith, prefix_short e t.sum within)) (omega (arith, k.steps_are))
            (exhausted refl m q
            (subst (Left (heard t allowance (o false false))) (sym (position_given t (prefix_at e t.sum) left)) (heard_left t allowance (o false false))))

    called_keeps : (call : Call) (t : Course) → CourseInvariant e b t → ended t.answer ≡ false → (called bytes call t).refused ≡ true
        → CourseInvariant e b (called bytes call t)
    called_keeps (proper allowance) t k h r = proper_keeps t allowance k h
    called_keeps (other others index size allowance) t k h r = subst (CourseInvariant e b) (sym (other_same bytes others index size allowance t r)) k

    -- so does a list of calls, which stops at its end
    course_keeps : (calls : List Call) (t : Course) → CourseInvariant e b t → (course bytes calls t).refused ≡ true → CourseInvariant e b (course bytes calls t)
    unfolding course
    course_keeps [] t k r = k
    course_keeps (call ∷ calls) t k r = go (ended t.answer) refl (course_keeps calls next_course) r
      where
        next_course : Course
        next_course = called bytes call t

        go : (h : Bool) → ended t.answer ≡ h
            → (CourseInvariant e b next_course → (course bytes calls next_course).refused ≡ true → CourseInvariant e b (course bytes calls next_course))
            → (cond h t (course bytes calls next_course)).refused ≡ true → CourseInvariant e b (cond h t (course bytes calls next_course))
        go true h ih r = k
        go false h ih r = ih (called_keeps call t k h (refused_before bytes calls next_course r)) r

    -- every list of calls of which the others are refused
    pub all_kept : (calls : List Call) → (course bytes calls (start b)).refused ≡ true → CourseInvariant e b (course bytes calls (start b))
    all_kept calls r = course_keeps calls (start b) (keeps_start e b) r
