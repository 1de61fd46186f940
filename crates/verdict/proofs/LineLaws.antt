-- The lines of what the calls came to: by cases of the answer, how long they are at most, and that they are the program's.
use Prim.Native.Nat.{ℕ, ◌*◌, ◌≤◌, ◌<◌, min}
use lib.Dec.{leb}
use borrow.Author.Tests.{leb-true, leb-false}
use Rattle.base.proofs.Bools.{split}
use native.Mathlib.Omega.{arith}
use mathlib.Core.Path.{◌≡◌, sym, ap, ap₂, ◌∙◌, subst}
use mathlib.Core.List.{List, [], ◌∷◌, ◌++◌}
use lib.ListN.{length, take, drop, length-append, length-take}
use lib.Seq.{take-take, take-append_seam, take_all}
use Rattle.base.specs.Lists.{for}
use Rattle.model.specs.Search.{Verdict, allowed, forbidden, unfinished}
use Rattle.model.specs.Calls as calls
use Rattle.model.specs.Calls.{Answer, says, refuses}
use Rattle.model.specs.Verdict.{input_limit, call_limit, not_called, call_on, blank, decimal, word_steps, word_refused, line_feed, lines, verdict_lines}
use Rattle.search_resume.specs.Replies.{verdict_meant}
use Rattle.search_resume.specs.declared.steps.Verdict as ended
use Rattle.verdict.specs.declared.calls.Total.{Total}
use Rattle.verdict.specs.Totals.{total_of}
use Rattle.verdict.specs.Texts.{printed, lines_limit, Prints, Appends}
use Rattle.verdict.proofs.TextLaws.{appends_same, appends_printed}
use Rattle.verdict.proofs.DigitLaws.{digits_length}

-- the lines for a verdict of which the case is known
pub lines_told : (t : Total) {v : ended.Verdict} → t.verdict ≡ v
    → lines (record { answer = says (verdict_meant v); steps = t.steps; length = t.length; buffer = t.buffer }) ≡ lines (total_of t)
lines_told t {v} e = ap (λ (b : ended.Verdict). lines (record { answer = says (verdict_meant b); steps = t.steps; length = t.length; buffer = t.buffer })) (sym e)

-- the line of a refusal
pub refused_line : (q : ℕ) (r : calls.SearchReply) → refuses q ≡ r.answer → word_refused ++ blank ++ decimal q ++ line_feed ≡ lines r
unfolding lines
refused_line q r e = ap (λ (a : Answer Verdict). lines (record { answer = a; steps = r.steps; length = r.length; buffer = r.buffer })) e

-- the first bytes of an input
pub first_bytes : (n : ℕ) (input : List ℕ) → n ≡ min (length input) 1024 → take n input ≡ take 1024 input
first_bytes n input e =
    split (leb 1024 (length input))
    (λ h. ap (λ (k : ℕ). take k input) (let z : n ≡ 1024 = omega (arith, leb-true 1024 (length input) h) in z))
    (λ h.
    let short : length input < 1024 = leb-false 1024 (length input) h in
    take_all n input (omega arith) ∙ sym (take_all 1024 input (omega arith)))

-- How long the lines are at most

number_length : (n : ℕ) → length (blank ++ decimal n) ≤ 21
number_length n = omega (arith, digits_length 20 n)

order_length : (order : List ℕ) → length (for order (λ o. blank ++ decimal o)) ≤ 21 * length order
unfolding for
order_length [] = omega arith
order_length (o ∷ order) =
    omega (arith, length-append (blank ++ decimal o) (for order (λ o. blank ++ decimal o)), number_length o, order_length order)

steps_length : (n : ℕ) → length (word_steps ++ blank ++ decimal n ++ line_feed) ≤ 27
steps_length n = omega (arith, length-append (decimal n) line_feed, digits_length 20 n)

lines_length : (r : calls.SearchReply) → length r.buffer ≡ 128 → length (lines r) ≤ lines_limit
unfolding lines
lines_length r h = go r.answer
  where
    go : (a : Answer Verdict) → length (lines (record { answer = a; steps = r.steps; length = r.length; buffer = r.buffer })) ≤ lines_limit
    go (says allowed) =
        let order : List ℕ = for (take r.length r.buffer) (λ o. blank ++ decimal o) in
        omega (
          arith,
          h,
          length-append (order ++ line_feed) (word_steps ++ blank ++ decimal r.steps ++ line_feed),
          length-append order line_feed,
          order_length (take r.length r.buffer),
          length-take r.length r.buffer,
          steps_length r.steps,
        )
    go (says forbidden) = omega (arith, steps_length r.steps)
    go (says unfinished) = omega (arith, steps_length r.steps)
    go (refuses q) = omega (arith, length-append (decimal q) line_feed, digits_length 20 q)

-- the lines of the calls on the input are the program's
pub verdict_printed : {x y : List ℕ} {n : ℕ} (input : List ℕ) (t : Total) → total_of t ≡ call_on (take input_limit input) call_limit not_called → length t.buffer ≡ 128
    → Appends x 0 (lines (total_of t)) y n → Prints x (verdict_lines input) y n
unfolding verdict_lines
verdict_printed {x} {y} {n} input t e l a =
    let same : lines (total_of t) ≡ verdict_lines input = ap lines e in
    let (bytes, count) = appends_printed (appends_same same a) in
    record { bytes = bytes; written = count; fits = subst (λ (text : List ℕ). length text ≤ lines_limit) same (lines_length (total_of t) l) }

pub refusal_printed : {x y : List ℕ} {n : ℕ} (input : List ℕ) (q : ℕ) → refuses q ≡ (call_on (take input_limit input) call_limit not_called).answer
    → Appends x 0 (word_refused ++ blank ++ decimal q ++ line_feed) y n → Prints x (verdict_lines input) y n
unfolding verdict_lines
refusal_printed {x} {y} {n} input q e a =
    let same : word_refused ++ blank ++ decimal q ++ line_feed ≡ verdict_lines input = refused_line q (call_on (take input_limit input) call_limit not_called) e in
    let (bytes, count) = appends_printed (appends_same same a) in
    record {
      bytes = bytes;
      written = count;
      fits = subst (λ (text : List ℕ). length text ≤ lines_limit) same (omega (arith, length-append (decimal q) line_feed, digits_length 20 q));
    }

-- with room for all of them, the lines stand whole at the front
pub printed_whole : {x text y : List ℕ} {n : ℕ} → Prints x text y n → lines_limit ≤ length x → take n y ≡ text
unfolding printed
printed_whole {x} {text} {y} {n} p room =
    let all : n ≡ length text = omega (arith, p.written, p.fits) in
    ap₂ take all p.bytes ∙ take-take (length text) (length x) (text ++ drop (length text) x) (omega (arith, p.fits)) ∙ take-append_seam text (drop (length text) x)
