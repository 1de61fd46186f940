-- Call after call, while the search is unfinished.
use Prim.Native.Nat.{ℕ, zero, suc, ◌+◌, ◌*◌, ◌-◌, ◌^◌, ◌≤◌, ◌<◌}
use native.Mathlib.Omega.{arith}
use mathlib.Core.Path.{◌≡◌, refl, sym, ap, ◌∙◌, subst}
use mathlib.Core.Bool.{Bool, false, cond}
use mathlib.Core.List.{List}
use lib.ListN.{length, drop, replicate, length-append}
use Rattle.model.specs.Search.{Verdict, unfinished}
use Rattle.model.specs.Calls as calls
use Rattle.model.specs.Calls.{Answer, says, refuses, searching, search_reply, search_call}
use Rattle.model.specs.Verdict.{call_allowance, call_limit, is_unfinished, call_once, call_on, not_called}
use Rattle.search_resume.specs.Replies.{verdict_meant}
use Rattle.search_resume.specs.declared.steps.Verdict as ended
use Rattle.search_resume.specs.declared.steps.Verdict.TheVariants.{Unfinished, Allowed, Forbidden}

-- any other verdict ends the calls
pub other_verdict : (v : ended.Verdict) → (v ≡ Unfinished → ⊥) → is_unfinished (says (verdict_meant v)) ≡ false
other_verdict Unfinished h = absurd (h refl)
other_verdict Allowed h = refl
other_verdict Forbidden h = refl

-- what the calls so far came to
abbrev pub total : Answer Verdict → ℕ → ℕ → List ℕ → calls.SearchReply
total a steps size buffer = record { answer = a; steps = steps; length = size; buffer = buffer }

-- a search that is finished is not called again
finished : (bytes : List ℕ) (more : ℕ) (s : calls.SearchReply) → is_unfinished s.answer ≡ false → call_on bytes more s ≡ s
unfolding call_on
finished bytes zero s h = refl
finished bytes (suc more) s h = ap (λ (t : Bool). cond t (call_on bytes more (call_once bytes s)) s) h

-- The position that a call leaves is no longer than the buffer
reply_short : (saved : ℕ) (buffer : List ℕ) (a : Answer _) → saved ≤ length buffer → length (search_reply saved buffer a).buffer ≡ length buffer
    → (search_reply saved buffer a).length ≤ length buffer
unfolding search_reply
reply_short saved buffer (refuses q) h e = h
reply_short saved buffer (says o) h e =
    omega (arith, e, length-append o.position (drop (length o.position) buffer))

-- The invariant: what the calls that are left make of the calls so far is what all make.
pub record Calling (bytes : List ℕ) (made steps size : ℕ) (buffer : List ℕ) : Type 0 where
  pub within : made ≤ 100
  pub few : steps ≤ made * 4_294_967_296
  pub short : size ≤ 128
  pub long : length buffer ≡ 128
  pub decides : call_on bytes call_limit not_called ≡ call_on bytes (100 - made) (total (says unfinished) steps size buffer)

pub calls_start : {bytes : List ℕ} {size : ℕ} {buffer : List ℕ} → size ≡ 0 → buffer ≡ replicate 128 0 → Calling bytes 0 0 size buffer
calls_start {bytes} {size} {buffer} h e =
    subst (λ (l : ℕ). Calling bytes 0 0 l buffer) (sym h)
    (subst (λ (b : List ℕ). Calling bytes 0 0 0 b) (sym e)
    (record { within = omega arith; few = omega arith; short = omega arith; long = refl; decides = refl }))

module _ {bytes : List ℕ} {made steps size : ℕ} {buffer : List ℕ} (inv : Calling bytes made steps size buffer)
    (answer : Answer Verdict) (more length_left : ℕ) {left : List ℕ}
    (same : total answer more length_left left ≡ search_call bytes buffer size call_allowance) (kept : length left ≡ length buffer) where
  one_more : made < 100 → call_on bytes call_limit not_called ≡ call_on bytes (100 - (made + 1)) (total answer (steps + more) length_left left)
  unfolding call_on call_once
  one_more h =
      inv.decides
      ∙ ap (λ (k : ℕ). call_on bytes k (total (says unfinished) steps size buffer)) (let z : 100 - made ≡ suc (100 - (made + 1)) = omega arith in z)
      ∙ ap (λ (q : calls.SearchReply). call_on bytes (100 - (made + 1)) (total q.answer (steps + q.steps) q.length q.buffer)) (sym same)

  pub call_short : length_left ≤ 128
  unfolding search_call
  call_short =
      omega (
        arith,
        inv.long,
        ap (λ (q : calls.SearchReply). q.length) same,
        reply_short size buffer (searching bytes buffer size call_allowance) (omega (arith, inv.short, inv.long)) (ap (λ (q : calls.SearchReply). length q.buffer) (sym same) ∙ kept),
      )

  pub calls_turn : made < 100 → more < 2 ^ 32 → answer ≡ says unfinished → Calling bytes (made + 1) (steps + more) length_left left
  calls_turn h small e = record {
    within = omega arith;
    few = omega (arith, inv.few);
    short = call_short;
    long = kept ∙ inv.long;
    decides =
        one_more h ∙ ap (λ (a : Answer Verdict). call_on bytes (100 - (made + 1)) (total a (steps + more) length_left left)) e;
  }

  pub calls_stop : made < 100 → is_unfinished answer ≡ false
      → total answer (steps + more) length_left left ≡ call_on bytes call_limit not_called
  calls_stop h e =
      sym (one_more h ∙ finished bytes (100 - (made + 1)) (total answer (steps + more) length_left left) e)

pub calls_spent : {bytes : List ℕ} {made steps size : ℕ} {buffer : List ℕ} → Calling bytes made steps size buffer → 100 ≤ made
    → total (says unfinished) steps size buffer ≡ call_on bytes call_limit not_called
unfolding call_on
calls_spent {bytes} {made} {steps} {size} {buffer} inv h =
    sym (inv.decides ∙ ap (λ (k : ℕ). call_on bytes k (total (says unfinished) steps size buffer)) (let z : 100 - made ≡ 0 = omega arith in z))
