-- The renumbering that changes nothing gives the record itself, with untouched lines taken as zero.
use Prim.Native.Nat.{ℕ, ◌+◌, ◌*◌, ◌<◌}
use native.Mathlib.Omega.{arith}
use mathlib.Core.Path.{◌≡◌, sym, ap, ap₂, ◌∙◌}
use mathlib.Core.Bool.{cond}
use mathlib.Core.List.{List, [], ◌∷◌, ◌++◌}
use lib.ListN.{length, take, drop, replicate}
use lib.Seq.{drop_at}
use Rattle.base.specs.Lists.{for, below}
use Rattle.base.proofs.Lists.{for_same, of_below}
use Rattle.model.specs.Execution.{Execution}
use Rattle.model.specs.Sections.{line_bytes, pair_bytes}
use Rattle.model.specs.Renumbering.{bytes_of_program, own_instructions, touched, line_taken, head_taken, record_from, renumbered}
use Rattle.record_renumbering.specs.Forms.{line_in, OwnForm}
use Rattle.record_renumbering.proofs.Parts.{Parts, parts, line_of_lem, lines_length}
use Rattle.record_renumbering.proofs.Straight.{pairs_straight, programs_straight}

-- a line as it is taken is that of the bytes
line_taken_lem : {bytes : List ℕ} {e : Execution} → Parts bytes e → (k : ℕ) → k < length e.lines → line_taken e k ≡ line_in bytes e.instructions k
unfolding line_taken
line_taken_lem {bytes} {e} r k h = ap (λ (l : List ℕ). cond (touched e.instructions k) l (replicate 9 0)) (sym (line_of_lem r k h))

lines_taken_lem : {bytes : List ℕ} {e : Execution} → Parts bytes e → for (below (length e.lines)) (line_taken e) ≡ for (below (length e.lines)) (line_in bytes e.instructions)
lines_taken_lem {bytes} {e} r =
    for_same (line_taken e) (line_in bytes e.instructions) (below (length e.lines)) (λ k m. line_taken_lem r k (of_below (length e.lines) m))

pub own_form_of : {bytes : List ℕ} {e : Execution} → Parts bytes e
    → renumbered e (below e.processors) ≡ take 2 bytes ++ (for (below (length e.lines)) (line_in bytes e.instructions) ++ drop (2 + 9 * length e.lines) bytes)
unfolding renumbered record_from head_taken
own_form_of {bytes} {e} r =
    let lines = for e.lines line_bytes in
    let programs = for (below e.processors) (λ p. bytes_of_program (own_instructions e.instructions p)) in
    let rest = programs ++ (length e.pairs ∷ for e.pairs pair_bytes) in
    let front = e.processors ∷ length e.lines ∷ lines in
    let n = 2 + 9 * length e.lines in
    let first : take 2 bytes ≡ e.processors ∷ length e.lines ∷ [] = ap (take 2) r.bytes_are in
    let behind : drop n bytes ≡ rest = ap (drop n) r.bytes_are ∙ drop_at front rest n (omega (arith, lines_length r)) in
    ap₂ (λ (s t : List ℕ). head_taken e ++ (s ++ (length e.pairs ∷ t))) (programs_straight r) (pairs_straight r)
    ∙ sym (ap₂ (λ (s t : List ℕ). s ++ (for (below (length e.lines)) (line_taken e) ++ t)) first behind)
    ∙ ap (λ (l : List ℕ). take 2 bytes ++ (l ++ drop (2 + 9 * length e.lines) bytes)) (lines_taken_lem r)

pub own_form : OwnForm
own_form bytes e h = own_form_of (parts bytes e h)
