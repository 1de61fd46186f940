-- Other data bytes for a semaphore; else the first.
use native.Mathlib.Omega.{arith}
use Prim.Native.Nat.{ℕ, ◌+◌, ◌*◌}
use mathlib.Core.Path.{sym, ap, ◌∙◌}
use mathlib.Core.Bool.{Bool, cond}
use Rattle.search_rows.specs.Lent.{relative_bit}
use Rattle.search_rows.proofs.words.written_value.Goals as goal

pub relative_from-requires : goal.relative_from-requires
relative_from-requires c =
    (c.requires.bounds.0, c.requires.bounds.1, omega (arith, c.requires.bounds.4, c.written_from.ensures.0), c.requires.bounds.2, c.requires.bounds.3)

pub returns-then-is_semaphore : goal.returns-then-is_semaphore
returns-then-is_semaphore c =
    λ i l.
    let g = c.args in
    c.relative_from.ensures i l ∙ ap (λ (n : ℕ). relative_bit g.bytes.now g.count g.«data».now (16 * g.w.0 + (n + g.skipped)) g.address g.size i) c.written_from.ensures.0

pub returns-else-is_semaphore : goal.returns-else-is_semaphore
returns-else-is_semaphore c =
    λ i l.
    let g = c.args in
    c.requires.seen_is i l
    ∙ ap (λ (b : Bool). relative_bit g.bytes.now g.count g.«data».now (16 * g.w.0 + (cond b 8 0 + g.skipped)) g.address g.size i) (sym c.if-is_semaphore.false ∙ c.is_semaphore.ensures)
