-- Those that only an earlier instruction has, and the others, each at its bit.
use Prim.Native.Nat.{ℕ}
use native.Mathlib.Omega.{arith}
use mathlib.Core.Path.{◌≡◌, refl, ◌∙◌}
use mathlib.Core.Bool.{Bool, true, false, cond}
use mir.Val.{bool_byte}
use Rattle.record_decoded.specs.Kinds.{meant, attribute_meant}
use Rattle.relation_marks.proofs.BetweenLaws.{put_together}
use Rattle.relation_marks.proofs.between.marks_by.Goals as goal

abbrev bit : Bool → ℕ
bit b = cond b 1 0

-- a test as a number
as_bit : {n : ℕ} {a b : Bool} → n ≡ bool_byte a → a ≡ b → n ≡ bit b
as_bit {n} {a} {b} h e = h ∙ go a ∙ cc
  where
    go : (d : Bool) → bool_byte d ≡ bit d
    go true = refl
    go false = refl

pub returns : goal.returns
returns c =
    let b = c.args.between in
    let i = c.args.first in
    let j = c.args.second in
    omega (
      arith,
      put_together b.same b.own b.earlier b.overlaps b.given (meant i.kind) (meant j.kind) (attribute_meant i.attribute) (attribute_meant j.attribute),
      as_bit c.from.ensures refl,
      as_bit c.from-2.ensures refl,
      as_bit c.from-3.ensures c.is_conflict.ensures,
      as_bit c.from-4.ensures c.is_bypass.ensures,
      as_bit c.from-5.ensures c.is_atomic.ensures,
      as_bit c.from-6.ensures c.is_lock.ensures,
      as_bit c.from-7.ensures c.is_semaphore.ensures,
      as_bit c.from-8.ensures c.is_semaphore-2.ensures,
    )
