-- What the tests of one byte of a load come to, case by case.
use Prim.Native.Nat.{ℕ, ◌+◌, ◌-◌, ◌*◌, ◌≤◌, ◌<◌}
use native.Mathlib.Omega.{arith}
use mathlib.Core.Path.{◌≡◌, sym, ap, ◌∙◌}
use mathlib.Core.Bool.{Bool, true, false, not, ◌||◌}
use mathlib.Core.List.{List}
use lib.ListN.{get_or, take, drop, length-take, length-drop, get_or-eq_default}
use lib.Seq.{get_or-take, get_or-drop}
use lib.Dec.{leb, ltb}
use borrow.Author.Tests.{leb-true}
use Rattle.base.specs.Below.{any_below}
use Rattle.base.proofs.Bools.{and_parts}
use Rattle.model.specs.Execution.{Kind, kind_of, is_load, is_store}
use Rattle.model.specs.Rules.{accesses}
use Rattle.record_decoded.specs.declared.types.Instructions.{Instructions}
use Rattle.record_decoded.specs.declared.types.Execution.{Execution}
use Rattle.record_decoded.specs.Decoded.{data_of, instruction_at}
use Rattle.judge_sights.specs.Sights.{data_byte, writes_to, same_processor, may_give, sight_broken, load_broken}

-- a byte past an instruction's size, past the sixteen that the arrays hold, and one that is there
module _ (is : Instructions) (i from k : ℕ) where
  abbrev rest : List ℕ
  rest = drop from (data_of is.bytes i)

  pub byte_past : get_or is.sizes i 0 ≤ k → 0 ≡ data_byte is i from k
  unfolding data_byte
  byte_past h = sym (get_or-eq_default (take (get_or is.sizes i 0) rest) 0 {n = k} (omega (arith, length-take (get_or is.sizes i 0) rest)))

  pub byte_last : from ≤ 16 → 16 - from ≤ k → 0 ≡ data_byte is i from k
  unfolding data_byte data_of
  byte_last l h =
      sym (get_or-eq_default (take (get_or is.sizes i 0) rest) 0 {n = k}
      (omega (
        arith,
        length-take (get_or is.sizes i 0) rest,
        length-drop from (data_of is.bytes i),
        length-take 16 (drop (16 * i) is.bytes),
      )))

  pub byte_there : k < get_or is.sizes i 0 → from + k < 16 → get_or is.bytes (16 * i + from + k) 0 ≡ data_byte is i from k
  unfolding data_byte data_of
  byte_there h less =
      let place : 16 * i + (from + k) ≡ 16 * i + from + k = omega arith in
      sym (get_or-take (get_or is.sizes i 0) rest k 0 h
      ∙ get_or-drop from (data_of is.bytes i) k 0
      ∙ get_or-take 16 (drop (16 * i) is.bytes) (from + k) 0 less
      ∙ get_or-drop (16 * i) is.bytes (from + k) 0
      ∙ ap (λ (n : ℕ). get_or is.bytes n 0) place)

-- a store that may give the byte does not begin after it
pub gives_from : (is : Instructions) (load address : ℕ) (local : Bool) (w from : ℕ) → from ≡ get_or is.addresses w 0 → may_give is load address local w ≡ true → from ≤ address
unfolding may_give writes_to accesses instruction_at
gives_from is load address local w from f h =
    let m = and_parts (writes_to is address w) (not local || same_processor is load w) h in
    let a = and_parts (is_store (instruction_at is w).kind) (accesses (instruction_at is w) address) m.0 in
    let l = and_parts (leb (get_or is.addresses w 0) address) (ltb address (get_or is.addresses w 0 + get_or is.sizes w 0)) a.1 in
    omega (arith, leb-true (get_or is.addresses w 0) address l.0)

-- the bytes of a load
module _ (bytes : List ℕ) (x : Execution) (places : List ℕ) (i : ℕ) (kind : Kind) (k_is : kind ≡ kind_of (get_or x.instructions.kinds i 0)) where
  pub load_none : is_load kind ≡ false → false ≡ load_broken bytes x places i
  unfolding load_broken instruction_at
  load_none h = rw (← k_is, h)

  pub load_is : is_load kind ≡ true → (size : ℕ) → size ≡ get_or x.instructions.sizes i 0 → (b : Bool) → b ≡ any_below size (sight_broken bytes x places i)
      → b ≡ load_broken bytes x places i
  unfolding load_broken instruction_at
  load_is h size s b e = rw (← k_is, h, ← s) e
