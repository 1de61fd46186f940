-- Sets of numbers below 128 as the bits of two words.
use Rattle.std.specs.Prelude.{◌≡◌, Bool, true, false, not, cond, ◌&&◌, Option, Some, None, ℕ, zero, suc, ◌+◌, ◌-◌, ◌<◌, ◌≤◌, eqb, ltb}
use Rattle.base.specs.Bits.{bit}

-- i is in the set of the words lo and hi
unfoldable pub holds : ℕ → ℕ → ℕ → Bool
holds lo hi i = cond (ltb i 64) (bit lo i) (bit hi (i - 64))

-- r is the lowest number from `from` on that passes, or `to` where none below `to` does
pub record LowestMember (p : ℕ → Bool) (from to r : ℕ) : Type 0 where
  pub within : r ≤ to
  pub onward : from ≤ r
  pub none : (i : ℕ) → from ≤ i → i < r → p i ≡ false
  pub here : r < to → p r ≡ true

-- the answer is the lowest number from `from` on that passes, of those below 128
abbrev pub FirstFrom : (ℕ → Bool) → ℕ → Option ℕ → Type 0
FirstFrom p from (Some r) = (r < 128) × LowestMember p from 128 r
FirstFrom p from None = LowestMember p from 128 128

-- m, the lowest member, is taken out of the set of the words lo and hi
pub record TakenOut (lo hi m lo' hi' : ℕ) : Type 0 where
  pub few : m < 128
  pub lowest : LowestMember (holds lo hi) 0 128 m
  pub left : (k : ℕ) → holds lo' hi' k ≡ (holds lo hi k && not (eqb k m))

-- the lowest member is taken out, or there is none
abbrev pub Takes : ℕ → ℕ → Option ℕ → ℕ → ℕ → Type 0
Takes lo hi (Some m) lo' hi' = TakenOut lo hi m lo' hi'
Takes lo hi None lo' hi' = LowestMember (holds lo hi) 0 128 128

-- how many numbers below n pass
unfoldable pub passing : ℕ → (ℕ → Bool) → ℕ
passing zero p = 0
passing (suc n) p = cond (p n) 1 0 + passing n p
