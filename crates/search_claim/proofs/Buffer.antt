-- A position written at the front of a buffer, and a part of a buffer put back where it was.
use Prim.Native.Nat.{ℕ, ◌+◌, ◌-◌, ◌<◌, ◌≤◌}
use native.Mathlib.Omega.{arith}
use native.Mathlib.Decide.{dec_lt}
use mathlib.Core.Path.{◌≡◌, sym, ap, ◌∙◌, subst}
use mathlib.Core.Bool.{cond}
use mathlib.Core.List.{List, ◌++◌}
use lib.ListN.{length, get_or, take, drop, length-append, length-drop, take-append-drop, get_or-append}
use lib.Seq.{get_or-append-add, get_or-drop, take-add}
use lib.Dec.{ltb}
use borrow.Author.Tests.{lt-ltb, le-ltb}
use Rattle.base.proofs.Lists.{getD_there}

module _ (position buffer : List ℕ) where
  abbrev pub written : List ℕ
  written = position ++ drop (length position) buffer

  pub written_length : length position ≤ length buffer → length written ≡ length buffer
  written_length h = simp (length-append, length-drop) (omega arith)

  pub written_byte : (i d : ℕ) → get_or written i 0 ≡ cond (ltb i (length position)) (get_or position i d) (get_or buffer i 0)
  written_byte i d = go (dec_lt i (length position))
    where
      go : Dec (i < length position) → get_or written i 0 ≡ cond (ltb i (length position)) (get_or position i d) (get_or buffer i 0)
      go (yes k) =
          rw (lt-ltb i (length position) k)
          (get_or-append position (drop (length position) buffer) 0 i k ∙ getD_there position i 0 d k)
      go (no k) =
          let e : length position + (i - length position) ≡ i = omega arith in
          rw (le-ltb i (length position) (omega arith))
          (subst (λ (j : ℕ). get_or written j 0 ≡ get_or buffer j 0) e
          (get_or-append-add position (drop (length position) buffer) (i - length position) 0 ∙ get_or-drop (length position) buffer (i - length position) 0))

-- a part and what stands before and after it
pub part_back : (index size : ℕ) (buffer : List ℕ) → take index buffer ++ take size (drop index buffer) ++ drop (index + size) buffer ≡ buffer
part_back index size buffer =
    ap (λ (l : List ℕ). l ++ drop (index + size) buffer) (sym (take-add index size buffer)) ∙ take-append-drop (index + size) buffer
