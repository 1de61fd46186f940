-- The word is put back where it was.
use Prim.Native.Nat.{ℕ, ◌+◌, ◌*◌}
use mathlib.Core.Path.{ap}
use lib.ListN.{get_or, set}
use Rattle.search_admit.proofs.put_back.Goals as goal

pub returns : goal.returns
returns c =
    let a = c.args in
    ap (λ (at : ℕ). set a.words.now at (get_or a.replaced.now (2 * a.k + a.h) 0)) c.word_of-at.ensures.0
