-- The word that was there, and the word with the bits written anew.
use mathlib.Core.Path.{ap}
use Prim.Native.Nat.{ℕ}
use lib.ListN.{get_or}
use Rattle.search_admit.proofs.TestLaws.{written}
use Rattle.search_admit.proofs.write_word.Goals as goal

pub returns : goal.returns
returns c =
    let a = c.args in
    (ap (λ (v : ℕ). get_or a.words.now v 0) c.word_of-at.ensures.0, written a.rows.now a.words.now a.x.0 a.h c.word_of-at.ensures.0 c.field_of.ensures c.field_of-2.ensures)
