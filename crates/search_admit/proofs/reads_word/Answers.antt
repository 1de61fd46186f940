-- One word: the bits that are read agree.
use Prim.Native.Nat.{ℕ, ◌+◌, ◌%◌}
use mathlib.Core.Path.{ap, ◌∙◌}
use lib.ListN.{get_or}
use Rattle.search_admit.proofs.TestLaws.{agrees_by}
use Rattle.search_admit.proofs.reads_word.Goals as goal

pub returns : goal.returns
returns c =
    let a = c.args in
    agrees_by a.rows.now a.words.now a.x.0 a.h a.local c.agrees.ensures
    (ap (λ (v : ℕ). get_or a.words.now v 0) (c.own_of-own.ensures.0 ∙ ap (λ (v : ℕ). (v + 64) % 128) c.requires.3))
    (ap (λ (v : ℕ). get_or a.words.now v 0) c.requires.3) c.field_of-data.ensures c.field_of-bits.ensures
