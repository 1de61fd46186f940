-- Those from the place on are one further on, and the processor stands at the place.
use Prim.Native.Nat.{ℕ, ◌+◌}
use native.Mathlib.Omega.{arith}
use mathlib.Core.Path.{◌≡◌, ap, ◌∙◌}
use mathlib.Core.List.{List}
use lib.ListN.{length, take, set}
use Rattle.record_form.proofs.SortLaws.{put_among}
use borrow.Author.Rules.{rules}
use Rattle.record_form.proofs.sort.inserted.Goals as goal

pub copy_bytes-requires : goal.copy_bytes-requires
copy_bytes-requires c =
    let a = c.args in
    let long : length a.order.processors ≡ 8 = search rules in
    (omega (arith, c.requires), omega (arith, c.requires))

pub returns : goal.returns
returns c =
    let a = c.args in
    let long : length a.order.processors ≡ 8 = search rules in
    (ap (λ (l : List ℕ). take (a.n + 1) (set l a.at a.n)) c.copy_bytes.ensures ∙ put_among a.order.processors a.n a.at a.n (omega (arith, c.requires)) (omega (arith, c.requires)), search rules)
