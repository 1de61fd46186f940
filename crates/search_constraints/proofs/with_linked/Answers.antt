-- No mark, only operations before the RVs, and a store.
use mathlib.Core.Path.{sym, ap, ◌∙◌}
use mathlib.Core.Bool.{Bool, ◌||◌}
use Rattle.record_decoded.specs.Kinds.{meant}
use Rattle.search_sets.specs.Set.{holds}
use Rattle.search_constraints.specs.Rows.{remote_linked, local_linked}
use Rattle.search_constraints.proofs.RemoteLaws.{nothing_more, no_links, local_links, store_links, both_in}
use Rattle.search_constraints.proofs.with_linked.Goals as goal

pub returns-then-is_unlinked : goal.returns-then-is_unlinked
returns-then-is_unlinked c = λ a l.
    let g = c.args in
    nothing_more (holds g.set.lo g.set.hi a) (no_links g.marks g.processor g.first.0 g.processors g.role a (meant g.kind) (c.is_unlinked.ensures c.if-is_unlinked.true))

pub returns-then-not-is_store : goal.returns-then-not-is_store
returns-then-not-is_store c = λ a l.
    let g = c.args in
    c.with_local-local.ensures a l
    ∙ ap (λ (b : Bool). holds g.set.lo g.set.hi a || b)
    (sym (local_links g.marks g.processor g.first.0 g.processors g.role a (meant g.kind) (sym c.is_store.ensures ∙ c.if-not-is_store.true)))

pub returns : goal.returns
returns c = λ a l.
    let g = c.args in
    let k = meant g.kind in
    both_in (holds g.set.lo g.set.hi a) (local_linked g.marks k g.processor g.first.0 g.role a) (remote_linked g.marks k g.processor g.first.0 g.processors g.role a)
    (c.with_local-local.ensures a l) (c.with_remotes.ensures a l)
    (store_links g.marks g.processor g.first.0 g.processors g.role a k (sym c.is_store.ensures ∙ c.if-not-is_store.false))
