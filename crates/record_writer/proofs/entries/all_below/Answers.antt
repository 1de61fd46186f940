-- Every entry is asked.
use Prim.Native.Nat.{ℕ}
use mathlib.Core.Path.{refl, ◌∙◌}
use mathlib.Core.List.{List}
use lib.ListN.{get_or}
use lib.Dec.{ltb}
use borrow.Author.Tests.{tests}
use Rattle.std.proofs.Common.{rules}
use Rattle.std.proofs.lemmas.Iterator.Consumers.{YieldsList-from_first}
use Rattle.std.proofs.lemmas.Iterator.Search.{all_from_yields_List}
use Rattle.model.specs.Sections.{entries_of}
use Rattle.record_writer.proofs.WalkLaws.{below_law}
use Rattle.record_writer.proofs.entries.all_below.Goals as goal

pub returns : goal.returns
returns c =
    all_from_yields_List (λ (e : List ℕ). ltb (get_or e 0 0) c.args.processors) c.all.new.self _ c.all.result c.all.ensures.ran
    (YieldsList-from_first (λ x. x.now) (λ s. entries_of s.rest.now) {s = c.entries_of.result} _ c.entries_of.ensures) (λ x b q k. search (rules, tests))
    ∙ below_law c.args.processors c.args.part.now
