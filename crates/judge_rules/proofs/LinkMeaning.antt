-- The tests of rules 1 to 8, 13 and 15 over tables say what the rules say.
use Prim.Native.Nat.{ℕ, ◌<◌}
use mathlib.Core.Path.{◌≡◌, sym, ap, ap₂, ◌∙◌}
use mathlib.Core.Bool.{Bool, ◌&&◌, and_comm}
use mathlib.Core.List.{List, [], ◌∷◌, map}
use lib.ListN.{get_or}
use Rattle.base.specs.Lists.{any, when, for}
use Rattle.base.proofs.Lists.{any_same, any_for, any_map, any_when, any_one}
use Rattle.base.proofs.Tests.{any_numbered, any_below_same}
use Rattle.model.specs.Execution as model
use Rattle.model.specs.Execution.{all_operations}
use Rattle.model.specs.Rules.{before, Link, must, broken, links_of}
use Rattle.record_decoded.specs.declared.types.Execution.{Execution}
use Rattle.record_decoded.specs.Decoded.{instruction_at, execution_of}
use Rattle.relation_places.specs.Places.{Placed}
use Rattle.relation_places.proofs.PlaceLaws.{before_placed}
use Rattle.relation_links.specs.declared.operations.Operations.{Operations}
use Rattle.relation_links.specs.Operations.{operation_at, table_of}
use Rattle.relation_links.specs.Links.{link_of, link_by}
use Rattle.model.proofs.Ownership.{operation_role}
use Rattle.relation_links.proofs.LinkLaws.{link_means}
use Rattle.relation_links.proofs.CompiledLaws.{operation_there, owner_there}
use Rattle.judge_rules.specs.Tests.{stands_against, links_broken}
use Rattle.relation_links.specs.Compiled.{CompiledIn}

-- the links of a relation that a prefix breaks
links_broken_lem : (e : model.Execution) (link : model.Operation → model.Operation → Bool) (xs : List ℕ)
    → any (broken xs) (map must (links_of e link)) ≡ any (λ a. any (λ b. link a b && before xs b.number a.number) (all_operations e)) (all_operations e)
unfolding broken links_of
links_broken_lem e link xs =
    any_map (broken xs) must (links_of e link)
    ∙ any_for against (all_operations e) (λ a. for (all_operations e) (λ b. when (link a b) ((a.number, b.number) ∷ [])))
    ∙ any_same _ _ (all_operations e) (λ a m. any_for against (all_operations e) (λ b. when (link a b) ((a.number, b.number) ∷ []))
    ∙ any_same _ _ (all_operations e) (λ b k. any_when against (link a b) ((a.number, b.number) ∷ [])
    ∙ ap (λ (t : Bool). link a b && t) (any_one against (a.number, b.number))))
  where
    against : Link → Bool
    against l = before xs l.1 l.0

module _ {bytes : List ℕ} {x : Execution} {t : Operations} {marks : List (List ℕ)} (h : CompiledIn bytes x t marks) where
  abbrev e : model.Execution
  e = execution_of bytes x

  module _ {n : ℕ} {xs places : List ℕ} (p : Placed n xs places) (rule : ℕ) where
    -- two operations
    stands_mean : (a b : ℕ) → a < t.count → b < t.count
        → stands_against places rule t.owners t.roles x.instructions.processors marks (get_or t.owners a 0) a b
        ≡ (link_of e rule (operation_at x.instructions t a) (operation_at x.instructions t b) && before xs b a)
    unfolding stands_against operation_at instruction_at
    stands_mean a b la lb =
        ap₂ ◌&&◌ (sym (before_placed p b a))
        (ap (λ (m : ℕ). link_by rule m (get_or x.instructions.processors (get_or t.owners a 0) 0) (operation_at x.instructions t a).role (operation_at x.instructions t b).role)
        (h.marked (get_or t.owners a 0) (get_or t.owners b 0) (owner_there h a la) (owner_there h b lb))
        ∙ link_means e rule e.processors (operation_at x.instructions t a) (operation_at x.instructions t b)
        (operation_role e (operation_at x.instructions t a) (operation_there h a la)) (operation_role e (operation_at x.instructions t b) (operation_there h b lb))
        (λ q. ap (λ (k : ℕ). get_or x.instructions.processors k 0) q))
        ∙ and_comm (before xs b a) (link_of e rule (operation_at x.instructions t a) (operation_at x.instructions t b))

    -- rules 1 to 8, 13 and 15
    pub links_mean : links_broken places rule t.count t.owners t.roles x.instructions.processors marks ≡ any (broken xs) (map must (links_of e (link_of e rule)))
    unfolding links_broken table_of operation_at
    links_mean =
        any_below_same _ _ t.count (λ a la. any_below_same _ _ t.count (λ b lb. stands_mean a b la lb))
        ∙ sym (links_broken_lem e (link_of e rule) xs
        ∙ ap (λ (l : List model.Operation). any (λ a. any (λ b. link_of e rule a b && before xs b.number a.number) l) l) (sym h.tabled.holds)
        ∙ any_numbered (λ a. any (λ b. link_of e rule a b && before xs b.number a.number) (table_of x.instructions t)) (operation_at x.instructions t) t.count
        ∙ any_below_same _ _ t.count (λ a la. any_numbered (λ b. link_of e rule (operation_at x.instructions t a) b && before xs b.number a) (operation_at x.instructions t) t.count))
