-- The tests over tables say of every rule whether a prefix breaks it.
use Prim.Native.Nat.{ℕ, ◌-◌, ◌≤◌, ◌<◌}
use native.Mathlib.Omega.{arith}
use native.Mathlib.Decide.{dec_lt}
use mathlib.Core.Path.{◌≡◌, sym, ap, ◌∙◌}
use mathlib.Core.Bool.{Bool}
use mathlib.Core.List.{List, []}
use lib.ListN.{get_or}
use Rattle.base.specs.Lists.{any}
use Rattle.model.specs.Execution as model
use Rattle.model.specs.Rules.{broken, rule11, rules}
use Rattle.record_decoded.specs.declared.types.Execution.{Execution}
use Rattle.record_decoded.specs.Decoded.{execution_of}
use Rattle.relation_places.specs.Places.{Placed}
use Rattle.relation_links.specs.declared.operations.Operations.{Operations}
use Rattle.judge_rules.specs.Tests.{pairs_broken, links_broken}
use Rattle.relation_links.specs.Compiled.{CompiledIn}
use Rattle.judge_rules.proofs.LinkMeaning.{links_mean}
use Rattle.judge_rules.proofs.PairMeaning.{rule9_means, rule10_means, rule12_means, rule14_means, rule16_means}
use Rattle.judge_rules.proofs.LowestLaws.{link_rule}

module _ {bytes : List ℕ} {x : Execution} {t : Operations} {marks : List (List ℕ)} (h : CompiledIn bytes x t marks) {n : ℕ} {xs places : List ℕ} (p : Placed n xs places) (rule : ℕ) where
  abbrev e : model.Execution
  e = execution_of bytes x

  -- the claims of the rule
  abbrev breaks : ℕ → Bool
  breaks k = any (broken xs) (get_or (rules e) (k - 1) [])

  abbrev pairs : ℕ → Bool
  pairs k = pairs_broken places k x.instructions marks t.count x.processors

  by_number : (k : ℕ) → rule ≡ k → pairs k ≡ breaks k → pairs rule ≡ breaks rule
  by_number k q m = ap pairs q ∙ m ∙ ap breaks (sym q)

  pub means9 : rule ≡ 9 → pairs rule ≡ breaks rule
  unfolding rules
  means9 q = by_number 9 q (rule9_means bytes x h p t.count)

  pub means10 : rule ≡ 10 → pairs rule ≡ breaks rule
  unfolding rules
  means10 q = by_number 10 q (rule10_means bytes x h p t.count)

  pub means11 : rule ≡ 11 → any (broken xs) (rule11 e) ≡ breaks rule
  unfolding rules
  means11 q = ap breaks (sym q)

  pub means12 : rule ≡ 12 → pairs rule ≡ breaks rule
  unfolding rules
  means12 q = by_number 12 q (ap (λ (N : ℕ). pairs_broken places 12 x.instructions marks N x.processors) h.tabled.counts ∙ rule12_means bytes x h p)

  pub means14 : rule ≡ 14 → pairs rule ≡ breaks rule
  unfolding rules
  means14 q = by_number 14 q (rule14_means bytes x h p t.count)

  pub means16 : rule ≡ 16 → pairs rule ≡ breaks rule
  unfolding rules
  means16 q = by_number 16 q (rule16_means bytes x h p t.count)

  -- rules 9, 10, 12, 14 and 16
  pub means_pairs : 9 ≤ rule → rule ≤ 16 → (rule ≡ 11 → ⊥) → (rule ≡ 13 → ⊥) → (rule ≡ 15 → ⊥) → pairs rule ≡ breaks rule
  means_pairs low high c11 c13 c15 = go (dec_lt rule 10) (dec_lt rule 11) (dec_lt rule 13) (dec_lt rule 15)
    where
      go : Dec (rule < 10) → Dec (rule < 11) → Dec (rule < 13) → Dec (rule < 15) → pairs rule ≡ breaks rule
      go (yes a) d11 d13 d15 = means9 (omega arith)
      go (no a) (yes b) d13 d15 = means10 (omega arith)
      go (no a) (no b) (yes d) d15 = means12 (omega (arith, c11))
      go (no a) (no b) (no d) (yes f) = means14 (omega (arith, c13))
      go (no a) (no b) (no d) (no f) = means16 (omega (arith, c15))

  pub means_links : 1 ≤ rule → rule ≤ 16 → (rule ≡ 9 → ⊥) → (rule ≡ 10 → ⊥) → (rule ≡ 11 → ⊥) → (rule ≡ 12 → ⊥) → (rule ≡ 14 → ⊥) → (rule ≡ 16 → ⊥)
      → links_broken places rule t.count t.owners t.roles x.instructions.processors marks ≡ breaks rule
  means_links a b c9 c10 c11 c12 c14 c16 = links_mean h p rule ∙ ap (any (broken xs)) (sym (link_rule e rule a b c9 c10 c11 c12 c14 c16))
