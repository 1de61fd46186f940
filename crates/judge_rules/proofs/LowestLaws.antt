-- The rules one after the other: the lowest that is broken.
use Prim.Native.Nat.{ℕ, zero, suc, ◌+◌, ◌-◌, ◌≤◌, ◌<◌}
use native.Mathlib.Omega.{arith}
use native.Mathlib.Numerals.{add-one}
use mathlib.Core.Path.{◌≡◌, refl, sym, ap, ◌∙◌, subst}
use mathlib.Core.Bool.{Bool, true, false, cond}
use mathlib.Core.List.{List, [], map}
use mathlib.Core.Option.{none, some}
use Rattle.std.specs.Prelude.{Option, Some, None, MatchOption}
use Rattle.judge_rules.specs.Lowest.{lowest_meant}
use lib.ListN.{length, get_or, drop, drop_of_length-le}
use lib.Seq.{drop-cons}
use Rattle.base.specs.Lists.{any}
use Rattle.model.specs.Execution.{Execution}
use Rattle.model.specs.Rules.{Claim, must, broken, links_of, rules, lowest_from, lowest_broken}
use Rattle.relation_links.specs.Links.{link_of}

-- the rules of links
pub link_rule : (e : Execution) (rule : ℕ) → 1 ≤ rule → rule ≤ 16 → (rule ≡ 9 → ⊥) → (rule ≡ 10 → ⊥) → (rule ≡ 11 → ⊥) → (rule ≡ 12 → ⊥) → (rule ≡ 14 → ⊥) → (rule ≡ 16 → ⊥)
    → get_or (rules e) (rule - 1) [] ≡ map must (links_of e (link_of e rule))
unfolding rules link_of
link_rule e zero a b p q r s t u = absurd (omega arith)
link_rule e (suc zero) a b p q r s t u = refl
link_rule e (suc (suc zero)) a b p q r s t u = refl
link_rule e (suc (suc (suc zero))) a b p q r s t u = refl
link_rule e (suc (suc (suc (suc zero)))) a b p q r s t u = refl
link_rule e (suc (suc (suc (suc (suc zero))))) a b p q r s t u = refl
link_rule e (suc (suc (suc (suc (suc (suc zero)))))) a b p q r s t u = refl
link_rule e (suc (suc (suc (suc (suc (suc (suc zero))))))) a b p q r s t u = refl
link_rule e (suc (suc (suc (suc (suc (suc (suc (suc zero)))))))) a b p q r s t u = refl
link_rule e (suc (suc (suc (suc (suc (suc (suc (suc (suc zero))))))))) a b p q r s t u = absurd (p refl)
link_rule e (suc (suc (suc (suc (suc (suc (suc (suc (suc (suc zero)))))))))) a b p q r s t u = absurd (q refl)
link_rule e (suc (suc (suc (suc (suc (suc (suc (suc (suc (suc (suc zero))))))))))) a b p q r s t u = absurd (r refl)
link_rule e (suc (suc (suc (suc (suc (suc (suc (suc (suc (suc (suc (suc zero)))))))))))) a b p q r s t u = absurd (s refl)
link_rule e (suc (suc (suc (suc (suc (suc (suc (suc (suc (suc (suc (suc (suc zero))))))))))))) a b p q r s t u = refl
link_rule e (suc (suc (suc (suc (suc (suc (suc (suc (suc (suc (suc (suc (suc (suc zero)))))))))))))) a b p q r s t u = absurd (t refl)
link_rule e (suc (suc (suc (suc (suc (suc (suc (suc (suc (suc (suc (suc (suc (suc (suc zero))))))))))))))) a b p q r s t u = refl
link_rule e (suc (suc (suc (suc (suc (suc (suc (suc (suc (suc (suc (suc (suc (suc (suc (suc k)))))))))))))))) a b p q r s t u = absurd (u (omega arith))

sixteen : (e : Execution) → length (rules e) ≡ 16
unfolding rules
sixteen e = refl

-- rule k + 1 by its index
pub at_index : (e : Execution) (xs : List ℕ) (k : ℕ) → any (broken xs) (get_or (rules e) k []) ≡ any (broken xs) (get_or (rules e) (k + 1 - 1) [])
at_index e xs k = ap (λ (j : ℕ). any (broken xs) (get_or (rules e) j [])) (omega arith)

-- The invariant: the first k rules are kept, so what follows decides.
pub record Decided (e : Execution) (xs : List ℕ) (k : ℕ) : Type 0 where
  pub rest : lowest_broken e xs ≡ lowest_from (suc k) (drop k (rules e)) xs

pub decided_first : (e : Execution) (xs : List ℕ) → Decided e xs 0
unfolding lowest_broken
decided_first e xs = record { rest = refl }

module _ {e : Execution} {xs : List ℕ} {k : ℕ} (inv : Decided e xs k) where
  next : k < 16 → lowest_broken e xs ≡ cond (any (broken xs) (get_or (rules e) k [])) (some (suc k)) (lowest_from (suc (suc k)) (drop (suc k) (rules e)) xs)
  unfolding lowest_from
  next l = inv.rest ∙ ap (λ (r : List (List Claim)). lowest_from (suc k) r xs) (drop-cons (rules e) k [] (omega (arith, sixteen e)))

  -- rule k + 1 is broken
  pub decided_broken : k < 16 → any (broken xs) (get_or (rules e) k []) ≡ true → some (k + 1) ≡ lowest_broken e xs
  decided_broken l h =
      sym (next l ∙ ap (λ (b : Bool). cond b (some (suc k)) (lowest_from (suc (suc k)) (drop (suc k) (rules e)) xs)) h ∙ ap some (let z : suc k ≡ k + 1 = omega arith in z))

  -- it is kept
  pub decided_more : k < 16 → any (broken xs) (get_or (rules e) k []) ≡ false → Decided e xs (k + 1)
  decided_more l h = record {
    rest = next l ∙ ap (λ (b : Bool). cond b (some (suc k)) (lowest_from (suc (suc k)) (drop (suc k) (rules e)) xs)) h
        ∙ ap (λ (j : ℕ). lowest_from (suc j) (drop j (rules e)) xs) (let z : suc k ≡ k + 1 = omega arith in z);
  }

  -- all are kept
  pub decided_none : 16 ≤ k → none ≡ lowest_broken e xs
  unfolding lowest_from
  decided_none h = sym (inv.rest ∙ ap (λ (r : List (List Claim)). lowest_from (suc k) r xs) (drop_of_length-le (rules e) {i = k} (omega (arith, sixteen e))))

module _ (e : Execution) (xs : List ℕ) where
  abbrev pub breaks : ℕ → Bool
  breaks rule = any (broken xs) (get_or (rules e) (rule - 1) [])

  -- the first k rules are kept
  decided_at : (k : ℕ) → k ≤ 16 → ((rule : ℕ) → 1 ≤ rule → rule < k + 1 → breaks rule ≡ false) → Decided e xs k
  decided_at zero l h = decided_first e xs
  decided_at (suc k) l h =
      subst (Decided e xs) (add-one k) (decided_more (decided_at k (omega arith) (λ rule a b. h rule a (omega arith))) (omega arith) (at_index e xs k ∙ h (k + 1) (omega arith) (omega arith)))

  -- the first that is broken
  pub lowest_is : (r : Option ℕ)
      → MatchOption r ((rule : ℕ) → 1 ≤ rule → rule < 17 → breaks rule ≡ false) (λ i. (1 ≤ i) × (i < 17) × (breaks i ≡ true) × ((rule : ℕ) → 1 ≤ rule → rule < i → breaks rule ≡ false))
      → lowest_meant r ≡ lowest_broken e xs
  lowest_is None kept = decided_none (decided_at 16 (omega arith) kept) (omega arith)
  lowest_is (Some zero) (a, b, h, kept) = absurd (omega arith)
  lowest_is (Some (suc k)) (a, b, h, kept) =
      ap some (sym (add-one k)) ∙ decided_broken (decided_at k (omega arith) (λ rule l m. kept rule l (omega arith))) (omega arith) (at_index e xs k ∙ ap breaks (add-one k) ∙ h)
