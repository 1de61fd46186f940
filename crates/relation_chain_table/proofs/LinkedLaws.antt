-- The links of an execution: the table's test of two operations is whether one of them leads to the other; their chain marks are the paths.
use Prim.Native.Nat.{ℕ, ◌<◌}
use native.Mathlib.Omega.{arith}
use mathlib.Core.Path.{◌≡◌, refl, sym, ap, ap₂, ◌∙◌}
use mathlib.Core.Bool.{Bool, true, false}
use mathlib.Core.List.Memᴰ
use mathlib.Core.List.{List, [], ◌∷◌, Memᴰ}
use Rattle.base.specs.Lists.{when, for}
use Rattle.base.proofs.Bools.{agree}
use Rattle.base.proofs.Lists.{of_for, in_for}
use Rattle.model.specs.Execution as model
use Rattle.model.specs.Execution.{Operation, operations, all_operations}
use Rattle.model.specs.Rules.{Link, links_of, linked}
use Rattle.model.specs.Chains.{leads}
use Rattle.model.specs.Accepted.{Consecutive, Accepted}
use Rattle.model.proofs.Numbers.{number_below}
use Rattle.record_decoded.specs.declared.types.Execution.{Execution}
use Rattle.record_decoded.specs.Decoded.{execution_of}
use Rattle.relation_links.specs.declared.operations.Operations.{Operations}
use Rattle.relation_links.specs.Operations.{operation_at}
use Rattle.relation_links.specs.Compiled.{CompiledIn}
use Rattle.relation_links.proofs.CompiledLaws.{operation_there, operation_numbered}
use Rattle.relation_links.specs.Linked.{linked_at}
use Rattle.relation_links.proofs.LinkedLaws.{linked_means}
use Rattle.relation_chain_table.specs.Paths.{Within, MarksArePaths}
use Rattle.relation_chain_table.proofs.PathLaws.{leads_link, link_leads, marks_are_paths}

of_when : {A : Type 0} {a : A} (b : Bool) {l : List A} → Memᴰ a (when b l) → (b ≡ true) × Memᴰ a l
unfolding when
of_when true m = (refl, m)
of_when false m = absurd (Memᴰ.not-nil m)

in_when : {A : Type 0} {a : A} {b : Bool} {l : List A} → b ≡ true → Memᴰ a l → Memᴰ a (when b l)
unfolding when
in_when {A} {a} {b} {l} h m = rw h m

module _ (e : model.Execution) where
  -- a link of a relation is between two operations that it links
  pub link_of_lem : (r : Operation → Operation → Bool) (a b : ℕ) → Memᴰ (a, b) (links_of e r)
      → (o : Operation) × (q : Operation) × Memᴰ o (all_operations e) × Memᴰ q (all_operations e) × (r o q ≡ true) × (o.number ≡ a) × (q.number ≡ b)
  unfolding links_of
  link_of_lem r a b m =
      let (o, mo, w) = of_for (λ o. for (all_operations e) (λ q. when (r o q) ((o.number, q.number) ∷ []))) (all_operations e) m in
      let (q, mq, v) = of_for (λ q. when (r o q) ((o.number, q.number) ∷ [])) (all_operations e) w in
      let (t, s) = of_when (r o q) v in
      let h = Memᴰ.eq_of_singleton s in
      (o, q, mo, mq, t, ap (λ (l : Link). l.0) (sym h), ap (λ (l : Link). l.1) (sym h))

  pub link_in : (r : Operation → Operation → Bool) {o q : Operation} → Memᴰ o (all_operations e) → Memᴰ q (all_operations e) → r o q ≡ true
      → Memᴰ (o.number, q.number) (links_of e r)
  unfolding links_of
  link_in r {o} {q} mo mq t =
      in_for (λ o. for (all_operations e) (λ q. when (r o q) ((o.number, q.number) ∷ []))) mo
      (in_for (λ q. when (r o q) ((o.number, q.number) ∷ [])) mq (in_when t (Memᴰ.head refl)))

  -- links are between operations
  pub links_within : (r : Operation → Operation → Bool) → Consecutive e.processors 0 0 e.instructions → Within (operations e) (links_of e r)
  unfolding operations all_operations
  links_within r l a b m =
      let (o, q, mo, mq, t, ea, eb) = link_of_lem r a b m in
      (omega (arith, number_below e.processors 0 0 e.instructions o l mo), omega (arith, number_below e.processors 0 0 e.instructions q l mq))

  -- mark (a, b) of an accepted execution's chain table is 1 exactly where a path of links leads from a to b
  pub chain_marks_are_paths : Accepted e → MarksArePaths (operations e) (links_of e (linked e))
  chain_marks_are_paths c = marks_are_paths (operations e) (links_of e (linked e)) (links_within (linked e) c.consecutive)

module _ {bytes : List ℕ} {x : Execution} {t : Operations} {marks : List (List ℕ)} (h : CompiledIn bytes x t marks) where
  module _ (consecutive : Consecutive (execution_of bytes x).processors 0 0 (execution_of bytes x).instructions) (a b : ℕ) (la : a < t.count) (lb : b < t.count) where
    abbrev e : model.Execution
    e = execution_of bytes x

    abbrev first : Operation
    first = operation_at x.instructions t a

    abbrev second : Operation
    second = operation_at x.instructions t b

    ma : Memᴰ first (all_operations e)
    ma = operation_there h a la

    mb : Memᴰ second (all_operations e)
    mb = operation_there h b lb

    -- the table's test is whether a link leads from a to b
    pub leads_here : linked_at x.instructions t marks a b ≡ leads (operations e) (links_of e (linked e)) a b
    unfolding operation_at
    leads_here =
        linked_means h consecutive a b la lb
        ∙ agree (linked e first second) (leads (operations e) (links_of e (linked e)) a b)
        (λ s. link_leads (operations e) (links_of e (linked e)) (link_in e (linked e) ma mb s))
        (λ s.
        let (o, q, mo, mq, w, ea, eb) = link_of_lem e (linked e) a b (leads_link (operations e) (links_of e (linked e)) a b s) in
        ap₂ (linked e)
        (ap (operation_at x.instructions t) (sym ea) ∙ operation_numbered h o mo)
        (ap (operation_at x.instructions t) (sym eb) ∙ operation_numbered h q mq)
        ∙ w)
