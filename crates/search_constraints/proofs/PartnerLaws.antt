-- Which operations are RVs of one release to WB.
use Prim.Native.Nat.{ℕ, ◌-◌, zero, suc, ◌≤◌, ◌<◌}
use native.Mathlib.Omega.{arith}
use mathlib.Core.Path.{◌≡◌, refl, sym, ap, ◌∙◌, subst}
use mathlib.Core.Bool.{Bool, true, false, not, ◌&&◌, and-false}
use mathlib.Core.List.Memᴰ
use mathlib.Core.List.{List, Memᴰ}
use lib.ListN.{get_or}
use lib.Dec.{eqb, ltb}
use borrow.Author.Tests.{eq-eqb, le-ltb, ltb-false, not-true, not-false, lt-ltb}
use Rattle.base.specs.Lists.{member}
use Rattle.base.proofs.Bools.{agree, and_parts, and_both, eqb_swap}
use Rattle.base.proofs.Bits.{bit_packed}
use Rattle.base.proofs.Lists.{any_witness, any_member, in_keep, of_keep, member_in, in_member, member_any}
use Rattle.base.proofs.Tests.{any_below_same, any_numbered}
use Rattle.model.specs.Execution as model
use Rattle.model.specs.Execution.{Kind, is_store, is_release, Instruction, Role, R, LV, F, RV, roles, number_of, stores, every_processor}
use Rattle.model.specs.Rules.{in_WB, remote_of}
use Rattle.model.specs.Accepted.{Accepted}
use Rattle.model.proofs.Ownership.{RV_of, RV_in, operation_role, one_owner, processor_in}
use Rattle.record_decoded.specs.Kinds.{role_numbered}
use Rattle.record_decoded.specs.declared.types.Execution.{Execution}
use Rattle.record_decoded.specs.Decoded.{instruction_at, execution_of}
use Rattle.relation_marks.specs.Marks.{has_mark, mark_at, marks_of, marks_between}
use Rattle.relation_links.specs.declared.operations.Operations.{Operations}
use Rattle.relation_links.specs.Compiled.{CompiledIn}
use Rattle.relation_links.proofs.CompiledLaws.{owner_there, owner_in, role_in, number_is}
use Rattle.model.proofs.Numbers.{before_remotes_lem}
use Rattle.model.proofs.Roles.{RV_few}
use Rattle.record_decoded.proofs.RoleNumbers.{role_RV}
use Rattle.search_admit.specs.Rows.{partner}
use Rattle.search_constraints.specs.Rows.{is_remote, partner_of}

-- only an RV has the number of one
past_first : (i : Instruction) (k q : ℕ) → number_of i (role_numbered k) ≡ number_of i (RV q) → not (ltb k 3) ≡ true
past_first i zero q h = absurd (omega (arith, before_remotes_lem i.kind R refl))
past_first i (suc zero) q h = absurd (omega (arith, before_remotes_lem i.kind LV refl))
past_first i (suc (suc zero)) q h = absurd (omega (arith, before_remotes_lem i.kind F refl))
past_first i (suc (suc (suc r))) q h = ap not (le-ltb (suc (suc (suc r))) 3 (omega arith))

-- a number among those of a store's RVs
module _ (e : model.Execution) (w : Instruction) where
  in_remotes : (q : ℕ) → q < e.processors → member (remote_of e w) (number_of w (RV q)) ≡ true
  unfolding remote_of
  in_remotes q l = in_member (Memᴰ.map (λ q. number_of w (RV q)) (processor_in e q l))

-- the parts of the test by the tables
module _ (marks role : ℕ) (kind : Kind) (first processors a : ℕ) where
  pub no_remote : role < 3 → false ≡ partner_of marks role kind first processors a
  unfolding partner_of
  no_remote l = sym (rw (lt-ltb role 3 l) refl)

  module _ {r : Bool} (f : r ≡ has_mark marks 512) where
    pub no_atomic : not r ≡ true → false ≡ partner_of marks role kind first processors a
    unfolding partner_of
    no_atomic n = sym (rw (sym f ∙ not-true r n) (and-false (not (ltb role 3))))

    pub atomic_remotes : 3 ≤ role → not r ≡ false → is_remote kind first processors a ≡ partner_of marks role kind first processors a
    unfolding partner_of
    atomic_remotes l n = sym (rw (le-ltb role 3 l, sym f ∙ not-false r n) refl)

-- the tables of an execution
module _ {bytes : List ℕ} {x : Execution} {t : Operations} {marks : List (List ℕ)} (h : CompiledIn bytes x t marks) (accepted : Accepted (execution_of bytes x)) where
  module _ (o : ℕ) (there : o < t.count) where
    abbrev owner : Instruction
    owner = instruction_at x.instructions (get_or t.owners o 0)

    -- the mark of a release to WB
    atomic : has_mark (mark_at marks (get_or t.owners o 0) (get_or t.owners o 0)) 512 ≡ (is_store owner.kind && (is_release owner.kind && in_WB (execution_of bytes x) owner))
    unfolding marks_between marks_of
    atomic =
        ap (λ (k : ℕ). has_mark k 512) (h.marked (get_or t.owners o 0) (get_or t.owners o 0) (owner_there h o there) (owner_there h o there))
        ∙ bit_packed (marks_of (execution_of bytes x) owner owner) 9
        ∙ ap (λ (b : Bool). b && (is_store owner.kind && (is_release owner.kind && in_WB (execution_of bytes x) owner))) (eq-eqb owner.number owner.number refl)

    module _ (mark : has_mark (mark_at marks (get_or t.owners o 0) (get_or t.owners o 0)) 512 ≡ true) where
      owner_store : Memᴰ owner (stores (execution_of bytes x))
      unfolding stores
      owner_store =
          in_keep (λ i. is_store i.kind) (owner_in h o there) (and_parts (is_store owner.kind) (is_release owner.kind && in_WB (execution_of bytes x) owner) (sym atomic ∙ mark)).0

    same_remotes : (a : ℕ) → is_remote owner.kind owner.first x.processors a ≡ member (remote_of (execution_of bytes x) owner) a
    unfolding is_remote remote_of every_processor execution_of
    same_remotes a =
        any_below_same _ _ x.processors (λ q l. eqb_swap a (number_of owner (RV q)))
        ∙ sym (member_any (remote_of (execution_of bytes x) owner) a ∙ any_numbered (λ b. eqb b a) (λ q. number_of owner (RV q)) x.processors)

    module _ (a : ℕ) where
      -- what the tables say of o and a
      abbrev by_tables : Bool
      by_tables =
          partner_of (mark_at marks (get_or t.owners o 0) (get_or t.owners o 0)) (get_or t.roles o 0)
          owner.kind owner.first x.processors a

      abbrev atomic_with : Instruction → Bool
      atomic_with w =
          is_release w.kind && in_WB (execution_of bytes x) w && (member (remote_of (execution_of bytes x) w) o && member (remote_of (execution_of bytes x) w) a)

      -- by the tables: o's instruction is a release to WB, and o one of its RVs
      tables_say : by_tables ≡ true → partner bytes x o a ≡ true
      unfolding partner_of partner
      tables_say k =
          let (k1, k2) = and_parts _ _ k in
          let (mark, k3) = and_parts _ _ k2 in
          let (is_Is_store, k4) = and_parts (is_store owner.kind) (is_release owner.kind && in_WB (execution_of bytes x) owner) (sym atomic ∙ mark) in
          let q = get_or t.roles o 0 - 3 in
          let r = role_RV (get_or t.roles o 0) (ltb-false (get_or t.roles o 0) 3 (not-true (ltb (get_or t.roles o 0) 3) k1)) in
          let l : q < (execution_of bytes x).processors = RV_few (execution_of bytes x).processors q owner.kind (subst (λ (s : Role). Memᴰ s (roles (execution_of bytes x).processors owner.kind)) r (role_in h o there)) in
          let n : number_of owner (RV q) ≡ o = sym (number_is h o there ∙ ap (number_of owner) r) in
          any_member atomic_with (owner_store mark)
          (and_both k4
          (and_both (subst (λ (b : ℕ). member (remote_of (execution_of bytes x) owner) b ≡ true) n (in_remotes (execution_of bytes x) owner q l))
          (sym (same_remotes a) ∙ k3)))

      -- by the rules: a release to WB that has o among its RVs is o's instruction
      rules_say : partner bytes x o a ≡ true → by_tables ≡ true
      unfolding partner_of partner stores
      rules_say k =
          let (w, mw, k1) = any_witness atomic_with (stores (execution_of bytes x)) k in
          let (k2, k3) = and_parts (is_release w.kind && in_WB (execution_of bytes x) w) _ k1 in
          let (k4, k5) = and_parts (member (remote_of (execution_of bytes x) w) o) _ k3 in
          let (q, l, n) = RV_of (execution_of bytes x) w (member_in _ o k4) in
          let (iw, sw) = of_keep (λ i. is_store i.kind) (execution_of bytes x).instructions mw in
          let same : w ≡ owner = one_owner (execution_of bytes x) accepted iw (owner_in h o there) (operation_role (execution_of bytes x) _ (RV_in (execution_of bytes x) mw q l)) (role_in h o there) (n ∙ (number_is h o there)) in
          let mark : has_mark (mark_at marks (get_or t.owners o 0) (get_or t.owners o 0)) 512 ≡ true =
          atomic ∙ subst (λ (i : Instruction). (is_store i.kind && (is_release i.kind && in_WB (execution_of bytes x) i)) ≡ true) same (and_both sw k2) in
          and_both
          (past_first owner (get_or t.roles o 0) q (sym (number_is h o there) ∙ sym n ∙ ap (λ (i : Instruction). number_of i (RV q)) same))
          (and_both mark
          (same_remotes a ∙ subst (λ (i : Instruction). member (remote_of (execution_of bytes x) i) a ≡ true) same k5))

      -- the RVs of o's instruction, where o is one of them
      pub partner_means : by_tables ≡ partner bytes x o a
      partner_means = agree (by_tables) (partner bytes x o a) tables_say rules_say
