-- The marks of the chain table bind the orders, and none is missing.
use Prim.Native.Nat.{ℕ, ◌*◌, ◌<◌, ◌≤◌}
use native.Mathlib.Omega.{arith}
use mathlib.Core.Path.{◌≡◌, refl, sym, ◌∙◌}
use mathlib.Core.Bool.{Bool, true, false, cond, ◌||◌}
use mathlib.Core.List.{List, Memᴰ}
use mathlib.Core.Logic.{◌⊎◌, inl, inr, ⊎_elim}
use lib.ListN.{length}
use lib.Dec.{eqb}
use borrow.Author.Tests.{eq-eqb, eqb-true, ne_eqb}
use Rattle.base.specs.Lists.{member}
use Rattle.base.proofs.Bools.{clash, or_right, or_cases}
use Rattle.model.specs.Execution.{Execution, operations}
use Rattle.model.specs.Questions.{found, read_record}
use Rattle.model.specs.Rules.{Link, before, links_of, linked}
use Rattle.model.specs.Chains.{reached_by, chain_mark}
use Rattle.model.specs.Accepted.{Accepted}
use Rattle.model.specs.Calls.{table_call}
use Rattle.model.proofs.Accepted.{accepted, read_found}
use Rattle.model.proofs.Before.{before_not_after}
use Rattle.relation_chain_table.specs.Paths.{Path, one, more}
use Rattle.relation_chain_table.proofs.LinkedLaws.{links_within, chain_marks_are_paths}
use Rattle.relation_chain_table.proofs.CallLaws.{table_done, mark_left}
use Rattle.chains_claim.specs.ChainsBind.{LinearExtension, Binds, ChainsBind}
use Rattle.chains_claim.proofs.Rules.{rule_link}
use Rattle.chains_claim.proofs.Ranks.{rank_at, rank_rises}
use Rattle.chains_claim.proofs.LegalOrders.{path_kept, legal_keeps}
use Rattle.chains_claim.proofs.Extensions.{path_rises, extension}

module _ (e : Execution) (c : Accepted e) where
  abbrev n : ℕ
  n = operations e

  abbrev links : List Link
  links = links_of e (linked e)

  zero_or_one : (a b : ℕ) → (chain_mark n links a b ≡ 0) ⊎ (chain_mark n links a b ≡ 1)
  unfolding chain_mark
  zero_or_one a b = go (member (reached_by n links n a) b)
    where
      go : (t : Bool) → (◌≡◌ {A = ℕ} (cond t 1 0) 0) ⊎ (◌≡◌ {A = ℕ} (cond t 1 0) 1)
      go true = inr refl
      go false = inl refl

  -- no path comes back
  diagonal : (a : ℕ) → a < n → chain_mark n links a a ≡ 0
  diagonal a l =
      ⊎_elim (λ h. h) (λ h. absurd (omega (arith, path_rises links (rank_at e c) (rank_rises e c) ((chain_marks_are_paths e c a a l l).0 h)))) (zero_or_one a a)

  -- b and the operations from which paths lead to it
  leads_to : ℕ → ℕ → Bool
  leads_to b x = eqb x b || eqb (chain_mark n links x b) 1

  leads_back : (b : ℕ) → b < n → (x y : ℕ) → Memᴰ (x, y) links → leads_to b y ≡ true → leads_to b x ≡ true
  unfolding leads_to
  leads_back b l x y m h =
      let (lx, ly) = links_within e (linked e) c.consecutive x y m in
      let path : Path links x b =
      or_cases (eqb y b) (eqb (chain_mark n links y b) 1) h
      (λ t. one (rw (eqb-true y b t) at m))
      (λ t. more m ((chain_marks_are_paths e c y b ly l).0 (eqb-true (chain_mark n links y b) 1 t))) in
      or_right (eqb x b) (eqb (chain_mark n links x b) 1) (eq-eqb (chain_mark n links x b) 1 ((chain_marks_are_paths e c x b lx l).1 path))

  -- some linear extension puts b before a
  abbrev Extends : ℕ → ℕ → Type 0
  Extends b a = (order : List ℕ) × LinearExtension e order × (before order b a ≡ true)

  not_bound : (a b : ℕ) → b < n → (a ≡ b → ⊥) → chain_mark n links a b ≡ 0 → Extends b a
  unfolding leads_to
  not_bound a b l other h =
      let (order, o, kept, turned) = extension links (rank_at e c) (rank_rises e c) n (links_within e (linked e) c.consecutive) a b l
      (leads_to b) (leads_back b l) (rw (eq-eqb b b refl)) (rw (ne_eqb a b other, h)) in
      (order, (o, λ link ml x y m. kept x y (rule_link e ml x y m)), turned)

  no_mark : (a b : ℕ) → a < n → b < n → Extends b a → chain_mark n links a b ≡ 0
  no_mark a b la lb (order, (o, keeps), turned) =
      ⊎_elim (λ h. h)
      (λ h. clash (path_kept e order keeps ((chain_marks_are_paths e c a b la lb).0 h)) (before_not_after order b a turned))
      (zero_or_one a b)

module _ (bytes table : List ℕ) (e : Execution) (rest : List ℕ) (read : read_record bytes ≡ found e rest) (room : operations e * operations e ≤ length table) where
  binds : Binds bytes e (table_call bytes table).table
  binds =
      let c = accepted bytes e rest read in
      let left = mark_left bytes table e rest read room in
      record {
        zero_or_one = λ a b la lb. ⊎_elim (λ h. inl (left a b la lb ∙ h)) (λ h. inr (left a b la lb ∙ h)) (zero_or_one e c a b);
        in_every_legal_order = λ a b la lb h order k.
            path_kept e order (legal_keeps bytes e rest read order k) ((chain_marks_are_paths e c a b la lb).0 (sym (left a b la lb) ∙ h));
        diagonal = λ a l. left a a l l ∙ diagonal e c a l;
        nothing_missing = λ a b la lb other. (
          λ h. not_bound e c a b lb other (sym (left a b la lb) ∙ h),
          λ h. left a b la lb ∙ no_mark e c a b la lb h,
        );
      }

pub chains_bind : ChainsBind
chains_bind bytes table e h room = let (rest, read) = read_found bytes e h in (table_done bytes table e rest read room, binds bytes table e rest read room)
