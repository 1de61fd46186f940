-- Which operations of an instruction some rule links to an operation with a role.
use Prim.Native.Nat.{ℕ, suc, ◌+◌, ◌-◌, ◌/◌, ◌%◌, ◌≤◌, ◌<◌}
use native.Mathlib.Omega.{arith}
use mathlib.Core.Path.{◌≡◌, refl, sym, ap, ap₂, ◌∙◌}
use mathlib.Core.Bool.{Bool, true, false, not, ◌&&◌, ◌||◌, and-true, and-false, or-false}
use lib.ListN.{length, get_or}
use lib.Dec.{eqb, leb, ltb}
use borrow.Author.Tests.{eq-eqb, ne_eqb, eqb-true, le-leb, leb-true, lt-ltb, ltb-true, ltb-false}
use Rattle.base.specs.Below.{any_below}
use Rattle.base.proofs.Tests.{any_passes, any_below_same, some_at}
use Rattle.base.proofs.Bools.{agree, split, clash, is_false, and_parts, and_both, or_cases, or_left, or_right}
use Rattle.model.specs.Execution.{Kind, kind_row, is_store, Role, F, RV, has_role_RV, roles, remotes_at, number_from}
use Rattle.record_decoded.specs.Kinds.{role_numbered}
use Rattle.record_decoded.proofs.RoleNumbers.{role_RV, remote_numbered}
use Rattle.model.proofs.Numbers.{store_count, other_count, role_before_remotes, remote_role}
use Rattle.relation_marks.specs.Marks.{has_mark}
use Rattle.relation_links.specs.Links.{rule_mark, roles_link, link_by}
use Rattle.relation_links.specs.Linked.{linked_by}
use Rattle.relation_links.proofs.RoleLaws.{not_rv}
use Rattle.relation_links.proofs.LinkedLaws.{rule_links, no_mark, from_remote}
use Rattle.search_constraints.specs.Rows.{is_remote, remote_linked, local_linked, linked_from}

-- Tests

or_more : (s b c : Bool) {d : Bool} → (b || c) ≡ d → ((s || b) || c) ≡ (s || d)
or_more true b c h = refl
or_more false b c h = h

-- what adds nothing
pub nothing_more : (s : Bool) {d : Bool} → d ≡ false → s ≡ (s || d)
nothing_more s h = sym (ap (λ (b : Bool). s || b) h ∙ or-false s)

-- from an RV only rules 1, 3 and 4 link
module _ (m p q : ℕ) (b : Role) where
  remote_links : linked_by m p (RV q) b ≡ (link_by 1 m p (RV q) b || (link_by 3 m p (RV q) b || link_by 4 m p (RV q) b))
  remote_links = split (link_by 1 m p (RV q) b)
      (λ t. sym (rule_links m p (RV q) b 1 (omega arith) t) ∙ sym (ap (λ (c : Bool). c || (link_by 3 m p (RV q) b || link_by 4 m p (RV q) b)) t))
      (λ f. split (link_by 3 m p (RV q) b)
      (λ t. sym (rule_links m p (RV q) b 3 (omega arith) t) ∙ sym (ap₂ (λ (c d : Bool). c || (d || link_by 4 m p (RV q) b)) f t))
      (λ g. split (link_by 4 m p (RV q) b)
      (λ t. sym (rule_links m p (RV q) b 4 (omega arith) t) ∙ sym (ap₂ (λ (c d : Bool). c || (d || link_by 4 m p (RV q) b)) f g ∙ t))
      (λ h. sym (from_remote m p (suc (suc (suc q))) b (omega arith) f g h) ∙ sym (ap₂ (λ (c d : Bool). c || (d || link_by 4 m p (RV q) b)) f g ∙ h))))

  own_link : link_by 1 m p (RV q) b ≡ (has_mark m 1 && (eqb q p && has_role_RV b (λ k. not (eqb k p))))
  unfolding link_by rule_mark roles_link
  own_link = refl

  same_link : link_by 3 m p (RV q) b ≡ (has_mark m 4 && has_role_RV b (eqb q))
  unfolding link_by rule_mark roles_link
  same_link = refl

  fence_link : link_by 4 m p (RV q) b ≡ has_mark m 8
  unfolding link_by rule_mark roles_link
  fence_link = and-true (has_mark m 8)

  remote_by : linked_by m p (RV q) b ≡ ((has_mark m 1 && (eqb q p && has_role_RV b (λ k. not (eqb k p)))) || ((has_mark m 4 && has_role_RV b (eqb q)) || has_mark m 8))
  remote_by = remote_links ∙ ap₂ (λ (c d : Bool). c || (d || link_by 4 m p (RV q) b)) own_link same_link
      ∙ ap (λ (c : Bool). (has_mark m 1 && (eqb q p && has_role_RV b (λ k. not (eqb k p)))) || ((has_mark m 4 && has_role_RV b (eqb q)) || c)) fence_link

in_turn : (m e x : Bool) → (m && (e && x)) ≡ ((m && x) && e)
in_turn true true x = sym (and-true x)
in_turn true false x = sym (and-false x)
in_turn false e x = refl

module _ (m : ℕ) (k : Kind) (p first n a : ℕ) where
  abbrev number : ℕ → ℕ
  number q = number_from first k (RV q)

  -- with a fence all RVs
  pub fence_links : (role : ℕ) → has_mark m 8 ≡ true → is_remote k first n a ≡ remote_linked m k p first n role a
  unfolding is_remote remote_linked
  fence_links role h = any_below_same _ _ n (λ q l. sym (ap (λ (b : Bool). eqb a (number q) && b) (linked q) ∙ and-true (eqb a (number q))))
    where
      linked : (q : ℕ) → linked_by m p (RV q) (role_numbered role) ≡ true
      linked q = remote_by m p q (role_numbered role) ∙ ap (λ (c : Bool). (has_mark m 1 && (eqb q p && has_role_RV (role_numbered role) (λ k. not (eqb k p)))) || ((has_mark m 4 && has_role_RV (role_numbered role) (eqb q)) || c)) h
          ∙ or_right (has_mark m 1 && (eqb q p && has_role_RV (role_numbered role) (λ k. not (eqb k p)))) ((has_mark m 4 && has_role_RV (role_numbered role) (eqb q)) || true) (or_right (has_mark m 4 && has_role_RV (role_numbered role) (eqb q)) true refl)

  -- without one only to an RV
  no_remote : (q : ℕ) (b : Role) → ((t : ℕ → Bool) → has_role_RV b t ≡ false) → has_mark m 8 ≡ false → linked_by m p (RV q) b ≡ false
  no_remote q b h f =
      remote_by m p q b
      ∙ ap₂ (λ (c d : Bool). (has_mark m 1 && (eqb q p && c)) || ((has_mark m 4 && d) || has_mark m 8)) (h (λ k. not (eqb k p))) (h (eqb q))
      ∙ ap₂ (λ (c d : Bool). (has_mark m 1 && c) || (d || has_mark m 8)) (and-false (eqb q p)) (and-false (has_mark m 4))
      ∙ ap₂ (λ (c d : Bool). c || d) (and-false (has_mark m 1)) f

  pub no_remotes : (role : ℕ) → role < 3 → has_mark m 8 ≡ false → remote_linked m k p first n role a ≡ false
  unfolding remote_linked
  no_remotes role l f =
      is_false _ (λ t. let (q, s, h) = some_at _ n t in
      clash (and_parts (eqb a (number q)) (linked_by m p (RV q) (role_numbered role)) h).1 (no_remote q (role_numbered role) (λ t. sym (not_rv role t l)) f))

  -- to the RV to processor `to` from the own RV, and from the one to the same processor
  linked_to : (q to : ℕ) → has_mark m 8 ≡ false → linked_by m p (RV q) (RV to) ≡ (((has_mark m 1 && not (eqb to p)) && eqb q p) || (has_mark m 4 && eqb q to))
  linked_to q to f =
      remote_by m p q (RV to)
      ∙ ap₂ (λ (c d : Bool). c || ((has_mark m 4 && eqb q to) || d)) (in_turn (has_mark m 1) (eqb q p) (not (eqb to p))) f
      ∙ ap (λ (c : Bool). ((has_mark m 1 && not (eqb to p)) && eqb q p) || c) (or-false (has_mark m 4 && eqb q to))

  -- the RV to processor j, where there is one
  abbrev the_remote : Bool → ℕ → Bool
  the_remote g j = (g && ltb j n) && eqb a (number j)

  is_the : (g : Bool) (q j : ℕ) → q < n → eqb a (number q) ≡ true → (g && eqb q j) ≡ true → the_remote g j ≡ true
  is_the g q j l h t =
      let (t1, t2) = and_parts g (eqb q j) t in
      let e = eqb-true q j t2 in
      and_both (and_both t1 (lt-ltb j n (omega arith))) (eq-eqb a (number j) (eqb-true a (number q) h ∙ ap number e))

  of_the : (g : Bool) (j : ℕ) → the_remote g j ≡ true → (j < n) × (eqb a (number j) ≡ true) × ((g && eqb j j) ≡ true)
  of_the g j t =
      let (t1, t2) = and_parts (g && ltb j n) (eqb a (number j)) t in
      let (t3, t4) = and_parts g (ltb j n) t1 in
      (ltb-true j n t4, t2, and_both t3 (eq-eqb j j refl))

  pub two_remotes : (to : ℕ) → has_mark m 8 ≡ false
      → remote_linked m k p first n (3 + to) a ≡ (the_remote (has_mark m 1 && not (eqb to p)) p || the_remote (has_mark m 4) to)
  unfolding remote_linked
  two_remotes to f =
      any_below_same _ (λ q. eqb a (number q) && (own q || same q)) n (λ q l. ap (λ (b : Bool). eqb a (number q) && b) (by_role q ∙ linked_to q to f))
      ∙ agree _ (the_remote (has_mark m 1 && not (eqb to p)) p || the_remote (has_mark m 4) to)
      (λ t. let (q, l, h) = some_at (λ q. eqb a (number q) && (own q || same q)) n t in
      let (h1, h2) = and_parts (eqb a (number q)) (own q || same q) h in
      or_cases (own q) (same q) h2
      (λ u. ap (λ (b : Bool). b || the_remote (has_mark m 4) to) (is_the (has_mark m 1 && not (eqb to p)) q p l h1 u))
      (λ u. or_right (the_remote (has_mark m 1 && not (eqb to p)) p) (the_remote (has_mark m 4) to) (is_the (has_mark m 4) q to l h1 u)))
      (λ t. or_cases (the_remote (has_mark m 1 && not (eqb to p)) p) (the_remote (has_mark m 4) to) t
      (λ u. let (l, h, g) = of_the (has_mark m 1 && not (eqb to p)) p u in
      any_passes (λ q. eqb a (number q) && (own q || same q)) n p l (and_both h (ap (λ (b : Bool). b || same p) g)))
      (λ u. let (l, h, g) = of_the (has_mark m 4) to u in
      any_passes (λ q. eqb a (number q) && (own q || same q)) n to l (and_both h (or_right (own to) (same to) g))))
    where
      own : ℕ → Bool
      own q = (has_mark m 1 && not (eqb to p)) && eqb q p

      same : ℕ → Bool
      same q = has_mark m 4 && eqb q to

      by_role : (q : ℕ) → linked_by m p (RV q) (role_numbered (3 + to)) ≡ linked_by m p (RV q) (RV to)
      by_role q = ap (linked_by m p (RV q)) (remote_numbered to)

-- the same by the values in the code
pub two_linked : (m : ℕ) (k : Kind) (p first n a role to own same own_rv same_rv : ℕ) {h u w h' w' : Bool} → has_mark m 8 ≡ false → 3 ≤ role → to ≡ role - 3 → own ≡ p → same ≡ to
    → own_rv ≡ number_from first k (RV own) → same_rv ≡ number_from first k (RV same)
    → h ≡ has_mark m 1 → u ≡ (h && not (eqb to p)) → w ≡ (u && ltb own n) → h' ≡ has_mark m 4 → w' ≡ (h' && ltb same n)
    → remote_linked m k p first n role a ≡ ((w && eqb a own_rv) || (w' && eqb a same_rv))
two_linked m k p first n a role to own same own_rv same_rv {h} {u} {w} {h'} {w'} f l it o s io is eh eu ew eh' ew' =
    ap (λ (j : ℕ). remote_linked m k p first n j a) (let z : role ≡ 3 + to = omega arith in z)
    ∙ two_remotes m k p first n a to f
    ∙ sym (ap₂ ◌||◌
    (ap₂ (λ (b : Bool) (j : ℕ). b && eqb a j) (ew ∙ ap₂ (λ (b : Bool) (j : ℕ). b && ltb j n) (eu ∙ ap (λ (b : Bool). b && not (eqb to p)) eh) o) (io ∙ ap (λ (j : ℕ). number_from first k (RV j)) o))
    (ap₂ (λ (b : Bool) (j : ℕ). b && eqb a j) (ew' ∙ ap₂ (λ (b : Bool) (j : ℕ). b && ltb j n) eh' s) (is ∙ ap (λ (j : ℕ). number_from first k (RV j)) s)))

-- two operations that go in
pub both_in : (s c d : Bool) {r r' e : Bool} → r ≡ (s || c) → r' ≡ (r || d) → e ≡ (c || d) → r' ≡ (s || e)
both_in s c d {r} {r'} {e} h k f = k ∙ ap (λ (b : Bool). b || d) h ∙ or_more s c d (sym f)

-- without a mark that some link asks for nothing is linked
module _ (m role : ℕ) where
  pub no_mark_below : m % 128 ≡ 0 → (p : ℕ) (a : Role) → linked_by m p a (role_numbered role) ≡ false
  no_mark_below h p a = sym (no_mark m p a (role_numbered role) h)

  to_remote : (p q : ℕ) (a : Role) → m % 16 ≡ 0 → linked_by m p a (RV q) ≡ false
  unfolding linked_by any_below link_by rule_mark roles_link
  to_remote p q a h = simp (
    ne_eqb (m / 1 % 2) 1 (λ e. omega arith),
    ne_eqb (m / 2 % 2) 1 (λ e. omega arith),
    ne_eqb (m / 4 % 2) 1 (λ e. omega arith),
    ne_eqb (m / 8 % 2) 1 (λ e. omega arith),
    and-false,
  )

  pub no_mark_to_remote : 3 ≤ role → m % 16 ≡ 0 → (p : ℕ) (a : Role) → linked_by m p a (role_numbered role) ≡ false
  no_mark_to_remote l h p a = ap (linked_by m p a) (role_RV role l) ∙ to_remote p (role - 3) a h

-- the operations of an instruction of a kind
module _ (m p first n role a : ℕ) (k : Kind) where
  abbrev linked_as : Role → Bool
  linked_as r = linked_by m p r (role_numbered role)

  -- the operations before the RVs are some of all
  pub remotes_few : remotes_at k ≤ length (roles n k)
  remotes_few = split (is_store k) (λ t. omega (arith, store_count n k t)) (λ f. omega (arith, other_count n k f))

  pub no_links : ((j : ℕ) (r : Role) → linked_by m j r (role_numbered role) ≡ false) → linked_from m k p first n role a ≡ false
  unfolding linked_from
  no_links h =
      ap (λ (b : Bool). leb first a && (ltb a (first + length (roles n k)) && b)) (h p (get_or (roles n k) (a - first) F))
      ∙ ap (λ (b : Bool). leb first a && b) (and-false (ltb a (first + length (roles n k)))) ∙ and-false (leb first a)

  abbrev local : Bool
  local = local_linked m k p first role a

  abbrev remotes : Bool
  remotes = remote_linked m k p first n role a

  -- an operation before the RVs by its place
  to_local : linked_from m k p first n role a ≡ true → a < first + remotes_at k → local ≡ true
  unfolding linked_from local_linked
  to_local t l =
      let (t1, t2) = and_parts (leb first a) (ltb a (first + length (roles n k)) && linked_as (get_or (roles n k) (a - first) F)) t in
      let (t3, t4) = and_parts (ltb a (first + length (roles n k))) (linked_as (get_or (roles n k) (a - first) F)) t2 in
      let from = leb-true first a t1 in
      any_passes _ (remotes_at k) (a - first) (omega arith)
      (and_both (ap linked_as (sym (role_before_remotes n k (a - first) (omega arith))) ∙ t4) (eq-eqb a (first + (a - first)) (omega arith)))

  of_local : local ≡ true → linked_from m k p first n role a ≡ true
  unfolding linked_from local_linked
  of_local t =
      let (j, l, h) = some_at _ (remotes_at k) t in
      let (h1, h2) = and_parts (linked_as (get_or (kind_row k).before_remotes j F)) (eqb a (first + j)) h in
      let e = eqb-true a (first + j) h2 in
      and_both (le-leb first a (omega arith)) (and_both (lt-ltb a (first + length (roles n k)) (omega (arith, remotes_few)))
      (ap linked_as (ap (λ (i : ℕ). get_or (roles n k) i F) (let z : a - first ≡ j = omega arith in z) ∙ role_before_remotes n k j l) ∙ h1))

  -- a load or a fence has no others
  pub local_links : is_store k ≡ false → linked_from m k p first n role a ≡ local
  unfolding linked_from
  local_links s =
      agree (linked_from m k p first n role a) local
      (λ t.
      let (t1, t2) = and_parts (leb first a) (ltb a (first + length (roles n k)) && linked_as (get_or (roles n k) (a - first) F)) t in
      let (t3, t4) = and_parts (ltb a (first + length (roles n k))) (linked_as (get_or (roles n k) (a - first) F)) t2 in
      to_local t (omega (arith, ltb-true a (first + length (roles n k)) t3, other_count n k s)))
      of_local

  -- an RV by its place
  at_place : (q : ℕ) → a ≡ number_from first k (RV q) → a < first + length (roles n k) → get_or (roles n k) (a - first) F ≡ RV q
  at_place q e h = remote_role n k (a - first) (omega arith) (omega arith) ∙ ap RV (omega arith)

  to_remote_by : is_store k ≡ true → linked_from m k p first n role a ≡ true → first + remotes_at k ≤ a → remotes ≡ true
  unfolding linked_from remote_linked
  to_remote_by s t l =
      let (t1, t2) = and_parts (leb first a) (ltb a (first + length (roles n k)) && linked_as (get_or (roles n k) (a - first) F)) t in
      let (t3, t4) = and_parts (ltb a (first + length (roles n k))) (linked_as (get_or (roles n k) (a - first) F)) t2 in
      let h = ltb-true a (first + length (roles n k)) t3 in
      let q = a - first - remotes_at k in
      any_passes _ n q (omega (arith, store_count n k s))
      (and_both (eq-eqb a (number_from first k (RV q)) (omega arith)) (ap linked_as (sym (at_place q (omega arith) h)) ∙ t4))

  of_remote : is_store k ≡ true → remotes ≡ true → linked_from m k p first n role a ≡ true
  unfolding linked_from remote_linked
  of_remote s t =
      let (q, l, h) = some_at _ n t in
      let (h1, h2) = and_parts (eqb a (number_from first k (RV q))) (linked_as (RV q)) h in
      let e = eqb-true a (number_from first k (RV q)) h1 in
      let i : a < first + length (roles n k) = omega (arith, store_count n k s) in
      and_both (le-leb first a (omega arith)) (and_both (lt-ltb a (first + length (roles n k)) i) (ap linked_as (at_place q e i) ∙ h2))

  -- a store has RVs too
  pub store_links : is_store k ≡ true → linked_from m k p first n role a ≡ (local || remotes)
  store_links s =
      agree (linked_from m k p first n role a) (local || remotes)
      (λ t. split (ltb a (first + remotes_at k))
      (λ u. or_left local remotes (to_local t (ltb-true a (first + remotes_at k) u)))
      (λ u. or_right local remotes (to_remote_by s t (ltb-false a (first + remotes_at k) u))))
      (λ t. or_cases local remotes t of_local (of_remote s))
