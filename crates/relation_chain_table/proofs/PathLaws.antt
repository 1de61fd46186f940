-- The chain marks of a list of links, and the closure of its square, are the paths.
use Prim.Native.Nat.{ℕ, zero, suc, ◌<◌, ◌≤◌}
use native.Mathlib.Omega.{arith}
use native.Mathlib.Decide.{dec_lt}
use mathlib.Core.Path.{◌≡◌, refl, ap, subst}
use mathlib.Core.Bool.{Bool, true, false, not, ◌&&◌, ◌||◌}
use mathlib.Core.List.Memᴰ
use mathlib.Core.List.{List, ◌∷◌, Memᴰ}
use mathlib.Core.Logic.{◌⊎◌, inl, inr, ⊎_elim}
use lib.ListN.{length}
use lib.Dec.{eqb}
use borrow.Author.Tests.{eq-eqb, eqb-true}
use Rattle.base.specs.Lists.{any, below, member}
use Rattle.base.proofs.Bools.{split, clash, agree, and_parts, and_both, or_right, or_parts}
use Rattle.base.proofs.Lists.{any_witness, any_member, in_keep, of_keep, keep_less, keep_length, in_below, of_below, length_count, member_in, in_member}
use Rattle.model.specs.Rules.{Link}
use Rattle.model.specs.Chains.{leads, reached_by, chain_mark}
use Rattle.relation_chain_table.specs.Squares.{mark_of, via, closed_by}
use Rattle.relation_chain_table.specs.Paths.{Path, one, more, Within, MarksArePaths}

or_left : {a : Bool} (b : Bool) → a ≡ true → (a || b) ≡ true
or_left {a} b h = rw h

mark_one : (b : Bool) → mark_of b ≡ 1 → b ≡ true
mark_one true h = refl
mark_one false h = absurd (omega arith)

there : {l : List ℕ} {a : ℕ} → Memᴰ a l → 0 < length l
there (Memᴰ.head e) = omega arith
there (Memᴰ.tail m) = omega arith

-- one path after another
pub path_then : {links : List Link} {a b c : ℕ} → Path links a b → Path links b c → Path links a c
path_then (one l) q = more l q
path_then (more l p) q = more l (path_then p q)

module _ (n : ℕ) (links : List Link) where
  -- `leads` is a link
  pub leads_link : (a b : ℕ) → leads n links a b ≡ true → Memᴰ (a, b) links
  unfolding leads
  leads_link a b h =
      let (l, m, t) = any_witness (λ l. eqb l.0 a && eqb l.1 b) links h in
      let (p, q) = and_parts (eqb l.0 a) (eqb l.1 b) t in
      subst (λ (k : Link). Memᴰ k links) (λ x. (eqb-true l.0 a p x, eqb-true l.1 b q x)) m

  pub link_leads : {a b : ℕ} → Memᴰ (a, b) links → leads n links a b ≡ true
  unfolding leads
  link_leads {a} {b} m = any_member (λ l. eqb l.0 a && eqb l.1 b) m (and_both (eq-eqb a a refl) (eq-eqb b b refl))

  module _ (a : ℕ) where
    -- what is reached by one link more
    reached_of : (k b : ℕ) → Memᴰ b (reached_by n links (suc k) a)
        → (c : ℕ) × (b < n) × Memᴰ c (a ∷ reached_by n links k a) × (leads n links c b ≡ true)
    unfolding reached_by
    reached_of k b m =
        let (p, q) = of_keep (λ b. any (λ c. leads n links c b) (a ∷ reached_by n links k a)) (below n) m in
        let (c, h, t) = any_witness (λ c. leads n links c b) (a ∷ reached_by n links k a) q in
        (c, of_below n p, h, t)

    reached_in : (k b c : ℕ) → b < n → Memᴰ c (a ∷ reached_by n links k a) → leads n links c b ≡ true → Memᴰ b (reached_by n links (suc k) a)
    unfolding reached_by
    reached_in k b c l m h =
        in_keep (λ b. any (λ c. leads n links c b) (a ∷ reached_by n links k a)) (in_below n b l) (any_member (λ c. leads n links c b) m h)

    nothing : (b : ℕ) → Memᴰ b (reached_by n links 0 a) → ⊥
    unfolding reached_by
    nothing b m = Memᴰ.not-nil m

    -- what is reached is at the end of a path
    reached_path : (k b : ℕ) → Memᴰ b (reached_by n links k a) → Path links a b
    reached_path zero b m = absurd (nothing b m)
    reached_path (suc k) b m =
        let (c, l, h, t) = reached_of k b m in
        ⊎_elim
        (λ e. subst (λ (i : ℕ). Path links i b) e (one (leads_link c b t)))
        (λ w. path_then (reached_path k c w) (one (leads_link c b t)))
        (Memᴰ.cases_cons h)

    -- more links reach more
    under : (k j : ℕ) → ((c : ℕ) → Memᴰ c (reached_by n links k a) → Memᴰ c (reached_by n links j a))
        → (c : ℕ) → Memᴰ c (a ∷ reached_by n links k a) → Memᴰ c (a ∷ reached_by n links j a)
    under k j f c (Memᴰ.head e) = Memᴰ.head e
    under k j f c (Memᴰ.tail m) = Memᴰ.tail (f c m)

    further : (k j : ℕ) → ((c : ℕ) → Memᴰ c (reached_by n links k a) → Memᴰ c (reached_by n links j a))
        → (b : ℕ) → Memᴰ b (reached_by n links (suc k) a) → Memᴰ b (reached_by n links (suc j) a)
    further k j f b m = let (c, l, h, t) = reached_of k b m in reached_in j b c l (under k j f c h) t

    grows : (k b : ℕ) → Memᴰ b (reached_by n links k a) → Memᴰ b (reached_by n links (suc k) a)
    grows zero b m = absurd (nothing b m)
    grows (suc k) b m = further k (suc k) (grows k) b m

    -- a link more reaches nothing new
    abbrev Full : ℕ → Type 0
    Full k = (b : ℕ) → Memᴰ b (reached_by n links (suc k) a) → Memᴰ b (reached_by n links k a)

    -- something new makes the list longer
    longer : (k b : ℕ) → Memᴰ b (reached_by n links (suc k) a) → member (reached_by n links k a) b ≡ false
        → length (reached_by n links k a) < length (reached_by n links (suc k) a)
    unfolding reached_by
    longer zero b m h = there m
    longer (suc k) b m h =
        let p : ℕ → Bool = λ b. any (λ c. leads n links c b) (a ∷ reached_by n links k a) in
        let q : ℕ → Bool = λ b. any (λ c. leads n links c b) (a ∷ reached_by n links (suc k) a) in
        let (w, t) = of_keep q (below n) m in
        keep_less p q
        (λ d s. let (c, u, v) = any_witness (λ c. leads n links c d) (a ∷ reached_by n links k a) s in
        any_member (λ c. leads n links c d) (under k (suc k) (grows k) c u) v)
        w (split (p b) (λ s. clash (in_member (in_keep p w s)) h) (λ s. s)) t

    full_or_longer : (k : ℕ) → Full k ⊎ (length (reached_by n links k a) < length (reached_by n links (suc k) a))
    full_or_longer k =
        let new : ℕ → Bool = λ b. not (member (reached_by n links k a) b) in
        split (any new (reached_by n links (suc k) a))
        (λ t. let (b, m, s) = any_witness new (reached_by n links (suc k) a) t in
        inr (longer k b m (split (member (reached_by n links k a) b) (λ e. clash s (ap not e)) (λ e. e))))
        (λ f. inl (λ b m. split (member (reached_by n links k a) b) (member_in (reached_by n links k a) b) (λ e. clash (any_member new m (ap not e)) f)))

    counted : (k : ℕ) → Full k ⊎ (k < length (reached_by n links (suc k) a))
    counted zero = ⊎_elim inl (λ h. inr (omega arith)) (full_or_longer 0)
    counted (suc k) =
        ⊎_elim (λ f. inl (further (suc k) k f)) (λ h. ⊎_elim inl (λ l. inr (omega arith)) (full_or_longer (suc k))) (counted k)

    few : (k : ℕ) → length (reached_by n links (suc k) a) ≤ n
    unfolding reached_by below
    few k = omega (arith, keep_length (λ b. any (λ c. leads n links c b) (a ∷ reached_by n links k a)) (below n), length_count 0 n)

    -- n links reach all that is ever reached
    full : Full n
    full = ⊎_elim (λ f. f) (λ h. absurd (omega (arith, few n))) (counted n)

    path_reached : Within n links → {c b : ℕ} → Memᴰ c (a ∷ reached_by n links n a) → Path links c b → Memᴰ b (reached_by n links n a)
    path_reached w {c} {b} m (one l) = full b (reached_in n b c (w c b l).1 m (link_leads l))
    path_reached w {c} {b} m (more {b = d} l p) =
        path_reached w (Memᴰ.tail (full d (reached_in n d c (w c d l).1 m (link_leads l)))) p

  -- mark (a, b) of the chain table is 1 exactly where a path leads from a to b
  pub marks_are_paths : Within n links → MarksArePaths n links
  unfolding chain_mark
  marks_are_paths w a b h l = (
    λ e. reached_path a n b (member_in (reached_by n links n a) b (mark_one (member (reached_by n links n a) b) e)),
    λ p. ap mark_of (in_member (path_reached a w (Memᴰ.head refl) p)),
  )

-- The closure by way of each number below k

module _ (r : ℕ → ℕ → Bool) where
  closed_more : (k a b : ℕ) → closed_by k r a b ≡ true → closed_by (suc k) r a b ≡ true
  unfolding closed_by via
  closed_more k a b h = or_left (closed_by k r a k && closed_by k r k b) h

  closed_by_way : (k a b : ℕ) → closed_by k r a k ≡ true → closed_by k r k b ≡ true → closed_by (suc k) r a b ≡ true
  unfolding closed_by via
  closed_by_way k a b h g = or_right (closed_by k r a b) (closed_by k r a k && closed_by k r k b) (and_both h g)

  closed_cases : (k a b : ℕ) → closed_by (suc k) r a b ≡ true
      → (closed_by k r a b ≡ true) ⊎ ((closed_by k r a k ≡ true) × (closed_by k r k b ≡ true))
  unfolding closed_by via
  closed_cases k a b h =
      ⊎_elim inl (λ t. inr (and_parts (closed_by k r a k) (closed_by k r k b) t))
      (or_parts (closed_by k r a b) (closed_by k r a k && closed_by k r k b) h)

  closed_has : (k a b : ℕ) → r a b ≡ true → closed_by k r a b ≡ true
  unfolding closed_by
  closed_has zero a b h = h
  closed_has (suc k) a b h = closed_more k a b (closed_has k a b h)

  -- two paths that meet at a number below k are one path
  closed_joins : (k a b c : ℕ) → c < k → closed_by k r a c ≡ true → closed_by k r c b ≡ true → closed_by k r a b ≡ true
  closed_joins zero a b c l h g = absurd (omega arith)
  closed_joins (suc k) a b c l h g = go (closed_joins k) (dec_lt c k) (closed_cases k a c h) (closed_cases k c b g)
    where
      go : ((a b c : ℕ) → c < k → closed_by k r a c ≡ true → closed_by k r c b ≡ true → closed_by k r a b ≡ true)
          → Dec (c < k) → (closed_by k r a c ≡ true) ⊎ ((closed_by k r a k ≡ true) × (closed_by k r k c ≡ true))
          → (closed_by k r c b ≡ true) ⊎ ((closed_by k r c k ≡ true) × (closed_by k r k b ≡ true)) → closed_by (suc k) r a b ≡ true
      go joins (yes m) (inl p) (inl q) = closed_more k a b (joins a b c m p q)
      go joins (yes m) (inl p) (inr q) = closed_by_way k a b (joins a k c m p q.0) q.1
      go joins (yes m) (inr p) (inl q) = closed_by_way k a b p.0 (joins k b c m p.1 q)
      go joins (yes m) (inr p) (inr q) = closed_by_way k a b p.0 q.1
      go joins (no m) p q =
          let e : c ≡ k = omega arith in
          closed_by_way k a b
          (⊎_elim (λ t. subst (λ (i : ℕ). closed_by k r a i ≡ true) e t) (λ t. t.0) p)
          (⊎_elim (λ t. subst (λ (i : ℕ). closed_by k r i b ≡ true) e t) (λ t. t.1) q)

module _ (n : ℕ) (links : List Link) where
  closed_path : (k a b : ℕ) → closed_by k (leads n links) a b ≡ true → Path links a b
  unfolding closed_by
  closed_path zero a b h = one (leads_link n links a b h)
  closed_path (suc k) a b h =
      ⊎_elim (closed_path k a b) (λ t. path_then (closed_path k a k t.0) (closed_path k k b t.1))
      (closed_cases (leads n links) k a b h)

  path_closed : Within n links → {a b : ℕ} → Path links a b → closed_by n (leads n links) a b ≡ true
  path_closed w {a} {b} (one l) = closed_has (leads n links) n a b (link_leads n links l)
  path_closed w {a} {b} (more {b = c} l p) =
      closed_joins (leads n links) n a b c (w a c l).1 (closed_has (leads n links) n a c (link_leads n links l)) (path_closed w p)

  -- a mark of the chain table by the closed relation
  pub mark_is_closed : Within n links → (a b : ℕ) → chain_mark n links a b ≡ mark_of (closed_by n (leads n links) a b)
  unfolding chain_mark
  mark_is_closed w a b =
      ap mark_of (agree (member (reached_by n links n a) b) (closed_by n (leads n links) a b)
      (λ t. path_closed w (reached_path n links a n b (member_in (reached_by n links n a) b t)))
      (λ t. in_member (path_reached n links a w (Memᴰ.head refl) (closed_path n a b t))))
