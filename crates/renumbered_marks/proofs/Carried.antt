-- Numbers under an injection π: what a prefix settles of them, and that it is onto where it keeps below a bound.
use Prim.Native.Nat.{ℕ, ◌<◌}
use mathlib.Core.Path.{◌≡◌, refl, sym, ap, ap₂, ◌∙◌, subst}
use mathlib.Core.Bool.{false, ◌&&◌}
use mathlib.Core.List.Memᴰ
use mathlib.Core.List.{List, [], ◌∷◌, ◌++◌, map, map-append, Memᴰ}
use lib.ListN.{length-map}
use lib.Dec.{eqb}
use borrow.Author.Tests.{eq-eqb, eqb-true, lt-ltb}
use Rattle.base.specs.Lists.{below, member, distinct}
use Rattle.base.proofs.Bools.{agree}
use Rattle.base.proofs.Lists.{in_below, member_in, distinct_in}
use Rattle.base.proofs.Orders.{order_has, sorted_order}
use Rattle.model.specs.Rules.{before, byte_of, latest, ◌≺◌, Claim, must, ◌⇒◌, never, broken}
use Rattle.renumbered_marks.proofs.Carries.{table, byte_there}

-- a prefix breaks the first claim exactly when, under other numbers, it breaks the second
abbrev pub BrokenAlike : (ℕ → ℕ) → Claim → Claim → Type 0
BrokenAlike π c d = (xs : List ℕ) → broken (map π xs) d ≡ broken xs c

-- the number below n that π takes to a; a itself where there is none
pub inverse : (ℕ → ℕ) → ℕ → ℕ → ℕ
inverse π n a = byte_of (table π (λ b. b) (below n)) a a

module _ (π : ℕ → ℕ) (one : (a b : ℕ) → π a ≡ π b → a ≡ b) where
  pub eqb_carried : (a b : ℕ) → eqb (π a) (π b) ≡ eqb a b
  eqb_carried a b = agree (eqb (π a) (π b)) (eqb a b) (λ h. eq-eqb a b (one a b (eqb-true (π a) (π b) h))) (λ h. eq-eqb (π a) (π b) (ap π (eqb-true a b h)))

  pub before_carried : (xs : List ℕ) (a b : ℕ) → before (map π xs) (π a) (π b) ≡ before xs a b
  unfolding before
  before_carried [] a b = refl
  before_carried (x ∷ xs) a b = rw (eqb_carried x b, eqb_carried x a, before_carried xs a b)

  pub member_carried : (xs : List ℕ) (a : ℕ) → member (map π xs) (π a) ≡ member xs a
  unfolding member
  member_carried [] a = refl
  member_carried (x ∷ xs) a = rw (eqb_carried x a, member_carried xs a)

  pub distinct_carried : (n : ℕ) (passed xs : List ℕ) → ((a : ℕ) → Memᴰ a xs → (a < n) × (π a < n)) → distinct n (map π passed) (map π xs) ≡ distinct n passed xs
  unfolding distinct
  distinct_carried n passed [] low = refl
  distinct_carried n passed (x ∷ xs) low =
      let (less, carried) = low x (Memᴰ.head refl) in
      rw (
        lt-ltb x n less,
        lt-ltb (π x) n carried,
        member_carried passed x,
        ← (map-append π passed (x ∷ [])),
        distinct_carried n (passed ++ (x ∷ [])) xs (λ a m. low a (Memᴰ.tail m)),
      )

  -- the byte of the latest, where the lists give the same bytes
  pub latest_carried : (ws vs : List (ℕ × ℕ)) → ((o d : ℕ) → byte_of vs (π o) d ≡ byte_of ws o d)
      → (r d : ℕ) (xs : List ℕ) → latest vs (π r) d (map π xs) ≡ latest ws r d xs
  unfolding latest
  latest_carried ws vs h r d [] = refl
  latest_carried ws vs h r d (x ∷ xs) = rw (eqb_carried x r, h x d, latest_carried ws vs h r (byte_of ws x d) xs)

  -- The claims, but for what a load sees

  settled : (xs : List ℕ) {a b c d : ℕ} → π a ≡ c → π b ≡ d → before (map π xs) c d ≡ before xs a b
  settled xs {a} {b} h k = ap₂ (before (map π xs)) (sym h) (sym k) ∙ before_carried xs a b

  pub must_alike : {a b c d : ℕ} → π a ≡ c → π b ≡ d → BrokenAlike π (must (a ≺ b)) (must (c ≺ d))
  unfolding broken
  must_alike h k xs = settled xs k h

  pub if_alike : {a b c d a' b' c' d' : ℕ} → π a ≡ a' → π b ≡ b' → π c ≡ c' → π d ≡ d' → BrokenAlike π (a ≺ b ⇒ c ≺ d) (a' ≺ b' ⇒ c' ≺ d')
  unfolding broken
  if_alike ha hb hc hd xs = ap₂ ◌&&◌ (settled xs ha hb) (settled xs hd hc)

  pub never_alike : {a b c a' b' c' : ℕ} → π a ≡ a' → π b ≡ b' → π c ≡ c' → BrokenAlike π (never a b c) (never a' b' c')
  unfolding broken
  never_alike ha hb hc xs = ap₂ ◌&&◌ (settled xs ha hb) (settled xs hb hc)

  -- where it keeps below a bound it is onto
  pub onto_below : (n : ℕ) → ((a : ℕ) → a < n → π a < n) → (a : ℕ) → a < n → (b : ℕ) × (b < n) × (π b ≡ a)
  onto_below n low a l =
      let (os, (long, different), _) = sorted_order (λ a b. false) (λ a b c h k. h) (λ a. refl) n in
      let below_n : (b : ℕ) → Memᴰ b os → b < n = λ b m. distinct_in n [] os different m in
      let carried = distinct_carried n [] os (λ b m. (below_n b m, low b (below_n b m))) in
      let (b, m, h) = Memᴰ.of_map π os (member_in (map π os) a (order_has n (map π os) (length-map os π ∙ long, carried ∙ different) a l)) in
      (b, below_n b m, h)

  -- so the inverse is one
  pub inverse_is : (n : ℕ) → ((a : ℕ) → a < n → π a < n) → (a : ℕ) → a < n → (inverse π n a < n) × (π (inverse π n a) ≡ a)
  unfolding inverse
  inverse_is n low a l =
      let (b, lb, h) = onto_below n low a l in
      subst (λ (a : ℕ). (inverse π n a < n) × (π (inverse π n a) ≡ a)) h
      (subst (λ (k : ℕ). (k < n) × (π k ≡ π b)) (sym (byte_there π (λ b. b) (in_below n b lb) (π b) (λ u m. one u b))) (lb, refl))

  pub inverse_back : (n : ℕ) → ((a : ℕ) → a < n → π a < n) → (a : ℕ) → a < n → inverse π n (π a) ≡ a
  inverse_back n low a l = one (inverse π n (π a)) a (inverse_is n low (π a) (low a l)).1
