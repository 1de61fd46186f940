-- What a consistent prefix breaks: nothing. A prefix of a consistent prefix is consistent.
use Prim.Native.Nat.{ℕ}
use mathlib.Core.Path.{◌≡◌, refl, ap, subst}
use mathlib.Core.Bool.{Bool, true, false, not, cond, ◌&&◌, ◌||◌, false≢true}
use mathlib.Core.List.{List, [], ◌∷◌, ◌++◌, map, append-nil, Memᴰ}
use lib.Dec.{eqb}
use lib.Seq.{append_snoc}
use borrow.Author.Tests.{not-true}
use Rattle.base.specs.Lists.{any, keep, member}
use Rattle.base.proofs.Lists.{member_append, any_same, any_weaken, any_fails}
use Rattle.model.specs.Execution.{Execution}
use Rattle.model.specs.Rules.{before, Sight, Claim, must, ◌⇒◌, never, sees, byte_of, latest, local, byte_read, broken, rules, keeps, consistent}
use Rattle.model.proofs.Before.{then, before_stays, before_kept_first, before_kept_second}

module _ (e : Execution) (xs : List ℕ) (consists : consistent e xs ≡ true) {r : List Claim} (m : Memᴰ r (rules e)) where
  -- a consistent prefix breaks no rule, and no claim of a rule
  pub kept : any (broken xs) r ≡ false
  unfolding consistent keeps
  kept = any_fails (any (broken xs)) m (not-true (any (any (broken xs)) (rules e)) consists)

  pub unbroken : {c : Claim} → Memᴰ c r → broken xs c ≡ false
  unbroken k = any_fails (broken xs) k kept

-- the byte that a load reads is settled once its R stands
latest_kept : (ws : List (ℕ × ℕ)) (r d : ℕ) (xs : List ℕ) (x : ℕ) → member xs r ≡ true → latest ws r d (then xs x) ≡ latest ws r d xs
unfolding latest member
latest_kept ws r d [] x h = absurd (false≢true h)
latest_kept ws r d (y ∷ ys) x h = more (latest_kept ws r (byte_of ws y d) ys x) (eqb y r) h
  where
    more : {v w : ℕ} → (member ys r ≡ true → v ≡ w) → (p : Bool) → (p || member ys r) ≡ true → cond p d v ≡ cond p d w
    more ih true h = refl
    more ih false h = ih h

module _ (xs : List ℕ) (x : ℕ) where
  pub byte_kept : (s : Sight) → member xs s.reads ≡ true → byte_read (then xs x) s ≡ byte_read xs s
  unfolding byte_read local
  byte_kept s h =
      rw (
        any_same
            (λ w. w.own && (before (then xs x) w.lv s.reads && before (then xs x) s.reads w.rv))
            (λ w. w.own && (before xs w.lv s.reads && before xs s.reads w.rv))
            s.writers
            (λ w m. rw (before_kept_second xs x w.lv s.reads h, before_kept_first xs x s.reads w.rv h)),
        latest_kept (map (λ w. (w.rv, w.wrote)) s.writers) s.reads s.initial xs x h,
        latest_kept (map (λ w. (w.lv, w.wrote)) (keep (λ w. w.own) s.writers)) s.reads s.initial xs x h,
      )

  both_stay : {p q r s : Bool} → (p ≡ true → r ≡ true) → (q ≡ true → s ≡ true) → (p && q) ≡ true → (r && s) ≡ true
  both_stay {p = true} f g h = rw (f refl, g h)
  both_stay {p = false} f g h = absurd (false≢true h)

  -- a claim that is broken stays broken
  pub broken_stays : (c : Claim) → broken xs c ≡ true → broken (then xs x) c ≡ true
  unfolding broken
  broken_stays (must l) h = before_stays xs x l.1 l.0 h
  broken_stays (l ⇒ m) h = both_stay (before_stays xs x l.0 l.1) (before_stays xs x m.1 m.0) h
  broken_stays (never a b c) h = both_stay (before_stays xs x a b) (before_stays xs x b c) h
  broken_stays (sees s) h = read (member xs s.reads) refl h
    where
      read : (p : Bool) → member xs s.reads ≡ p → (p && not (eqb (byte_read xs s) s.seen)) ≡ true
          → (member (then xs x) s.reads && not (eqb (byte_read (then xs x) s) s.seen)) ≡ true
      read true e k = rw (member_append, e, byte_kept s e) k
      read false e k = absurd (false≢true k)

  pub keeps_shorter : (rs : List (List Claim)) → keeps rs (then xs x) ≡ true → keeps rs xs ≡ true
  unfolding keeps
  keeps_shorter rs h = go (any_weaken _ _ (λ r. any_weaken _ _ broken_stays r) rs) h
    where
      go : {b c : Bool} → (b ≡ true → c ≡ true) → not c ≡ true → not b ≡ true
      go {b = true} f k = subst (λ (d : Bool). not d ≡ true) (f refl) k
      go {b = false} f k = refl

-- a prefix of a consistent prefix is consistent
pub keeps_prefix : (rs : List (List Claim)) (xs ys : List ℕ) → keeps rs (xs ++ ys) ≡ true → keeps rs xs ≡ true
keeps_prefix rs xs [] h = rw append-nil at h
keeps_prefix rs xs (y ∷ ys) h = keeps_shorter xs y rs (keeps_prefix rs (then xs y) ys (rw append_snoc h))

-- nothing is settled by the empty prefix
pub keeps_empty : (rs : List (List Claim)) → keeps rs [] ≡ true
unfolding keeps broken before member any
keeps_empty rs = ap not (none rs)
  where
    unbroken : (c : Claim) → broken [] c ≡ false
    unbroken (must l) = refl
    unbroken (l ⇒ m) = refl
    unbroken (never a b c) = refl
    unbroken (sees s) = refl

    none_broken : (r : List Claim) → any (broken []) r ≡ false
    none_broken [] = refl
    none_broken (c ∷ r) = rw (unbroken c) (none_broken r)

    none : (rs : List (List Claim)) → any (any (broken [])) rs ≡ false
    none [] = refl
    none (r ∷ rs) = rw (none_broken r) (none rs)
