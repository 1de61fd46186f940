-- For a claim that a prefix does not break: whether one operation more, that does not stand in it, breaks it.
use Prim.Native.Nat.{ℕ}
use mathlib.Core.Path.{◌≡◌, refl, sym, ap, ◌∙◌}
use mathlib.Core.Bool.{Bool, true, false, not, ◌&&◌, ◌||◌, and-false, or-false, false≢true}
use mathlib.Core.List.{List}
use lib.Dec.{eqb}
use borrow.Author.Tests.{eqb-true, not-true}
use Rattle.base.specs.Lists.{any, member}
use Rattle.base.proofs.Bools.{split}
use Rattle.base.proofs.Lists.{any_same, any_fails, member_append}
use Rattle.model.specs.Rules.{before, Claim, must, ◌⇒◌, never, sees, byte_read, broken, keeps}
use Rattle.model.proofs.Before.{before_absent, before_stands, before_not, then, before_append}
use Rattle.model.proofs.Consistent.{byte_kept}

module _ (xs : List ℕ) (x : ℕ) where
  -- another operation than x that does not stand
  abbrev pub later : ℕ → Bool
  later b = not (eqb x b) && not (member xs b)

  -- x behind xs settles 'a before b'
  abbrev pub settles : ℕ → ℕ → Bool
  settles a b = eqb x a && later b

  -- x behind xs breaks a claim that xs does not break
  unfoldable pub newly_broken : Claim → Bool
  newly_broken (must l) = settles l.1 l.0
  newly_broken (l ⇒ m) =
      settles m.1 m.0 && (before xs l.0 l.1 || settles l.0 l.1)
      || settles l.0 l.1 && (before xs m.1 m.0 || settles m.1 m.0)
  newly_broken (never a b c) = eqb x b && (member xs a && later c)
  newly_broken (sees s) = eqb x s.reads && not (eqb (byte_read (then xs x) s) s.seen)

  module _ (new : member xs x ≡ false) where
    -- x does not stand, under any of its names
    pub absent : (b : ℕ) → eqb x b ≡ true → member xs b ≡ false
    absent b h = rw (← (eqb-true x b h)) new

    pub before_then : (a b : ℕ) → before (then xs x) a b ≡ (before xs a b || settles a b)
    before_then a b =
        before_append xs x a b ∙ rw (member_append xs x b) (ap (λ (t : Bool). before xs a b || t)
        (turn (member xs b) (eqb x b) (member xs a) (eqb x a) (absent a)))
      where
        turn : (p q r s : Bool) → (s ≡ true → r ≡ false) → (not (p || q) && (not r && s)) ≡ (s && (not q && not p))
        turn p q r true f = rw (f refl) (both p q)
          where
            both : (p q : Bool) → (not (p || q) && true) ≡ (not q && not p)
            both true true = refl
            both true false = refl
            both false true = refl
            both false false = refl
        turn p q r false f = rw (and-false (not r)) (and-false (not (p || q)))

    -- per claim shape
    pub newly_broken_lem : (c : Claim) → broken xs c ≡ false → broken (then xs x) c ≡ newly_broken c
    unfolding broken newly_broken
    newly_broken_lem (must l) h = rw (before_then l.1 l.0, h)
    newly_broken_lem (l ⇒ m) h =
        rw (before_then l.0 l.1, before_then m.1 m.0)
        (go (before xs l.0 l.1) (before xs m.1 m.0) (settles l.0 l.1) (settles m.1 m.0) h)
      where
        go : (p q u v : Bool) → (p && q) ≡ false → ((p || u) && (q || v)) ≡ (v && (p || u) || u && (q || v))
        go true true u v k = absurd (false≢true (sym k))
        go true false u true k = refl
        go true false true false k = refl
        go true false false false k = refl
        go false true true true k = refl
        go false true true false k = refl
        go false false true true k = refl
        go false false true false k = refl
        go false q false true k = refl
        go false q false false k = refl
    newly_broken_lem (never a b c) h =
        split (eqb x b)
        (λ t.
        rw (before_then a b, before_then b c, before_absent xs a b (absent b t), before_not xs b c (absent b t), t)
        (tidy (member xs a) (eqb x a) (later c)))
        (λ t. rw (before_then a b, before_then b c, t) (split (before xs b c)
        (λ s. rw (s, before_stands xs b c s) (last (before xs a b) (eqb x a) (rw s at h)))
        (λ s. rw s (and-false (before xs a b || (eqb x a && not (member xs b)))))))
      where
        tidy : (p q r : Bool) → ((p || (q && false)) && r) ≡ (p && r)
        tidy true q r = refl
        tidy false true r = refl
        tidy false false r = refl

        last : (p q : Bool) → (p && true) ≡ false → ((p || (q && false)) && true) ≡ false
        last true q k = k
        last false true k = refl
        last false false k = refl
    newly_broken_lem (sees s) h =
        rw (member_append xs x s.reads) (split (eqb x s.reads)
        (λ t. rw (t, absent s.reads t))
        (λ t. rw (t, or-false (member xs s.reads)) (split (member xs s.reads)
        (λ m. rw (m, byte_kept xs x s m) (rw m at h))
        (λ m. rw m))))

    -- behind a consistent prefix: what x newly breaks
    pub keeps_then : (rs : List (List Claim)) → keeps rs xs ≡ true → keeps rs (then xs x) ≡ not (any (any newly_broken) rs)
    unfolding keeps
    keeps_then rs h =
        ap not (any_same (any (broken (then xs x))) (any newly_broken) rs (λ r mr.
        any_same (broken (then xs x)) newly_broken r (λ c mc.
        newly_broken_lem c (any_fails (broken xs) mc (any_fails (any (broken xs)) mr (not-true (any (any (broken xs)) rs) h))))))
