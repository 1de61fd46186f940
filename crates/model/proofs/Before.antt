-- What a prefix settles: 'a before b' as an order of what stands. What one operation more settles: what was settled, and 'x before b' for each b that does not stand; nothing else.
use Prim.Native.Nat.{ℕ}
use mathlib.Core.Path.{◌≡◌, refl, sym, ◌∙◌}
use mathlib.Core.Bool.{Bool, true, false, not, ◌&&◌, ◌||◌, and-false, or-false, false≢true}
use mathlib.Core.List.{List, [], ◌∷◌, ◌++◌}
use lib.Dec.{eqb}
use borrow.Author.Tests.{eqb-true}
use Rattle.base.specs.Lists.{member}
use Rattle.base.proofs.Bools.{clash, is_false}
use Rattle.base.proofs.Lists.{member_append}
use Rattle.model.specs.Rules.{before}

-- 'a before b' where b does not stand
pub before_absent : (xs : List ℕ) (a b : ℕ) → member xs b ≡ false → before xs a b ≡ member xs a
unfolding before member
before_absent [] a b h = refl
before_absent (y ∷ ys) a b h = go (eqb y b) (before_absent ys a b) h
  where
    go : (p : Bool) → (member ys b ≡ false → before ys a b ≡ member ys a) → (p || member ys b) ≡ false
        → (not p && (eqb y a || before ys a b)) ≡ (eqb y a || member ys a)
    go true ih k = absurd (false≢true (sym k))
    go false ih k = rw (ih k)

-- what is before stands
pub before_stands : (xs : List ℕ) (a b : ℕ) → before xs a b ≡ true → member xs a ≡ true
unfolding before member
before_stands [] a b h = h
before_stands (y ∷ ys) a b h = go (eqb y b) (eqb y a) (before_stands ys a b) h
  where
    go : (p q : Bool) → (before ys a b ≡ true → member ys a ≡ true) → (not p && (q || before ys a b)) ≡ true → (q || member ys a) ≡ true
    go true q f k = absurd (false≢true k)
    go false true f k = refl
    go false false f k = f k

pub before_not : (xs : List ℕ) (a b : ℕ) → member xs a ≡ false → before xs a b ≡ false
before_not xs a b h = is_false (before xs a b) (λ t. clash (before_stands xs a b t) h)

-- what is before is not after
pub before_not_after : (xs : List ℕ) (a b : ℕ) → before xs a b ≡ true → before xs b a ≡ false
unfolding before
before_not_after [] a b h = refl
before_not_after (y ∷ ys) a b h = go (eqb y a) (eqb y b) (before_not_after ys a b) h
  where
    go : (p q : Bool) → (before ys a b ≡ true → before ys b a ≡ false) → (not q && (p || before ys a b)) ≡ true → (not p && (q || before ys b a)) ≡ false
    go p true ih k = absurd (false≢true k)
    go true false ih k = refl
    go false false ih k = ih k

-- nothing is before itself
pub before_itself : (xs : List ℕ) (a : ℕ) → before xs a a ≡ false
before_itself xs a = is_false (before xs a a) (λ t. clash t (before_not_after xs a a t))

-- a before b, and c not before b: a before c
pub before_past : (xs : List ℕ) (a b c : ℕ) → before xs a b ≡ true → before xs c b ≡ false → before xs a c ≡ true
unfolding before
before_past [] a b c h k = h
before_past (y ∷ ys) a b c h k = go (eqb y a) (eqb y b) (eqb y c) (before_past ys a b c) h k
  where
    go : (p q r : Bool) → (before ys a b ≡ true → before ys c b ≡ false → before ys a c ≡ true)
        → (not q && (p || before ys a b)) ≡ true → (not q && (r || before ys c b)) ≡ false → (not r && (p || before ys a c)) ≡ true
    go p true r ih h k = absurd (false≢true h)
    go p false true ih h k = absurd (false≢true (sym k))
    go true false false ih h k = refl
    go false false false ih h k = ih h k

-- b not before a, and b before c: a before c
pub before_from : (xs : List ℕ) (a b c : ℕ) → before xs b a ≡ false → before xs b c ≡ true → before xs a c ≡ true
before_from xs a b c h k = go (before xs a c) refl
  where
    go : (t : Bool) → before xs a c ≡ t → t ≡ true
    go true e = refl
    go false e = clash (before_past xs b c a k e) h

-- a before b, and b before c: a before c
pub before_then : (xs : List ℕ) (a b c : ℕ) → before xs a b ≡ true → before xs b c ≡ true → before xs a c ≡ true
before_then xs a b c h k = before_from xs a b c (before_not_after xs a b h) k

-- a stands, and not before another b: b before a
pub before_other : (xs : List ℕ) (a b : ℕ) → member xs a ≡ true → (a ≡ b → ⊥) → before xs a b ≡ false → before xs b a ≡ true
unfolding before member
before_other [] a b s n h = absurd (false≢true s)
before_other (y ∷ ys) a b s n h = go (eqb y a) (eqb y b) refl refl (before_other ys a b) s h
  where
    go : (p q : Bool) → eqb y a ≡ p → eqb y b ≡ q → (member ys a ≡ true → (a ≡ b → ⊥) → before ys a b ≡ false → before ys b a ≡ true)
        → (p || member ys a) ≡ true → (not q && (p || before ys a b)) ≡ false → (not p && (q || before ys b a)) ≡ true
    go true true e f ih s h = absurd (n (sym (eqb-true y a e) ∙ eqb-true y b f))
    go true false e f ih s h = absurd (false≢true (sym h))
    go false true e f ih s h = refl
    go false false e f ih s h = ih s n h

-- One operation more

-- the prefix with one operation more
abbrev pub then : List ℕ → ℕ → List ℕ
then xs x = xs ++ (x ∷ [])

-- 'a before b' is settled by x after xs and not by xs
abbrev pub newly : List ℕ → ℕ → ℕ → ℕ → Bool
newly xs x a b = not (member (then xs x) b) && (not (member xs a) && eqb x a)

pub before_append : (xs : List ℕ) (x a b : ℕ) → before (then xs x) a b ≡ (before xs a b || newly xs x a b)
unfolding before member
before_append [] x a b = one (eqb x b) (eqb x a)
  where
    one : (p q : Bool) → (not p && (q || false)) ≡ (not (p || false) && q)
    one true q = refl
    one false q = or-false q
before_append (y ∷ ys) x a b =
    rw (before_append ys x a b) (more (eqb y b) (eqb y a) (before ys a b) (member (then ys x) b) (member ys a) (eqb x a))
  where
    more : (p q s u v w : Bool)
        → (not p && (q || (s || (not u && (not v && w))))) ≡ ((not p && (q || s)) || (not (p || u) && (not (q || v) && w)))
    more true q s u v w = refl
    more false true s u v w = refl
    more false false s u v w = refl

module _ (xs : List ℕ) (x a b : ℕ) where
  -- what is settled stays settled
  pub before_stays : before xs a b ≡ true → before (then xs x) a b ≡ true
  before_stays h = simp (before_append, h)

  -- nothing changes for an operation that stands already
  pub before_kept_first : member xs a ≡ true → before (then xs x) a b ≡ before xs a b
  before_kept_first h = simp (before_append, h, and-false, or-false)

  pub before_kept_second : member xs b ≡ true → before (then xs x) a b ≡ before xs a b
  before_kept_second h = simp (before_append, member_append, h, or-false)
