-- Laws of the list functions.
use Prim.Native.Nat.{ℕ, zero, suc, ◌+◌, ◌≤◌, ◌<◌}
use native.Mathlib.Omega.{arith}
use native.Mathlib.Decide.{ℕ_discrete}
use mathlib.Core.Path.{◌≡◌, refl, sym, ap, ap₂, ◌∙◌, subst}
use mathlib.Core.Bool.{Bool, true, false, not, cond, ◌&&◌, ◌||◌, and-true, and-false, and_assoc, or-true, or-false, or_assoc, false≢true}
use mathlib.Core.List.Memᴰ
use mathlib.Core.List.{List, [], ◌∷◌, ◌++◌, append-nil, append_assoc, map, map-append, Memᴰ}
use mathlib.Core.Logic.{◌⊎◌, inl, inr, ⊎_elim}
use lib.Dec.{eqb, ltb}
use lib.ListN.{length, get_or}
use lib.Seq.{append_snoc}
use borrow.Author.Tests.{eq-eqb, eqb-true, ltb-true}
use Rattle.base.specs.Lists.{all, any, keep, when, for, count, below, member, distinct, same}
use Rattle.base.proofs.Bools.{clash, is_false, and_parts, and_both}

module _ {A : Type 0} where
  -- tests that agree on the elements agree on the list
  pub any_same : (p q : A → Bool) (l : List A) → ((a : A) → Memᴰ a l → p a ≡ q a) → any p l ≡ any q l
  unfolding any
  any_same p q [] f = refl
  any_same p q (a ∷ l) f = rw (f a (Memᴰ.head refl), any_same p q l (λ b m. f b (Memᴰ.tail m)))

  -- a test that follows from another
  pub any_weaken : (p q : A → Bool) → ((a : A) → p a ≡ true → q a ≡ true) → (l : List A) → any p l ≡ true → any q l ≡ true
  unfolding any
  any_weaken p q f [] h = h
  any_weaken p q f (a ∷ l) h = go (p a) (q a) (f a) (any_weaken p q f l) h
    where
      go : (b c : Bool) → (b ≡ true → c ≡ true) → (any p l ≡ true → any q l ≡ true) → (b || any p l) ≡ true → (c || any q l) ≡ true
      go b true g ih k = refl
      go true false g ih k = absurd (false≢true (g refl))
      go false false g ih k = ih k

  -- an element that passes
  pub any_witness : (p : A → Bool) (l : List A) → any p l ≡ true → (a : A) × Memᴰ a l × (p a ≡ true)
  unfolding any
  any_witness p [] h = absurd (false≢true h)
  any_witness p (a ∷ l) h = go (p a) refl (any_witness p l) h
    where
      go : (b : Bool) → p a ≡ b → (any p l ≡ true → (c : A) × Memᴰ c l × (p c ≡ true)) → (b || any p l) ≡ true
          → (c : A) × Memᴰ c (a ∷ l) × (p c ≡ true)
      go true e f k = (a, Memᴰ.head refl, e)
      go false e f k = let (c, m, t) = f k in (c, Memᴰ.tail m, t)

  pub any_member : (p : A → Bool) {a : A} {l : List A} → Memᴰ a l → p a ≡ true → any p l ≡ true
  unfolding any
  any_member p {a} (Memᴰ.head {x = b} {xs = l} e) h = rw (ap p (sym e) ∙ h)
  any_member p {a} (Memᴰ.tail {x = b} {xs = l} m) h = go (p b) (any_member p m h)
    where
      go : (c : Bool) → any p l ≡ true → (c || any p l) ≡ true
      go true k = refl
      go false k = k

  -- none passes, so this one does not
  pub any_fails : (p : A → Bool) {a : A} {l : List A} → Memᴰ a l → any p l ≡ false → p a ≡ false
  any_fails p {a} m h = is_false (p a) (λ t. clash (any_member p m t) h)

  pub any_append : (p : A → Bool) (l m : List A) → any p (l ++ m) ≡ (any p l || any p m)
  unfolding any
  any_append p [] m = refl
  any_append p (a ∷ l) m = rw (any_append p l m) (sym (or_assoc (p a) (any p l) (any p m)))

  pub any_when : (p : A → Bool) (b : Bool) (l : List A) → any p (when b l) ≡ (b && any p l)
  unfolding any when
  any_when p true l = refl
  any_when p false l = refl

  pub any_one : (p : A → Bool) (a : A) → any p (a ∷ []) ≡ p a
  unfolding any
  any_one p a = or-false (p a)

  pub any_none : (l : List A) → any (λ a. false) l ≡ false
  unfolding any
  any_none [] = refl
  any_none (a ∷ l) = any_none l

  pub any_or : (p q : A → Bool) (l : List A) → any (λ a. p a || q a) l ≡ (any p l || any q l)
  unfolding any
  any_or p q [] = refl
  any_or p q (a ∷ l) = rw (any_or p q l) (mix (p a) (q a) (any p l) (any q l))
    where
      mix : (a b c d : Bool) → ((a || b) || (c || d)) ≡ ((a || c) || (b || d))
      mix true b c d = refl
      mix false true c d = sym (or-true c)
      mix false false c d = refl

  -- a test that does not depend on the element stands before or after
  pub any_and : (b : Bool) (p : A → Bool) (l : List A) → any (λ a. b && p a) l ≡ (b && any p l)
  any_and true p l = refl
  any_and false p l = any_none l

  pub any_and_after : (p : A → Bool) (b : Bool) (l : List A) → any (λ a. p a && b) l ≡ (any p l && b)
  any_and_after p true l = any_same (λ a. p a && true) p l (λ a m. and-true (p a)) ∙ sym (and-true (any p l))
  any_and_after p false l = any_same (λ a. p a && false) (λ a. false) l (λ a m. and-false (p a)) ∙ any_none l ∙ sym (and-false (any p l))

  pub any_keep : (p q : A → Bool) (l : List A) → any p (keep q l) ≡ any (λ a. q a && p a) l
  unfolding any keep
  any_keep p q [] = refl
  any_keep p q (a ∷ l) = go (q a) (any_keep p q l)
    where
      go : (b : Bool) → any p (keep q l) ≡ any (λ a. q a && p a) l → any p (cond b (a ∷ keep q l) (keep q l)) ≡ ((b && p a) || any (λ a. q a && p a) l)
      go true h = ap (λ (t : Bool). p a || t) h
      go false h = h

  pub all_member : (p : A → Bool) {a : A} {l : List A} → Memᴰ a l → all p l ≡ true → p a ≡ true
  unfolding all
  all_member p (Memᴰ.head {x = x} {xs = l} e) h = ap p e ∙ (and_parts (p x) (all p l) h).0
  all_member p (Memᴰ.tail {x = x} {xs = l} m) h = all_member p m (and_parts (p x) (all p l) h).1

  pub all_members : (p : A → Bool) (l : List A) → ((a : A) → Memᴰ a l → p a ≡ true) → all p l ≡ true
  unfolding all
  all_members p [] h = refl
  all_members p (a ∷ l) h = and_both (h a (Memᴰ.head refl)) (all_members p l (λ b m. h b (Memᴰ.tail m)))

  pub in_keep : (p : A → Bool) {a : A} {l : List A} → Memᴰ a l → p a ≡ true → Memᴰ a (keep p l)
  unfolding keep
  in_keep p {a} (Memᴰ.head {x = x} {xs = xs} e) h = rw (ap p (sym e) ∙ h) (Memᴰ.head e)
  in_keep p {a} (Memᴰ.tail {x = x} {xs = xs} m) h = go (p x) (in_keep p m h)
    where
      go : (b : Bool) → Memᴰ a (keep p xs) → Memᴰ a (cond b (x ∷ keep p xs) (keep p xs))
      go true k = Memᴰ.tail k
      go false k = k

  pub of_keep : (p : A → Bool) {a : A} (l : List A) → Memᴰ a (keep p l) → Memᴰ a l × (p a ≡ true)
  unfolding keep
  of_keep p {a} [] m = absurd (Memᴰ.not-nil m)
  of_keep p {a} (b ∷ l) m = go (p b) refl m (of_keep p l)
    where
      go : (c : Bool) → p b ≡ c → Memᴰ a (cond c (b ∷ keep p l) (keep p l)) → (Memᴰ a (keep p l) → Memᴰ a l × (p a ≡ true))
          → Memᴰ a (b ∷ l) × (p a ≡ true)
      go true e (Memᴰ.head k) f = (Memᴰ.head k, ap p k ∙ e)
      go true e (Memᴰ.tail k) f = let r = f k in (Memᴰ.tail r.0, r.1)
      go false e k f = let r = f k in (Memᴰ.tail r.0, r.1)

  pub in_when : {a : A} {b : Bool} {l : List A} → b ≡ true → Memᴰ a l → Memᴰ a (when b l)
  unfolding when
  in_when h m = rw h m

  -- fewer elements pass a stronger test, and fewer still where it refuses one
  pub keep_fewer : (p q : A → Bool) → ((a : A) → p a ≡ true → q a ≡ true) → (l : List A) → length (keep p l) ≤ length (keep q l)
  unfolding keep
  keep_fewer p q f [] = omega arith
  keep_fewer p q f (a ∷ l) = go (p a) (q a) (f a) (keep_fewer p q f l)
    where
      go : (b c : Bool) → (b ≡ true → c ≡ true) → length (keep p l) ≤ length (keep q l)
          → length {A = A} (cond b (a ∷ keep p l) (keep p l)) ≤ length {A = A} (cond c (a ∷ keep q l) (keep q l))
      go true true g h = omega arith
      go true false g h = absurd (false≢true (g refl))
      go false true g h = omega arith
      go false false g h = h

  pub keep_less : (p q : A → Bool) → ((a : A) → p a ≡ true → q a ≡ true) → {a : A} {l : List A} → Memᴰ a l → p a ≡ false → q a ≡ true
      → length (keep p l) < length (keep q l)
  unfolding keep
  keep_less p q f {a} (Memᴰ.head {x = x} {xs = l} e) h k =
      rw (ap p (sym e) ∙ h, ap q (sym e) ∙ k) (omega (arith, keep_fewer p q f l))
  keep_less p q f {a} (Memᴰ.tail {x = x} {xs = l} m) h k = go (p x) (q x) (f x) (keep_less p q f m h k)
    where
      go : (b c : Bool) → (b ≡ true → c ≡ true) → length (keep p l) < length (keep q l)
          → length {A = A} (cond b (x ∷ keep p l) (keep p l)) < length {A = A} (cond c (x ∷ keep q l) (keep q l))
      go true true g h = omega arith
      go true false g h = absurd (false≢true (g refl))
      go false true g h = omega arith
      go false false g h = h

  pub keep_length : (p : A → Bool) (l : List A) → length (keep p l) ≤ length l
  unfolding keep
  keep_length p [] = omega arith
  keep_length p (a ∷ l) = go (p a) (keep_length p l)
    where
      go : (b : Bool) → length (keep p l) ≤ length l → length {A = A} (cond b (a ∷ keep p l) (keep p l)) ≤ suc (length l)
      go true h = omega arith
      go false h = omega arith

  -- an element by its place, and the place of an element
  pub getD_member : (l : List A) (i : ℕ) (d : A) → i < length l → Memᴰ (get_or l i d) l
  getD_member [] i d h = absurd (omega arith)
  getD_member (x ∷ l) zero d h = Memᴰ.head refl
  getD_member (x ∷ l) (suc i) d h = Memᴰ.tail (getD_member l i d (omega arith))

  pub place_of : (d : A) {a : A} {l : List A} → Memᴰ a l → (i : ℕ) × (i < length l) × (get_or l i d ≡ a)
  place_of d (Memᴰ.head e) = (0, omega arith, sym e)
  place_of d (Memᴰ.tail m) = let (i, h, e) = place_of d m in (suc i, omega arith, e)

  -- an element that is there does not depend on what stands for one that is not
  pub getD_there : (l : List A) (i : ℕ) (d e : A) → i < length l → get_or l i d ≡ get_or l i e
  getD_there [] i d e h = absurd (omega arith)
  getD_there (a ∷ l) zero d e h = refl
  getD_there (a ∷ l) (suc i) d e h = getD_there l i d e (omega arith)

module _ {A B : Type 0} where
  pub of_for : (f : A → List B) {z : B} (l : List A) → Memᴰ z (for l f) → (a : A) × Memᴰ a l × Memᴰ z (f a)
  unfolding for
  of_for f [] m = absurd (Memᴰ.not-nil m)
  of_for f {z} (x ∷ xs) m = go (Memᴰ.append_cases (f x) m) (of_for f xs)
    where
      go : Memᴰ z (f x) ⊎ Memᴰ z (for xs f) → (Memᴰ z (for xs f) → (a : A) × Memᴰ a xs × Memᴰ z (f a))
          → (a : A) × Memᴰ a (x ∷ xs) × Memᴰ z (f a)
      go (inl k) r = (x, Memᴰ.head refl, k)
      go (inr k) r = let (a, h, w) = r k in (a, Memᴰ.tail h, w)

  pub for_append : (l m : List A) (f : A → List B) → for (l ++ m) f ≡ for l f ++ for m f
  unfolding for
  for_append [] m f = refl
  for_append (a ∷ l) m f = ap (λ (t : List B). f a ++ t) (for_append l m f) ∙ sym (append_assoc (f a) (for l f) (for m f))

  pub for_one : (a : A) (f : A → List B) → for (a ∷ []) f ≡ f a
  unfolding for
  for_one a f = append-nil (f a)

  pub for_map : {C : Type 0} (f : A → B) (g : B → List C) (l : List A) → for (map f l) g ≡ for l (λ a. g (f a))
  unfolding for
  for_map {C} f g [] = refl
  for_map {C} f g (a ∷ l) = ap (λ (t : List C). g (f a) ++ t) (for_map f g l)

  pub for_same : (f g : A → List B) (l : List A) → ((a : A) → Memᴰ a l → f a ≡ g a) → for l f ≡ for l g
  unfolding for
  for_same f g [] h = refl
  for_same f g (a ∷ l) h = ap₂ (λ (s t : List B). s ++ t) (h a (Memᴰ.head refl)) (for_same f g l (λ b m. h b (Memᴰ.tail m)))

  pub in_for : (f : A → List B) {a : A} {z : B} {l : List A} → Memᴰ a l → Memᴰ z (f a) → Memᴰ z (for l f)
  unfolding for
  in_for f {a} {z} (Memᴰ.head {x = x} {xs = xs} e) h = Memᴰ.append_left (for xs f) (subst (λ (c : A). Memᴰ z (f c)) e h)
  in_for f (Memᴰ.tail {x = x} m) h = Memᴰ.append_right (f x) (in_for f m h)

  pub any_for : (p : B → Bool) (l : List A) (f : A → List B) → any p (for l f) ≡ any (λ a. any p (f a)) l
  unfolding any for
  any_for p [] f = refl
  any_for p (a ∷ l) f = any_append p (f a) (for l f) ∙ ap (λ (t : Bool). any p (f a) || t) (any_for p l f)

  pub any_map : (p : B → Bool) (f : A → B) (l : List A) → any p (map f l) ≡ any (λ a. p (f a)) l
  unfolding any
  any_map p f [] = refl
  any_map p f (a ∷ l) = rw (any_map p f l)

  -- the order of two lists does not matter
  pub any_swap : (r : A → B → Bool) (l : List A) (m : List B) → any (λ a. any (r a) m) l ≡ any (λ b. any (λ a. r a b) l) m
  unfolding any
  any_swap r [] m = sym (any_none m)
  any_swap r (a ∷ l) m = rw (any_swap r l m) (sym (any_or (r a) (λ b. any (λ a. r a b) l) m))

  pub map_same : (f g : A → B) (l : List A) → ((a : A) → Memᴰ a l → f a ≡ g a) → map f l ≡ map g l
  map_same f g [] h = refl
  map_same f g (a ∷ l) h = cc (h a (Memᴰ.head refl), map_same f g l (λ b m. h b (Memᴰ.tail m)))

-- the numbers of `count` and `below`
pub in_count : (from n a : ℕ) → from ≤ a → a < from + n → Memᴰ a (count from n)
unfolding count
in_count from zero a h k = absurd (omega arith)
in_count from (suc n) a h k = go (ℕ_discrete a from) (in_count (suc from) n a)
  where
    go : Dec (a ≡ from) → (suc from ≤ a → a < suc from + n → Memᴰ a (count (suc from) n)) → Memᴰ a (from ∷ count (suc from) n)
    go (yes e) r = Memᴰ.head e
    go (no d) r = Memᴰ.tail (r (omega arith) (omega arith))

pub of_count : (from n : ℕ) {a : ℕ} → Memᴰ a (count from n) → (from ≤ a) × (a < from + n)
unfolding count
of_count from zero m = absurd (Memᴰ.not-nil m)
of_count from (suc n) {a} (Memᴰ.head e) = (omega arith, omega arith)
of_count from (suc n) {a} (Memᴰ.tail m) = let (h, k) = of_count (suc from) n m in (omega arith, omega arith)

pub length_count : (from n : ℕ) → length (count from n) ≡ n
unfolding count
length_count from zero = refl
length_count from (suc n) = ap suc (length_count (suc from) n)

pub count_more : (from n : ℕ) → count from (suc n) ≡ count from n ++ ((from + n) ∷ [])
unfolding count
count_more from zero = ap (λ (k : ℕ). k ∷ []) (omega arith)
count_more from (suc n) = ap (λ (l : List ℕ). from ∷ l) (count_more (suc from) n ∙ ap (λ (k : ℕ). count (suc from) n ++ (k ∷ [])) (omega arith))

pub below_more : (n : ℕ) → below (suc n) ≡ below n ++ (n ∷ [])
unfolding below
below_more n = count_more 0 n ∙ ap (λ (k : ℕ). count 0 n ++ (k ∷ [])) (omega arith)

pub count_split : (from m n : ℕ) → count from (m + n) ≡ count from m ++ count (from + m) n
unfolding count
count_split from zero n = ap₂ count (let z : from ≡ from + 0 = omega arith in z) (let z : 0 + n ≡ n = omega arith in z)
count_split from (suc m) n =
    ap (count from) (let z : suc m + n ≡ suc (m + n) = omega arith in z)
    ∙ ap (λ (l : List ℕ). from ∷ l)
    (count_split (suc from) m n ∙ ap (λ (k : ℕ). count (suc from) m ++ count k n) (let z : suc from + m ≡ from + suc m = omega arith in z))

pub in_below : (n a : ℕ) → a < n → Memᴰ a (below n)
unfolding below
in_below n a h = in_count 0 n a (omega arith) (omega arith)

pub of_below : (n : ℕ) {a : ℕ} → Memᴰ a (below n) → a < n
unfolding below
of_below n m = let (h, k) = of_count 0 n m in omega arith

-- element i of a list made number by number
pub getD_count : {A : Type 0} (f : ℕ → A) (d : A) (from n i : ℕ) → i < n → get_or (map f (count from n)) i d ≡ f (from + i)
unfolding count
getD_count f d from zero i h = absurd (omega arith)
getD_count f d from (suc n) zero h = ap f (omega arith)
getD_count f d from (suc n) (suc i) h = getD_count f d (suc from) n i (omega arith) ∙ ap f (omega arith)

-- an element, as a test of the list
pub member_any : (l : List ℕ) (a : ℕ) → member l a ≡ any (λ b. eqb b a) l
unfolding member any
member_any [] a = refl
member_any (x ∷ l) a = ap (λ (t : Bool). eqb x a || t) (member_any l a)

pub getD_below : {A : Type 0} (f : ℕ → A) (d : A) (n i : ℕ) → i < n → get_or (map f (below n)) i d ≡ f i
unfolding below
getD_below f d n i h = getD_count f d 0 n i h ∙ ap f (omega arith)

-- a list made number by number, one longer
pub map_below_more : {A : Type 0} (f g : ℕ → A) (n : ℕ) → ((k : ℕ) → k < n → f k ≡ g k) → map f (below (suc n)) ≡ map g (below n) ++ (f n ∷ [])
map_below_more {A} f g n h =
    ap (map f) (below_more n) ∙ map-append f (below n) (n ∷ [])
    ∙ ap (λ (l : List A). l ++ (f n ∷ [])) (map_same f g (below n) (λ k m. h k (of_below n m)))

-- `member` is membership
pub member_in : (l : List ℕ) (a : ℕ) → member l a ≡ true → Memᴰ a l
unfolding member
member_in [] a h = absurd (false≢true h)
member_in (x ∷ xs) a h = go (eqb x a) refl (member_in xs a) h
  where
    go : (b : Bool) → eqb x a ≡ b → (member xs a ≡ true → Memᴰ a xs) → (b || member xs a) ≡ true → Memᴰ a (x ∷ xs)
    go true e f k = Memᴰ.head (sym (eqb-true x a e))
    go false e f k = Memᴰ.tail (f k)

pub in_member : {a : ℕ} {l : List ℕ} → Memᴰ a l → member l a ≡ true
unfolding member
in_member {a} {l} (Memᴰ.head {x = x} {xs = xs} e) = rw (eq-eqb x a (sym e))
in_member {a} {l} (Memᴰ.tail {x = x} {xs = xs} m) = go (eqb x a) (in_member m)
  where
    go : (b : Bool) → member xs a ≡ true → (b || member xs a) ≡ true
    go true k = refl
    go false k = k

pub member_append : (xs : List ℕ) (x a : ℕ) → member (xs ++ (x ∷ [])) a ≡ (member xs a || eqb x a)
unfolding member
member_append [] x a = or-false (eqb x a)
member_append (y ∷ ys) x a = simp (member_append ys x a, or_assoc)

-- a list of different numbers, one longer
pub distinct_append : (n : ℕ) (passed xs : List ℕ) (x : ℕ)
    → distinct n passed (xs ++ (x ∷ [])) ≡ (distinct n passed xs && (ltb x n && not (member (passed ++ xs) x)))
unfolding distinct
distinct_append n passed [] x = rw append-nil (and-true (ltb x n && not (member passed x)))
distinct_append n passed (y ∷ xs) x =
    rw (distinct_append n (passed ++ (y ∷ [])) xs x, append_snoc passed y xs)
    (sym (and_assoc (ltb y n && not (member passed y)) (distinct n (passed ++ (y ∷ [])) xs) (ltb x n && not (member (passed ++ y ∷ xs) x))))

-- different numbers below n, none of `passed`, are at most as many as there are such numbers
free : ℕ → List ℕ → ℕ
free n passed = length (keep (λ a. not (member passed a)) (below n))

distinct_free : (n : ℕ) (passed xs : List ℕ) → distinct n passed xs ≡ true → length xs ≤ free n passed
unfolding distinct free
distinct_free n passed [] h = omega arith
distinct_free n passed (x ∷ xs) h =
    let (h1, h2) = and_parts (ltb x n && not (member passed x)) (distinct n (passed ++ (x ∷ [])) xs) h in
    let (h3, h4) = and_parts (ltb x n) (not (member passed x)) h1 in
    omega (
      arith,
      distinct_free n (passed ++ (x ∷ [])) xs h2,
      keep_less (λ a. not (member (passed ++ (x ∷ [])) a)) (λ a. not (member passed a)) weaker (in_below n x (ltb-true x n h3)) taken h4,
    )
  where
    weaker : (a : ℕ) → not (member (passed ++ (x ∷ [])) a) ≡ true → not (member passed a) ≡ true
    weaker a k = go (member passed a) (eqb x a) (rw (member_append passed x a) at k)
      where
        go : (p q : Bool) → not (p || q) ≡ true → not p ≡ true
        go true q t = t
        go false q t = refl

    taken : not (member (passed ++ (x ∷ [])) x) ≡ false
    taken = rw (member_append passed x x, eq-eqb x x refl) (go (member passed x))
      where
        go : (p : Bool) → not (p || true) ≡ false
        go true = refl
        go false = refl

pub distinct_length : (n : ℕ) (xs : List ℕ) → distinct n [] xs ≡ true → length xs ≤ n
unfolding free below
distinct_length n xs h =
    omega (arith, distinct_free n [] xs h, keep_length (λ a. not (member [] a)) (count 0 n), length_count 0 n)

-- different numbers: so are the first k
pub distinct_first : (n : ℕ) (passed xs ys : List ℕ) → distinct n passed (xs ++ ys) ≡ true → distinct n passed xs ≡ true
unfolding distinct
distinct_first n passed [] ys h = refl
distinct_first n passed (x ∷ xs) ys h =
    let (h1, h2) = and_parts (ltb x n && not (member passed x)) (distinct n (passed ++ (x ∷ [])) (xs ++ ys)) h in
    rw h1 (distinct_first n (passed ++ (x ∷ [])) xs ys h2)

-- lists kept and mapped one after the other
module _ {A : Type 0} where
  pub keep_append : (p : A → Bool) (l m : List A) → keep p (l ++ m) ≡ keep p l ++ keep p m
  unfolding keep
  keep_append p [] m = refl
  keep_append p (a ∷ l) m = go (p a) (keep_append p l m)
    where
      go : (b : Bool) → keep p (l ++ m) ≡ keep p l ++ keep p m → cond b (a ∷ keep p (l ++ m)) (keep p (l ++ m)) ≡ cond b (a ∷ keep p l) (keep p l) ++ keep p m
      go true e = ap (λ (t : List A). a ∷ t) e
      go false e = e

  pub keep_keep : (p q : A → Bool) (l : List A) → keep p (keep q l) ≡ keep (λ a. q a && p a) l
  unfolding keep
  keep_keep p q [] = refl
  keep_keep p q (a ∷ l) = go (q a) (keep_keep p q l)
    where
      go : (b : Bool) → keep p (keep q l) ≡ keep (λ a. q a && p a) l
          → keep p (cond b (a ∷ keep q l) (keep q l)) ≡ cond (b && p a) (a ∷ keep (λ a. q a && p a) l) (keep (λ a. q a && p a) l)
      go true e = rw e
      go false e = e

  pub keep_same : (p q : A → Bool) → ((a : A) → p a ≡ q a) → (l : List A) → keep p l ≡ keep q l
  unfolding keep
  keep_same p q f [] = refl
  keep_same p q f (a ∷ l) = rw (f a, keep_same p q f l)

pub keep_map : {A B : Type 0} (p : B → Bool) (f : A → B) (l : List A) → keep p (map f l) ≡ map f (keep (λ a. p (f a)) l)
unfolding keep
keep_map p f [] = refl
keep_map {A} {B} p f (a ∷ l) = go (p (f a)) (keep_map p f l)
  where
    go : (b : Bool) → keep p (map f l) ≡ map f (keep (λ a. p (f a)) l)
        → cond b (f a ∷ keep p (map f l)) (keep p (map f l)) ≡ map f (cond b (a ∷ keep (λ a. p (f a)) l) (keep (λ a. p (f a)) l))
    go true e = rw e
    go false e = e

pub map_map : {A B C : Type 0} (g : B → C) (f : A → B) (l : List A) → map g (map f l) ≡ map (λ a. g (f a)) l
map_map g f [] = refl
map_map g f (a ∷ l) = rw (map_map g f l)

-- an entry of different numbers below n
pub distinct_entry : (n : ℕ) (s : List ℕ) (x : ℕ) (w : List ℕ) → distinct n [] (s ++ x ∷ w) ≡ true → (x < n) × (not (member s x) ≡ true)
distinct_entry n s x w h =
    let d : distinct n [] (s ++ (x ∷ [])) ≡ true = distinct_first n [] (s ++ (x ∷ [])) w (ap (distinct n []) (append_snoc s x w) ∙ h) in
    let (a, b) = and_parts (distinct n [] s) (ltb x n && not (member s x)) (sym (distinct_append n [] s x) ∙ d) in
    let (e, f) = and_parts (ltb x n) (not (member s x)) b in
    (ltb-true x n e, f)

-- each of different numbers below n is below n
pub distinct_in : (n : ℕ) (passed xs : List ℕ) {o : ℕ} → distinct n passed xs ≡ true → Memᴰ o xs → o < n
unfolding distinct
distinct_in n passed [] h m = absurd (Memᴰ.not-nil m)
distinct_in n passed (x ∷ xs) {o} h m =
    let (h1, h2) = and_parts (ltb x n && not (member passed x)) (distinct n (passed ++ (x ∷ [])) xs) h in
    ⊎_elim (λ (q : o ≡ x). subst (λ (u : ℕ). u < n) (sym q) (ltb-true x n (and_parts (ltb x n) (not (member passed x)) h1).0))
    (λ k. distinct_in n (passed ++ (x ∷ [])) xs h2 k) (Memᴰ.cases_cons m)

-- lists that are the same
pub same_true : (xs ys : List ℕ) → same xs ys ≡ true → xs ≡ ys
unfolding same
same_true [] [] h = refl
same_true [] (y ∷ ys) h = absurd (false≢true h)
same_true (x ∷ xs) [] h = absurd (false≢true h)
same_true (x ∷ xs) (y ∷ ys) h =
    let (p, q) = and_parts (eqb x y) (same xs ys) h in
    cc (eqb-true x y p, same_true xs ys q)

pub same_itself : (xs : List ℕ) → same xs xs ≡ true
unfolding same
same_itself [] = refl
same_itself (x ∷ xs) = and_both (eq-eqb x x refl) (same_itself xs)
