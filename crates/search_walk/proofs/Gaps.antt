-- The order theorem of the walk: nothing that passes lies between the prefix it started from and the point of its search.
use Prim.Native.Nat.{ℕ, zero, suc, ◌<◌, ◌≤◌}
use native.Mathlib.Nat.{eq-or-lt_of_le}
use native.Mathlib.Omega.{arith}
use mathlib.Core.Path.{◌≡◌, sym, ap, ◌∙◌, subst}
use mathlib.Core.Bool.{Bool, true, false, not, ◌&&◌}
use mathlib.Core.List.{List, [], ◌∷◌, ◌++◌, append-nil}
use mathlib.Core.Logic.{◌⊎◌, inl, inr, ⊎_elim}
use lib.Seq.{append_snoc}
use Rattle.base.specs.Lists.{member, distinct}
use Rattle.base.specs.Lex.{Less}
use Rattle.base.proofs.Bools.{and_both, clash}
use Rattle.base.proofs.Lists.{distinct_entry}
use Rattle.base.proofs.Lex.{less_cases, less_head, less_nil, less_total}
use Rattle.search_walk.specs.Walks.{Closed, Passes, IsNext, IsLast}

-- nothing lies between a list and its extension by 0
less_first : (xs zs : List ℕ) → Less xs zs → Less zs (xs ++ 0 ∷ []) → ⊥
less_first [] [] h k = less_nil [] h
less_first [] (z ∷ zs) h k = less_cases z 0 zs [] k (λ l. omega arith) (λ e l. less_nil zs l)
less_first (x ∷ xs) [] h k = less_nil (x ∷ xs) h
less_first (x ∷ xs) (z ∷ zs) h k =
    less_cases x z xs zs h
    (λ l. less_cases z x zs (xs ++ 0 ∷ []) k (λ m. omega arith) (λ e m. omega arith))
    (λ d l. less_cases z x zs (xs ++ 0 ∷ []) k (λ m. omega arith) (λ e m. less_first xs zs l m))

-- what lies between s x v and s (x + 1) goes on from s x
less_between : (s : List ℕ) (x : ℕ) (v zs : List ℕ) → Less (s ++ x ∷ v) zs → Less zs (s ++ suc x ∷ []) → (w : List ℕ) × (zs ≡ s ++ x ∷ w) × Less v w
less_between [] x v [] h k = absurd (less_nil (x ∷ v) h)
less_between [] x v (z ∷ zs) h k =
    less_cases x z v zs h
    (λ l. less_cases z (suc x) zs [] k (λ m. absurd (omega arith)) (λ e m. absurd (less_nil zs m)))
    (λ e l. (zs, ap (λ (y : ℕ). y ∷ zs) (sym e), l))
less_between (y ∷ s) x v [] h k = absurd (less_nil (y ∷ s ++ x ∷ v) h)
less_between (y ∷ s) x v (z ∷ zs) h k =
    less_cases y z (s ++ x ∷ v) zs h
    (λ l. less_cases z y zs (s ++ suc x ∷ []) k (λ m. absurd (omega arith)) (λ e m. absurd (omega arith)))
    (λ d l. less_cases z y zs (s ++ suc x ∷ []) k (λ m. absurd (omega arith))
    (λ e m. let (w, p, q) = less_between s x v zs l m in (w, cc, q)))

-- nothing that passes lies between
abbrev pub Gap : (List ℕ → Bool) → ℕ → List ℕ → List ℕ → Type 0
Gap c n xs ys = (zs : List ℕ) → Passes c n zs → Less xs zs → Less zs ys → ⊥

-- the front of what passes passes
pub closed_front : (c : List ℕ → Bool) → Closed c → (ys xs : List ℕ) → c (xs ++ ys) ≡ true → c xs ≡ true
closed_front c cl [] xs h = ap c (sym (append-nil xs)) ∙ h
closed_front c cl (y ∷ ys) xs h = cl xs y (closed_front c cl ys (xs ++ (y ∷ [])) (ap c (append_snoc xs y ys) ∙ h))

pub gap_starts : (c : List ℕ → Bool) (n : ℕ) (xs : List ℕ) → Gap c n xs (xs ++ 0 ∷ [])
gap_starts c n xs zs p h k = less_first xs zs h k

-- the candidate x behind s is refused
pub gap_more : (c : List ℕ → Bool) (n : ℕ) → Closed c → (xs s : List ℕ) (x : ℕ) → (not (member s x) && c (s ++ (x ∷ []))) ≡ false
    → Gap c n xs (s ++ x ∷ []) → Gap c n xs (s ++ suc x ∷ [])
gap_more c n cl xs s x f gap zs p h k = go (less_total zs (s ++ x ∷ []))
  where
    front : (w : List ℕ) → zs ≡ s ++ x ∷ w → ⊥
    front w e =
        clash (and_both (distinct_entry n s x w (ap (distinct n []) (sym e) ∙ p.1)).1
        (closed_front c cl w (s ++ (x ∷ [])) (ap c (append_snoc s x w ∙ sym e) ∙ p.0))) f

    go : Less zs (s ++ x ∷ []) ⊎ ((zs ≡ s ++ x ∷ []) ⊎ Less (s ++ x ∷ []) zs) → ⊥
    go (inl l) = gap zs p h l
    go (inr (inl e)) = front [] e
    go (inr (inr l)) = let (w, e, m) = less_between s x [] zs l k in front w e

-- no candidate is left behind s x
pub gap_up : (c : List ℕ → Bool) (n : ℕ) (xs s : List ℕ) (x : ℕ) → Gap c n xs (s ++ (x ∷ []) ++ n ∷ []) → Gap c n xs (s ++ suc x ∷ [])
gap_up c n xs s x gap zs p h k = go (less_total zs (s ++ x ∷ n ∷ []))
  where
    go : Less zs (s ++ x ∷ n ∷ []) ⊎ ((zs ≡ s ++ x ∷ n ∷ []) ⊎ Less (s ++ x ∷ n ∷ []) zs) → ⊥
    go (inl l) = gap zs p h (subst (Less zs) (sym (append_snoc s x (n ∷ []))) l)
    go (inr (inl e)) = omega (arith, distinct_entry n (s ++ (x ∷ [])) n [] (ap (distinct n []) (append_snoc s x (n ∷ []) ∙ sym e) ∙ p.1))
    go (inr (inr l)) = let (w, e, m) = less_between s x (n ∷ []) zs l k in past w e m
      where
        past : (w : List ℕ) → zs ≡ s ++ x ∷ w → Less (n ∷ []) w → ⊥
        past [] e m = less_nil (n ∷ []) m
        past (y ∷ w) e m =
            let b = distinct_entry n (s ++ (x ∷ [])) y w (ap (distinct n []) (append_snoc s x (y ∷ w) ∙ sym e) ∙ p.1) in
            less_cases n y [] w m (λ l. omega arith) (λ d l. omega arith)

-- no first entry is left
pub gap_last : (c : List ℕ → Bool) (n : ℕ) (xs : List ℕ) → Gap c n xs (n ∷ []) → IsLast c n xs
gap_last c n xs gap [] p h = less_nil xs h
gap_last c n xs gap (z ∷ zs) p h = gap (z ∷ zs) p h (less_head z n zs [] (distinct_entry n [] z zs p.1).0)

-- the point of the search passes
pub gap_next : (c : List ℕ → Bool) (n : ℕ) (xs ys : List ℕ) → Passes c n ys → Less xs ys → Gap c n xs ys → IsNext c n xs ys
gap_next c n xs ys p l gap = record { passes = p; after = l; first = λ zs q h. go zs q h (less_total zs ys) }
  where
    go : (zs : List ℕ) → Passes c n zs → Less xs zs → Less zs ys ⊎ ((zs ≡ ys) ⊎ Less ys zs) → (zs ≡ ys) ⊎ Less ys zs
    go zs q h (inl k) = absurd (gap zs q h k)
    go zs q h (inr k) = k

-- the candidates from x on are refused, up to y
pub gap_skip : (c : List ℕ → Bool) (n : ℕ) → Closed c → (xs s : List ℕ) (x y : ℕ) → x ≤ y
    → ((i : ℕ) → x ≤ i → i < y → (not (member s i) && c (s ++ (i ∷ []))) ≡ false) → Gap c n xs (s ++ x ∷ []) → Gap c n xs (s ++ y ∷ [])
gap_skip c n cl xs s x zero l none gap = subst (λ (i : ℕ). Gap c n xs (s ++ i ∷ [])) (omega arith) gap
gap_skip c n cl xs s x (suc y) l none gap =
    ⊎_elim (λ (e : x ≡ suc y). subst (λ (i : ℕ). Gap c n xs (s ++ i ∷ [])) e gap)
    (λ (h : x < suc y). gap_more c n cl xs s y (none y (omega arith) (omega arith)) (gap_skip c n cl xs s x y (omega arith) (λ i a b. none i a (omega arith)) gap))
    (eq-or-lt_of_le l)
