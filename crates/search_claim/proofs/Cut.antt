-- A list of prefixes cut after its first full one; in an ascending list, what is greater than an element stands behind it.
use Prim.Native.Nat.{ℕ, zero, suc, ◌<◌}
use native.Mathlib.Omega.{arith}
use mathlib.Core.Path.{◌≡◌, refl, sym, ap, ◌∙◌}
use mathlib.Core.Bool.{Bool, true, false, cond}
use mathlib.Core.List.Memᴰ
use mathlib.Core.List.{List, [], ◌∷◌, Memᴰ}
use mathlib.Core.Logic.{◌⊎◌, inl, inr}
use lib.ListN.{length, get_or, drop}
use lib.Dec.{eqb}
use Rattle.base.specs.Lists.{keep}
use Rattle.base.specs.Lex.{lex_less, Less}
use Rattle.base.proofs.Bools.{clash, is_false}
use Rattle.base.proofs.Lists.{getD_member}
use Rattle.base.proofs.Lex.{less_irreflexive, less_asymmetric}
use Rattle.model.specs.Search.{up_to_full}
use Rattle.model.specs.Claims.{Ascending}

module _ {A : Type 0} (p : A → Bool) where
  -- a test that all elements pass keeps them all
  keep_all : (l : List A) → ((a : A) → Memᴰ a l → p a ≡ true) → keep p l ≡ l
  unfolding keep
  keep_all [] h = refl
  keep_all (x ∷ l) h = rw (h x (Memᴰ.head refl)) (ap (λ (m : List A). x ∷ m) (keep_all l (λ a m. h a (Memᴰ.tail m))))

-- the elements greater than element i of an ascending list stand behind it
pub keep_behind : (l : List (List ℕ)) (i : ℕ) → Ascending l → i < length l → keep (lex_less (get_or l i [])) l ≡ drop (suc i) l
unfolding keep
keep_behind [] i h k = absurd (omega arith)
keep_behind (x ∷ l) zero h k = rw (is_false (lex_less x x) (less_irreflexive x)) (keep_all (lex_less x) l h.0)
keep_behind (x ∷ l) (suc i) h k =
    rw (is_false (lex_less (get_or l i []) x) (less_asymmetric x (get_or l i []) (h.0 (get_or l i []) (getD_member l i [] (omega arith)))))
    (keep_behind l i h.1 (omega arith))

module _ (n : ℕ) where
  -- element i of the cut list is that of the list; behind a full one stands nothing
  pub record At (l : List (List ℕ)) (i : ℕ) : Type 0 where
    pub within : i < length l
    pub element : get_or (up_to_full n l) i [] ≡ get_or l i []
    pub behind : drop (suc i) (up_to_full n l) ≡ cond (eqb (length (get_or l i [])) n) [] (up_to_full n (drop (suc i) l))

  pub cut_at : (l : List (List ℕ)) (i : ℕ) → i < length (up_to_full n l) → At l i
  unfolding up_to_full
  cut_at [] i h = absurd (omega arith)
  cut_at (x ∷ l) i h = go (eqb (length x) n) refl i (cut_at l) h
    where
      go : (b : Bool) → eqb (length x) n ≡ b → (i : ℕ) → ((j : ℕ) → j < length (up_to_full n l) → At l j)
          → i < length {A = List ℕ} (cond b (x ∷ []) (x ∷ up_to_full n l)) → At (x ∷ l) i
      go true e zero ih k = record { within = omega arith; element = rw e; behind = rw e }
      go true e (suc i) ih k = absurd (omega arith)
      go false e zero ih k = record { within = omega arith; element = rw e; behind = rw e }
      go false e (suc i) ih k =
          let a = ih i (omega arith) in
          record { within = omega (arith, a.within); element = rw e a.element; behind = rw e a.behind }

  -- a list ends in a full element, and z is that one or greater
  pub record Ends (l : List (List ℕ)) (z : List ℕ) : Type 0 where
    pub last : ℕ
    pub long : length l ≡ suc last
    pub last_full : eqb (length (get_or l last [])) n ≡ true
    pub first : (z ≡ get_or l last []) ⊎ Less (get_or l last []) z

  -- where an ascending list has a full member, so does the cut list end
  pub cut_ends : (l : List (List ℕ)) (z : List ℕ) → Ascending l → Memᴰ z l → eqb (length z) n ≡ true → Ends (up_to_full n l) z
  unfolding up_to_full
  cut_ends [] z h m f = absurd (Memᴰ.not-nil m)
  cut_ends (x ∷ l) z h m f = go (eqb (length x) n) refl (Memᴰ.cases_cons m) (λ k. cut_ends l z h.1 k f)
    where
      go : (b : Bool) → eqb (length x) n ≡ b → (z ≡ x) ⊎ Memᴰ z l → (Memᴰ z l → Ends (up_to_full n l) z)
          → Ends (cond b (x ∷ []) (x ∷ up_to_full n l)) z
      go true e (inl q) ih = record { last = 0; long = refl; last_full = e; first = inl q }
      go true e (inr k) ih = record { last = 0; long = refl; last_full = e; first = inr (h.0 z k) }
      go false e (inl q) ih = clash (ap (λ (y : List ℕ). eqb (length y) n) (sym q) ∙ f) e
      go false e (inr k) ih =
          let r = ih k in
          record { last = suc r.last; long = ap suc r.long; last_full = r.last_full; first = r.first }
