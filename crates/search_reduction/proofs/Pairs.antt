-- Tests of lists that are made element by element or pair by pair.
use Prim.Native.Nat.{ℕ}
use mathlib.Core.Path.{◌≡◌, refl, sym, ap, ◌∙◌}
use mathlib.Core.Bool.{Bool, true, false, ◌&&◌}
use mathlib.Core.List.{List, [], ◌∷◌, Memᴰ}
use lib.Dec.{eqb}
use borrow.Author.Tests.{eq-eqb, eqb-true}
use Rattle.base.specs.Lists.{any, when, for}
use Rattle.base.proofs.Bools.{clash, is_false, agree, and_parts, and_both}
use Rattle.base.proofs.Lists.{any_same, any_witness, any_member, any_for, any_when, any_one}

module _ {A : Type 0} where
  pub any_when_one : (p : A → Bool) (b : Bool) (a : A) → any p (when b (a ∷ [])) ≡ (b && p a)
  any_when_one p b a = any_when p b (a ∷ []) ∙ ap (λ (t : Bool). b && t) (any_one p a)

-- the element that is x
pub any_is : (p : ℕ → Bool) (x : ℕ) (b : Bool) {l : List ℕ} → Memᴰ x l → any (λ o. p o && (eqb x o && b)) l ≡ (p x && b)
any_is p x b {l} m =
    agree (any (λ o. p o && (eqb x o && b)) l) (p x && b)
    (λ h.
    let (o, mo, t) = any_witness (λ o. p o && (eqb x o && b)) l h in
    let (tp, tb) = and_parts (p o) (eqb x o && b) t in
    let (te, k) = and_parts (eqb x o) b tb in
    and_both (ap p (eqb-true x o te) ∙ tp) k)
    (λ h.
    let (tp, k) = and_parts (p x) b h in
    any_member (λ o. p o && (eqb x o && b)) m (and_both tp (and_both (eq-eqb x x refl) k)))

-- lists that have f a b for the a and b that pass r
module _ {A B C : Type 0} (p : C → Bool) (l : List A) (m : List B) (r : A → B → Bool) (f : A → B → List C) where
  pub any_pairs : any p (for l (λ a. for m (λ b. when (r a b) (f a b)))) ≡ any (λ a. any (λ b. r a b && any p (f a b)) m) l
  any_pairs =
      any_for p l (λ a. for m (λ b. when (r a b) (f a b)))
      ∙ any_same _ _ l (λ a ma.
      any_for p m (λ b. when (r a b) (f a b))
      ∙ any_same _ _ m (λ b mb. any_when p (r a b) (f a b)))

  pub pair_passes : {a : A} {b : B} → Memᴰ a l → Memᴰ b m → r a b ≡ true → any p (f a b) ≡ true
      → any p (for l (λ a. for m (λ b. when (r a b) (f a b)))) ≡ true
  pair_passes {a} {b} ma mb h k =
      any_pairs ∙ any_member (λ a. any (λ b. r a b && any p (f a b)) m) ma (any_member (λ b. r a b && any p (f a b)) mb (and_both h k))

  pub pair_fails : {a : A} {b : B} → Memᴰ a l → Memᴰ b m → r a b ≡ true
      → any p (for l (λ a. for m (λ b. when (r a b) (f a b)))) ≡ false → any p (f a b) ≡ false
  pair_fails {a} {b} ma mb h k = is_false (any p (f a b)) (λ t. clash (pair_passes ma mb h t) k)

  pub passing_pair : any p (for l (λ a. for m (λ b. when (r a b) (f a b)))) ≡ true
      → (a : A) × Memᴰ a l × (b : B) × Memᴰ b m × (r a b ≡ true) × (any p (f a b) ≡ true)
  passing_pair h =
      let (a, ma, h1) = any_witness (λ a. any (λ b. r a b && any p (f a b)) m) l (sym any_pairs ∙ h) in
      let (b, mb, h2) = any_witness (λ b. r a b && any p (f a b)) m h1 in
      let (t, k) = and_parts (r a b) (any p (f a b)) h2 in
      (a, ma, b, mb, t, k)

-- two such lists, pair by pair
pub pairs_same : {A B C D : Type 0} (p : C → Bool) (q : D → Bool) (l : List A) (m : List B)
    (r : A → B → Bool) (f : A → B → List C) (s : A → B → Bool) (g : A → B → List D)
    → ((a : A) (b : B) → Memᴰ a l → Memᴰ b m → (r a b && any p (f a b)) ≡ (s a b && any q (g a b)))
    → any p (for l (λ a. for m (λ b. when (r a b) (f a b)))) ≡ any q (for l (λ a. for m (λ b. when (s a b) (g a b))))
pairs_same p q l m r f s g h =
    any_pairs p l m r f
    ∙ any_same _ _ l (λ a ma. any_same _ _ m (λ b mb. h a b ma mb))
    ∙ sym (any_pairs q l m s g)
