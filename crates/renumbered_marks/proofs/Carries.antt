-- Two lists of which one has the other's elements, moved, in any order: tests of them, and bytes looked up in them.
use Prim.Native.Nat.{ℕ}
use mathlib.Core.Path.{◌≡◌, refl, sym, ap, ◌∙◌, subst}
use mathlib.Core.Bool.{Bool}
use mathlib.Core.List.Memᴰ
use mathlib.Core.List.{List, [], ◌∷◌, map, Memᴰ}
use lib.Dec.{eqb}
use borrow.Author.Tests.{eq-eqb, eqb-true, eqb-false, ne_eqb}
use Rattle.base.specs.Lists.{any, keep}
use Rattle.base.proofs.Bools.{agree, split}
use Rattle.base.proofs.Lists.{any_witness, any_member, any_fails, in_keep, of_keep}
use Rattle.model.specs.Rules.{byte_of}

-- The byte that a list gives for a number: that of an element with this key

module _ {A : Type 0} (key byte : A → ℕ) where
  abbrev pub table : List A → List (ℕ × ℕ)
  table l = map (λ a. (key a, byte a)) l

  pub byte_there : {w : A} {l : List A} → Memᴰ w l → (d : ℕ) → ((u : A) → Memᴰ u l → key u ≡ key w → byte u ≡ byte w) → byte_of (table l) (key w) d ≡ byte w
  unfolding byte_of
  byte_there {w = w} (Memᴰ.head {x = x} {xs = l} e) d one = rw (eq-eqb (key x) (key w) (ap key (sym e))) (one x (Memᴰ.head refl) (ap key (sym e)))
  byte_there {w = w} (Memᴰ.tail {x = x} {xs = l} m) d one =
      split (eqb (key x) (key w))
      (λ t. rw t (one x (Memᴰ.head refl) (eqb-true (key x) (key w) t)))
      (λ f. rw f (byte_there {w = w} m d (λ u mu. one u (Memᴰ.tail mu))))

  pub byte_none : (l : List A) (o d : ℕ) → ((a : A) → Memᴰ a l → key a ≡ o → ⊥) → byte_of (table l) o d ≡ d
  unfolding byte_of
  byte_none [] o d none = refl
  byte_none (x ∷ l) o d none = rw (ne_eqb (key x) o (none x (Memᴰ.head refl))) (byte_none l o d (λ a m. none a (Memᴰ.tail m)))

-- The elements of l, moved, are those of m
pub record Carries {A B : Type 0} (go : A → B) (l : List A) (m : List B) : Type 0 where
  pub into : (a : A) → Memᴰ a l → Memᴰ (go a) m
  pub onto : (b : B) → Memᴰ b m → (a : A) × Memᴰ a l × (go a ≡ b)

module _ {A B : Type 0} {go : A → B} {l : List A} {m : List B} (c : Carries go l m) where
  pub any_carried : (p : A → Bool) (q : B → Bool) → ((a : A) → Memᴰ a l → q (go a) ≡ p a) → any q m ≡ any p l
  any_carried p q h = agree (any q m) (any p l)
      (λ t. let (b, k, s) = any_witness q m t in let (a, n, e) = c.onto b k in any_member p n (sym (h a n) ∙ ap q e ∙ s))
      (λ t. let (a, n, s) = any_witness p l t in any_member q (c.into a n) (h a n ∙ s))

  pub keep_carries : (p : A → Bool) (q : B → Bool) → ((a : A) → Memᴰ a l → q (go a) ≡ p a) → Carries go (keep p l) (keep q m)
  keep_carries p q h = record {
    into = λ a n. let (k, t) = of_keep p l n in in_keep q (c.into a k) (h a k ∙ t);
    onto = λ b n. let (k, t) = of_keep q m n in let (a, j, e) = c.onto b k in (a, in_keep p j (sym (h a j) ∙ ap q e ∙ t), e);
  }

  pub map_carries : {C D : Type 0} {to : C → D} (f : A → C) (g : B → D) → ((a : A) → Memᴰ a l → g (go a) ≡ to (f a)) → Carries to (map f l) (map g m)
  map_carries {to = to} f g h = record {
    into = λ x n. let (a, k, e) = Memᴰ.of_map f l n in subst (λ y. Memᴰ y (map g m)) (h a k ∙ ap to e) (Memᴰ.map g (c.into a k));
    onto = λ y n. let (b, k, e) = Memᴰ.of_map g m n in let (a, j, w) = c.onto b k in (f a, Memᴰ.map f j, sym (h a j) ∙ ap g w ∙ e);
  }

-- bytes by keys that go with π
module _ {A : Type 0} {go : A → A} {l m : List A} (c : Carries go l m) (π : ℕ → ℕ) (one : (a b : ℕ) → π a ≡ π b → a ≡ b) (key byte : A → ℕ)
    (keys : (a : A) → key (go a) ≡ π (key a)) (bytes : (a : A) → byte (go a) ≡ byte a)
    (one_byte : (a b : A) → Memᴰ a l → Memᴰ b l → key a ≡ key b → byte a ≡ byte b) where
  byte_found : (w : A) → Memᴰ w l → (d : ℕ) → byte_of (table key byte m) (π (key w)) d ≡ byte_of (table key byte l) (key w) d
  byte_found w n d =
      ap (λ o. byte_of (table key byte m) o d) (sym (keys w))
      ∙ byte_there key byte (c.into w n) d (λ u k h. let (a, j, e) = c.onto u k in
      cc (bytes a, bytes w, one_byte a w j n (one (key a) (key w) (cc (keys a, keys w)))))
      ∙ bytes w
      ∙ sym (byte_there key byte n d (λ u k. one_byte u w k n))

  pub byte_carried : (o d : ℕ) → byte_of (table key byte m) (π o) d ≡ byte_of (table key byte l) o d
  byte_carried o d = split (any (λ a. eqb (key a) o) l)
      (λ t. let (w, n, s) = any_witness (λ a. eqb (key a) o) l t in
      subst (λ o. byte_of (table key byte m) (π o) d ≡ byte_of (table key byte l) o d) (eqb-true (key w) o s) (byte_found w n d))
      (λ f.
      let none : (a : A) → Memᴰ a l → key a ≡ o → ⊥ = λ a n. eqb-false (key a) o (any_fails (λ a. eqb (key a) o) n f) in
      byte_none key byte m (π o) d (λ u n h. let (a, j, e) = c.onto u n in none a j (one (key a) o (cc (keys a))))
      ∙ sym (byte_none key byte l o d none))
