-- Bytes with zeros at some places: how many they are, each of them, and zeros at more places.
use Prim.Native.Nat.{ℕ, ◌+◌, ◌-◌, ◌<◌}
use native.Mathlib.Omega.{arith}
use native.Mathlib.Decide.{dec_lt}
use mathlib.Core.Path.{◌≡◌, refl, sym, ap, ap₂, ◌∙◌}
use mathlib.Core.Bool.{Bool, true, false, cond, ◌||◌}
use mathlib.Core.List.{List, [], ◌∷◌, ◌++◌}
use lib.ListN.{length, get_or, set, length-append, length-map, length-set, get_or-append}
use lib.Seq.{ext_get_or, get_or-set_same, get_or-set_other, get_or-append-add}
use lib.Dec.{ltb, eqb}
use borrow.Author.Tests.{ltb-true, eq-eqb, eqb-true}
use Rattle.base.specs.Lists.{all, below, member}
use Rattle.base.proofs.Bools.{split, clash, is_false}
use Rattle.base.proofs.Lists.{member_any, any_append, member_in, all_member, length_count, getD_below}
use Rattle.model.specs.SolversCopy.{zeroed}

pub zeroed_length : (places bytes : List ℕ) → length (zeroed places bytes) ≡ length bytes
unfolding zeroed below
zeroed_length places bytes = length-map (below (length bytes)) (λ k. cond (member places k) 0 (get_or bytes k 0)) ∙ length_count 0 (length bytes)

pub zeroed_at : (places bytes : List ℕ) (k : ℕ) → k < length bytes → get_or (zeroed places bytes) k 0 ≡ cond (member places k) 0 (get_or bytes k 0)
unfolding zeroed
zeroed_at places bytes k h = getD_below (λ k. cond (member places k) 0 (get_or bytes k 0)) 0 (length bytes) k h

-- bytes that are as they should be are the bytes with zeros at these places
pub zeroed_is : (places bytes out : List ℕ) → length out ≡ length bytes → ((k : ℕ) → k < length bytes → get_or out k 0 ≡ cond (member places k) 0 (get_or bytes k 0))
    → out ≡ zeroed places bytes
zeroed_is places bytes out long each =
    ext_get_or 0 out (zeroed places bytes) (long ∙ sym (zeroed_length places bytes)) (λ k h.
    let l : k < length bytes = omega (arith, h, long) in each k l ∙ sym (zeroed_at places bytes k l))

pub zeroed_none : (bytes : List ℕ) → bytes ≡ zeroed [] bytes
unfolding member
zeroed_none bytes = zeroed_is [] bytes bytes refl (λ k h. refl)

-- zeros at some places, then at others
pub zeroed_append : (s t bytes : List ℕ) → zeroed t (zeroed s bytes) ≡ zeroed (s ++ t) bytes
zeroed_append s t bytes =
    zeroed_is (s ++ t) bytes (zeroed t (zeroed s bytes)) (zeroed_length t (zeroed s bytes) ∙ zeroed_length s bytes) (λ k h.
    zeroed_at t (zeroed s bytes) k (omega (arith, h, zeroed_length s bytes))
    ∙ ap (cond (member t k) 0) (zeroed_at s bytes k h)
    ∙ both (member s k) (member t k) (get_or bytes k 0)
    ∙ ap (λ (b : Bool). cond b 0 (get_or bytes k 0)) (sym (in_both k)))
  where
    both : (a b : Bool) (n : ℕ) → cond b 0 (cond a 0 n) ≡ cond (a || b) 0 n
    both true true n = refl
    both true false n = refl
    both false b n = refl

    in_both : (k : ℕ) → member (s ++ t) k ≡ (member s k || member t k)
    in_both k =
        member_any (s ++ t) k ∙ any_append (λ b. eqb b k) s t
        ∙ ap₂ (λ (a b : Bool). a || b) (sym (member_any s k)) (sym (member_any t k))

-- a zero at one place is a store
pub zeroed_one : (at : ℕ) (bytes : List ℕ) → at < length bytes → set bytes at 0 ≡ zeroed (at ∷ []) bytes
unfolding member
zeroed_one at bytes room =
    zeroed_is (at ∷ []) bytes (set bytes at 0) (length-set bytes at 0) (λ k h.
    split (eqb at k)
    (λ e. ap (λ (j : ℕ). get_or (set bytes at 0) j 0) (sym (eqb-true at k e)) ∙ get_or-set_same bytes at 0 0 room ∙ sym (ap (λ (b : Bool). cond (b || false) 0 (get_or bytes k 0)) e))
    (λ e. get_or-set_other bytes at k 0 0 (λ z. clash (eq-eqb at k (sym z)) e) ∙ sym (ap (λ (b : Bool). cond (b || false) 0 (get_or bytes k 0)) e)))

-- zeros at places of the front
module _ (places front rest : List ℕ) (within : all (λ k. ltb k (length front)) places ≡ true) where
  front_at : (k : ℕ) → Dec (k < length front) → get_or (zeroed places front ++ rest) k 0 ≡ cond (member places k) 0 (get_or (front ++ rest) k 0)
  front_at k (yes h) =
      get_or-append (zeroed places front) rest 0 k (omega (arith, h, zeroed_length places front))
      ∙ zeroed_at places front k h
      ∙ ap (cond (member places k) 0) (sym (get_or-append front rest 0 k h))
  front_at k (no h) =
      behind (zeroed places front) (zeroed_length places front)
      ∙ sym (behind front refl)
      ∙ sym (ap (λ (b : Bool). cond b 0 (get_or (front ++ rest) k 0)) (is_false (member places k) (λ m.
      h (ltb-true k (length front) (all_member (λ k. ltb k (length front)) (member_in places k m) within)))))
    where
      behind : (l : List ℕ) → length l ≡ length front → get_or (l ++ rest) k 0 ≡ get_or rest (k - length front) 0
      behind l e =
          ap (λ (j : ℕ). get_or (l ++ rest) j 0) (let z : k ≡ length l + (k - length front) = omega (arith, e, h) in z) ∙ get_or-append-add l rest (k - length front) 0

  pub zeroed_front : zeroed places (front ++ rest) ≡ zeroed places front ++ rest
  zeroed_front =
      sym (zeroed_is places (front ++ rest) (zeroed places front ++ rest)
      (length-append (zeroed places front) rest ∙ ap (λ (n : ℕ). n + length rest) (zeroed_length places front) ∙ sym (length-append front rest))
      (λ k h. front_at k (dec_lt k (length front))))
