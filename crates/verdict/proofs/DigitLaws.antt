-- The digits of a number, found from the last one on.
use Prim.Native.Nat.{ℕ, zero, suc, ◌+◌, ◌-◌, ◌/◌, ◌%◌, ◌^◌, ◌≤◌, ◌<◌}
use native.Mathlib.Omega.{arith}
use mathlib.Core.Path.{◌≡◌, sym, ap, ap₂, ◌∙◌, subst}
use mathlib.Core.Bool.{Bool, cond}
use mathlib.Core.List.{List, [], ◌∷◌, ◌++◌, append-nil}
use lib.ListN.{length, drop, set, length-set, length-append, drop_of_length-le}
use lib.Seq.{drop-cons, get_or-set_same, drop-set-lt, append_snoc}
use lib.Dec.{ltb}
use borrow.Author.Tests.{lt-ltb, le-ltb}
use Rattle.base.proofs.Bools.{split}
use Rattle.model.specs.Verdict.{digits, decimal}

-- one digit, and more than one
digits_one : (more n : ℕ) → n < 10 → digits (suc more) n ≡ (48 + n % 10) ∷ []
unfolding digits
digits_one more n h = ap (λ (t : Bool). cond t ((48 + n % 10) ∷ []) (digits more (n / 10) ++ ((48 + n % 10) ∷ []))) (lt-ltb n 10 h)

digits_more : (more n : ℕ) → 10 ≤ n → digits (suc more) n ≡ digits more (n / 10) ++ ((48 + n % 10) ∷ [])
unfolding digits
digits_more more n h = ap (λ (t : Bool). cond t ((48 + n % 10) ∷ []) (digits more (n / 10) ++ ((48 + n % 10) ∷ []))) (le-ltb n 10 h)

pub digits_length : (more n : ℕ) → length (digits more n) ≤ more
unfolding digits
digits_length zero n = omega arith
digits_length (suc more) n =
    split (ltb n 10) (λ t. rw t (omega arith))
    (λ f. rw f (omega (arith, length-append (digits more (n / 10)) ((48 + n % 10) ∷ []), digits_length more (n / 10))))

-- The invariant: the digits of what is left stand before those found.
pub record Spelled (n first rest : ℕ) (bytes : List ℕ) : Type 0 where
  pub within : first < 20
  pub long : length bytes ≡ 20
  pub small : rest < 10 ^ suc first
  pub decides : decimal n ≡ digits (suc first) rest ++ drop (suc first) bytes

-- a digit stored in front of those found
stored : (bytes : List ℕ) (i b : ℕ) → i < length bytes → drop i (set bytes i b) ≡ b ∷ drop (suc i) bytes
stored bytes i b h =
    drop-cons (set bytes i b) i 0 (omega (arith, length-set bytes i b))
    ∙ ap₂ ◌∷◌ (get_or-set_same bytes i b 0 h) (drop-set-lt (suc i) bytes i b (omega arith))

pub spell_starts : {n : ℕ} {bytes : List ℕ} → n < 2 ^ 64 → length bytes ≡ 20 → Spelled n 19 n bytes
spell_starts {n} {bytes} h l = record {
  within = omega arith;
  long = l;
  small = omega arith;
  decides = sym (ap (λ (t : List ℕ). decimal n ++ t) (drop_of_length-le bytes {i = 20} (omega (arith, l))) ∙ append-nil (decimal n));
}

-- more than one digit is left: there is room for them
pub spell_room : {n first rest : ℕ} {bytes : List ℕ} → Spelled n first rest bytes → 9 < rest → 1 ≤ first
spell_room {n} {first} {rest} {bytes} inv h = go first inv.small
  where
    go : (k : ℕ) → rest < 10 ^ suc k → 1 ≤ k
    go zero l = absurd (omega arith)
    go (suc k) l = omega arith

pub spell_turns : (n first rest : ℕ) {bytes : List ℕ} → Spelled n first rest bytes → 9 < rest
    → Spelled n (first - 1) (rest / 10) (set bytes first (48 + rest % 10))
spell_turns n zero rest {bytes} inv h = absurd (omega (arith, inv.small))
spell_turns n (suc f) rest {bytes} inv h = subst (λ (k : ℕ). Spelled n k (rest / 10) (set bytes (suc f) (48 + rest % 10))) (let z : f ≡ suc f - 1 = omega arith in z) (record {
  within = omega (arith, inv.within);
  long = length-set bytes (suc f) (48 + rest % 10) ∙ inv.long;
  small = omega (arith, inv.small);
  decides =
      inv.decides
      ∙ ap (λ (t : List ℕ). t ++ drop (suc (suc f)) bytes) (digits_more (suc f) rest (omega arith))
      ∙ append_snoc (digits (suc f) (rest / 10)) (48 + rest % 10) (drop (suc (suc f)) bytes)
      ∙ ap (λ (t : List ℕ). digits (suc f) (rest / 10) ++ t) (sym (stored bytes (suc f) (48 + rest % 10) (omega (arith, inv.within, inv.long))));
})

pub spell_ends : {n first rest : ℕ} {bytes : List ℕ} → Spelled n first rest bytes → rest ≤ 9 → drop first (set bytes first (48 + rest % 10)) ≡ decimal n
spell_ends {n} {first} {rest} {bytes} inv h =
    stored bytes first (48 + rest % 10) (omega (arith, inv.within, inv.long))
    ∙ sym (inv.decides ∙ ap (λ (t : List ℕ). t ++ drop (suc first) bytes) (digits_one first rest (omega arith)))
