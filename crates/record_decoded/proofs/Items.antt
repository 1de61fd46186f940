-- What the questions of an item come to, and loops over items: what is left decides the whole.
use Prim.Native.Nat.{ℕ, suc, ◌+◌, ◌-◌, ◌≤◌, ◌<◌}
use native.Mathlib.Omega.{arith}
use mathlib.Core.Path.{◌≡◌, refl, sym, ap, ap₂, ◌∙◌}
use mathlib.Core.List.{List, [], ◌∷◌, ◌++◌}
use lib.ListN.{length, get_or, take, drop}
use borrow.Author.Tests.{le-leb, lt-leb}
use Rattle.model.specs.Questions.{Found, no_to, found, Reader, next, item, byte, many}

-- question 1, for an item of k bytes
pub item_short : (k : ℕ) (part : List ℕ) → length part < k → item k part ≡ no_to 1
unfolding item
item_short k part h = rw (lt-leb k (length part) h)

pub item_there : (k : ℕ) (part : List ℕ) → k ≤ length part → item k part ≡ found (take k part) (drop k part)
unfolding item
item_there k part h = rw (le-leb k (length part) h)

-- question 1, for a count at the start of a part
pub byte_short : (part : List ℕ) → length part < 1 → byte part ≡ no_to 1
unfolding byte
byte_short [] h = refl
byte_short (b ∷ l) h = absurd (omega arith)

pub byte_there : (part : List ℕ) → 1 ≤ length part → byte part ≡ found (get_or part 0 0) (drop 1 part)
unfolding byte
byte_there [] h = absurd (omega arith)
byte_there (b ∷ l) h = refl

-- A loop over n items: `whole` is what is left to read, after those of `done`, from the bytes that are left.
pub record Going {A : Type 0} (read : List A → Reader A) (whole : Found (List A)) (n i : ℕ) (done : List A) (rest : List ℕ) : Type 0 where
  pub turns : i ≤ n
  pub decides : whole ≡ many read (n - i) done rest

pub going_starts : {A : Type 0} {read : List A → Reader A} {n : ℕ} {d done : List A} {r rest : List ℕ} → done ≡ d → rest ≡ r → Going read (many read n d r) n 0 done rest
going_starts {A} {read} {n} {d} {done} {r} {rest} e f = record {
  turns = omega arith;
  decides = ap₂ (λ (l : List A) (b : List ℕ). many read n l b) (sym e) (sym f) ∙ ap (λ (k : ℕ). many read k done rest) (let z : n ≡ n - 0 = omega arith in z);
}

module _ {A : Type 0} {read : List A → Reader A} {whole : Found (List A)} {n i : ℕ} {done : List A} {rest : List ℕ}
    (inv : Going read whole n i done rest) where
  -- one item more
  turn : i < n → whole ≡ next (read done rest) (λ a. many read (n - (i + 1)) (done ++ (a ∷ [])))
  unfolding many
  turn h = inv.decides ∙ ap (λ (k : ℕ). many read k done rest) (let z : n - i ≡ suc (n - (i + 1)) = omega arith in z)

  pub going_on : {value : A} {after : List ℕ} {more : List A} → i < n → read done rest ≡ found value after → more ≡ done ++ (value ∷ [])
      → Going read whole n (i + 1) more after
  unfolding next
  going_on {value} {after} {more} h e m = record {
    turns = omega arith;
    decides = turn h ∙ ap (λ (f : Found A). next f (λ b. many read (n - (i + 1)) (done ++ (b ∷ [])))) e ∙ ap (λ (l : List A). many read (n - (i + 1)) l after) (sym m);
  }

  pub going_fails : {q : ℕ} → i < n → read done rest ≡ no_to q → whole ≡ no_to q
  unfolding next
  going_fails h e = turn h ∙ ap (λ (f : Found A). next f (λ b. many read (n - (i + 1)) (done ++ (b ∷ [])))) e

  pub going_ends : n ≤ i → whole ≡ found done rest
  unfolding many
  going_ends h = inv.decides ∙ ap (λ (k : ℕ). many read k done rest) (let z : n - i ≡ 0 = omega arith in z)
