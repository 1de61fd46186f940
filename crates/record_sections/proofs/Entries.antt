-- The section of instructions, walked entry by entry from its front.
use Prim.Native.Nat.{ℕ, zero, suc, ◌+◌, ◌-◌, ◌≤◌, ◌<◌}
use native.Mathlib.Omega.{arith}
use mathlib.Core.Path.{◌≡◌, refl, sym, ap, ap₂, ◌∙◌}
use mathlib.Core.Bool.{Bool, true, not, ◌&&◌}
use mathlib.Core.List.{List, [], ◌∷◌, ◌++◌}
use lib.ListN.{length, get_or, take, drop, length-append, length-drop, get_or-append, drop_of_length-le}
use lib.Seq.{get_or-take, drop-drop, take_at, drop_at, take_all, length-take-le}
use lib.Dec.{eqb, leb}
use borrow.Author.Tests.{eqb-true, eq-eqb, ne_eqb, leb-true, leb-false}
use Rattle.base.specs.Lists.{all, for}
use Rattle.base.proofs.Bools.{split, and_parts}
use Rattle.model.specs.Execution.{is_fence, kind_of}
use Rattle.model.specs.Questions.{question6}
use Rattle.model.specs.Accepted.{Each}
use Rattle.model.specs.Sections.{section_entry_length, entries_up_to, entries_of, is_whole, all_whole}
use Rattle.model.proofs.Accepted.{more_few}

-- how long an entry is
abbrev known : List ℕ → Bool
known x = question6 (get_or x 1 0) && not (is_fence (kind_of (get_or x 1 0)))

pub length_range : (x : List ℕ) → (12 ≤ section_entry_length x) × (section_entry_length x ≤ 20)
unfolding section_entry_length
length_range x =
    split (known x)
    (λ h. rw h (omega arith, omega (arith, more_few (kind_of (get_or x 1 0)) (get_or x 3 0))))
    (λ h. rw h (omega arith, omega arith))

-- kind and size alone say it
pub length_same : (x y : List ℕ) → get_or x 1 0 ≡ get_or y 1 0 → get_or x 3 0 ≡ get_or y 3 0 → section_entry_length x ≡ section_entry_length y
unfolding section_entry_length
length_same x y k s = rw (k, s)

pub length_front : (n : ℕ) (x : List ℕ) → 12 ≤ n → section_entry_length (take n x) ≡ section_entry_length x
length_front n x h = length_same (take n x) x (get_or-take n x 1 0 (omega arith)) (get_or-take n x 3 0 (omega arith))

pub length_before : (x rest : List ℕ) → 12 ≤ length x → section_entry_length (x ++ rest) ≡ section_entry_length x
length_before x rest h = length_same (x ++ rest) x (get_or-append x rest 0 1 (omega arith)) (get_or-append x rest 0 3 (omega arith))

-- any number of entries that is not below the number of bytes is enough
enough : (m n : ℕ) (bytes : List ℕ) → length bytes ≤ m → length bytes ≤ n → entries_up_to m bytes ≡ entries_up_to n bytes
unfolding entries_up_to
enough zero zero [] h k = refl
enough zero (suc n) [] h k = refl
enough (suc m) zero [] h k = refl
enough (suc m) (suc n) [] h k = refl
enough zero n (b ∷ bytes) h k = absurd (omega arith)
enough (suc m) zero (b ∷ bytes) h k = absurd (omega arith)
enough (suc m) (suc n) (b ∷ bytes) h k =
    let l = section_entry_length (b ∷ bytes) in
    let short = length-drop l (b ∷ bytes) in
    let some = (length_range (b ∷ bytes)).0 in
    ap (λ (xs : List (List ℕ)). take l (b ∷ bytes) ∷ xs) (enough m n (drop l (b ∷ bytes)) (omega (arith, short, some)) (omega (arith, short, some)))

pub entries_next : (bytes : List ℕ) → 0 < length bytes → entries_of bytes ≡ take (section_entry_length bytes) bytes ∷ entries_of (drop (section_entry_length bytes) bytes)
unfolding entries_of entries_up_to
entries_next [] h = absurd (omega arith)
entries_next (b ∷ bytes) h =
    let l = section_entry_length (b ∷ bytes) in
    ap (λ (xs : List (List ℕ)). take l (b ∷ bytes) ∷ xs)
    (enough (length bytes) (length (drop l (b ∷ bytes))) (drop l (b ∷ bytes)) (omega (arith, length-drop l (b ∷ bytes), (length_range (b ∷ bytes)).0)) (omega arith))

-- the entry at an index, and those behind it
pub entries_at : (part : List ℕ) (at : ℕ) → at < length part
    → entries_of (drop at part) ≡ take (section_entry_length (drop at part)) (drop at part) ∷ entries_of (drop (at + section_entry_length (drop at part)) part)
entries_at part at h =
    entries_next (drop at part) (omega (arith, length-drop at part))
    ∙ ap (λ (l : List ℕ). take (section_entry_length (drop at part)) (drop at part) ∷ entries_of l) (drop-drop (section_entry_length (drop at part)) at part)

pub entries_end : (part : List ℕ) (at : ℕ) → length part ≤ at → entries_of (drop at part) ≡ []
unfolding entries_of entries_up_to
entries_end part at h = ap entries_of (drop_of_length-le part h)

-- an entry is whole where its bytes are there
pub whole_there : (part : List ℕ) (at : ℕ) → is_whole (take (section_entry_length (drop at part)) (drop at part)) ≡ leb (section_entry_length (drop at part)) (length part - at)
unfolding is_whole
whole_there part at =
    let n = section_entry_length (drop at part) in
    ap (eqb (length (take n (drop at part)))) (length_front n (drop at part) (length_range (drop at part)).0)
    ∙ split (leb n (length part - at))
    (λ h. eq-eqb (length (take n (drop at part))) n (length-take-le n (drop at part) (omega (arith, leb-true n (length part - at) h, length-drop at part))) ∙ sym h)
    (λ h. ne_eqb (length (take n (drop at part))) n (λ e. omega (
      arith,
      e,
      leb-false n (length part - at) h,
      ap length (take_all n (drop at part) (omega (arith, leb-false n (length part - at) h, length-drop at part))),
      length-drop at part,
    )) ∙ sym h)

pub whole_next : (part : List ℕ) (at : ℕ) → at < length part
    → all is_whole (entries_of (drop at part)) ≡ (leb (section_entry_length (drop at part)) (length part - at) && all is_whole (entries_of (drop (at + section_entry_length (drop at part)) part)))
unfolding all
whole_next part at h =
    ap (all is_whole) (entries_at part at h)
    ∙ ap (λ (b : Bool). b && all is_whole (entries_of (drop (at + section_entry_length (drop at part)) part))) (whole_there part at)

-- The walk has come to an index, and from there on all entries are whole.
pub record Walking (part : List ℕ) (at : ℕ) : Type 0 where
  pub within : at ≤ length part
  pub whole : all is_whole (entries_of (drop at part)) ≡ true

pub walking_starts : (part : List ℕ) → all_whole part ≡ true → Walking part 0
unfolding all_whole
walking_starts part h = record { within = omega arith; whole = h }

module _ {part : List ℕ} {at : ℕ} (inv : Walking part at) (more : at < length part) where
  parts : (leb (section_entry_length (drop at part)) (length part - at) ≡ true) × (all is_whole (entries_of (drop (at + section_entry_length (drop at part)) part)) ≡ true)
  parts =
      and_parts (leb (section_entry_length (drop at part)) (length part - at)) (all is_whole (entries_of (drop (at + section_entry_length (drop at part)) part)))
      (sym (whole_next part at more) ∙ inv.whole)

  pub walking_there : at + section_entry_length (drop at part) ≤ length part
  walking_there =
      omega (arith, leb-true (section_entry_length (drop at part)) (length part - at) parts.0, more)

  -- the shortest entry is there
  pub walking_least : at + 12 ≤ length part
  walking_least = omega (arith, walking_there, (length_range (drop at part)).0)

  pub walking_turns : Walking part (at + section_entry_length (drop at part))
  walking_turns = record { within = walking_there; whole = parts.1 }

-- entries that are whole, one after the other, are the entries of their bytes
pub entries_of_lem : (xs : List (List ℕ)) → Each (λ x. is_whole x ≡ true) xs → entries_of (for xs (λ x. x)) ≡ xs
unfolding for entries_of entries_up_to is_whole
entries_of_lem [] h = refl
entries_of_lem (x ∷ xs) (whole, h) =
    let rest = for xs (λ y. y) in
    let long = eqb-true (length x) (section_entry_length x) whole in
    let some = (length_range x).0 in
    let same = length_before x rest (omega arith) ∙ sym long in
    entries_next (x ++ rest) (omega (arith, length-append x rest))
    ∙ ap (λ (n : ℕ). take n (x ++ rest) ∷ entries_of (drop n (x ++ rest))) same
    ∙ ap₂ (λ (y l : List ℕ). y ∷ entries_of l) (take_at x rest (length x) refl) (drop_at x rest (length x) refl)
    ∙ ap (λ (ys : List (List ℕ)). x ∷ ys) (entries_of_lem xs h)
