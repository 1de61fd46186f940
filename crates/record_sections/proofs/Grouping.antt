-- Programs one after the other, and the section of their instructions: its entries, and those of each processor.
use Prim.Native.Nat.{ℕ, suc, ◌*◌, ◌<◌}
use native.Mathlib.Nat.{zero-mul, suc-mul}
use native.Mathlib.Omega.{arith}
use mathlib.Core.Path.{◌≡◌, refl, sym, ap, ap₂, ◌∙◌}
use mathlib.Core.Bool.{Bool, true, false}
use mathlib.Core.List.{List, [], ◌∷◌, ◌++◌, append-nil, map}
use lib.ListN.{length, get_or, drop, length-append, length-map}
use lib.Dec.{eqb}
use borrow.Author.Tests.{eq-eqb, ne_eqb}
use Rattle.base.specs.Lists.{all, keep, for, count}
use Rattle.base.proofs.Bools.{and_parts, and_both}
use Rattle.base.proofs.Lists.{keep_append, keep_map, for_map, for_same, of_count}
use Rattle.model.specs.Execution.{Instruction}
use Rattle.model.specs.Accepted.{Each}
use Rattle.model.specs.Sections.{entries_of, is_whole, all_whole, program_of, program_bytes, section_entry}
use Rattle.model.specs.Renumbering.{bytes_of_program}
use Rattle.record_sections.proofs.Entries.{entries_of_lem}
use Rattle.record_sections.proofs.Rendered.{Own, OwnFrom}

-- Lists

module _ {A : Type 0} where
  pub keep_all : (p : A → Bool) (l : List A) → Each (λ a. p a ≡ true) l → keep p l ≡ l
  unfolding keep
  keep_all p [] h = refl
  keep_all p (a ∷ l) (k, h) = rw (k, keep_all p l h)

  pub keep_none : (p : A → Bool) (l : List A) → Each (λ a. p a ≡ false) l → keep p l ≡ []
  unfolding keep
  keep_none p [] h = refl
  keep_none p (a ∷ l) (k, h) = rw (k, keep_none p l h)

  pub each_append : (P : A → Type 0) (l m : List A) → Each P l → Each P m → Each P (l ++ m)
  each_append P [] m h k = k
  each_append P (a ∷ l) m (h, hs) k = (h, each_append P l m hs k)

  pub each_map : (P Q : A → Type 0) → ((a : A) → P a → Q a) → (l : List A) → Each P l → Each Q l
  each_map P Q f [] h = tt
  each_map P Q f (a ∷ l) (h, hs) = (f a h, each_map P Q f l hs)

  pub each_all : (p : A → Bool) (l : List A) → Each (λ a. p a ≡ true) l → all p l ≡ true
  unfolding all
  each_all p [] h = refl
  each_all p (a ∷ l) (k, h) = and_both k (each_all p l h)

  pub all_each : (p : A → Bool) (l : List A) → all p l ≡ true → Each (λ a. p a ≡ true) l
  unfolding all
  all_each p [] h = tt
  all_each p (a ∷ l) h = let (k, hs) = and_parts (p a) (all p l) h in (k, all_each p l hs)

module _ {A B : Type 0} where
  pub each_mapped : (P : B → Type 0) (f : A → B) (l : List A) → Each (λ a. P (f a)) l → Each P (map f l)
  each_mapped P f [] h = tt
  each_mapped P f (a ∷ l) (h, hs) = (h, each_mapped P f l hs)

-- so many bytes for each
pub length_for : {A : Type 0} (k : ℕ) (f : A → List ℕ) (l : List A) → Each (λ a. length (f a) ≡ k) l → length (for l f) ≡ length l * k
unfolding for
length_for k f [] h = sym (zero-mul k)
length_for k f (a ∷ l) (h, hs) = omega (arith, length-append (f a) (for l f), h, length_for k f l hs, suc-mul (length l) k)

-- The section of instructions

abbrev own_of : ℕ → Instruction → Bool
own_of q i = eqb i.processor q

module _ (is : List Instruction) (whole : Each (λ i. is_whole (section_entry i) ≡ true) is) where
  pub section_entries : entries_of (for is section_entry) ≡ map section_entry is
  section_entries =
      ap entries_of (sym (for_map section_entry (λ x. x) is)) ∙ entries_of_lem (map section_entry is) (each_mapped (λ x. is_whole x ≡ true) section_entry is whole)

  pub section_whole : all_whole (for is section_entry) ≡ true
  unfolding all_whole
  section_whole = ap (all is_whole) section_entries ∙ each_all is_whole (map section_entry is) (each_mapped (λ x. is_whole x ≡ true) section_entry is whole)

  pub section_program : (q : ℕ) → program_of (for is section_entry) q ≡ map section_entry (keep (own_of q) is)
  unfolding program_of
  section_program q = ap (keep (λ x. eqb (get_or x 0 0) q)) section_entries ∙ keep_map (λ x. eqb (get_or x 0 0) q) section_entry is

-- a program of the section, as the record has it
pub program_as : (is : List Instruction) → program_bytes (map section_entry is) ≡ bytes_of_program is
unfolding program_bytes
program_as is = ap₂ (λ (n : ℕ) (l : List ℕ). n ∷ l) (length-map is section_entry) (for_map section_entry (drop 1) is)

-- Programs of processors from p on

pub programs_whole : (p : ℕ) (programs : List (List Instruction)) → OwnFrom p programs → Each (λ i. is_whole (section_entry i) ≡ true) (for programs (λ is. is))
unfolding for
programs_whole p [] h = tt
programs_whole p (is ∷ programs) (own, h) =
    each_append (λ i. is_whole (section_entry i) ≡ true) is (for programs (λ js. js)) (each_map (Own p) (λ i. is_whole (section_entry i) ≡ true) (λ i o. o.whole) is own) (programs_whole (suc p) programs h)

others_none : (q p : ℕ) (programs : List (List Instruction)) → OwnFrom p programs → q < p → keep (own_of q) (for programs (λ is. is)) ≡ []
unfolding for keep
others_none q p [] h l = refl
others_none q p (is ∷ programs) (own, h) l =
    keep_append (own_of q) is (for programs (λ js. js))
    ∙ ap₂ (λ (a b : List Instruction). a ++ b)
    (keep_none (own_of q) is (each_map (Own p) (λ i. own_of q i ≡ false) (λ i o. ne_eqb i.processor q (λ e. omega (arith, e, o.by))) is own))
    (others_none q (suc p) programs h (omega arith))

-- each processor's instructions are its program
pub programs_apart : {B : Type 0} (f : List Instruction → List B) (p : ℕ) (programs : List (List Instruction)) → OwnFrom p programs
    → for (count p (length programs)) (λ q. f (keep (own_of q) (for programs (λ is. is)))) ≡ for programs f
unfolding for count
programs_apart f p [] h = refl
programs_apart {B} f p (is ∷ programs) (own, h) =
    let rest = for programs (λ js. js) in
    ap₂ (λ (a b : List B). a ++ b)
    (ap f (keep_append (own_of p) is rest
    ∙ ap₂ (λ (a b : List Instruction). a ++ b) (keep_all (own_of p) is (each_map (Own p) (λ i. own_of p i ≡ true) (λ i o. eq-eqb i.processor p o.by) is own)) (others_none p (suc p) programs h (omega arith))
    ∙ append-nil is))
    (for_same (λ q. f (keep (own_of q) (is ++ rest))) (λ q. f (keep (own_of q) rest)) (count (suc p) (length programs)) (λ q m.
    ap f (keep_append (own_of q) is rest
    ∙ ap (λ (a : List Instruction). a ++ keep (own_of q) rest)
    (keep_none (own_of q) is (each_map (Own p) (λ i. own_of q i ≡ false) (λ i o. ne_eqb i.processor q (λ e. omega (arith, e, o.by, (of_count (suc p) (length programs) m).0))) is own))))
    ∙ programs_apart f (suc p) programs h)
