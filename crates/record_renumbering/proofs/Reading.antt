-- Entries that pass their questions, one after the other, are read: lists of any values, programs, and what stays of the instructions.
use Prim.Native.Nat.{ℕ, suc, ◌+◌, ◌≤◌, ◌<◌}
use native.Mathlib.Omega.{arith}
use mathlib.Core.Path.{◌≡◌, refl, sym, ap, ◌∙◌}
use mathlib.Core.List.{List, [], ◌∷◌, ◌++◌, append-nil, append_assoc, map, map-append, Memᴰ}
use lib.ListN.{length, get_or, length-append, length-map, get_or-map}
use borrow.Author.Tests.{le-leb}
use Rattle.base.specs.Lists.{for}
use Rattle.base.proofs.Lists.{getD_there}
use Rattle.model.specs.Execution.{Kind, Attribute, Instruction}
use Rattle.model.specs.Questions.{Found, found, Reader, next, byte, ask, many, no_instruction, question5, instruction_of, read_instruction, read_program, read_programs}
use Rattle.model.specs.Sections.{entry_bytes}
use Rattle.model.specs.Renumbering.{bytes_of_program}
use Rattle.record_sections.proofs.Rendered.{EntryPasses, entry_found, kind_numbered}
use Rattle.record_renumbering.proofs.Parts.{processor_of}

-- Values, each by those before it

module _ {A B : Type 0} (value : List A → B → A) where
  -- what is made of some, behind `done`
  unfoldable pub made : List A → List B → List A
  made done [] = []
  made done (b ∷ bs) = value done b ∷ made (done ++ (value done b ∷ [])) bs

  -- what does not depend on those before it
  pub made_same : {C : Type 0} (g : A → C) (h : B → C) → ((done : List A) (b : B) → g (value done b) ≡ h b) → (done : List A) (bs : List B) → map g (made done bs) ≡ map h bs
  unfolding made
  made_same g h e done [] = refl
  made_same g h e done (b ∷ bs) = cc (e done b, made_same g h e (done ++ (value done b ∷ [])) bs)

  module _ (read : List A → Reader A) (bytes_of : B → List ℕ) where
    -- each is read as its value
    abbrev pub Readable : List A → List B → Type 0
    Readable done [] = Unit {0}
    Readable done (b ∷ bs) = ((r : List ℕ) → read done (bytes_of b ++ r) ≡ found (value done b) r) × Readable (done ++ (value done b ∷ [])) bs

    pub many_found : (done : List A) (bs : List B) → Readable done bs → (r : List ℕ) → many read (length bs) done (for bs bytes_of ++ r) ≡ found (done ++ made done bs) r
    unfolding many next for made
    many_found done [] h r = ap (λ (d : List A). found d r) (sym (append-nil done))
    many_found done (b ∷ bs) (here, h) r =
        let then : A → Reader (List A) = λ a. many read (length bs) (done ++ (a ∷ [])) in
        let more = done ++ (value done b ∷ []) in
        ap (λ (l : List ℕ). next (read done l) then) (append_assoc (bytes_of b) (for bs bytes_of) r)
        ∙ ap (λ (f : Found A). next f then) (here (for bs bytes_of ++ r))
        ∙ many_found more bs h r
        ∙ ap (λ (d : List A). found d r) (append_assoc done (value done b ∷ []) (made more bs))

    -- where it does not matter which were read before
    pub readable : (done : List A) (bs : List B) → ((d : List A) (b : B) → Memᴰ b bs → (r : List ℕ) → read d (bytes_of b ++ r) ≡ found (value d b) r) → Readable done bs
    readable done [] h = tt
    readable done (b ∷ bs) h = (h done b (Memᴰ.head refl), readable (done ++ (value done b ∷ [])) bs (λ d c m. h d c (Memᴰ.tail m)))

-- Programs

module _ (processors : ℕ) where
  -- the instructions of a program, made those of processor q behind `done`
  abbrev pub anew : ℕ → List Instruction → List Instruction → List Instruction
  anew q done is = made (λ d i. instruction_of processors q d (entry_bytes i)) done is

  unfoldable pub programs_anew : ℕ → List Instruction → List (List Instruction) → List Instruction
  programs_anew q done [] = []
  programs_anew q done (is ∷ programs) = anew q done is ++ programs_anew (suc q) (done ++ anew q done is) programs

  anew_kinds : (q : ℕ) (done is : List Instruction) → map (λ i. i.kind) (anew q done is) ≡ map (λ i. i.kind) is
  unfolding instruction_of entry_bytes
  anew_kinds q done is = made_same (λ d i. instruction_of processors q d (entry_bytes i)) (λ i. i.kind) (λ i. i.kind) (λ d i. kind_numbered i.kind) done is

  anew_own : (q : ℕ) (done is : List Instruction) → map (λ i. i.processor) (anew q done is) ≡ map (λ i. q) is
  unfolding instruction_of
  anew_own q done is = made_same (λ d i. instruction_of processors q d (entry_bytes i)) (λ i. i.processor) (λ i. q) (λ d i. refl) done is

  pub anew_length : (q : ℕ) (done is : List Instruction) → length (anew q done is) ≡ length is
  anew_length q done is = sym (length-map (anew q done is) (λ i. i.kind)) ∙ ap length (anew_kinds q done is) ∙ length-map is (λ i. i.kind)

  pub kind_anew : (q : ℕ) (done is : List Instruction) (k : ℕ) → (get_or (anew q done is) k no_instruction).kind ≡ (get_or is k no_instruction).kind
  kind_anew q done is k =
      sym (get_or-map (λ (i : Instruction). i.kind) (anew q done is) k no_instruction)
      ∙ ap (λ (l : List Kind). get_or l k no_instruction.kind) (anew_kinds q done is)
      ∙ get_or-map (λ (i : Instruction). i.kind) is k no_instruction

  pub own_anew : (q : ℕ) (done is : List Instruction) (k : ℕ) → k < length is → processor_of (anew q done is) k ≡ q
  own_anew q done is k l =
      sym (get_or-map (λ (i : Instruction). i.processor) (anew q done is) k no_instruction)
      ∙ ap (λ (s : List ℕ). get_or s k 0) (anew_own q done is)
      ∙ getD_there (map (λ (i : Instruction). q) is) k 0 q (omega (arith, length-map is (λ i. q)))
      ∙ get_or-map (λ (i : Instruction). q) is k no_instruction

  -- all kinds are as they were
  pub kinds_anew : (q : ℕ) (done : List Instruction) (programs : List (List Instruction)) → map (λ i. i.kind) (programs_anew q done programs) ≡ map (λ i. i.kind) (for programs (λ is. is))
  unfolding programs_anew for
  kinds_anew q done [] = refl
  kinds_anew q done (is ∷ programs) =
      let more = done ++ anew q done is in
      map-append (λ i. i.kind) (anew q done is) (programs_anew (suc q) more programs)
      ∙ (λ x. anew_kinds q done is x ++ kinds_anew (suc q) more programs x)
      ∙ sym (map-append (λ i. i.kind) is (for programs (λ js. js)))

  module _ (lines : List Attribute) where
    abbrev pub AllPass : List Instruction → Type 0
    AllPass is = (i : Instruction) → Memᴰ i is → EntryPasses lines (entry_bytes i)

    program_found : (q : ℕ) (done is : List Instruction) → length done + length is ≤ 40 → AllPass is
        → (r : List ℕ) → read_program processors lines q done (bytes_of_program is ++ r) ≡ found (done ++ anew q done is) r
    unfolding read_program next byte ask question5
    program_found q done is few pass r =
        rw (le-leb (length done + length is) 40 few)
        (many_found (λ d i. instruction_of processors q d (entry_bytes i)) (read_instruction processors lines q) entry_bytes done is
        (readable (λ d i. instruction_of processors q d (entry_bytes i)) (read_instruction processors lines q) entry_bytes done is
        (λ d i m. entry_found processors lines q d (entry_bytes i) (pass i m))) r)

    pub programs_found : (q : ℕ) (done : List Instruction) (programs : List (List Instruction)) → length done + length (for programs (λ is. is)) ≤ 40
        → ((is : List Instruction) → Memᴰ is programs → AllPass is)
        → (r : List ℕ) → read_programs processors lines q (length programs) done (for programs bytes_of_program ++ r) ≡ found (done ++ programs_anew q done programs) r
    unfolding read_programs next for programs_anew
    programs_found q done [] few pass r = ap (λ (d : List Instruction). found d r) (sym (append-nil done))
    programs_found q done (is ∷ programs) few pass r =
        let then : List Instruction → Reader (List Instruction) = read_programs processors lines (suc q) (length programs) in
        let new = anew q done is in
        let rest = for programs (λ js. js) in
        let short = length-append is rest in
        ap (λ (l : List ℕ). next (read_program processors lines q done l) then) (append_assoc (bytes_of_program is) (for programs bytes_of_program) r)
        ∙ ap (λ (f : Found (List Instruction)). next f then) (program_found q done is (omega arith) (pass is (Memᴰ.head refl)) (for programs bytes_of_program ++ r))
        ∙ programs_found (suc q) (done ++ new) programs (omega (arith, length-append done new, anew_length q done is)) (λ js m. pass js (Memᴰ.tail m)) r
        ∙ ap (λ (d : List Instruction). found d r) (append_assoc done new (programs_anew (suc q) (done ++ new) programs))
