-- The processors of an accepted record: the bytes of their programs are a prefix code, their pairs are of their own instructions.
use Prim.Native.Nat.{ℕ, ◌+◌, ◌≤◌, ◌<◌}
use native.Mathlib.Omega.{arith}
use mathlib.Core.Path.{◌≡◌, refl, sym, ap, ap₂, ◌∙◌}
use mathlib.Core.List.{List, [], ◌∷◌, ◌++◌, map, append-nil, append_assoc, Memᴰ}
use lib.ListN.{length, take, drop}
use lib.Seq.{take_at, drop_at}
use lib.Dec.{eqb}
use Rattle.base.specs.Lists.{for}
use Rattle.base.proofs.Lists.{for_map, keep_length}
use Rattle.model.specs.Execution.{kind_of, kind_number, Instruction, Execution}
use Rattle.model.specs.Questions.{at, more_length}
use Rattle.model.specs.Sections.{entry_bytes}
use Rattle.model.specs.Renumbering.{Processor, bytes_of_program, own_instructions, processor_at}
use Rattle.record_sections.proofs.Rendered.{kind_numbered}
use Rattle.record_renumbering.proofs.Words.{PrefixCode}
use Rattle.record_renumbering.proofs.Parts.{Parts, in_own, local_low}

abbrev pub AllWhole : List Instruction → Type 0
AllWhole is = (i : Instruction) → Memᴰ i is → length (entry_bytes i) ≡ 11 + more_length i.kind i.size

-- bytes that are a program
pub record Program (w : List ℕ) : Type 0 where
  pub instructions : List Instruction
  pub bytes_are : w ≡ bytes_of_program instructions
  pub whole : AllWhole instructions

-- parts of one length, with something behind them
pub same_parts : (a b x y : List ℕ) → length a ≡ length b → a ++ x ≡ b ++ y → (a ≡ b) × (x ≡ y)
same_parts a b x y h e = (
  sym (take_at a x (length b) h) ∙ ap (take (length b)) e ∙ take_at b y (length b) refl,
  sym (drop_at a x (length b) h) ∙ ap (drop (length b)) e ∙ drop_at b y (length b) refl,
)

-- the first three bytes of an entry tell its length
entry_length_lem : (i j : Instruction) (x y : List ℕ) → length (entry_bytes i) ≡ 11 + more_length i.kind i.size → length (entry_bytes j) ≡ 11 + more_length j.kind j.size
    → entry_bytes i ++ x ≡ entry_bytes j ++ y → length (entry_bytes i) ≡ length (entry_bytes j)
unfolding entry_bytes
entry_length_lem i j x y li lj e =
    let number : kind_number i.kind ≡ kind_number j.kind = cc in
    let size : i.size ≡ j.size = cc in
    let kind : i.kind ≡ j.kind = sym (kind_numbered i.kind) ∙ ap kind_of number ∙ kind_numbered j.kind in
    li ∙ (λ z. 11 + more_length (kind z) (size z)) ∙ sym lj

-- so many entries, each for itself
pub entries_same : (is js : List Instruction) (x y : List ℕ) → AllWhole is → AllWhole js → length is ≡ length js → for is entry_bytes ++ x ≡ for js entry_bytes ++ y
    → map entry_bytes is ≡ map entry_bytes js
unfolding for
entries_same [] [] x y a b h e = refl
entries_same [] (j ∷ js) x y a b h e = absurd (omega arith)
entries_same (i ∷ is) [] x y a b h e = absurd (omega arith)
entries_same (i ∷ is) (j ∷ js) x y a b h e =
    let apart : entry_bytes i ++ (for is entry_bytes ++ x) ≡ entry_bytes j ++ (for js entry_bytes ++ y) =
    sym (append_assoc (entry_bytes i) (for is entry_bytes) x) ∙ e ∙ append_assoc (entry_bytes j) (for js entry_bytes) y in
    let long = entry_length_lem i j (for is entry_bytes ++ x) (for js entry_bytes ++ y) (a i (Memᴰ.head refl)) (b j (Memᴰ.head refl)) apart in
    let (first, rest) = same_parts (entry_bytes i) (entry_bytes j) (for is entry_bytes ++ x) (for js entry_bytes ++ y) long apart in
    ap₂ (λ (s : List ℕ) (t : List (List ℕ)). s ∷ t) first (entries_same is js x y (λ k m. a k (Memᴰ.tail m)) (λ k m. b k (Memᴰ.tail m)) (omega arith) rest)

pub programs_code : PrefixCode Program
programs_code v w r p q e =
    let is = p.instructions in
    let js = q.instructions in
    let z : length js ∷ for js entry_bytes ≡ length is ∷ (for is entry_bytes ++ r) = sym q.bytes_are ∙ e ∙ ap (λ (l : List ℕ). l ++ r) p.bytes_are in
    let n : length js ≡ length is = cc in
    let rest : for js entry_bytes ≡ for is entry_bytes ++ r = cc in
    let same = entries_same js is [] r q.whole p.whole n (append-nil (for js entry_bytes) ∙ rest) in
    let bytes : for js entry_bytes ≡ for is entry_bytes =
    sym (for_map entry_bytes (λ b. b) js) ∙ ap (λ (l : List (List ℕ)). for l (λ b. b)) same ∙ for_map entry_bytes (λ b. b) is in
    q.bytes_are ∙ ap₂ (λ (k : ℕ) (l : List ℕ). k ∷ l) n bytes ∙ sym p.bytes_are

-- A processor whose program is one, of at most 40 instructions, and whose pairs are of them
pub record Proper (c : Processor) : Type 0 where
  pub program_is : Program c.program
  pub few : at c.program 0 ≤ 40
  pub inside : (q : ℕ × ℕ) → Memᴰ q c.pairs → (q.0 < at c.program 0) × (q.1 < at c.program 0)

pub proper_at : {bytes : List ℕ} {e : Execution} → Parts bytes e → (p : ℕ) → Proper (processor_at e.instructions e.pairs p)
unfolding processor_at own_instructions
proper_at {bytes} {e} r p = record {
  program_is = record { instructions = own_instructions e.instructions p; bytes_are = refl; whole = λ i m. (r.own i (in_own e.instructions p m).0).1.long };
  few = omega (arith, keep_length (λ i. eqb i.processor p) e.instructions, r.accepted.instructions_few);
  inside = local_low r p;
}
