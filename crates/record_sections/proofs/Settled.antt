-- Bytes that settle a walk: whatever follows them, it fails alike, or finds the same and leaves what follows.
use Prim.Native.Nat.{ℕ, zero, suc, ◌+◌, ◌*◌, ◌≤◌}
use native.Mathlib.Nat.{suc-mul}
use native.Mathlib.Omega.{arith}
use mathlib.Core.Path.{◌≡◌, refl, sym, ap, ap₂, ◌∙◌, subst}
use mathlib.Core.Bool.{Bool, true, false, cond}
use mathlib.Core.List.{List, [], ◌∷◌, ◌++◌, append-nil, append_assoc, map}
use lib.ListN.{length, get_or, take, drop, length-drop, take-append-drop}
use lib.Seq.{length-take-le, get_or-take, get_or-drop}
use lib.Dec.{eqb}
use borrow.Author.Tests.{eqb-true}
use Rattle.base.specs.Lists.{all, keep, for, count}
use Rattle.base.proofs.Bools.{and_parts}
use Rattle.base.proofs.Lists.{for_append, for_map}
use Rattle.model.specs.Execution.{kind_of, Attribute, Line, Instruction}
use Rattle.model.specs.Accepted.{Each}
use Rattle.model.specs.Questions.{Found, no_to, found, Reader, next, item, byte, ask, many, more_length, question3, question4, question5, question6, question7, question8, question9, question26, question27, instruction_of, line_of, read_line, read_lines, read_instruction, read_program, read_programs}
use Rattle.model.specs.Sections.{section_entry_length, entries_of, is_whole, all_whole, program_of, program_bytes, line_bytes, entry_bytes, section_entry}
use Rattle.model.proofs.Empty.{item_front}
use Rattle.record_sections.proofs.Entries.{length_range}
use Rattle.record_sections.proofs.Rendered.{first_byte, more_same, instruction_bytes, lines_bytes}

pub data Settled {A : Type 0} (walk : Reader A) (bytes : List ℕ) (P : A → Type 0) : Type 0 where
  fails : (q : ℕ) → ((rest : List ℕ) → walk (bytes ++ rest) ≡ no_to q) → Settled walk bytes P
  gives : (a : A) → P a → ((rest : List ℕ) → walk (bytes ++ rest) ≡ found a rest) → Settled walk bytes P

module _ {A : Type 0} where
  -- what is found where something follows
  pub settled_found : {walk : Reader A} {bytes : List ℕ} {P : A → Type 0} → Settled walk bytes P → (rest : List ℕ) (a : A) (r : List ℕ) → walk (bytes ++ rest) ≡ found a r
      → P a × (r ≡ rest)
  settled_found {walk} {bytes} {P} (fails q f) rest a r h = let g = f rest in let z : ◌≡◌ {A = ℕ} 0 1 = cc in absurd (omega arith)
  settled_found {walk} {bytes} {P} (gives b p f) rest a r h =
      let g = f rest in
      let z : b ≡ a = cc in
      let w : r ≡ rest = cc in
      (subst P z p, w)

  -- what was found is found whatever follows
  pub settled_again : {walk : Reader A} {bytes : List ℕ} {P : A → Type 0} → Settled walk bytes P → (rest : List ℕ) (a : A) (r : List ℕ) → walk (bytes ++ rest) ≡ found a r
      → (other : List ℕ) → walk (bytes ++ other) ≡ found a other
  settled_again {walk} {bytes} {P} (fails q f) rest a r h other = let g = f rest in let z : ◌≡◌ {A = ℕ} 0 1 = cc in absurd (omega arith)
  settled_again {walk} {bytes} {P} (gives b p f) rest a r h other =
      let g = f rest in
      let z : b ≡ a = cc in
      f other ∙ ap (λ (v : A). found v other) z

  -- more of what is found
  pub settled_with : {walk : Reader A} {bytes : List ℕ} {P : A → Type 0} (Q : A → Type 0) → ((a : A) → walk bytes ≡ found a [] → Q a) → Settled walk bytes P → Settled walk bytes Q
  settled_with {walk} {bytes} {P} Q k (fails q f) = fails q f
  settled_with {walk} {bytes} {P} Q k (gives a p f) = gives a (k a (ap walk (sym (append-nil bytes)) ∙ f [])) f

  settled_map : {walk : Reader A} {bytes : List ℕ} {P Q : A → Type 0} → ((a : A) → P a → Q a) → Settled walk bytes P → Settled walk bytes Q
  settled_map {walk} {bytes} {P} {Q} k (fails q f) = fails q f
  settled_map {walk} {bytes} {P} {Q} k (gives a p f) = gives a (k a p) f

  settled_pure : (a : A) → Settled (λ bytes. found a bytes) [] (λ _. Unit {0})
  settled_pure a = gives a tt (λ rest. refl)

module _ {B : Type 0} {Q : B → Type 0} where
  -- a question
  pub settled_asks : (q : ℕ) (b : Bool) {walk : Reader B} {bytes : List ℕ} → (b ≡ true → Settled walk bytes Q) → Settled (λ l. next (ask q b l) (λ _. walk)) bytes Q
  unfolding next ask
  settled_asks q true {walk} {bytes} f = f refl
  settled_asks q false {walk} {bytes} f = fails q (λ rest. refl)

  -- a byte
  pub settled_byte : (n : ℕ) (f : ℕ → Reader B) {bytes : List ℕ} → Settled (f n) bytes Q → Settled (λ l. next (byte l) f) (n ∷ bytes) Q
  unfolding next byte
  settled_byte n f (fails q g) = fails q g
  settled_byte n f (gives b p g) = gives b p g

  -- a walk after another
  module _ {A : Type 0} (first : Reader A) (f : A → Reader B) (xs ys : List ℕ) where
    behind : (a : A) → ((rest : List ℕ) → first (xs ++ rest) ≡ found a rest) → Settled (f a) ys Q → Settled (λ l. next (first l) f) (xs ++ ys) Q
    unfolding next
    behind a g (fails q k) =
        fails q (λ rest. ap (λ (l : List ℕ). next (first l) f) (append_assoc xs ys rest) ∙ ap (λ (r : Found A). next r f) (g (ys ++ rest)) ∙ k rest)
    behind a g (gives b p k) =
        gives b p (λ rest. ap (λ (l : List ℕ). next (first l) f) (append_assoc xs ys rest) ∙ ap (λ (r : Found A). next r f) (g (ys ++ rest)) ∙ k rest)

    pub settled_then : {P : A → Type 0} → Settled first xs P → ((a : A) → P a → Settled (f a) ys Q) → Settled (λ l. next (first l) f) (xs ++ ys) Q
    unfolding next
    settled_then {P} (fails q g) k = fails q (λ rest. ap (λ (l : List ℕ). next (first l) f) (append_assoc xs ys rest) ∙ ap (λ (r : Found A). next r f) (g (ys ++ rest)))
    settled_then {P} (gives a p g) k = behind a g (k a p)

-- an item of so many bytes
module _ {B : Type 0} {Q : B → Type 0} (n : ℕ) (f : List ℕ → Reader B) (x : List ℕ) (long : length x ≡ n) where
  settled_item : (ys : List ℕ) → Settled (f x) ys Q → Settled (λ l. next (item n l) f) (x ++ ys) Q
  settled_item ys s = behind (item n) f x ys x (λ rest. item_front n x rest long) s

  settled_last : Settled (f x) [] Q → Settled (λ l. next (item n l) f) x Q
  settled_last s = subst (λ (l : List ℕ). Settled (λ k. next (item n k) f) l Q) (append-nil x) (settled_item [] s)

-- a line
line_settled : (x : List ℕ) → length x ≡ 9 → Settled read_line x (λ _. Unit {0})
unfolding read_line
line_settled x h = settled_last 9 _ x h (settled_asks 4 (question4 (get_or x 0 0)) (λ four. settled_pure (line_of x)))

lines_settled : (n : ℕ) (before : List Line) (bytes : List ℕ) → length bytes ≡ n * 9 → Settled (many (λ d. read_line) n before) bytes (λ _. Unit {0})
unfolding many
lines_settled zero before [] h = settled_pure before
lines_settled zero before (b ∷ bytes) h = absurd (omega arith)
lines_settled (suc n) before bytes h =
    subst (λ (l : List ℕ). Settled (many (λ d. read_line) (suc n) before) l (λ _. Unit {0})) (take-append-drop 9 bytes)
    (settled_then read_line _ (take 9 bytes) (drop 9 bytes) (line_settled (take 9 bytes) (length-take-le 9 bytes (omega (arith, suc-mul n 9))))
    (λ l u. lines_settled n (before ++ (l ∷ [])) (drop 9 bytes) (omega (arith, length-drop 9 bytes, suc-mul n 9))))

-- the lines, from their count on
lines_walked : (n : ℕ) (bytes : List ℕ) → length bytes ≡ n * 9 → Settled read_lines (n ∷ bytes) (λ _. Unit {0})
unfolding read_lines
lines_walked n bytes h = settled_byte n _ (settled_asks 3 (question3 n) (λ three. lines_settled n [] bytes h))

pub lines_read : (n : ℕ) (bytes : List ℕ) → length bytes ≡ n * 9 → Settled read_lines (n ∷ bytes) (λ lines. for lines line_bytes ≡ bytes)
lines_read n bytes h =
    settled_with (λ lines. for lines line_bytes ≡ bytes)
    (λ lines f. sym (append-nil (for lines line_bytes)) ∙ sym (ap (drop 1) (lines_bytes (n ∷ bytes) lines [] f).0))
    (lines_walked n bytes h)

-- a whole entry of processor p
abbrev pub OwnEntry : ℕ → List ℕ → Type 0
OwnEntry p x = (is_whole x ≡ true) × (get_or x 0 0 ≡ p)

-- what is read behind `done` is these entries
pub record Behind (done : List Instruction) (xs : List (List ℕ)) (out : List Instruction) : Type 0 where
  pub new : List Instruction
  pub out_is : out ≡ done ++ new
  pub entries_are : map section_entry new ≡ xs

-- an entry, in its two parts
module _ (processors : ℕ) (lines : List Attribute) (p : ℕ) where
  parts_settled : (done : List Instruction) (x y : List ℕ) → length x ≡ 11
      → (question6 (get_or x 0 0) ≡ true → question7 (kind_of (get_or x 0 0)) (get_or x 2 0) ≡ true → length y ≡ more_length (kind_of (get_or x 0 0)) (get_or x 2 0))
      → Settled (read_instruction processors lines p done) (x ++ y) (λ _. Unit {0})
  unfolding read_instruction
  parts_settled done x y long more =
      settled_item 11 _ x long y
      (settled_asks 6 (question6 (get_or x 0 0)) (λ six.
      settled_asks 7 (question7 (kind_of (get_or x 0 0)) (get_or x 2 0)) (λ seven.
      settled_last (more_length (kind_of (get_or x 0 0)) (get_or x 2 0)) _ y (more six seven)
      (settled_asks 8 (question8 (length lines) (kind_of (get_or x 0 0)) (get_or x 2 0) (get_or x 1 0)) (λ _.
      settled_asks 26 (question26 lines (kind_of (get_or x 0 0)) (get_or x 1 0)) (λ _.
      settled_asks 27 (question27 lines (get_or x 2 0) (get_or x 1 0)) (λ _.
      settled_asks 9 (question9 (get_or x 2 0) (drop 3 (x ++ y))) (λ _.
      settled_pure (instruction_of processors p done (x ++ y))))))))))

  pub entry_read : (done : List Instruction) (x : List ℕ) → is_whole x ≡ true → get_or x 0 0 ≡ p
      → Settled (read_instruction processors lines p done) (drop 1 x) (λ i. section_entry i ≡ x)
  unfolding is_whole section_entry_length
  entry_read done x whole own =
      settled_with (λ i. section_entry i ≡ x)
      (λ i f.
      let (same, o) = instruction_bytes processors lines p done (drop 1 x) i [] f in
      ap₂ (λ (q : ℕ) (l : List ℕ). q ∷ l) (o.by ∙ sym own) (sym (same ∙ append-nil (entry_bytes i))) ∙ first_byte x (omega (arith, long, some)))
      (subst (λ (l : List ℕ). Settled (read_instruction processors lines p done) l (λ _. Unit {0})) (take-append-drop 11 (drop 1 x))
      (parts_settled done (take 11 (drop 1 x)) (drop 11 (drop 1 x)) (length-take-le 11 (drop 1 x) (omega (arith, length-drop 1 x, long, some))) more))
    where
      long : length x ≡ section_entry_length x
      long = eqb-true (length x) (section_entry_length x) whole

      some : 12 ≤ section_entry_length x
      some = (length_range x).0

      byte0 : get_or (take 11 (drop 1 x)) 0 0 ≡ get_or x 1 0
      byte0 = get_or-take 11 (drop 1 x) 0 0 (omega arith) ∙ get_or-drop 1 x 0 0

      byte2 : get_or (take 11 (drop 1 x)) 2 0 ≡ get_or x 3 0
      byte2 = get_or-take 11 (drop 1 x) 2 0 (omega arith) ∙ get_or-drop 1 x 2 0

      more : question6 (get_or (take 11 (drop 1 x)) 0 0) ≡ true → question7 (kind_of (get_or (take 11 (drop 1 x)) 0 0)) (get_or (take 11 (drop 1 x)) 2 0) ≡ true
          → length (drop 11 (drop 1 x)) ≡ more_length (kind_of (get_or (take 11 (drop 1 x)) 0 0)) (get_or (take 11 (drop 1 x)) 2 0)
      more = rw (byte0, byte2) (λ six seven.
          let long_is : section_entry_length x ≡ 12 + more_length (kind_of (get_or x 1 0)) (get_or x 3 0) = rw six (ap (λ (n : ℕ). 12 + n) (more_same (kind_of (get_or x 1 0)) (get_or x 3 0) seven)) in
          omega (arith, length-drop 11 (drop 1 x), length-drop 1 x, long, long_is))

  entries_read : (done : List Instruction) (xs : List (List ℕ)) → Each (OwnEntry p) xs → Settled (many (read_instruction processors lines p) (length xs) done) (for xs (drop 1)) (Behind done xs)
  unfolding many for
  entries_read done [] h = gives done (record { new = []; out_is = sym (append-nil done); entries_are = refl }) (λ rest. refl)
  entries_read done (x ∷ xs) ((whole, own), h) =
      settled_then (read_instruction processors lines p done) _ (drop 1 x) (for xs (drop 1)) (entry_read done x whole own) (λ i e.
      settled_map (λ out b. record {
        new = i ∷ b.new;
        out_is = b.out_is ∙ append_assoc done (i ∷ []) b.new;
        entries_are = ap₂ (λ (y : List ℕ) (ys : List (List ℕ)). y ∷ ys) e b.entries_are;
      }) (entries_read (done ++ (i ∷ [])) xs h))

  pub program_read : (done : List Instruction) (xs : List (List ℕ)) → Each (OwnEntry p) xs → Settled (read_program processors lines p done) (program_bytes xs) (Behind done xs)
  unfolding read_program program_bytes
  program_read done xs h = settled_byte (length xs) _ (settled_asks 5 (question5 done (length xs)) (λ five. entries_read done xs h))

-- the entries of a processor in a whole section
pub own_entries : (q : ℕ) (xs : List (List ℕ)) → all is_whole xs ≡ true → Each (OwnEntry q) (keep (λ x. eqb (get_or x 0 0) q) xs)
unfolding all keep
own_entries q [] h = tt
own_entries q (x ∷ xs) h =
    let (w, k) = and_parts (is_whole x) (all is_whole xs) h in
    go (eqb (get_or x 0 0) q) refl w (own_entries q xs k)
  where
    go : (b : Bool) → eqb (get_or x 0 0) q ≡ b → is_whole x ≡ true → Each (OwnEntry q) (keep (λ y. eqb (get_or y 0 0) q) xs)
        → Each (OwnEntry q) (cond b (x ∷ keep (λ y. eqb (get_or y 0 0) q) xs) (keep (λ y. eqb (get_or y 0 0) q) xs))
    go true e w k = ((w, eqb-true (get_or x 0 0) q e), k)
    go false e w k = k

module _ (instructions : List ℕ) (whole : all_whole instructions ≡ true) where
  pub program_own : (q : ℕ) → Each (OwnEntry q) (program_of instructions q)
  unfolding program_of all_whole
  program_own q = own_entries q (entries_of instructions) whole

  -- the programs of so many processors from p on, in the section grouped and in the record
  abbrev pub grouped_from : ℕ → ℕ → List ℕ
  grouped_from p left = for (count p left) (λ q. for (program_of instructions q) (λ x. x))

  abbrev pub programs_from : ℕ → ℕ → List ℕ
  programs_from p left = for (count p left) (λ q. program_bytes (program_of instructions q))

  pub programs_read : (processors : ℕ) (lines : List Attribute) (p left : ℕ) (done : List Instruction)
      → Settled (read_programs processors lines p left done) (programs_from p left) (λ out. for out section_entry ≡ for done section_entry ++ grouped_from p left)
  unfolding read_programs for count
  programs_read processors lines p zero done = gives done (sym (append-nil (for done section_entry))) (λ rest. refl)
  programs_read processors lines p (suc left) done =
      settled_then (read_program processors lines p done) _ (program_bytes (program_of instructions p)) (programs_from (suc p) left)
      (program_read processors lines p done (program_of instructions p) (program_own p)) (λ more b.
      settled_map (λ out e.
      e
      ∙ ap (λ (l : List Instruction). for l section_entry ++ grouped_from (suc p) left) b.out_is
      ∙ ap (λ (l : List ℕ). l ++ grouped_from (suc p) left) (for_append done b.new section_entry)
      ∙ append_assoc (for done section_entry) (for b.new section_entry) (grouped_from (suc p) left)
      ∙ ap (λ (l : List ℕ). for done section_entry ++ (l ++ grouped_from (suc p) left))
      (sym (for_map section_entry (λ x. x) b.new) ∙ ap (λ (xs : List (List ℕ)). for xs (λ x. x)) b.entries_are))
      (programs_read processors lines (suc p) left more))
