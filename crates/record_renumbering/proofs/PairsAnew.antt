-- The pairs of processors in another order: they pass questions 13 and 14 behind the programs in that order.
use Prim.Native.Nat.{ℕ, zero, suc, ◌+◌, ◌-◌, ◌≤◌, ◌<◌}
use native.Mathlib.Omega.{arith}
use mathlib.Core.Path.{◌≡◌, refl, sym, ap, ap₂, ◌∙◌, subst}
use mathlib.Core.Bool.{true, not, ◌&&◌}
use mathlib.Core.List.Memᴰ
use mathlib.Core.List.{List, [], ◌∷◌, ◌++◌, append_assoc, map, Memᴰ}
use mathlib.Core.Logic.{⊎_elim}
use lib.ListN.{length, get_or, length-append, get_or-append}
use lib.Seq.{get_or-append-add}
use lib.Dec.{eqb, ltb}
use borrow.Author.Tests.{lt-ltb, eq-eqb, ltb-false}
use Rattle.base.specs.Lists.{for, count, below}
use Rattle.base.proofs.Bools.{split, and_parts, and_both}
use Rattle.base.proofs.Lists.{below_more, for_append, for_one, in_for, getD_member}
use Rattle.model.specs.Execution.{is_fence, is_only_store, Instruction, Execution}
use Rattle.model.specs.Questions.{found, next, ask, at, no_instruction, question13, question14, read_pair}
use Rattle.model.specs.Sections.{pair_bytes}
use Rattle.model.specs.Renumbering.{Processor, own_instructions, lower_instructions, own_pairs, local_pairs, processor_at, pairs_from}
use Rattle.model.proofs.Empty.{item_front}
use Rattle.record_renumbering.proofs.Rising.{Ordered, ordered_append, ordered_keep, ordered_along, ordered_map, below_at}
use Rattle.record_renumbering.proofs.Parts.{processor_of, StandsBefore, Parts, lower_more, lower_none, in_own_pairs, own_pairs_within}
use Rattle.record_renumbering.proofs.Programs.{Proper, proper_at}
use Rattle.record_renumbering.proofs.Slots.{pairs_high}
use Rattle.record_renumbering.proofs.Smallest.{numbered}
use Rattle.record_renumbering.proofs.Reading.{Readable, anew, anew_length, kind_anew, own_anew, programs_anew}

-- a pair, both numbers raised
abbrev raised : ℕ → ℕ × ℕ → ℕ × ℕ
raised n q = (n + q.0, n + q.1)

-- the pairs whose bytes are `pairs_from`
unfoldable pub pairs_anew : ℕ → List Processor → List (ℕ × ℕ)
pairs_anew n [] = []
pairs_anew n (c ∷ cs) = map (raised n) c.pairs ++ pairs_anew (n + at c.program 0) cs

raised_bytes : (n : ℕ) (ps : List (ℕ × ℕ)) → for (map (raised n) ps) pair_bytes ≡ map (λ k. n + k) (for ps pair_bytes)
unfolding for
raised_bytes n [] = refl
raised_bytes n (p ∷ ps) = ap (λ (l : List ℕ). (n + p.0) ∷ (n + p.1) ∷ l) (raised_bytes n ps)

pub pairs_bytes : (n : ℕ) (cs : List Processor) → for (pairs_anew n cs) pair_bytes ≡ pairs_from n cs
unfolding pairs_anew pairs_from for
pairs_bytes n [] = refl
pairs_bytes n (c ∷ cs) =
    for_append (map (raised n) c.pairs) (pairs_anew (n + at c.program 0) cs) pair_bytes
    ∙ ap₂ (λ (s t : List ℕ). s ++ t) (raised_bytes n c.pairs) (pairs_bytes (n + at c.program 0) cs)

-- Question 14

-- pairs behind all those that were read
fourteen_passes : (done : List (ℕ × ℕ)) (x : ℕ × ℕ) → ((q : ℕ × ℕ) → Memᴰ q done → StandsBefore q x) → question14 done x.0 x.1 ≡ true
unfolding question14
fourteen_passes [] x h = refl
fourteen_passes (p ∷ []) x h =
    let (a, b) = h p (Memᴰ.head refl) in
    split (ltb p.0 x.0) (λ t. rw t)
    (λ f. let e : p.0 ≡ x.0 = omega (arith, ltb-false p.0 x.0 f) in rw f (and_both (eq-eqb p.0 x.0 e) (lt-ltb p.1 x.1 (b e))))
fourteen_passes (p ∷ (q ∷ ps)) x h = fourteen_passes (q ∷ ps) x (λ y m. h y (Memᴰ.tail m))

pair_found : (is : List Instruction) (done : List (ℕ × ℕ)) (x : ℕ × ℕ) → question13 is x.0 x.1 ≡ true → question14 done x.0 x.1 ≡ true
    → (r : List ℕ) → read_pair is done (pair_bytes x ++ r) ≡ found x r
unfolding read_pair next ask
pair_found is done x thirteen fourteen r = rw (item_front 2 (pair_bytes x) r refl, thirteen, fourteen)

pub pairs_readable : (is : List Instruction) (done xs : List (ℕ × ℕ)) → ((x : ℕ × ℕ) → Memᴰ x xs → question13 is x.0 x.1 ≡ true) → Ordered StandsBefore xs
    → ((q x : ℕ × ℕ) → Memᴰ q done → Memᴰ x xs → StandsBefore q x) → Readable (λ d x. x) (read_pair is) pair_bytes done xs
pairs_readable is done [] pass o h = tt
pairs_readable is done (x ∷ xs) pass (low, o) h = (
  pair_found is done x (pass x (Memᴰ.head refl)) (fourteen_passes done x (λ q m. h q x m (Memᴰ.head refl))),
  pairs_readable is (done ++ (x ∷ [])) xs (λ y m. pass y (Memᴰ.tail m)) o
      (λ q y mq my. ⊎_elim (λ k. h q y k (Memᴰ.tail my)) (λ k. subst (λ (z : ℕ × ℕ). StandsBefore z y) (sym (Memᴰ.eq_of_singleton k)) (low y my)) (Memᴰ.append_cases done mq)),
)

-- the pairs behind n instructions begin there or later
anew_high : (n : ℕ) (cs : List Processor) (x : ℕ × ℕ) → Memᴰ x (pairs_anew n cs) → n ≤ x.0
anew_high n cs x m = pairs_high n cs x.0 (subst (Memᴰ x.0) (pairs_bytes n cs) (in_for pair_bytes m (Memᴰ.head refl)))

anew_ordered : (n : ℕ) (cs : List Processor) → ((c : Processor) → Memᴰ c cs → Proper c × Ordered StandsBefore c.pairs) → Ordered StandsBefore (pairs_anew n cs)
unfolding pairs_anew
anew_ordered n [] h = tt
anew_ordered n (c ∷ cs) h =
    let (proper, o) = h c (Memᴰ.head refl) in
    let next = n + at c.program 0 in
    ordered_append StandsBefore (map (raised n) c.pairs) (pairs_anew next cs)
    (ordered_map StandsBefore (raised n) c.pairs (ordered_along StandsBefore (λ p q. StandsBefore (raised n p) (raised n q)) c.pairs (λ p q mp mq b. higher p q b) o))
    (anew_ordered next cs (λ d m. h d (Memᴰ.tail m)))
    (λ x y mx my.
    let (p, w, e) = Memᴰ.of_map (raised n) c.pairs mx in
    let low = (proper.inside p w).0 in
    let high = anew_high next cs y my in
    let first : n + p.0 ≡ x.0 = ap (λ (z : ℕ × ℕ). z.0) e in
    (omega arith, λ same. absurd (omega arith)))
  where
    higher : (p q : ℕ × ℕ) → StandsBefore p q → StandsBefore (raised n p) (raised n q)
    higher p q (a, b) = (omega arith, λ e. let k = b (omega arith) in omega arith)

-- Question 13

-- two instructions of the kinds that passed, one after the other in one program
thirteen_moved : (is js : List Instruction) (m n k l : ℕ) → question13 is m n ≡ true → (get_or js k no_instruction).kind ≡ (get_or is m no_instruction).kind
    → (get_or js l no_instruction).kind ≡ (get_or is n no_instruction).kind → k < l → l < length js → processor_of js k ≡ processor_of js l → question13 js k l ≡ true
unfolding question13
thirteen_moved is js m n k l h first second rises within one =
    let i = (get_or is m no_instruction).kind in
    let j = (get_or is n no_instruction).kind in
    let front = ltb m n && (ltb n (length is) && eqb (processor_of is m) (processor_of is n)) in
    let no_fence = not (is_fence i) && not (is_fence j) in
    let (t, d) = and_parts (front && no_fence) (not (is_only_store i && is_only_store j)) h in
    rw (first, second, lt-ltb k l rises, lt-ltb l (length js) within, eq-eqb (processor_of js k) (processor_of js l) one) (and_both (and_parts front no_fence t).1 d)

module _ {bytes : List ℕ} {e : Execution} (r : Parts bytes e) where
  abbrev own : ℕ → List Instruction
  own = own_instructions e.instructions

  before_length : (p : ℕ) → length (for (below p) (own_instructions e.instructions)) ≡ length (lower_instructions e.instructions p)
  unfolding for below count
  before_length zero = sym (ap length (lower_none e.instructions))
  before_length (suc p) =
      let more = ap (λ (l : List ℕ). length (for l own)) (below_more p) ∙ ap length (for_append (below p) (p ∷ []) own ∙ ap (λ (l : List Instruction). for (below p) own ++ l) (for_one p own))
      ∙ length-append (for (below p) own) (own p) in
      omega (arith, more, before_length p, lower_more e.instructions p)

  -- the instructions of a processor, by their numbers
  own_at : (p k : ℕ) → p < e.processors → k < length (own_instructions e.instructions p)
      → get_or e.instructions (length (lower_instructions e.instructions p) + k) no_instruction ≡ get_or (own_instructions e.instructions p) k no_instruction
  unfolding for
  own_at p k low l =
      let before = for (below p) own in
      let later = for (count (suc p) (e.processors - suc p)) own in
      let whole : e.instructions ≡ before ++ (own p ++ later) =
      r.instructions_are ∙ ap (λ (c : List ℕ). for c own) (below_at e.processors p low) ∙ for_append (below p) (p ∷ count (suc p) (e.processors - suc p)) own in
      ap₂ (λ (is : List Instruction) (n : ℕ). get_or is (n + k) no_instruction) whole (sym (before_length p))
      ∙ get_or-append-add before (own p ++ later) k no_instruction
      ∙ get_or-append (own p) later no_instruction k l

  local_ordered : (p : ℕ) → Ordered StandsBefore (local_pairs e.instructions e.pairs p)
  unfolding local_pairs own_pairs
  local_ordered p =
      let n = length (lower_instructions e.instructions p) in
      let lowered : ℕ × ℕ → ℕ × ℕ = λ q. (q.0 - n, q.1 - n) in
      let pairs = own_pairs e.instructions e.pairs p in
      ordered_map StandsBefore lowered pairs
      (ordered_along StandsBefore (λ x y. StandsBefore (lowered x) (lowered y)) pairs
      (λ x y mx my b.
      let (lx, rx, _) = own_pairs_within r p x mx in
      let (ly, ry, _) = own_pairs_within r p y my in
      lower n x y lx ly rx ry b)
      (ordered_keep StandsBefore (λ q. eqb (processor_of e.instructions q.0) p) e.pairs r.pairs_rise))
    where
      lower : (n : ℕ) (x y : ℕ × ℕ) → n ≤ x.0 → n ≤ y.0 → x.0 < x.1 → y.0 < y.1 → StandsBefore x y → StandsBefore (x.0 - n, x.1 - n) (y.0 - n, y.1 - n)
      lower n x y lx ly rx ry (a, b) = (omega arith, λ same. let k = b (omega arith) in omega arith)

  pub pairs_ordered : (order : List ℕ) → Ordered StandsBefore (pairs_anew 0 (numbered e order))
  unfolding processor_at
  pairs_ordered order =
      anew_ordered 0 (numbered e order) (λ c m.
      let (p, w, h) = Memᴰ.of_map (processor_at e.instructions e.pairs) order m in
      subst (λ (c : Processor). Proper c × Ordered StandsBefore c.pairs) h (proper_at r p, local_ordered p))

  -- The program of processor p, behind `done` as that of processor q
  module _ (q p : ℕ) (done rest : List Instruction) where
    abbrev new : List Instruction
    new = anew e.processors q done (own_instructions e.instructions p)

    abbrev lower : ℕ
    lower = length (lower_instructions e.instructions p)

    new_at : (k : ℕ) → k < length (own_instructions e.instructions p) → get_or (done ++ (new ++ rest)) (length done + k) no_instruction ≡ get_or new k no_instruction
    new_at k l = get_or-append-add done (new ++ rest) k no_instruction ∙ get_or-append new rest no_instruction k (omega (arith, anew_length e.processors q done (own p)))

    kind_at : (v : ℕ) → p < e.processors → lower ≤ v → v < lower + length (own_instructions e.instructions p)
        → (get_or (done ++ (new ++ rest)) (length done + (v - lower)) no_instruction).kind ≡ (get_or e.instructions v no_instruction).kind
    kind_at v low from to =
        let k = v - lower in
        let there : k < length (own p) = omega arith in
        ap (λ (i : Instruction). i.kind) (new_at k there)
        ∙ kind_anew e.processors q done (own p) k
        ∙ ap (λ (i : Instruction). i.kind) (sym (own_at p k low there) ∙ ap (λ (m : ℕ). get_or e.instructions m no_instruction) (let z : lower + k ≡ v = omega arith in z))

    owner_at : (k : ℕ) → k < length (own_instructions e.instructions p) → processor_of (done ++ (new ++ rest)) (length done + k) ≡ q
    owner_at k l = ap (λ (i : Instruction). i.processor) (new_at k l) ∙ own_anew e.processors q done (own p) k l

    pair_passes : (u : ℕ × ℕ) → Memᴰ u (own_pairs e.instructions e.pairs p)
        → question13 (done ++ (new ++ rest)) (length done + (u.0 - lower)) (length done + (u.1 - lower)) ≡ true
    pair_passes u w =
        let (from, rises, to) = own_pairs_within r p u w in
        let (there, owner) = in_own_pairs r p w in
        let pair = r.pairs_own u there in
        let low : p < e.processors = omega (arith, (r.own (get_or e.instructions u.0 no_instruction) (getD_member e.instructions u.0 no_instruction (omega arith))).0) in
        thirteen_moved e.instructions (done ++ (new ++ rest)) u.0 u.1 (length done + (u.0 - lower)) (length done + (u.1 - lower)) pair.passed
        (kind_at u.0 low from (omega arith)) (kind_at u.1 low (omega arith) to) (omega arith)
        (omega (arith, length-append done (new ++ rest), length-append new rest, anew_length e.processors q done (own p)))
        (owner_at (u.0 - lower) (omega arith) ∙ sym (owner_at (u.1 - lower) (omega arith)))

    local_passes : (x : ℕ × ℕ) → Memᴰ x (local_pairs e.instructions e.pairs p) → question13 (done ++ (new ++ rest)) (length done + x.0) (length done + x.1) ≡ true
    unfolding local_pairs
    local_passes x m =
        let (u, w, h) = Memᴰ.of_map (λ q. (q.0 - lower, q.1 - lower)) (own_pairs e.instructions e.pairs p) m in
        subst (λ (z : ℕ × ℕ). question13 (done ++ (new ++ rest)) (length done + z.0) (length done + z.1) ≡ true) h (pair_passes u w)

  pub pairs_pass : (q : ℕ) (done : List Instruction) (order : List ℕ) (x : ℕ × ℕ) → Memᴰ x (pairs_anew (length done) (numbered e order))
      → question13 (done ++ programs_anew e.processors q done (map (own_instructions e.instructions) order)) x.0 x.1 ≡ true
  unfolding pairs_anew programs_anew processor_at
  pairs_pass q done [] x m = absurd (Memᴰ.not-nil m)
  pairs_pass q done (p ∷ order) x m =
      let here = anew e.processors q done (own p) in
      let rest = programs_anew e.processors (suc q) (done ++ here) (map own order) in
      ⊎_elim
      (λ k. let (y, w, h) = Memᴰ.of_map (raised (length done)) (local_pairs e.instructions e.pairs p) k in
      subst (λ (z : ℕ × ℕ). question13 (done ++ (here ++ rest)) z.0 z.1 ≡ true) h (local_passes q p done rest y w))
      (λ k. subst (λ (is : List Instruction). question13 is x.0 x.1 ≡ true) (append_assoc done here rest)
      (pairs_pass (suc q) (done ++ here) order x
      (subst (λ (n : ℕ). Memᴰ x (pairs_anew n (numbered e order))) (let z : length done + length (own p) ≡ length (done ++ here) = omega (arith, length-append done here, anew_length e.processors q done (own p)) in z) k)))
      (Memᴰ.append_cases (map (raised (length done)) (local_pairs e.instructions e.pairs p)) m)
