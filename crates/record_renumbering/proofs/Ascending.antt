-- Processors in the order of their keys against the same processors in another order: the programs first, then the pairs.
use Prim.Native.Nat.{ℕ, ◌+◌}
use native.Mathlib.Omega.{arith}
use mathlib.Core.Path.{◌≡◌, refl, sym, ap, ap₂, ◌∙◌, subst}
use mathlib.Core.Bool.{true, ◌&&◌, ◌||◌}
use mathlib.Core.List.Memᴰ
use mathlib.Core.List.{List, [], ◌∷◌, ◌++◌, map, append_cancel_left, append_cancel_right, Memᴰ}
use mathlib.Core.Logic.{◌⊎◌, inl, inr, ⊎_elim}
use lib.ListN.{length}
use Rattle.base.specs.Lists.{for, same}
use Rattle.base.specs.Lex.{lex_less, Less}
use Rattle.base.proofs.Bools.{agree, and_parts, and_both, or_cases, or_left, or_right}
use Rattle.base.proofs.Lists.{for_map, same_true, same_itself}
use Rattle.base.proofs.Lex.{AtMost}
use Rattle.base.proofs.Permutations.{sum, Alike, alike_map, alike_rest, alike_passing, alike_none, alike_nothing}
use Rattle.model.specs.Execution.{Execution}
use Rattle.model.specs.Questions.{at}
use Rattle.model.specs.Sections.{pair_bytes}
use Rattle.model.specs.Renumbering.{Processor, bytes_of_program, own_instructions, local_pairs, processor_at, pairs_from}
use Rattle.record_renumbering.specs.Keys.{key, key_less}
use Rattle.record_renumbering.proofs.Parts.{Parts}
use Rattle.record_renumbering.proofs.Words.{less_behind, most_behind, Parted, parted_before, parted_behind, code_parts, code_equal, code_less, joined, AscendingWords, least_joined}
use Rattle.record_renumbering.proofs.Programs.{Program, programs_code, Proper, proper_at}
use Rattle.record_renumbering.proofs.Slots.{slot, pairs_low, pair_bytes_same, pairs_high, pairs_length}

abbrev program : Processor → List ℕ
program c = c.program

-- all that stands behind the program in a key
abbrev tail : Processor → List ℕ
tail c = for c.pairs pair_bytes ++ (255 ∷ [])

-- the key has all of a processor
key_same : (c d : Processor) → Proper c → Proper d → key c ≡ key d → c ≡ d
unfolding key
key_same c d p q h =
    let e = code_equal programs_code c.program d.program (tail c) (tail d) p.program_is q.program_is h in
    let g : tail c ≡ tail d = append_cancel_left d.program (tail c) (tail d) (ap (λ (x : List ℕ). x ++ tail c) (sym e) ∙ h) in
    let f = pair_bytes_same c.pairs d.pairs (append_cancel_right (for c.pairs pair_bytes) (for d.pairs pair_bytes) (255 ∷ []) g) in
    λ x. record { program = e x; pairs = f x }

lower_key : (c d : Processor) → Proper c → Proper d → Less (key c) (key d) → Less c.program d.program ⊎ ((c.program ≡ d.program) × Less (tail c) (tail d))
unfolding key
lower_key c d p q h = code_less programs_code c.program d.program (tail c) (tail d) p.program_is q.program_is h

abbrev pub AllProper : List Processor → Type 0
AllProper cs = (c : Processor) → Memᴰ c cs → Proper c

-- the keys rise, or stay
abbrev pub Ascending : List Processor → Type 0
Ascending [] = Unit {0}
Ascending (c ∷ cs) = ((d : Processor) → Memᴰ d cs → AtMost (key c) (key d)) × Ascending cs

-- processors that ascend by key ascend by program
program_most : (c d : Processor) → Proper c → Proper d → AtMost (key c) (key d) → AtMost c.program d.program
program_most c d p q h =
    ⊎_elim (λ e. inl (ap program (key_same c d p q e)))
    (λ l. ⊎_elim inr (λ t. inl t.0) (lower_key c d p q l)) h

programs_ascend : (cs : List Processor) → AllProper cs → Ascending cs → AscendingWords (map program cs)
programs_ascend [] p s = tt
programs_ascend (c ∷ cs) p s = (
  (λ w m. let (d, k, e) = Memᴰ.of_map program cs m in
      subst (AtMost c.program) e (program_most c d (p c (Memᴰ.head refl)) (p d (Memᴰ.tail k)) (s.0 d k))),
  programs_ascend cs (λ d m. p d (Memᴰ.tail m)) s.1,
)

programs_proper : (cs : List Processor) → AllProper cs → (w : List ℕ) → Memᴰ w (map program cs) → Program w
programs_proper cs p w m = let (d, k, e) = Memᴰ.of_map program cs m in subst Program e (p d k).program_is

pub programs_joined : (cs : List Processor) → for cs (λ c. c.program) ≡ joined (map program cs)
programs_joined cs = sym (for_map program (λ w. w) cs)

-- the first of ascending processors has at most the key of the first in another order
first_key : (x : Processor) (l : List Processor) (y : Processor) (m : List Processor) → Ascending (x ∷ l) → Alike (x ∷ l) (y ∷ m) → AtMost (key x) (key y)
first_key x l y m s h =
    let (a, k, t) = alike_passing (λ c. same (key y) (key c)) (x ∷ l) y m h (same_itself (key y)) in
    let e = same_true (key y) (key a) t in
    ⊎_elim (λ (q : a ≡ x). inl (sym (e ∙ ap key q))) (λ w. subst (AtMost (key x)) (sym e) (s.0 a w)) (Memᴰ.cases_cons k)

-- less by the programs; or the programs are the same in order, and the pairs are at most the other's
abbrev pub Outcome : List Processor → List Processor → Type 0
Outcome l m = Parted (joined (map program l)) (joined (map program m)) ⊎ ((map program l ≡ map program m) × ((d : ℕ) → AtMost (pairs_from d l) (pairs_from d m)))

-- one processor more in front of both
more_first : (x : Processor) (l m : List Processor) → Outcome l m → Outcome (x ∷ l) (x ∷ m)
unfolding for pairs_from
more_first x l m (inl p) = inl (parted_behind x.program (joined (map program l)) (joined (map program m)) p)
more_first x l m (inr (e, f)) = inr (
  ap (λ (ws : List (List ℕ)). x.program ∷ ws) e,
  λ d. most_behind (map (λ k. d + k) (for x.pairs pair_bytes)) (pairs_from (d + at x.program 0) l) (pairs_from (d + at x.program 0) m)
      (f (d + at x.program 0)),
)

-- the first processors have one program, and the pairs of the one give less
module _ (x : Processor) (l : List Processor) (y : Processor) (m : List Processor) (p : AllProper (x ∷ l)) (q : AllProper (y ∷ m))
    (s : Ascending (x ∷ l)) (h : Alike (x ∷ l) (y ∷ m)) (e : x.program ≡ y.program) (k : Less (tail x) (tail y)) where
  others : Parted (joined (map program l)) (joined (map program m)) ⊎ (map program l ≡ map program m)
  others =
      least_joined programs_code (map program l) (map program m)
      (programs_proper l (λ c w. p c (Memᴰ.tail w))) (programs_proper m (λ c w. q c (Memᴰ.tail w)))
      (programs_ascend l (λ c w. p c (Memᴰ.tail w)) s.1)
      (alike_rest x.program y.program (map program l) (map program m) e (alike_map program (x ∷ l) (y ∷ m) h))

  less_pairs : (d : ℕ) → Less (pairs_from d (x ∷ l)) (pairs_from d (y ∷ m))
  unfolding pairs_from sum
  less_pairs d =
      let size = ap (λ (w : List ℕ). at w 0) e in
      slot d (at x.program 0) (for x.pairs pair_bytes) (for y.pairs pair_bytes)
      (pairs_from (d + at x.program 0) l) (pairs_from (d + at y.program 0) m)
      (omega (arith, (p x (Memᴰ.head refl)).few))
      (pairs_low x (p x (Memᴰ.head refl)))
      (λ j w. omega (arith, size, pairs_low y (q y (Memᴰ.head refl)) j w))
      (λ j w. omega (arith, size, pairs_high (d + at y.program 0) m j w))
      (omega (
        arith,
        h (λ c. length (for c.pairs pair_bytes)),
        pairs_length (d + at x.program 0) l,
        pairs_length (d + at y.program 0) m,
      ))
      k

  tie : Outcome (x ∷ l) (y ∷ m)
  unfolding for
  tie = ⊎_elim
      (λ r. inl (subst (λ (w : List ℕ). Parted (x.program ++ joined (map program l)) (w ++ joined (map program m))) e
      (parted_behind x.program (joined (map program l)) (joined (map program m)) r)))
      (λ r. inr (ap₂ (λ (w : List ℕ) (ws : List (List ℕ)). w ∷ ws) e r, λ d. inr (less_pairs d)))
      others

pub compare : (l m : List Processor) → AllProper l → AllProper m → Ascending l → Alike l m → Outcome l m
unfolding for pairs_from
compare [] [] p q s h = inr (refl, λ d. inl refl)
compare [] (y ∷ m) p q s h = absurd (alike_none y m h)
compare (x ∷ l) [] p q s h = absurd (alike_nothing x l h)
compare (x ∷ l) (y ∷ m) p q s h =
    ⊎_elim
    (λ k. let e = key_same x y px qy k in
    subst (λ (z : Processor). Outcome (x ∷ l) (z ∷ m)) e
    (more_first x l m (compare l m (λ c w. p c (Memᴰ.tail w)) (λ c w. q c (Memᴰ.tail w)) s.1 (alike_rest x y l m e h))))
    (λ k. ⊎_elim
    (λ r. inl (parted_before x.program y.program (joined (map program l)) (joined (map program m))
    (code_parts programs_code x.program y.program px.program_is qy.program_is r)))
    (λ r. tie x l y m p q s h r.0 r.1)
    (lower_key x y px qy k))
    (first_key x l y m s h)
  where
    px : Proper x
    px = p x (Memᴰ.head refl)

    qy : Proper y
    qy = q y (Memᴰ.head refl)

-- The keys of an accepted record's processors, compared: the programs first, then the pairs
pub key_less_lem : {bytes : List ℕ} {e : Execution} → Parts bytes e → (p q : ℕ)
    → key_less e.instructions e.pairs p q
    ≡ (lex_less (bytes_of_program (own_instructions e.instructions p)) (bytes_of_program (own_instructions e.instructions q))
    || (same (bytes_of_program (own_instructions e.instructions p)) (bytes_of_program (own_instructions e.instructions q))
    && lex_less (for (local_pairs e.instructions e.pairs p) pair_bytes ++ (255 ∷ [])) (for (local_pairs e.instructions e.pairs q) pair_bytes ++ (255 ∷ []))))
unfolding key processor_at
key_less_lem {bytes} {e} r p q =
    agree (lex_less (u ++ s) (v ++ t)) (lex_less u v || (same u v && lex_less s t))
    (λ h. ⊎_elim
    (or_left (lex_less u v) (same u v && lex_less s t))
    (λ k. or_right (lex_less u v) (same u v && lex_less s t) (and_both (subst (λ (w : List ℕ). same u w ≡ true) k.0 (same_itself u)) k.1))
    (code_less programs_code u v s t px.program_is qx.program_is h))
    (λ h. or_cases (lex_less u v) (same u v && lex_less s t) h
    (λ l. code_parts programs_code u v px.program_is qx.program_is l s t)
    (λ k. let (w, l) = and_parts (same u v) (lex_less s t) k in
    subst (λ (z : List ℕ). Less (u ++ s) (z ++ t)) (same_true u v w) (less_behind u s t l)))
  where
    u : List ℕ
    u = bytes_of_program (own_instructions e.instructions p)

    v : List ℕ
    v = bytes_of_program (own_instructions e.instructions q)

    s : List ℕ
    s = for (local_pairs e.instructions e.pairs p) pair_bytes ++ (255 ∷ [])

    t : List ℕ
    t = for (local_pairs e.instructions e.pairs q) pair_bytes ++ (255 ∷ [])

    px : Proper (processor_at e.instructions e.pairs p)
    px = proper_at r p

    qx : Proper (processor_at e.instructions e.pairs q)
    qx = proper_at r q
