-- The bytes of a renumbered record tell its head, its number of pairs and its processors.
use Prim.Native.Nat.{ℕ, ◌+◌, ◌*◌, ◌<◌, ◌≤◌}
use native.Mathlib.Omega.{arith}
use mathlib.Core.Path.{◌≡◌, refl, sym, ap, ap₂, ◌∙◌}
use mathlib.Core.List.{List, [], ◌∷◌, ◌++◌, map, append_cancel_left, append_assoc, append-nil, Memᴰ}
use lib.ListN.{length, get_or, length-append}
use Rattle.base.specs.Lists.{for}
use Rattle.model.specs.Questions.{at}
use Rattle.model.specs.Sections.{pair_bytes}
use Rattle.model.specs.Renumbering.{Processor, pairs_from, record_from}
use Rattle.record_renumbering.proofs.Words.{PrefixCode, code_equal}
use Rattle.record_renumbering.proofs.Programs.{programs_code}
use Rattle.record_renumbering.proofs.Slots.{pairs_low, pair_bytes_same, pairs_high}
use Rattle.record_renumbering.proofs.Ascending.{AllProper}

nothing_behind : (v r : List ℕ) → length (v ++ r) ≡ length v → v ++ r ≡ v
nothing_behind v [] h = append-nil v
nothing_behind v (x ∷ r) h = absurd (omega (arith, length-append v (x ∷ r)))

-- Heads are a prefix code: the second byte tells the length.
abbrev pub Head : List ℕ → Type 0
Head h = length h ≡ 2 + 9 * get_or h 1 0

second_of : (v r : List ℕ) → 1 < length v → get_or (v ++ r) 1 0 ≡ get_or v 1 0
second_of [] r h = absurd (omega arith)
second_of (x ∷ []) r h = absurd (omega arith)
second_of (x ∷ y ∷ v) r h = refl

heads_code : PrefixCode Head
heads_code v w r a b e =
    e ∙ nothing_behind v r (omega (arith, ap length e, ap (λ (x : List ℕ). get_or x 1 0) e, second_of v r (omega arith)))

-- the pairs of one processor, followed by higher numbers
slot_same : (d size : ℕ) (us vs r s : List ℕ) → ((k : ℕ) → Memᴰ k us → k < size) → ((k : ℕ) → Memᴰ k vs → k < size)
    → ((k : ℕ) → Memᴰ k r → d + size ≤ k) → ((k : ℕ) → Memᴰ k s → d + size ≤ k)
    → map (λ k. d + k) us ++ r ≡ map (λ k. d + k) vs ++ s → (us ≡ vs) × (r ≡ s)
slot_same d size [] [] r s lu lv hr hs e = (refl, e)
slot_same d size [] (v ∷ vs) [] s lu lv hr hs e = let z : ◌≡◌ {A = ℕ} 0 1 = cc in absurd (omega arith)
slot_same d size [] (v ∷ vs) (z ∷ r) s lu lv hr hs e =
    let q : z ≡ d + v = cc in
    absurd (omega (arith, lv v (Memᴰ.head refl), hr z (Memᴰ.head refl)))
slot_same d size (u ∷ us) [] r [] lu lv hr hs e = let z : ◌≡◌ {A = ℕ} 0 1 = cc in absurd (omega arith)
slot_same d size (u ∷ us) [] r (z ∷ s) lu lv hr hs e =
    let q : d + u ≡ z = cc in
    absurd (omega (arith, lu u (Memᴰ.head refl), hs z (Memᴰ.head refl)))
slot_same d size (u ∷ us) (v ∷ vs) r s lu lv hr hs e =
    let q : d + u ≡ d + v = cc in
    let w : u ≡ v = omega arith in
    let t : map (λ k. d + k) us ++ r ≡ map (λ k. d + k) vs ++ s = cc in
    let (i, j) = slot_same d size us vs r s (λ k m. lu k (Memᴰ.tail m)) (λ k m. lv k (Memᴰ.tail m)) hr hs t in
    (ap₂ (λ (x : ℕ) (xs : List ℕ). x ∷ xs) w i, j)

-- so many programs, with something behind them
programs_same : (l m : List Processor) (s t : List ℕ) → AllProper l → AllProper m → length l ≡ length m → for l (λ c. c.program) ++ s ≡ for m (λ c. c.program) ++ t
    → (map (λ c. c.program) l ≡ map (λ c. c.program) m) × (s ≡ t)
unfolding for
programs_same [] [] s t p q h e = (refl, e)
programs_same [] (y ∷ m) s t p q h e = absurd (omega arith)
programs_same (x ∷ l) [] s t p q h e = absurd (omega arith)
programs_same (x ∷ l) (y ∷ m) s t p q h e =
    let e' : x.program ++ (for l (λ c. c.program) ++ s) ≡ y.program ++ (for m (λ c. c.program) ++ t) =
    sym (append_assoc x.program (for l (λ c. c.program)) s) ∙ e ∙ append_assoc y.program (for m (λ c. c.program)) t in
    let w = code_equal programs_code x.program y.program (for l (λ c. c.program) ++ s) (for m (λ c. c.program) ++ t)
    (p x (Memᴰ.head refl)).program_is (q y (Memᴰ.head refl)).program_is e' in
    let (i, j) = programs_same l m s t (λ c k. p c (Memᴰ.tail k)) (λ c k. q c (Memᴰ.tail k)) (omega arith)
    (append_cancel_left y.program (for l (λ c. c.program) ++ s) (for m (λ c. c.program) ++ t) (ap (λ (v : List ℕ). v ++ (for l (λ c. c.program) ++ s)) (sym w) ∙ e')) in
    (ap₂ (λ (v : List ℕ) (vs : List (List ℕ)). v ∷ vs) w i, j)

one_processor : (c d : Processor) → c.program ≡ d.program → c.pairs ≡ d.pairs → c ≡ d
one_processor c d e f = λ x. record { program = e x; pairs = f x }

-- processors with the same programs and the same pairs behind d instructions
processors_same : (d : ℕ) (l m : List Processor) → AllProper l → AllProper m → map (λ c. c.program) l ≡ map (λ c. c.program) m
    → pairs_from d l ≡ pairs_from d m → l ≡ m
unfolding pairs_from
processors_same d [] [] p q e h = refl
processors_same d [] (y ∷ m) p q e h = let z : ◌≡◌ {A = ℕ} 0 1 = cc in absurd (omega arith)
processors_same d (x ∷ l) [] p q e h = let z : ◌≡◌ {A = ℕ} 0 1 = cc in absurd (omega arith)
processors_same d (x ∷ l) (y ∷ m) p q e h =
    let w : x.program ≡ y.program = cc in
    let ws : map (λ c. c.program) l ≡ map (λ c. c.program) m = cc in
    let size : at x.program 0 ≡ at y.program 0 = ap (λ (v : List ℕ). at v 0) w in
    let (i, j) = slot_same d (at x.program 0) (for x.pairs pair_bytes) (for y.pairs pair_bytes)
    (pairs_from (d + at x.program 0) l) (pairs_from (d + at y.program 0) m)
    (pairs_low x (p x (Memᴰ.head refl)))
    (λ k n. omega (arith, pairs_low y (q y (Memᴰ.head refl)) k n))
    (pairs_high (d + at x.program 0) l)
    (λ k n. omega (arith, pairs_high (d + at y.program 0) m k n)) h in
    let first : x ≡ y = one_processor x y w (pair_bytes_same x.pairs y.pairs i) in
    let rest : l ≡ m = processors_same (d + at x.program 0) l m (λ c k. p c (Memᴰ.tail k)) (λ c k. q c (Memᴰ.tail k)) ws
    (j ∙ ap (λ (k : ℕ). pairs_from (d + k) m) (sym size)) in
    ap₂ (λ (c : Processor) (cs : List Processor). c ∷ cs) first rest

-- the bytes tell head, number of pairs and processors
pub record_same : (head other : List ℕ) (n k : ℕ) (l m : List Processor) → Head head → Head other → AllProper l → AllProper m
    → get_or head 0 0 ≡ length l → get_or other 0 0 ≡ length m → record_from head n l ≡ record_from other k m → (head ≡ other) × (n ≡ k) × (l ≡ m)
unfolding record_from
record_same head other n k l m a b p q lh mh e =
    let body : ℕ → List Processor → List ℕ = λ i cs. for cs (λ c. c.program) ++ (i ∷ pairs_from 0 cs) in
    let h = code_equal heads_code head other (body n l) (body k m) a b e in
    let e' : body n l ≡ body k m = append_cancel_left other (body n l) (body k m) (ap (λ (v : List ℕ). v ++ body n l) (sym h) ∙ e) in
    let (i, j) = programs_same l m (n ∷ pairs_from 0 l) (k ∷ pairs_from 0 m) p q (sym lh ∙ ap (λ (v : List ℕ). get_or v 0 0) h ∙ mh) e' in
    let count : n ≡ k = cc in
    let t : pairs_from 0 l ≡ pairs_from 0 m = cc in
    (h, count, processors_same 0 l m p q i t)
