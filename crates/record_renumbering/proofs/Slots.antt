-- The pairs of a processor, raised by the instructions before it: which of two processors with one program gives less.
use Prim.Native.Nat.{ℕ, ◌+◌, ◌<◌, ◌≤◌}
use native.Mathlib.Omega.{arith}
use mathlib.Core.Path.{◌≡◌, refl}
use mathlib.Core.List.Memᴰ
use mathlib.Core.List.{List, [], ◌∷◌, ◌++◌, map, Memᴰ}
use mathlib.Core.Logic.{⊎_elim}
use lib.ListN.{length, length-append, length-map}
use Rattle.base.specs.Lists.{for}
use Rattle.base.specs.Lex.{Less}
use Rattle.base.proofs.Lex.{less_cases, less_head, less_tail, less_nil}
use Rattle.base.proofs.Permutations.{sum}
use Rattle.model.specs.Questions.{at}
use Rattle.model.specs.Sections.{pair_bytes}
use Rattle.model.specs.Renumbering.{Processor, pairs_from}
use Rattle.record_renumbering.proofs.Programs.{Proper}

-- Where the two lists differ, that with the lesser entry is less; where the one ends, it is greater, for what follows is higher.
pub slot : (d size : ℕ) (us vs r s : List ℕ) → size ≤ 255 → ((k : ℕ) → Memᴰ k us → k < size) → ((k : ℕ) → Memᴰ k vs → k < size)
    → ((k : ℕ) → Memᴰ k s → d + size ≤ k) → length us + length r ≡ length vs + length s
    → Less (us ++ (255 ∷ [])) (vs ++ (255 ∷ [])) → Less (map (λ k. d + k) us ++ r) (map (λ k. d + k) vs ++ s)
slot d size [] [] r s b lu lv hs e h = less_cases 255 255 [] [] h (λ l. absurd (omega arith)) (λ q k. absurd (less_nil [] k))
slot d size [] (v ∷ vs) r s b lu lv hs e h =
    less_cases 255 v [] (vs ++ (255 ∷ [])) h
    (λ l. absurd (omega (arith, lv v (Memᴰ.head refl)))) (λ q k. absurd (omega (arith, lv v (Memᴰ.head refl))))
slot d size (u ∷ us) [] r [] b lu lv hs e h = absurd (omega arith)
slot d size (u ∷ us) [] r (z ∷ s) b lu lv hs e h =
    less_head (d + u) z (map (λ k. d + k) us ++ r) s (omega (arith, lu u (Memᴰ.head refl), hs z (Memᴰ.head refl)))
slot d size (u ∷ us) (v ∷ vs) r s b lu lv hs e h =
    less_cases u v (us ++ (255 ∷ [])) (vs ++ (255 ∷ [])) h
    (λ l. less_head (d + u) (d + v) (map (λ k. d + k) us ++ r) (map (λ k. d + k) vs ++ s) (omega arith))
    (λ q k. less_tail (d + u) (d + v) (map (λ k. d + k) us ++ r) (map (λ k. d + k) vs ++ s) (omega arith)
    (slot d size us vs r s b (λ k m. lu k (Memᴰ.tail m)) (λ k m. lv k (Memᴰ.tail m)) hs (omega arith) k))

-- the numbers of a processor's pairs are below its count
pair_bytes_low : (n : ℕ) (ps : List (ℕ × ℕ)) → ((p : ℕ × ℕ) → Memᴰ p ps → (p.0 < n) × (p.1 < n)) → (k : ℕ) → Memᴰ k (for ps pair_bytes) → k < n
unfolding for
pair_bytes_low n [] h k m = absurd (Memᴰ.not-nil m)
pair_bytes_low n (p ∷ ps) h k (Memᴰ.head e) = omega (arith, h p (Memᴰ.head refl))
pair_bytes_low n (p ∷ ps) h k (Memᴰ.tail (Memᴰ.head e)) = omega (arith, h p (Memᴰ.head refl))
pair_bytes_low n (p ∷ ps) h k (Memᴰ.tail (Memᴰ.tail m)) = pair_bytes_low n ps (λ q w. h q (Memᴰ.tail w)) k m

pub pairs_low : (c : Processor) → Proper c → (k : ℕ) → Memᴰ k (for c.pairs pair_bytes) → k < at c.program 0
pairs_low c p k m = pair_bytes_low (at c.program 0) c.pairs p.inside k m

-- pairs by their bytes
pub pair_bytes_same : (ps qs : List (ℕ × ℕ)) → for ps pair_bytes ≡ for qs pair_bytes → ps ≡ qs
unfolding for
pair_bytes_same [] [] h = refl
pair_bytes_same [] (q ∷ qs) h = let z : ◌≡◌ {A = ℕ} 0 1 = cc in absurd (omega arith)
pair_bytes_same (p ∷ ps) [] h = let z : ◌≡◌ {A = ℕ} 0 1 = cc in absurd (omega arith)
pair_bytes_same (p ∷ ps) (q ∷ qs) h =
    let e0 : p.0 ≡ q.0 = cc in
    let e1 : p.1 ≡ q.1 = cc in
    let e : for ps pair_bytes ≡ for qs pair_bytes = cc in
    let ih = pair_bytes_same ps qs e in
    λ x. (e0 x, e1 x) ∷ ih x

-- the pairs of processors after d instructions are of numbers from d on
pub pairs_high : (d : ℕ) (cs : List Processor) (k : ℕ) → Memᴰ k (pairs_from d cs) → d ≤ k
unfolding pairs_from
pairs_high d [] k m = absurd (Memᴰ.not-nil m)
pairs_high d (c ∷ cs) k m =
    ⊎_elim
    (λ w. let (j, mj, e) = Memᴰ.of_map (λ k. d + k) (for c.pairs pair_bytes) w in omega arith)
    (λ w. omega (arith, pairs_high (d + at c.program 0) cs k w))
    (Memᴰ.append_cases (map (λ k. d + k) (for c.pairs pair_bytes)) m)

pub pairs_length : (d : ℕ) (cs : List Processor) → length (pairs_from d cs) ≡ sum (λ c. length (for c.pairs pair_bytes)) cs
unfolding pairs_from sum
pairs_length d [] = refl
pairs_length d (c ∷ cs) = omega (
  arith,
  length-append (map (λ k. d + k) (for c.pairs pair_bytes)) (pairs_from (d + at c.program 0) cs),
  length-map (for c.pairs pair_bytes) (λ k. d + k),
  pairs_length (d + at c.program 0) cs,
)
