-- The questions of a pair, and one pair more.
use Prim.Native.Nat.{ℕ, suc, ◌+◌, ◌-◌, ◌≤◌, ◌<◌}
use native.Mathlib.Omega.{arith}
use native.Mathlib.Numerals.{add-one}
use mathlib.Core.Path.{◌≡◌, refl, sym, ap, ◌∙◌}
use mathlib.Core.Bool.{true, false, not, ◌&&◌, ◌||◌}
use mathlib.Core.List.{List, [], ◌∷◌, ◌++◌, map}
use lib.ListN.{length, get_or, take, drop, set}
use lib.Seq.{get_or-set_same, get_or-set_other}
use lib.Dec.{eqb, ltb}
use borrow.Author.Tests.{lt-ltb, le-ltb, le-leb, lt-leb}
use Rattle.base.specs.Lists.{below, count}
use Rattle.base.proofs.Lists.{map_below_more}
use Rattle.model.specs.Execution as model
use Rattle.model.specs.Execution.{kind_of, is_fence, is_only_store}
use Rattle.model.specs.Questions.{no_to, found, next, ask, many, question12, question13, question14, read_pair, read_pairs}
use Rattle.record_decoded.specs.declared.types.Instructions.{Instructions}
use Rattle.record_decoded.specs.declared.types.Pairs.{Pairs}
use Rattle.record_decoded.specs.Decoded.{instruction_at, instructions_of, pair_at, pairs_of}
use Rattle.record_decoded.proofs.Arrays.{instructions_length, instruction_there}
use Rattle.record_decoded.proofs.Items.{item_short, item_there, byte_short, byte_there}

-- question 13
module _ (x : Instructions) (m n : ℕ) where
  pub pair_turned : n ≤ m → false ≡ question13 (instructions_of x) m n
  unfolding question13
  pair_turned h = rw (le-ltb m n h)

  module _ (rising : m < n) where
    pub pair_past : x.count ≤ n → false ≡ question13 (instructions_of x) m n
    unfolding question13
    pair_past h = rw (lt-ltb m n rising, le-ltb n (length (instructions_of x)) (omega (arith, instructions_length x)))

    module _ (there : n < x.count) where
      -- by processors and kinds
      pub pair_is : (first second : model.Kind) → first ≡ kind_of (get_or x.kinds m 0) → second ≡ kind_of (get_or x.kinds n 0)
          → question13 (instructions_of x) m n
          ≡ (eqb (get_or x.processors m 0) (get_or x.processors n 0) && (not (is_fence first) && not (is_fence second)) && not (is_only_store first && is_only_store second))
      unfolding question13 instruction_at
      pair_is first second e f =
          rw (
            lt-ltb m n rising,
            lt-ltb n (length (instructions_of x)) (omega (arith, instructions_length x)),
            instruction_there x m _ (omega arith),
            instruction_there x n _ there,
            e,
            f,
          )

-- question 14 looks at the last pair
last_pair : (l : List (ℕ × ℕ)) (q : ℕ × ℕ) (m n : ℕ) → question14 (l ++ (q ∷ [])) m n ≡ (ltb q.0 m || (eqb q.0 m && ltb q.1 n))
unfolding question14
last_pair [] q m n = refl
last_pair (a ∷ []) q m n = refl
last_pair (a ∷ (b ∷ l)) q m n = last_pair (b ∷ l) q m n

module _ (x : Pairs) (m n : ℕ) where
  pub pair_alone : x.count ≡ 0 → true ≡ question14 (pairs_of x) m n
  unfolding question14 pairs_of below count
  pair_alone h = sym (ap (λ (k : ℕ). question14 (map (pair_at x) (below k)) m n) h)

  pub pair_after : (x.count ≡ 0 → ⊥)
      → question14 (pairs_of x) m n
      ≡ (ltb (get_or x.earlier (x.count - 1) 0) m || (eqb (get_or x.earlier (x.count - 1) 0) m && ltb (get_or x.later (x.count - 1) 0) n))
  unfolding pairs_of pair_at
  pair_after h =
      ap (λ (l : List (ℕ × ℕ)). question14 l m n)
      (ap (λ (k : ℕ). map (pair_at x) (below k)) (let z : x.count ≡ suc (x.count - 1) = omega arith in z)
      ∙ map_below_more (pair_at x) (pair_at x) (x.count - 1) (λ k l. refl))
      ∙ last_pair (map (pair_at x) (below (x.count - 1))) (pair_at x (x.count - 1)) m n

-- the questions of the pair at the front
module _ (is : List model.Instruction) (done : List (ℕ × ℕ)) (part : List ℕ) where
  pub pair_short : length part < 2 → read_pair is done part ≡ no_to 1
  unfolding read_pair next
  pair_short h = rw (item_short 2 part h)

  module _ (room : 2 ≤ length part) (m n : ℕ) (first : get_or (take 2 part) 0 0 ≡ m) (second : get_or (take 2 part) 1 0 ≡ n) where
    pub pair_refused : question13 is m n ≡ false → read_pair is done part ≡ no_to 13
    unfolding read_pair next ask
    pair_refused h = rw (item_there 2 part room, first, second, h)

    module _ (thirteen : question13 is m n ≡ true) where
      pub pair_low : question14 done m n ≡ false → read_pair is done part ≡ no_to 14
      unfolding read_pair next ask
      pair_low h = rw (item_there 2 part room, first, second, thirteen, h)

      pub pair_good : question14 done m n ≡ true → read_pair is done part ≡ found (m, n) (drop 2 part)
      unfolding read_pair next ask
      pair_good h = rw (item_there 2 part room, first, second, thirteen, h)

-- one pair more
module _ (x r : Pairs) (a b : ℕ) (few : x.count < 40)
    (long : length x.earlier ≡ 40) (long_later : length x.later ≡ 40)
    (counted : r.count ≡ x.count + 1)
    (earlier : r.earlier ≡ set x.earlier x.count a)
    (later : r.later ≡ set x.later x.count b) where
  pub pair_more : pairs_of r ≡ pairs_of x ++ ((a, b) ∷ [])
  unfolding pairs_of pair_at
  pair_more =
      ap (λ (k : ℕ). map (pair_at r) (below k)) (counted ∙ add-one x.count)
      ∙ map_below_more (pair_at r) (pair_at x) x.count old
      ∙ ap (λ (q : ℕ × ℕ). pairs_of x ++ (q ∷ [])) new
    where
      old : (j : ℕ) → j < x.count → pair_at r j ≡ pair_at x j
      old j h = λ i. (
        (ap (λ (l : List ℕ). get_or l j 0) earlier ∙ get_or-set_other x.earlier x.count j a 0 (omega arith)) i,
        (ap (λ (l : List ℕ). get_or l j 0) later ∙ get_or-set_other x.later x.count j b 0 (omega arith)) i,
      )

      new : pair_at r x.count ≡ (a, b)
      new = λ i. (
        (ap (λ (l : List ℕ). get_or l x.count 0) earlier ∙ get_or-set_same x.earlier x.count a 0 (omega arith)) i,
        (ap (λ (l : List ℕ). get_or l x.count 0) later ∙ get_or-set_same x.later x.count b 0 (omega arith)) i,
      )

-- the count of pairs, and its question
module _ (is : List model.Instruction) (part : List ℕ) where
  pub pairs_short : length part < 1 → read_pairs is part ≡ no_to 1
  unfolding read_pairs next
  pairs_short h = rw (byte_short part h)

  module _ (room : 1 ≤ length part) where
    pub pairs_many : 40 < get_or part 0 0 → read_pairs is part ≡ no_to 12
    unfolding read_pairs next ask question12
    pairs_many h = rw (byte_there part room, lt-leb (get_or part 0 0) 40 h)

    pub pairs_counted : get_or part 0 0 ≤ 40 → read_pairs is part ≡ many (read_pair is) (get_or part 0 0) [] (drop 1 part)
    unfolding read_pairs next ask question12
    pairs_counted h = rw (byte_there part room, le-leb (get_or part 0 0) 40 h)
