-- Laws of the marks of two instructions.
use Prim.Native.Nat.{ℕ, zero, suc, ◌+◌, ◌-◌, ◌≤◌, min, max}
use native.Mathlib.Omega.{arith}
use Rattle.base.specs.Below.{any_below}
use Rattle.base.proofs.Tests.{any_numbered}
use Rattle.std.proofs.lemmas.Bool.Decides.{nat_tests}
use mathlib.Core.Path.{◌≡◌, refl, sym, ap, ap₂, ◌∙◌}
use mathlib.Core.Bool.{Bool, false, ◌&&◌}
use mathlib.Core.List.{List, [], ◌∷◌}
use lib.ListN.{length, get_or}
use lib.Dec.{eqb, leb, ltb}
use borrow.Author.Tests.{lt-ltb, leb-true, leb-false, ltb-true, ltb-false, eqb-true}
use Rattle.base.specs.Lists.{all, keep, count, member}
use Rattle.base.specs.Bits.{packed, packed_on}
use Rattle.base.proofs.Bools.{split, agree}
use Rattle.base.proofs.Lists.{all_member, length_count}
use Rattle.model.specs.Execution.{Kind, Instruction, kind_row}
use Rattle.model.specs.ProgramOrder.{rule_marks, marks}
use Rattle.model.proofs.ProgramOrder.{kinds, listed}
use Rattle.model.specs.Rules.{addresses, accesses, shared_bytes, overlap}
use Rattle.record_decoded.specs.declared.types.Pairs.{Pairs}
use Rattle.record_decoded.specs.Decoded.{pair_at, pairs_of}
use Rattle.relation_marks.specs.Marks.{program_marks, shared_by, given_pair}

-- the numbers of an interval that lie in another are those from the later start to the earlier end
pub shared_are : (address size other extent : ℕ)
    → shared_by address size other extent ≡ count (max address other) (min (address + size) (other + extent) - max address other)
unfolding shared_by keep count
shared_are address size other extent = both_in address size
  where
    -- how many of n numbers from a start on
    many : ℕ → ℕ → ℕ
    many from n = min (from + n) (other + extent) - max from other

    both_in : (from n : ℕ) → keep (λ a. leb other a && ltb a (other + extent)) (count from n) ≡ count (max from other) (many from n)
    both_in from zero = let z : 0 ≡ many from 0 = omega arith in ap (count (max from other)) z
    both_in from (suc n) =
        split (leb other from)
        (λ l.
        let low = leb-true other from l in
        split (ltb from (other + extent))
        (λ h.
        let high = ltb-true from (other + extent) h in
        let next : max (suc from) other ≡ suc from = omega arith in
        let here : from ≡ max from other = omega arith in
        let one : suc (many (suc from) n) ≡ many from (suc n) = omega arith in
        rw (l, h) (ap (λ (m : List ℕ). from ∷ m) (both_in (suc from) n ∙ ap (λ (k : ℕ). count k (many (suc from) n)) next) ∙ ap₂ count here one))
        (λ h.
        let high = ltb-false from (other + extent) h in
        let none : many (suc from) n ≡ 0 = omega arith in
        let nor : 0 ≡ many from (suc n) = omega arith in
        rw (l, h) (both_in (suc from) n ∙ ap (count (max (suc from) other)) none ∙ ap (count (max from other)) nor)))
        (λ l.
        let low = leb-false other from l in
        let next : max (suc from) other ≡ max from other = omega arith in
        let all : many (suc from) n ≡ many from (suc n) = omega arith in
        rw l (both_in (suc from) n ∙ ap₂ count next all))

-- they are some where the start is before the end
pub some_shared : (from end : ℕ) {l : List ℕ} → l ≡ count from (end - from) → ltb from end ≡ ltb 0 (length l)
some_shared from end {l} e =
    agree (ltb from end) (ltb 0 (end - from)) (λ h. lt-ltb 0 (end - from) (omega (arith, ltb-true from end h))) (λ h. lt-ltb from end (omega (arith, ltb-true 0 (end - from) h)))
    ∙ sym (ap (ltb 0) (ap length e ∙ length_count from (end - from)))

-- overlap is sharing a byte
pub overlap_shares : (i j : Instruction) → overlap i j ≡ ltb 0 (length (shared_by i.address i.size j.address j.size))
unfolding overlap shared_bytes addresses accesses shared_by
overlap_shares i j = refl

-- the constant table of the code
abbrev pub program_order : List (List ℕ)
program_order =
    (0 ∷ 0 ∷ 0 ∷ 4 ∷ 8 ∷ [])
    ∷ (2 ∷ 2 ∷ 2 ∷ 6 ∷ 10 ∷ [])
    ∷ (0 ∷ 0 ∷ 0 ∷ 4 ∷ 8 ∷ [])
    ∷ (0 ∷ 0 ∷ 0 ∷ 4 ∷ 8 ∷ [])
    ∷ (8 ∷ 8 ∷ 8 ∷ 8 ∷ 8 ∷ [])
    ∷ []

-- one test of the whole table
right : Kind → Kind → Bool
right j k = eqb (get_or (get_or program_order (kind_row j).row []) (kind_row k).column 0) (program_marks j k)

pub program_order_lem : (j k : Kind) → get_or (get_or program_order (kind_row j).row []) (kind_row k).column 0 ≡ program_marks j k
unfolding right all program_marks marks rule_marks member packed packed_on
program_order_lem j k = eqb-true _ _ (all_member (right j) (listed k) (all_member (λ j. all (right j) kinds) (listed j) refl))

-- it has three marks and no other
pub program_marks_few : (j k : Kind) → program_marks j k ≤ 14
unfolding program_marks packed packed_on
program_marks_few j k = few (member (marks j k) 2) (member (marks j k) 3) (member (marks j k) 4)
  where
    few : (b c d : Bool) → packed (false ∷ b ∷ c ∷ d ∷ []) ≤ 14
    few b c d = grind (arith, nat_tests)

-- a pair is given when some entry of the arrays is it
pub pair_by_index : (ps : Pairs) (m n : ℕ) → any_below ps.count (λ k. eqb (get_or ps.earlier k 0) m && eqb (get_or ps.later k 0) n) ≡ given_pair (pairs_of ps) m n
unfolding given_pair pairs_of pair_at
pair_by_index ps m n = sym (any_numbered (λ p. eqb p.0 m && eqb p.1 n) (pair_at ps) ps.count)
