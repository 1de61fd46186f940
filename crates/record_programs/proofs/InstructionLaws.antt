-- One instruction more: what is set in the arrays is the instruction read, those before it are as they were, and its operations are counted.
use Prim.Native.Nat.{ℕ, ◌+◌, ◌*◌, ◌≤◌, ◌<◌}
use native.Mathlib.Omega.{arith}
use native.Mathlib.Numerals.{add-one}
use mathlib.Core.Path.{◌≡◌, refl, sym, ap, ap₂, ◌∙◌}
use mathlib.Core.Bool.{Bool, true, false, cond}
use mathlib.Core.List.{List, [], ◌∷◌, ◌++◌, map}
use lib.ListN.{length, get_or, take, drop, set, length-drop}
use lib.Seq.{paste, get_or-set_same, get_or-set_other, drop-drop}
use Rattle.base.specs.Lists.{below}
use Rattle.base.proofs.Bools.{split}
use Rattle.base.proofs.Lists.{map_below_more}
use Rattle.model.specs.Execution as model
use Rattle.model.specs.Execution.{kind_of, is_load, is_store, roles, operation_count}
use Rattle.model.proofs.Numbers.{count_more, some_before_remotes, store_count, other_count}
use Rattle.model.proofs.Accepted.{more_few}
use Rattle.model.specs.Questions.{more_length, written_from, seen_of, wrote_of, instruction_of}
use Rattle.record_decoded.specs.declared.types.Instructions.{Instructions}
use Rattle.record_decoded.specs.Decoded.{data_of, instruction_at, instructions_of}
use Rattle.record_decoded.specs.Reads.{Entry, InstructionMore}
use Rattle.record_decoded.proofs.Arrays.{instructions_length}
use Rattle.record_decoded.proofs.DataBytes.{drop_take, take_less, same_part, data_new, data_old}

pub few_roles : (p : ℕ) (k : model.Kind) → p ≤ 8 → length (roles p k) ≤ 10
few_roles p k h =
    split (is_store k) (λ e. omega (arith, (some_before_remotes k).1, store_count p k e)) (λ e. omega (arith, (some_before_remotes k).1, other_count p k e))

same_if : (b : Bool) {l m : List ℕ} → (b ≡ true → l ≡ m) → cond b l [] ≡ cond b m []
same_if true h = h refl
same_if false h = refl

-- the lengths of the arrays
pub record Sized (x : Instructions) : Type 0 where
  pub processors : length x.processors ≡ 40
  pub kinds : length x.kinds ≡ 40
  pub addresses : length x.addresses ≡ 40
  pub sizes : length x.sizes ≡ 40
  pub firsts : length x.firsts ≡ 40
  pub bytes : length x.bytes ≡ 640

-- the arrays with the instruction of an entry added
abbrev pub added : Instructions → List ℕ → ℕ → ℕ → List ℕ → Instructions
added x entry p n bytes = record {
  count = x.count + 1;
  operations = n;
  processors = set x.processors x.count p;
  kinds = set x.kinds x.count (get_or entry 0 0);
  addresses = set x.addresses x.count (get_or entry 1 0);
  sizes = set x.sizes x.count (get_or entry 2 0);
  firsts = set x.firsts x.count x.operations;
  bytes = bytes;
}

module _ (processors : ℕ) (x : Instructions) (entry : List ℕ) (p n : ℕ) (bytes : List ℕ) (sized : Sized x)
    (few : x.count < 40) (there : Entry entry)
    (counted : x.operations ≡ operation_count processors (instructions_of x))
    (copied : bytes ≡ paste x.bytes (16 * x.count) (drop 3 entry) (8 + more_length (kind_of (get_or entry 0 0)) (get_or entry 2 0))) where
  abbrev r : Instructions
  r = added x entry p n bytes

  abbrev k : model.Kind
  k = kind_of (get_or entry 0 0)

  abbrev size : ℕ
  size = get_or entry 2 0

  -- its data bytes, as they are pasted
  data_there : take (8 + more_length k size) (data_of bytes x.count) ≡ take (8 + more_length k size) (drop 3 entry)
  data_there =
      ap (λ (l : List ℕ). take (8 + more_length k size) (data_of l x.count)) copied
      ∙ data_new x.bytes x.count (drop 3 entry) (8 + more_length k size) (omega (arith, more_few k size)) (omega (arith, sized.bytes)) (omega (arith, length-drop 3 entry, there.whole))

  -- what is seen and what is written lie within them
  seen_there : seen_of k (get_or entry 2 0) (data_of bytes x.count) ≡ seen_of k (get_or entry 2 0) (drop 3 entry)
  unfolding seen_of
  seen_there =
      ap (λ (l : List ℕ). cond (is_load k) l [])
      (same_part 0 (get_or entry 2 0) (8 + more_length k size) (data_of bytes x.count) (drop 3 entry) (omega (arith, there.data_within)) data_there)

  wrote_there : wrote_of k (get_or entry 2 0) (data_of bytes x.count) ≡ wrote_of k (get_or entry 2 0) (drop 3 entry)
  unfolding wrote_of
  wrote_there =
      same_if (is_store k) (λ t.
      same_part (written_from k) (get_or entry 2 0) (8 + more_length k size) (data_of bytes x.count) (drop 3 entry) (omega (arith, there.data_within)) data_there)

  instruction_new : instruction_at r x.count ≡ instruction_of processors p (instructions_of x) entry
  unfolding instruction_at instruction_of
  instruction_new = λ i. record {
    number = sym (instructions_length x) i;
    first = (get_or-set_same x.firsts x.count x.operations 0 (omega (arith, sized.firsts)) ∙ counted) i;
    processor = get_or-set_same x.processors x.count p 0 (omega (arith, sized.processors)) i;
    kind = kind i;
    address = get_or-set_same x.addresses x.count (get_or entry 1 0) 0 (omega (arith, sized.addresses)) i;
    size = size_set i;
    seen = (ap₂ (λ (a : model.Kind) (n : ℕ). seen_of a n (data_of bytes x.count)) kind size_set ∙ seen_there) i;
    wrote = (ap₂ (λ (a : model.Kind) (n : ℕ). wrote_of a n (data_of bytes x.count)) kind size_set ∙ wrote_there) i;
  }
    where
      kind : kind_of (get_or (set x.kinds x.count (get_or entry 0 0)) x.count 0) ≡ k
      kind = ap kind_of (get_or-set_same x.kinds x.count (get_or entry 0 0) 0 (omega (arith, sized.kinds)))

      size_set : get_or (set x.sizes x.count (get_or entry 2 0)) x.count 0 ≡ get_or entry 2 0
      size_set = get_or-set_same x.sizes x.count (get_or entry 2 0) 0 (omega (arith, sized.sizes))

  instruction_old : (j : ℕ) → j < x.count → instruction_at r j ≡ instruction_at x j
  unfolding instruction_at
  instruction_old j h = λ i. record {
    number = j;
    first = get_or-set_other x.firsts x.count j x.operations 0 (omega arith) i;
    processor = get_or-set_other x.processors x.count j p 0 (omega arith) i;
    kind = kind i;
    address = get_or-set_other x.addresses x.count j (get_or entry 1 0) 0 (omega arith) i;
    size = size_set i;
    seen = seen_of (kind i) (size_set i) (copy i);
    wrote = wrote_of (kind i) (size_set i) (copy i);
  }
    where
      kind : kind_of (get_or (set x.kinds x.count (get_or entry 0 0)) j 0) ≡ kind_of (get_or x.kinds j 0)
      kind = ap kind_of (get_or-set_other x.kinds x.count j (get_or entry 0 0) 0 (omega arith))

      size_set : get_or (set x.sizes x.count (get_or entry 2 0)) j 0 ≡ get_or x.sizes j 0
      size_set = get_or-set_other x.sizes x.count j (get_or entry 2 0) 0 (omega arith)

      copy : data_of bytes j ≡ data_of x.bytes j
      copy =
          ap (λ (l : List ℕ). data_of l j) copied
          ∙ data_old x.bytes x.count (drop 3 entry) (8 + more_length k size) (omega (arith, more_few k size)) (omega (arith, sized.bytes)) j h

  holds : instructions_of r ≡ instructions_of x ++ (instruction_of processors p (instructions_of x) entry ∷ [])
  unfolding instructions_of
  holds =
      ap (λ (k : ℕ). map (instruction_at r) (below k)) (add-one x.count)
      ∙ map_below_more (instruction_at r) (instruction_at x) x.count instruction_old
      ∙ ap (λ (i : model.Instruction). instructions_of x ++ (i ∷ [])) instruction_new

  pub instruction_more : processors ≤ 8 → x.operations ≤ 10 * x.count → n ≡ x.operations + length (roles processors (kind_of (get_or entry 0 0)))
      → InstructionMore processors x r (instruction_of processors p (instructions_of x) entry)
  unfolding instruction_of
  instruction_more small bounded operations = record {
    one = refl;
    holds = holds;
    counted = operations ∙ sym (
        ap (operation_count processors) holds
        ∙ count_more processors (instructions_of x) (instruction_of processors p (instructions_of x) entry)
        ∙ ap (λ (m : ℕ). m + length (roles processors (kind_of (get_or entry 0 0)))) (sym counted));
    bounded = omega (arith, few_roles processors (kind_of (get_or entry 0 0)) small);
  }
