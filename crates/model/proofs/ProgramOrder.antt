-- The table of rule marks says what rules 2, 3 and 4 say.
use Prim.Native.Nat.{ℕ}
use mathlib.Core.Path.{◌≡◌, refl}
use mathlib.Core.Bool.{Bool, true, beq, ◌&&◌, ◌||◌}
use mathlib.Core.List.{List, [], ◌∷◌, Memᴰ}
use Rattle.base.specs.Lists.{all, member}
use Rattle.base.proofs.Bools.{beq_same}
use Rattle.base.proofs.Lists.{all_member}
use Rattle.model.specs.Execution.{Kind, ld, ld_acq, st, st_rel, mf, sem_acq, sem_rel, is_load, is_store, is_acquire, is_release, is_fence}
use Rattle.model.specs.ProgramOrder.{rule_marks, marks}

-- by earlier and later kind: A where the earlier acquires; L where the later releases, for an earlier load or store; F where either is a fence
abbrev by_rule2 : Kind → Kind → Bool
by_rule2 j k = is_acquire j

abbrev by_rule3 : Kind → Kind → Bool
by_rule3 j k = (is_load j || is_store j) && is_release k

abbrev by_rule4 : Kind → Kind → Bool
by_rule4 j k = is_fence j || is_fence k

-- one test of the whole table
abbrev pub kinds : List Kind
kinds = ld ∷ ld_acq ∷ st ∷ st_rel ∷ mf ∷ sem_acq ∷ sem_rel ∷ []

pub listed : (k : Kind) → Memᴰ k kinds
listed ld = Memᴰ.head refl
listed ld_acq = Memᴰ.tail (Memᴰ.head refl)
listed st = Memᴰ.tail (Memᴰ.tail (Memᴰ.head refl))
listed st_rel = Memᴰ.tail (Memᴰ.tail (Memᴰ.tail (Memᴰ.head refl)))
listed mf = Memᴰ.tail (Memᴰ.tail (Memᴰ.tail (Memᴰ.tail (Memᴰ.head refl))))
listed sem_acq = Memᴰ.tail (Memᴰ.tail (Memᴰ.tail (Memᴰ.tail (Memᴰ.tail (Memᴰ.head refl)))))
listed sem_rel = Memᴰ.tail (Memᴰ.tail (Memᴰ.tail (Memᴰ.tail (Memᴰ.tail (Memᴰ.tail (Memᴰ.head refl))))))

right : ℕ → (Kind → Kind → Bool) → Bool
right rule by = all (λ j. all (λ k. beq (member (marks j k) rule) (by j k)) kinds) kinds

right_at : (rule : ℕ) (by : Kind → Kind → Bool) → right rule by ≡ true → (j k : Kind) → member (marks j k) rule ≡ by j k
unfolding right
right_at rule by h j k =
    beq_same (member (marks j k) rule) (by j k)
    (all_member (λ k. beq (member (marks j k) rule) (by j k)) (listed k)
    (all_member (λ j. all (λ k. beq (member (marks j k) rule) (by j k)) kinds) (listed j) h))

pub marks_rule2 : (j k : Kind) → member (marks j k) 2 ≡ is_acquire j
unfolding right all member marks rule_marks
marks_rule2 = right_at 2 by_rule2 refl

pub marks_rule3 : (j k : Kind) → member (marks j k) 3 ≡ ((is_load j || is_store j) && is_release k)
unfolding right all member marks rule_marks
marks_rule3 = right_at 3 by_rule3 refl

pub marks_rule4 : (j k : Kind) → member (marks j k) 4 ≡ (is_fence j || is_fence k)
unfolding right all member marks rule_marks
marks_rule4 = right_at 4 by_rule4 refl
