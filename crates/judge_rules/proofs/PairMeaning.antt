-- The tests of rules 9, 10, 12, 14 and 16 over tables say what the rules say.
use Prim.Native.Nat.{ℕ, ◌<◌}
use mathlib.Core.Path.{◌≡◌, refl, sym, ap, ap₂, ◌∙◌}
use mathlib.Core.Bool.{Bool, true, false, not, ◌&&◌, and_assoc}
use mathlib.Core.List.{List, [], ◌∷◌, map}
use lib.ListN.{get_or}
use lib.Dec.{eqb}
use Rattle.base.specs.Lists.{any, keep, when, for, below, member}
use Rattle.base.specs.Below.{any_below}
use borrow.Author.Tests.{eq-eqb}
use Rattle.base.specs.Bits.{bit}
use Rattle.base.proofs.Bits.{bit_packed}
use Rattle.base.proofs.Lists.{any_same, any_for, any_map, any_when, any_one, any_and, any_and_after, any_keep, any_swap, member_any}
use Rattle.base.proofs.Tests.{any_numbered, any_below_lem, any_below_same, any_below_and, any_below_and_after, any_passes}
use Rattle.model.specs.Execution as model
use Rattle.model.specs.Execution.{is_load, is_store, is_semaphore, is_release, R, LV, RV, number_of, stores, semaphores, loads, every_processor, operations}
use Rattle.model.specs.Rules.{before, overlap, in_WB, in_UC, Claim, never, broken, RV_own, conflict, for_conflicts, rule9, rule10, remote_of, rule12, rule14, rule16}
use Rattle.record_decoded.specs.declared.types.Execution.{Execution}
use Rattle.record_decoded.specs.Decoded.{instruction_at, instructions_of, execution_of}
use Rattle.relation_places.specs.Places.{Placed, before_by}
use Rattle.relation_places.proofs.PlaceLaws.{before_placed}
use Rattle.relation_marks.specs.Marks.{has_mark, mark_at, marks_of, marks_between}
use Rattle.relation_links.specs.declared.operations.Operations.{Operations}
use Rattle.judge_rules.specs.Tests.{remote_before, own_turned, remote_turned, release_split_by, release_split, bypassed, semaphore_split, pair_broken, pairs_broken}
use Rattle.relation_links.specs.Compiled.{CompiledIn}

-- the order of the tests of rule 12
reordered : (M : ℕ → Bool) (A B : ℕ → ℕ → Bool) (remote numbers : List ℕ)
    → any (λ a. any (λ c. any (λ o. M o && (A a o && B o c)) numbers) remote) remote ≡ any (λ o. M o && (any (λ a. A a o) remote && any (B o) remote)) numbers
reordered M A B remote numbers =
    any_same _ _ remote (λ a m. any_swap (λ c o. M o && (A a o && B o c)) remote numbers
    ∙ any_same _ _ numbers (λ o k. any_and (M o) (λ c. A a o && B o c) remote ∙ ap (λ (t : Bool). M o && t) (any_and (A a o) (B o) remote)))
    ∙ any_swap (λ a o. M o && (A a o && any (B o) remote)) remote numbers
    ∙ any_same _ _ numbers (λ o k. any_and (M o) (λ a. A a o && any (B o) remote) remote ∙ ap (λ (t : Bool). M o && t) (any_and_after (λ a. A a o) (any (B o) remote) remote))

-- a test of one number and itself
diagonal : (n i : ℕ) → i < n → (s q : Bool) → any_below n (λ j. eqb i j && s && q) ≡ (s && q)
diagonal n i h s q =
    any_below_same _ _ n (λ j l. and_assoc (eqb i j) s q)
    ∙ any_below_and_after (eqb i) (s && q) n
    ∙ ap (λ (t : Bool). t && (s && q)) (any_passes (eqb i) n i h (eq-eqb i i refl))

four : (a b c d : Bool) → (a && (b && (c && d))) ≡ (a && b && c && d)
four true true c d = refl
four true false c d = refl
four false b c d = refl

module _ (bytes : List ℕ) (x : Execution) where
  abbrev e : model.Execution
  e = execution_of bytes x

  abbrev instruction : ℕ → model.Instruction
  instruction i = instruction_at x.instructions i

  abbrev number : ℕ
  number = x.instructions.count

  -- a test of every instruction of a sort, by number
  sort_by_number : (q p : model.Instruction → Bool) → any p (keep q e.instructions) ≡ any_below number (λ i. q (instruction i) && p (instruction i))
  unfolding execution_of instructions_of
  sort_by_number q p = any_keep p q e.instructions ∙ any_numbered (λ i. q i && p i) instruction number

  -- of every two
  pairs_by_number : (q r : model.Instruction → Bool) (p : model.Instruction → model.Instruction → Bool)
      → any (λ v. any (p v) (keep r e.instructions)) (keep q e.instructions)
      ≡ any_below number (λ i. any_below number (λ j. q (instruction i) && (r (instruction j) && p (instruction i) (instruction j))))
  pairs_by_number q r p =
      sort_by_number q (λ v. any (p v) (keep r e.instructions))
      ∙ any_below_same _ _ number (λ i l. ap (λ (t : Bool). q (instruction i) && t) (sort_by_number r (p (instruction i)))
      ∙ sym (any_below_and (q (instruction i)) (λ j. r (instruction j) && p (instruction i) (instruction j)) number))

  module _ {t : Operations} {marks : List (List ℕ)} (h : CompiledIn bytes x t marks) {n : ℕ} {xs places : List ℕ} (p : Placed n xs places) where
    -- bit k of two instructions
    bit_is : (k : ℕ) (i j : ℕ) → i < number → j < number → bit (mark_at marks i j) k ≡ get_or (marks_of e (instruction i) (instruction j)) k false
    unfolding marks_between
    bit_is k i j a b = ap (λ (m : ℕ). bit m k) (h.marked i j a b) ∙ bit_packed (marks_of e (instruction i) (instruction j)) k

    -- conflicting stores
    conflicts_mean : (f : model.Instruction → model.Instruction → List Claim) (g : ℕ → ℕ → Bool)
        → ((i j : ℕ) → any (broken xs) (f (instruction i) (instruction j)) ≡ g i j)
        → any_below number (λ i. any_below number (λ j. has_mark (mark_at marks i j) 128 && g i j)) ≡ any (broken xs) (for_conflicts e f)
    unfolding for_conflicts stores marks_of
    conflicts_mean f g is =
        sym (any_for (broken xs) (stores e) (λ v. for (stores e) (λ w. when (conflict e v w) (f v w)))
        ∙ any_same _ _ (stores e) (λ v m. any_for (broken xs) (stores e) (λ w. when (conflict e v w) (f v w))
        ∙ any_same _ _ (stores e) (λ w k. any_when (broken xs) (conflict e v w) (f v w)))
        ∙ pairs_by_number (λ i. is_store i.kind) (λ i. is_store i.kind) (λ v w. conflict e v w && any (broken xs) (f v w))
        ∙ any_below_same _ _ number (λ i a. any_below_same _ _ number (λ j b.
        ap (λ (u : Bool). is_store (instruction i).kind && (is_store (instruction j).kind && (conflict e (instruction i) (instruction j) && u))) (is i j)
        ∙ four (is_store (instruction i).kind) (is_store (instruction j).kind) (conflict e (instruction i) (instruction j)) (g i j)
        ∙ ap (λ (u : Bool). u && g i j) (sym (bit_is 7 i j a b)))))

    -- the arms of the test of two instructions
    arm : (rule N P : ℕ) (g : ℕ → ℕ → ℕ → Bool)
        → ((i j : ℕ) → pair_broken places rule (mark_at marks i j) N P (instruction i) (instruction j) ≡ g (mark_at marks i j) i j)
        → pairs_broken places rule x.instructions marks N P ≡ any_below number (λ i. any_below number (λ j. g (mark_at marks i j) i j))
    unfolding pairs_broken instruction_at
    arm rule N P g is = any_below_same _ _ number (λ i a. any_below_same _ _ number (λ j b. is i j))

    pub rule9_means : (N : ℕ) → pairs_broken places 9 x.instructions marks N x.processors ≡ any (broken xs) (rule9 e)
    unfolding rule9 pair_broken own_turned broken
    rule9_means N =
        arm 9 N x.processors (λ m i j. has_mark m 128 && own_turned places (instruction i) (instruction j)) (λ i j. refl)
        ∙ conflicts_mean _ _ (λ i j.
        any_when (broken xs) (eqb (instruction i).processor (instruction j).processor) _
        ∙ ap (λ (u : Bool). eqb (instruction i).processor (instruction j).processor && u)
        (any_one (broken xs) _
        ∙ ap₂ ◌&&◌ (before_placed p (number_of (instruction i) LV) (number_of (instruction j) LV)) (before_placed p (RV_own (instruction j)) (RV_own (instruction i)))))

    pub rule10_means : (N : ℕ) → pairs_broken places 10 x.instructions marks N x.processors ≡ any (broken xs) (rule10 e)
    unfolding rule10 pair_broken remote_turned remote_before every_processor broken execution_of
    rule10_means N =
        arm 10 N x.processors (λ m i j. has_mark m 128 && remote_turned places x.processors (instruction i) (instruction j)) (λ i j. refl)
        ∙ conflicts_mean _ _ (λ i j.
        any_for (broken xs) (below x.processors) _
        ∙ any_same _ _ (below x.processors) (λ r m. any_map (broken xs) _ (below x.processors) ∙ any_and (ahead i j r) (ahead j i) (below x.processors))
        ∙ any_and_after (ahead i j) (any (ahead j i) (below x.processors)) (below x.processors)
        ∙ ap₂ ◌&&◌ (any_ahead i j) (any_ahead j i))
      where
        ahead : ℕ → ℕ → ℕ → Bool
        ahead i j r = before xs (number_of (instruction i) (RV r)) (number_of (instruction j) (RV r))

        any_ahead : (i j : ℕ) → any (ahead i j) (below x.processors) ≡ remote_before places x.processors (instruction i) (instruction j)
        any_ahead i j =
            any_below_lem (ahead i j) x.processors
            ∙ any_below_same _ _ x.processors (λ r l. before_placed p (number_of (instruction i) (RV r)) (number_of (instruction j) (RV r)))

    pub rule14_means : (N : ℕ) → pairs_broken places 14 x.instructions marks N x.processors ≡ any (broken xs) (rule14 e)
    unfolding rule14 pair_broken bypassed stores loads marks_of broken
    rule14_means N =
        arm 14 N x.processors (λ m i j. has_mark m 256 && bypassed places (instruction i) (instruction j)) (λ i j. refl)
        ∙ sym (any_for (broken xs) (stores e) _
        ∙ any_same _ _ (stores e) (λ w m. any_for (broken xs) (loads e) _ ∙ any_same _ _ (loads e) (λ l k. any_when (broken xs) (exposed w l) _ ∙ ap (λ (u : Bool). exposed w l && u) (any_one (broken xs) _)))
        ∙ pairs_by_number (λ i. is_store i.kind) (λ i. is_load i.kind) (λ w l. exposed w l && (before xs (number_of w LV) (number_of l R) && before xs (number_of l R) (RV_own w)))
        ∙ any_below_same _ _ number (λ i a. any_below_same _ _ number (λ j b.
        ap (λ (u : Bool). is_store (instruction i).kind && (is_load (instruction j).kind && (exposed (instruction i) (instruction j) && u)))
        (ap₂ ◌&&◌ (before_placed p (number_of (instruction i) LV) (number_of (instruction j) R)) (before_placed p (number_of (instruction j) R) (RV_own (instruction i))))
        ∙ four (is_store (instruction i).kind) (is_load (instruction j).kind) (exposed (instruction i) (instruction j)) (bypassed places (instruction i) (instruction j))
        ∙ ap (λ (u : Bool). u && bypassed places (instruction i) (instruction j)) (sym (bit_is 8 i j a b)))))
      where
        exposed : model.Instruction → model.Instruction → Bool
        exposed w l = in_UC e w && (eqb w.processor l.processor && overlap w l)

    pub rule16_means : (N : ℕ) → pairs_broken places 16 x.instructions marks N x.processors ≡ any (broken xs) (rule16 e)
    unfolding rule16 pair_broken semaphore_split semaphores stores marks_of broken
    rule16_means N =
        arm 16 N x.processors (λ m i j. has_mark m 1024 && semaphore_split places (instruction i) (instruction j)) (λ i j. refl)
        ∙ sym (any_for (broken xs) (semaphores e) _
        ∙ any_same _ _ (semaphores e) (λ s m. any_for (broken xs) (stores e) _ ∙ any_same _ _ (stores e) (λ w k. any_when (broken xs) (another s w) _ ∙ ap (λ (u : Bool). another s w && u) (any_one (broken xs) _)))
        ∙ pairs_by_number (λ i. is_semaphore i.kind) (λ i. is_store i.kind)
        (λ s w. another s w && (before xs (number_of s R) (number_of w (RV s.processor)) && before xs (number_of w (RV s.processor)) (RV_own s)))
        ∙ any_below_same _ _ number (λ i a. any_below_same _ _ number (λ j b.
        ap (λ (u : Bool). is_semaphore (instruction i).kind && (is_store (instruction j).kind && (another (instruction i) (instruction j) && u)))
        (ap₂ ◌&&◌ (before_placed p (number_of (instruction i) R) (number_of (instruction j) (RV (instruction i).processor)))
        (before_placed p (number_of (instruction j) (RV (instruction i).processor)) (RV_own (instruction i))))
        ∙ four (is_semaphore (instruction i).kind) (is_store (instruction j).kind) (another (instruction i) (instruction j)) (semaphore_split places (instruction i) (instruction j))
        ∙ ap (λ (u : Bool). u && semaphore_split places (instruction i) (instruction j)) (sym (bit_is 10 i j a b)))))
      where
        another : model.Instruction → model.Instruction → Bool
        another s w = not (eqb s.number w.number) && overlap s w

    -- the operations that split the RVs of a store
    split_means : (i N : ℕ) → any (λ a. any (λ c. any (broken xs) (for (keep (λ o. not (member (remote_of e (instruction i)) o)) (below N)) (λ o. never a o c ∷ []))) (remote_of e (instruction i))) (remote_of e (instruction i))
        ≡ release_split places N x.processors (instruction i)
    unfolding release_split release_split_by remote_of every_processor broken execution_of
    split_means i N =
        any_same _ _ remote (λ a m. any_same _ _ remote (λ c k.
        any_for (broken xs) (keep (λ o. not (member remote o)) (below N)) _
        ∙ any_same _ _ (keep (λ o. not (member remote o)) (below N)) (λ o r. any_one (broken xs) (never a o c))
        ∙ any_keep (λ o. before xs a o && before xs o c) (λ o. not (member remote o)) (below N)))
        ∙ reordered (λ o. not (member remote o)) (before xs) (before xs) remote (below N)
        ∙ any_below_lem _ N
        ∙ any_below_same _ _ N (λ o l.
        ap₂ ◌&&◌ (ap not (is_remote_lem o)) (ap₂ ◌&&◌ (from_remote o) (to_remote o)))
      where
        remote : List ℕ
        remote = map (λ q. number_of (instruction i) (RV q)) (below x.processors)

        number : ℕ → ℕ
        number q = number_of (instruction i) (RV q)

        is_remote_lem : (o : ℕ) → member remote o ≡ any_below x.processors (λ q. eqb (number q) o)
        is_remote_lem o = member_any remote o ∙ any_numbered (λ a. eqb a o) number x.processors

        from_remote : (o : ℕ) → any (λ a. before xs a o) remote ≡ any_below x.processors (λ q. before_by places (number q) o)
        from_remote o = any_numbered (λ a. before xs a o) number x.processors ∙ any_below_same _ _ x.processors (λ q l. before_placed p (number q) o)

        to_remote : (o : ℕ) → any (before xs o) remote ≡ any_below x.processors (λ q. before_by places o (number q))
        to_remote o = any_numbered (before xs o) number x.processors ∙ any_below_same _ _ x.processors (λ q l. before_placed p o (number q))

    pub rule12_means : pairs_broken places 12 x.instructions marks (operations e) x.processors ≡ any (broken xs) (rule12 e)
    unfolding rule12 pair_broken stores marks_of instruction_at
    rule12_means =
        arm 12 (operations e) x.processors (λ m i j. has_mark m 512 && release_split places (operations e) x.processors (instruction i)) (λ i j. refl)
        ∙ any_below_same _ _ number (λ i a.
        any_below_same _ _ number (λ j b. ap (λ (u : Bool). u && release_split places (operations e) x.processors (instruction i)) (bit_is 9 i j a b))
        ∙ diagonal number i a (is_store (instruction i).kind && (is_release (instruction i).kind && in_WB e (instruction i))) (release_split places (operations e) x.processors (instruction i))
        ∙ and_assoc (is_store (instruction i).kind) (is_release (instruction i).kind && in_WB e (instruction i)) (release_split places (operations e) x.processors (instruction i)))
        ∙ sym (any_for (broken xs) (keep atomic (stores e)) _
        ∙ any_same _ _ (keep atomic (stores e)) (λ w m. any_for (broken xs) (remote_of e w) _ ∙ any_same _ _ (remote_of e w) (λ a k. any_for (broken xs) (remote_of e w) _))
        ∙ any_keep splits atomic (stores e)
        ∙ sort_by_number (λ i. is_store i.kind) (λ w. atomic w && splits w)
        ∙ any_below_same _ _ number (λ i a. ap (λ (u : Bool). is_store (instruction i).kind && (atomic (instruction i) && u)) (split_means i (operations e))))
      where
        atomic : model.Instruction → Bool
        atomic w = is_release w.kind && in_WB e w

        splits : model.Instruction → Bool
        splits w = any (λ a. any (λ c. any (broken xs) (for (keep (λ o. not (member (remote_of e w) o)) (below (operations e))) (λ o. never a o c ∷ []))) (remote_of e w)) (remote_of e w)
