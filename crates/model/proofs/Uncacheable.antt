-- UC memory and its domains: attributes and their numbers; only rule 13 minds the domains; records with attribute bytes 0 to 2 have one domain.
use Prim.Native.Nat.{ℕ, zero, suc, ◌+◌, ◌*◌, ◌/◌, ◌%◌, ◌≤◌, ◌<◌}
use native.Mathlib.Omega.{arith}
use mathlib.Core.Path.{◌≡◌, refl, sym, ap, ap₂, ◌∙◌, subst}
use mathlib.Core.Bool.{Bool, true, not, ◌&&◌, ◌||◌}
use mathlib.Core.List.{List, [], ◌∷◌, map}
use lib.ListN.{length, get_or, take, drop, length-map, get_or-map}
use lib.Seq.{ext_get_or}
use lib.Dec.{eqb, ltb}
use borrow.Author.Tests.{eq-eqb, ne_eqb, eqb-true, lt-ltb, ltb-true}
use Rattle.base.specs.Lists.{any, keep, when, for, count, below, member}
use Rattle.base.proofs.Bools.{split, agree, and_parts, and_both}
use Rattle.base.proofs.Lists.{any_witness, any_member, any_map, member_any, in_below, of_below}
use Rattle.model.specs.Execution.{Attribute, WB, UC, WC, attribute_number, attribute_of, attributes, is_WB, is_UC, same_domain, Line, no_line, Instruction, Execution, Operation, is_release, R, LV, number_of, operations, all_operations, every_processor, stores, loads, semaphores, line_at, attribute_at, initial_byte}
use Rattle.model.specs.Questions.{question4, line_of}
use Rattle.model.specs.Rules.{is_R_or_LV, earlier, paired, link8, in_WB, in_UC, in_one_domain, link13, Claim, never, sees, addresses, overlap, RV_own, links_of, conflict, for_conflicts, rule9, rule10, sight_of, rule11, remote_of, rule12, rule14, rule16, rules}
use Rattle.model.specs.Calls.{judge_order, judge_call, search_saved, search_reply, searching, search_call, table_marks, table_reply, tabling, table_call}
use Rattle.model.specs.Claims.{AttributeNumbers, without_domain, line_without_domain, one_domain, old_link13, old_rules, OneDomain, attribute_byte, OldRecords}
use Rattle.model.proofs.Asking.{after_says}
use Rattle.model.proofs.Accepted.{read_found}
use Rattle.model.proofs.Walked.{Begins, begins, attribute_place}

-- Attributes and their numbers

read_back : (a : Attribute) → attribute_of (attribute_number a) ≡ a
read_back WB = refl
read_back WC = refl
read_back (UC d) =
    rw (ne_eqb (1 + 16 * d) 0 (λ z. omega arith), eq-eqb ((1 + 16 * d) % 16) 1 (omega arith)) (ap UC (omega arith))

numbered : (n : ℕ) → question4 n ≡ true → attribute_number (attribute_of n) ≡ n
unfolding question4
numbered n h =
    let (a, there, e) = any_witness _ attributes (sym (member_any (map attribute_number attributes) n ∙ any_map (λ m. eqb m n) attribute_number attributes) ∙ h) in
    let e1 = eqb-true (attribute_number a) n e in
    ap (λ (m : ℕ). attribute_number (attribute_of m)) (sym e1) ∙ ap attribute_number (read_back a) ∙ e1

-- the numbers of UC, of so many domains
domains_are : (k n : ℕ) → member (map attribute_number (map UC (below k))) n ≡ (eqb (n % 16) 1 && ltb (n / 16) k)
domains_are k n =
    member_any (map attribute_number (map UC (below k))) n
    ∙ any_map (λ m. eqb m n) attribute_number (map UC (below k))
    ∙ any_map (λ a. eqb (attribute_number a) n) UC (below k)
    ∙ agree (any (λ d. eqb (1 + 16 * d) n) (below k)) (eqb (n % 16) 1 && ltb (n / 16) k)
    (λ h. let (d, there, e) = any_witness (λ d. eqb (1 + 16 * d) n) (below k) h in
    let less = of_below k there in
    let is = eqb-true (1 + 16 * d) n e in
    and_both (eq-eqb (n % 16) 1 (omega arith)) (lt-ltb (n / 16) k (omega arith)))
    (λ h. let (one, less) = and_parts (eqb (n % 16) 1) (ltb (n / 16) k) h in
    any_member (λ d. eqb (1 + 16 * d) n) (in_below k (n / 16) (ltb-true (n / 16) k less))
    (eq-eqb (1 + 16 * (n / 16)) n (omega (arith, eqb-true (n % 16) 1 one))))

-- question 4 by remainder and quotient
pub question4_is : (n : ℕ) → question4 n ≡ (eqb 0 n || (eqb 2 n || (eqb (n % 16) 1 && ltb (n / 16) 4)))
unfolding question4 attributes member
question4_is n = ap (λ (t : Bool). eqb 0 n || (eqb 2 n || t)) (domains_are 4 n)

-- what document 01's question 4 passed
passed_before : (n : ℕ) → n ≤ 2 → (question4 n ≡ true) × (attribute_of n ≡ get_or (WB ∷ UC 0 ∷ []) n WC)
unfolding question4 attributes member below count
passed_before zero h = (refl, refl)
passed_before (suc zero) h = (refl, refl)
passed_before (suc (suc zero)) h = (refl, refl)
passed_before (suc (suc (suc n))) h = absurd (omega arith)

pub attribute_numbers : AttributeNumbers
attribute_numbers = (read_back, numbered, passed_before)

-- Only rule 13 minds the domains

same_WB : (a : Attribute) → is_WB (without_domain a) ≡ is_WB a
same_WB WB = refl
same_WB WC = refl
same_WB (UC d) = refl

same_UC : (a : Attribute) → is_UC (without_domain a) ≡ is_UC a
same_UC WB = refl
same_UC WC = refl
same_UC (UC d) = refl

both_UC : (a b : Attribute) → same_domain (without_domain a) (without_domain b) ≡ (is_UC a && is_UC b)
both_UC WB b = refl
both_UC WC b = refl
both_UC (UC d) WB = refl
both_UC (UC d) WC = refl
both_UC (UC d) (UC c) = refl

module _ (e : Execution) where
  line_one : (a : ℕ) → line_at (one_domain e) a ≡ line_without_domain (line_at e a)
  unfolding line_at one_domain
  line_one a = get_or-map line_without_domain e.lines (a / 8) no_line

  attribute_one : (i : Instruction) → attribute_at (one_domain e) i ≡ without_domain (attribute_at e i)
  unfolding attribute_at
  attribute_one i = ap (λ (l : Line). l.attribute) (line_one i.address)

  initial_one : (a : ℕ) → initial_byte (one_domain e) a ≡ initial_byte e a
  unfolding initial_byte
  initial_one a = ap (λ (l : Line). get_or l.initial (a % 8) 0) (line_one a)

  wb_one : (i : Instruction) → in_WB (one_domain e) i ≡ in_WB e i
  wb_one i = ap is_WB (attribute_one i) ∙ same_WB (attribute_at e i)

  uc_one : (i : Instruction) → in_UC (one_domain e) i ≡ in_UC e i
  uc_one i = ap is_UC (attribute_one i) ∙ same_UC (attribute_at e i)

  domain_one : (i j : Instruction) → in_one_domain (one_domain e) i j ≡ (in_UC e i && in_UC e j)
  domain_one i j = ap₂ same_domain (attribute_one i) (attribute_one j) ∙ both_UC (attribute_at e i) (attribute_at e j)

  link13_one : (a b : Operation) → link13 (one_domain e) a b ≡ old_link13 e a b
  unfolding link13 old_link13
  link13_one a b = ap (λ (t : Bool). earlier a b && t && (is_R_or_LV a && is_R_or_LV b)) (domain_one a.instruction b.instruction)

  link8_one : (a b : Operation) → link8 (one_domain e) a b ≡ link8 e a b
  unfolding link8 paired one_domain
  link8_one a b = refl

  conflict_one : (v w : Instruction) → conflict (one_domain e) v w ≡ conflict e v w
  unfolding conflict
  conflict_one v w = rw (wb_one v, wb_one w, uc_one v, uc_one w) refl

  sight_one : (l : Instruction) (b : ℕ) → sight_of (one_domain e) l b ≡ sight_of e l b
  unfolding sight_of stores one_domain
  sight_one l b = λ i. record {
    reads = (sight_of e l b).reads;
    writers = (sight_of e l b).writers;
    initial = initial_one b i;
    seen = (sight_of e l b).seen;
  }

  conflicts_one : (f : Instruction → Instruction → List Claim) → for_conflicts (one_domain e) f ≡ for_conflicts e f
  unfolding for_conflicts stores one_domain
  conflicts_one f = λ i. for (stores e) (λ v. for (stores e) (λ w. when (conflict_one v w i) (f v w)))

  rule9_one : rule9 (one_domain e) ≡ rule9 e
  unfolding rule9
  rule9_one = conflicts_one _

  rule10_one : rule10 (one_domain e) ≡ rule10 e
  unfolding rule10 every_processor one_domain
  rule10_one = conflicts_one _

  rule11_one : rule11 (one_domain e) ≡ rule11 e
  unfolding rule11 loads one_domain
  rule11_one = λ i. for (loads e) (λ l. map (λ b. sees (sight_one l b i)) (addresses l))

  rule12_one : rule12 (one_domain e) ≡ rule12 e
  unfolding rule12 stores remote_of every_processor operations one_domain
  rule12_one = λ i. for (keep (λ w. is_release w.kind && wb_one w i) (stores e)) (λ w.
      for (remote_of e w) (λ a. for (remote_of e w) (λ c.
      for (keep (λ o. not (member (remote_of e w) o)) (below (operations e))) (λ o. never a o c ∷ []))))

  rule14_one : rule14 (one_domain e) ≡ rule14 e
  unfolding rule14 stores loads one_domain
  rule14_one = λ i. for (stores e) (λ w. for (loads e) (λ l.
      when (uc_one w i && (eqb w.processor l.processor && overlap w l)) (never (number_of w LV) (number_of l R) (RV_own w) ∷ [])))

  rule16_one : rule16 (one_domain e) ≡ rule16 e
  unfolding rule16 semaphores stores one_domain
  rule16_one = refl

  -- rules 1 to 8 and 15 by computation
  rules_one : rules (one_domain e) ≡ old_rules e
  unfolding rules old_rules links_of all_operations link8 paired one_domain
  rules_one = cc (rule9_one, rule10_one, rule11_one, rule12_one, links13_one, rule14_one, rule16_one)
    where
      links13_one : links_of (one_domain e) (link13 (one_domain e)) ≡ links_of e (old_link13 e)
      links13_one = ap (links_of e) (λ i a b. link13_one a b i)

pub one_domain_lem : OneDomain
one_domain_lem e = (rules_one e, λ a b. (link8_one e a b, link13_one e a b))

-- Records with attribute bytes 0 to 2

old_attribute : (n : ℕ) → n ≤ 2 → without_domain (attribute_of n) ≡ attribute_of n
old_attribute n h =
    split (eqb n 0)
    (λ e. rw e)
    (λ e. split (eqb (n % 16) 1) (λ k. rw (e, k) (ap UC (omega arith))) (λ k. rw (e, k)))

old_line : (x : List ℕ) → get_or x 0 0 ≤ 2 → line_without_domain (line_of x) ≡ line_of x
unfolding line_of
old_line x h = λ i. record { attribute = old_attribute (get_or x 0 0) h i; initial = drop 1 x }

-- the execution of an old record has one domain
one_was : (bytes : List ℕ) (e : Execution) → Begins bytes e → ((k : ℕ) → k < length e.lines → attribute_byte bytes k ≤ 2) → one_domain e ≡ e
unfolding one_domain
one_was bytes e w old = λ i. record { processors = e.processors; lines = same i; instructions = e.instructions; pairs = e.pairs }
  where
    line_was : (k : ℕ) → k < length e.lines → line_without_domain (get_or e.lines k no_line) ≡ get_or e.lines k no_line
    line_was k l =
        subst (λ (m : Line). line_without_domain m ≡ m) (sym (w.line_is k l))
        (old_line (take 9 (drop (9 * k) (drop 2 bytes))) (subst (λ (n : ℕ). n ≤ 2) (sym (attribute_place bytes k)) (old k l)))

    same : map line_without_domain e.lines ≡ e.lines
    same =
        ext_get_or no_line (map line_without_domain e.lines) e.lines (length-map e.lines line_without_domain)
        (λ k l. get_or-map line_without_domain e.lines k no_line ∙ line_was k (omega (arith, l, length-map e.lines line_without_domain)))

pub old_records : OldRecords
unfolding judge_call search_call searching table_call tabling
old_records bytes e h old =
    let (rest, f) = read_found bytes e h in
    let one = one_was bytes e (begins bytes e rest f) old in
    record {
      one = one;
      rules_are = ap rules (sym one) ∙ rules_one e;
      links_are = λ a b. ap (λ (d : Execution). link13 d a b) (sym one) ∙ link13_one e a b;
      judged = λ order. sym (after_says (λ d. judge_order d order) h) ∙ ap (λ (d : Execution). judge_order d order) (sym one);
      searched = λ buffer saved allowance. ap (search_reply saved buffer)
          (sym (after_says (λ d. search_saved d buffer saved allowance) h) ∙ ap (λ (d : Execution). search_saved d buffer saved allowance) (sym one));
      tabled = λ table. ap (table_reply table) (sym (after_says (λ d. table_marks d table) h) ∙ ap (λ (d : Execution). table_marks d table) (sym one));
    }
