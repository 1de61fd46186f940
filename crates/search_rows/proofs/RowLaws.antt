-- The words of a row are what they should be.
use Prim.Native.Nat.{ℕ, zero, suc, ◌+◌, ◌*◌, ◌-◌, ◌/◌, ◌<◌}
use native.Mathlib.Omega.{arith}
use mathlib.Core.Path.{◌≡◌, sym, ap, ap₂, ◌∙◌, subst}
use mathlib.Core.Bool.{Bool, true, false, cond, ◌&&◌, ◌||◌}
use mathlib.Core.List.{List, []}
use lib.ListN.{length, get_or}
use lib.Dec.{eqb, leb, ltb}
use borrow.Author.Tests.{eq-eqb, ne_eqb, lt-leb}
use Rattle.base.specs.Below.{any_below}
use Rattle.base.specs.Bits.{bit}
use Rattle.base.proofs.Bools.{clash}
use Rattle.base.proofs.Tests.{any_below_same}
use Rattle.model.specs.Execution.{Kind, kind_of, is_store, is_semaphore, R, LV, RV, number_from}
use Rattle.model.specs.Questions.{written_from}
use Rattle.model.specs.Rules.{linked}
use Rattle.model.specs.Accepted.{Accepted, Sound}
use Rattle.model.proofs.Accesses.{fitting}
use Rattle.record_decoded.specs.declared.types.Execution.{Execution}
use Rattle.record_decoded.specs.Decoded.{instruction_at, execution_of}
use Rattle.relation_links.specs.declared.operations.Operations.{Operations}
use Rattle.relation_links.specs.Operations.{operation_at}
use Rattle.relation_links.specs.Compiled.{CompiledIn}
use Rattle.relation_links.proofs.CompiledLaws.{few_instructions, owner_there}
use Rattle.model.proofs.Ownership.{each_in}
use Rattle.search_sets.specs.Set.{holds}
use Rattle.search_sets.proofs.Laws.{zero_has}
use Rattle.search_admit.specs.Rows.{writes, visible_at, own_at, covers, data_bit, awaited_by, bypass_of, RowOf}
use Rattle.relation_marks.specs.Marks.{mark_at}
use Rattle.relation_marks.proofs.MarkLaws.{overlap_shares}
use Rattle.search_constraints.specs.Rows.{partner_of, linked_of, own_store_by}
use Rattle.search_constraints.proofs.LinkedLaws.{preds_mean}
use Rattle.search_constraints.proofs.PartnerLaws.{partner_means}
use Rattle.search_constraints.proofs.OwnedLaws.{each_linked}
use Rattle.search_meaning.proofs.Owners.{numbered_in}
use Rattle.search_rows.specs.Lent.{Lent, InLines, PairAt}

-- what a role writes
pub writing_LV : (role : ℕ) → role ≡ 1 → true ≡ writes role
writing_LV role h = ap (λ (b : Bool). b || leb 3 role) (sym (eq-eqb role 1 h))

pub writing_by : (role : ℕ) → (role ≡ 1 → ⊥) → leb 3 role ≡ writes role
writing_by role h = ap (λ (b : Bool). b || leb 3 role) (sym (ne_eqb role 1 h))

-- the word that a role writes
module _ (role processor line : ℕ) where
  abbrev word_of : ℕ
  word_of = cond (eqb role 1) (own_at processor line) (visible_at (role - 3) line)

  pub word_LV : role ≡ 1 → writes role ≡ true → 64 + 8 * processor + line ≡ word_of
  word_LV h w = ap (λ (b : Bool). cond b (own_at processor line) (visible_at (role - 3) line)) (sym (eq-eqb role 1 h))

  pub word_none : (role ≡ 1 → ⊥) → role < 3 → {word : ℕ} → writes role ≡ true → word ≡ word_of
  word_none h l w = clash w (sym (writing_by role h) ∙ lt-leb 3 role l)

  pub word_RV : (role ≡ 1 → ⊥) → {q : ℕ} → q ≡ role - 3 → writes role ≡ true → 8 * q + line ≡ word_of
  word_RV h k w =
      ap (λ (j : ℕ). visible_at j line) k ∙ ap (λ (b : Bool). cond b (own_at processor line) (visible_at (role - 3) line)) (sym (ne_eqb role 1 h))

-- the bits of a word that is wanted
wanted_bit : (b c : Bool) (word i : ℕ) → bit word i ≡ c → bit (cond b word 0) i ≡ (b && c)
wanted_bit true c word i h = h
wanted_bit false c word i h = zero_has i

-- what holds of both words
each_word : (P : ℕ → Type 0) → P 0 → P 1 → (g : ℕ) → g < 2 → P g
each_word P a b zero l = a
each_word P a b (suc zero) l = b
each_word P a b (suc (suc g)) l = absurd (omega arith)

-- the two words of an instruction where they are wanted
module _ (is : Bool) {words : List ℕ} {w first next : ℕ} (pair : PairAt words w first next) {a b : ℕ} (wanted : (a ≡ cond is first 0) × (b ≡ cond is next 0)) where
  pub wanted_first : a ≡ cond is (get_or words (2 * w + 0) 0) 0
  wanted_first = wanted.0 ∙ ap (λ (v : ℕ). cond is v 0) (pair.first_is ∙ ap (λ (j : ℕ). get_or words j 0) (let z : 2 * w ≡ 2 * w + 0 = omega arith in z))

  pub wanted_next : b ≡ cond is (get_or words (2 * w + 1) 0) 0
  wanted_next = wanted.1 ∙ ap (λ (v : ℕ). cond is v 0) pair.next_is

-- an owner is an instruction
pub owner_few : {bytes : List ℕ} {x : Execution} {t : Operations} {marks : List (List ℕ)} → CompiledIn bytes x t marks → Accepted (execution_of bytes x) → (o : ℕ) → o < t.count
    → {owners roles kinds firsts processors addresses sizes : List ℕ} → Lent x t owners roles kinds firsts processors addresses sizes
    → (w : ℕ) → w ≡ get_or owners o 0 → (w < 40) × (w < x.instructions.count)
owner_few {bytes} {x} h accepted o low lent w is =
    let there = owner_there h o low in
    let l : w < x.instructions.count = omega (arith, is ∙ ap (λ (own : List ℕ). get_or own o 0) lent.owners_are) in
    (omega (arith, few_instructions bytes x accepted), l)

-- accesses stay in their lines
pub in_lines : (bytes : List ℕ) (x : Execution) → Accepted (execution_of bytes x) → (w : ℕ) → w < x.instructions.count → InLines x.instructions w
unfolding instruction_at
in_lines bytes x accepted w l =
    let fits = fitting (each_in (Sound (execution_of bytes x).processors (length (execution_of bytes x).lines)) accepted.sound
    (numbered_in (record { bytes = bytes; execution = x; operations = record { count = 0; owners = []; roles = [] }; marks = []; rows = [] }) w l)) in
    record { two_lines = fits.two_lines; few = fits.few }

module _ {bytes : List ℕ} {x : Execution} {t : Operations} {marks : List (List ℕ)} (h : CompiledIn bytes x t marks) (accepted : Accepted (execution_of bytes x)) (o : ℕ) (there : o < t.count)
    {owners roles kinds firsts processors addresses sizes : List ℕ} (lent : Lent x t owners roles kinds firsts processors addresses sizes) where
  abbrev owner : ℕ
  owner = get_or t.owners o 0

  abbrev role : ℕ
  role = get_or t.roles o 0

  -- what the sets hold of an operation of instruction w with a role, by the kinds, first operations, processors and addresses of the instructions
  abbrev linked_some : ℕ → List ℕ → List ℕ → List ℕ → ℕ → ℕ → Bool
  linked_some role ks fs ps w a = any_below x.instructions.count (λ v. linked_of x.processors ks fs ps marks w role v a)

  abbrev awaited_some : ℕ → List ℕ → List ℕ → List ℕ → ℕ → ℕ → Bool
  awaited_some role ks fs ps w a = any_below x.instructions.count (λ v. awaited_by (mark_at marks v w) role (kind_of (get_or ks v 0)) (get_or fs v 0) (get_or ps v 0) a)

  abbrev bypass_some : ℕ → List ℕ → List ℕ → List ℕ → List ℕ → List ℕ → ℕ → ℕ → Bool
  bypass_some role ks fs ps from ss w a =
      any_below x.instructions.count (λ v. eqb role 0 && (own_store_by ks ps from ss w v && eqb a (number_from (get_or fs v 0) (kind_of (get_or ks v 0)) (RV (get_or ps v 0)))))

  -- the same by the execution, of the operation's owner
  linked_lent : (w a : ℕ) → w ≡ owner → linked_some role kinds firsts processors w a ≡ linked_some role x.instructions.kinds x.instructions.firsts x.instructions.processors owner a
  linked_lent w a iw =
      ap₂ (λ (ks fs : List ℕ). linked_some role ks fs processors w a) lent.kinds_are lent.firsts_are
      ∙ ap₂ (λ (ps : List ℕ) (v : ℕ). linked_some role x.instructions.kinds x.instructions.firsts ps v a) lent.processors_are iw

  awaited_lent : (w a : ℕ) → w ≡ owner → awaited_some role kinds firsts processors w a ≡ awaited_some role x.instructions.kinds x.instructions.firsts x.instructions.processors owner a
  awaited_lent w a iw =
      ap₂ (λ (ks fs : List ℕ). awaited_some role ks fs processors w a) lent.kinds_are lent.firsts_are
      ∙ ap₂ (λ (ps : List ℕ) (v : ℕ). awaited_some role x.instructions.kinds x.instructions.firsts ps v a) lent.processors_are iw

  bypass_lent : (w a : ℕ) → w ≡ owner
      → bypass_some role kinds firsts processors addresses sizes w a
      ≡ bypass_some role x.instructions.kinds x.instructions.firsts x.instructions.processors x.instructions.addresses x.instructions.sizes owner a
  bypass_lent w a iw =
      ap₂ (λ (ks fs : List ℕ). bypass_some role ks fs processors addresses sizes w a) lent.kinds_are lent.firsts_are
      ∙ ap₂ (λ (ps from : List ℕ). bypass_some role x.instructions.kinds x.instructions.firsts ps from sizes w a) lent.processors_are lent.addresses_are
      ∙ ap₂ (λ (ss : List ℕ) (v : ℕ). bypass_some role x.instructions.kinds x.instructions.firsts x.instructions.processors x.instructions.addresses ss v a) lent.sizes_are iw

  -- a shared byte is an overlap
  bypass_means : (a : ℕ) → bypass_some role x.instructions.kinds x.instructions.firsts x.instructions.processors x.instructions.addresses x.instructions.sizes owner a
      ≡ any_below x.instructions.count (λ v. bypass_of x t marks o v a)
  unfolding instruction_at
  bypass_means a = any_below_same _ _ x.instructions.count (λ v l.
      ap (λ (shares : Bool). eqb role 0
      && (is_store (kind_of (get_or x.instructions.kinds v 0)) && (eqb (get_or x.instructions.processors v 0) (get_or x.instructions.processors owner 0) && shares)
      && eqb a (number_from (get_or x.instructions.firsts v 0) (kind_of (get_or x.instructions.kinds v 0)) (RV (get_or x.instructions.processors v 0)))))
      (sym (overlap_shares (instruction_at x.instructions v) (instruction_at x.instructions owner))))

  -- where an instruction's bytes written begin
  abbrev written_of : ℕ → ℕ
  written_of w = written_from (kind_of (get_or x.instructions.kinds w 0))

  -- what makes a row of the operation, by its role
  abbrev RowIs : ℕ → Type 0
  RowIs r =
      (row : ℕ → ℕ) (w first processor line : ℕ) (kind : Kind) → w ≡ owner → first ≡ get_or firsts w 0 → kind ≡ kind_of (get_or kinds w 0) → processor ≡ get_or processors w 0
      → line ≡ get_or addresses w 0 / 8
      → ((a : ℕ) → a < 128 → holds (row 9) (row 10) a ≡ linked_some r kinds firsts processors w a)
      → ((a : ℕ) → a < 128 → holds (row 2) (row 3) a ≡ partner_of (mark_at marks w w) r kind first x.processors a)
      → ((a : ℕ) → a < 128 → holds (row 0) (row 1) a ≡ awaited_some r kinds firsts processors w a)
      → ((a : ℕ) → a < 128 → holds (row 11) (row 12) a ≡ bypass_some r kinds firsts processors addresses sizes w a)
      → (bits saw wrote : ℕ → ℕ) → ((g i : ℕ) → g < 2 → i < 64 → bit (bits g) i ≡ covers x w (64 * g + i)) → ((g i : ℕ) → g < 2 → i < 64 → bit (saw g) i ≡ data_bit bytes x w 0 (64 * g + i))
      → ((g i : ℕ) → g < 2 → i < 64 → bit (wrote g) i ≡ data_bit bytes x w (written_of w) (64 * g + i))
      → (writing : Bool) → writing ≡ writes r
      → row 5 ≡ cond writing (bits 0) 0 → row 6 ≡ cond writing (bits 1) 0 → row 7 ≡ cond writing (wrote 0) 0 → row 8 ≡ cond writing (wrote 1) 0
      → (writes r ≡ true → row 4 ≡ cond (eqb r 1) (own_at processor line) (visible_at (r - 3) line))
      → row 14 ≡ cond (eqb r 0) (bits 0) 0 → row 15 ≡ cond (eqb r 0) (bits 1) 0 → row 16 ≡ cond (eqb r 0) (saw 0) 0 → row 17 ≡ cond (eqb r 0) (saw 1) 0
      → row 13 ≡ 8 * processor + line
      → (own_rv lv : ℕ) → own_rv ≡ number_from first kind (RV processor) → lv ≡ number_from first kind LV
      → row 18 ≡ cond writing own_rv o → row 19 ≡ cond writing lv o
      → row 20 ≡ cond (writing && is_semaphore kind) (number_from first kind R) o
      → RowOf x t marks o bytes row

  row_by_role : RowIs role
  unfolding instruction_at
  row_by_role row w first processor line kind iw isf isk ip il preds partners awaited bypasses bits saw wrote bits_are saw_are wrote_are writing wr r5 r6 r7 r8 r4 r14 r15 r16 r17 r13 own_rv lv irv ilv r18 r19 r20 = record {
    preds_are = λ a l. preds a l ∙ linked_lent w a iw ∙ each_linked h o a ∙ preds_mean h accepted o a there ∙ ap (λ (n : ℕ). ltb a n && linked (execution_of bytes x) (operation_at x.instructions t a) (operation_at x.instructions t o)) h.tabled.counts;
    partners_are = λ a l. partners a l ∙ ap₂ (λ (v f : ℕ). partner_of (mark_at marks v v) role kind f x.processors a) iw first_is ∙ ap (λ (k : Kind). partner_of (mark_at marks owner owner) role k (get_or x.instructions.firsts owner 0) x.processors a) kind_is ∙ partner_means h accepted o there a;
    awaited_are = λ a l. awaited a l ∙ awaited_lent w a iw;
    bypasses_are = λ a l. bypasses a l ∙ bypass_lent w a iw ∙ bypass_means a;
    writes_bits = λ g i m l. ap (λ (v : ℕ). bit v i) (each_word (λ j. row (5 + j) ≡ cond writing (bits j) 0) r5 r6 g m) ∙ wanted_bit writing (covers x w (64 * g + i)) (bits g) i (bits_are g i m l) ∙ ap₂ (λ (b : Bool) (v : ℕ). b && covers x v (64 * g + i)) wr iw;
    writes_data = λ g i m l. ap (λ (v : ℕ). bit v i) (each_word (λ j. row (7 + j) ≡ cond writing (wrote j) 0) r7 r8 g m) ∙ wanted_bit writing (data_bit bytes x w (written_of w) (64 * g + i)) (wrote g) i (wrote_are g i m l) ∙ ap₂ (λ (b : Bool) (v : ℕ). b && data_bit bytes x v (written_of v) (64 * g + i)) wr iw;
    writes_word = λ u. r4 u ∙ ap₂ (λ (p l : ℕ). cond (eqb role 1) (own_at p l) (visible_at (role - 3) l)) processor_is line_is;
    reads_bits = λ g i m l. ap (λ (v : ℕ). bit v i) (each_word (λ j. row (14 + j) ≡ cond (eqb role 0) (bits j) 0) r14 r15 g m) ∙ wanted_bit (eqb role 0) (covers x w (64 * g + i)) (bits g) i (bits_are g i m l) ∙ ap (λ (v : ℕ). eqb role 0 && covers x v (64 * g + i)) iw;
    reads_data = λ g i m l. ap (λ (v : ℕ). bit v i) (each_word (λ j. row (16 + j) ≡ cond (eqb role 0) (saw j) 0) r16 r17 g m) ∙ wanted_bit (eqb role 0) (data_bit bytes x w 0 (64 * g + i)) (saw g) i (saw_are g i m l) ∙ ap (λ (v : ℕ). eqb role 0 && data_bit bytes x v 0 (64 * g + i)) iw;
    reads_visible = λ u. r13 ∙ ap₂ visible_at processor_is line_is;
    own_is = r18 ∙ ap₂ (λ (b : Bool) (n : ℕ). cond b n o) wr (irv ∙ ap₂ (λ (f p : ℕ). number_from f kind (RV p)) first_is processor_is ∙ ap (λ (k : Kind). number_from (get_or x.instructions.firsts owner 0) k (RV (get_or x.instructions.processors owner 0))) kind_is);
    local_is = r19 ∙ ap₂ (λ (b : Bool) (n : ℕ). cond b n o) wr (ilv ∙ ap₂ (λ (f : ℕ) (k : Kind). number_from f k LV) first_is kind_is);
    read_is = r20 ∙ ap₂ (λ (b : Bool) (f : ℕ). cond (b && is_semaphore kind) (number_from f kind R) o) wr first_is
        ∙ ap (λ (k : Kind). cond (writes role && is_semaphore k) (number_from (get_or x.instructions.firsts owner 0) k R) o) kind_is;
  }
    where
      processor_is : processor ≡ get_or x.instructions.processors owner 0
      processor_is = ip ∙ ap₂ (λ (ps : List ℕ) (v : ℕ). get_or ps v 0) lent.processors_are iw

      line_is : line ≡ get_or x.instructions.addresses owner 0 / 8
      line_is = il ∙ ap₂ (λ (from : List ℕ) (v : ℕ). get_or from v 0 / 8) lent.addresses_are iw

      kind_is : kind ≡ kind_of (get_or x.instructions.kinds owner 0)
      kind_is = isk ∙ ap₂ (λ (ks : List ℕ) (v : ℕ). kind_of (get_or ks v 0)) lent.kinds_are iw

      first_is : first ≡ get_or x.instructions.firsts owner 0
      first_is = isf ∙ ap₂ (λ (fs : List ℕ) (v : ℕ). get_or fs v 0) lent.firsts_are iw

  pub row_is : RowIs (get_or roles o 0)
  row_is = subst RowIs (sym (ap (λ (own : List ℕ). get_or own o 0) lent.roles_are)) row_by_role
