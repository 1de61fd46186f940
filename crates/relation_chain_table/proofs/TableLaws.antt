-- The call's reply: what the reader answers, question 22, and the marks of the closed square at the front of the table.
use Prim.Native.Nat.{ℕ, zero, suc, ◌*◌, ◌<◌, ◌≤◌}
use native.Mathlib.Nat.{mul-le-mul_right}
use native.Mathlib.Omega.{arith}
use mathlib.Core.Path.{◌≡◌, refl, sym, ap, ap₂, ◌∙◌, subst}
use mathlib.Core.Bool.{Bool}
use mathlib.Core.List.{List, [], ◌∷◌, ◌++◌, map, Memᴰ}
use lib.ListN.{length, get_or, drop}
use lib.Dec.{leb}
use borrow.Author.Tests.{le-leb, lt-leb}
use Rattle.base.specs.Lists.{for, below}
use Rattle.base.proofs.Lists.{map_same, of_below}
use Rattle.model.specs.Execution as model
use Rattle.model.specs.Execution.{operation_count, operations, operations_of}
use Rattle.model.specs.Rules.{Link, links_of, linked}
use Rattle.model.specs.Chains.{leads, chain_mark, chain_marks}
use Rattle.model.specs.Calls.{says, refuses, read_all, table_marks, tabling, table_reply, table_call}
use Rattle.model.proofs.Asking.{after_says, after_refuses, asked_yes, asked_no}
use Rattle.model.specs.Accepted.{Accepted}
use Rattle.record_decoded.specs.declared.types.Execution.{Execution}
use Rattle.record_decoded.specs.Decoded.{instructions_of, execution_of}
use Rattle.record_decoded.proofs.Counts.{count_is}
use Rattle.relation_links.specs.declared.operations.Operations.{Operations}
use Rattle.relation_links.specs.Operations.{Tabled}
use Rattle.relation_links.specs.Compiled.{CompiledIn}
use Rattle.relation_links.proofs.CompiledLaws.{few_operations, few_instructions, owner_there}
use Rattle.std.specs.Prelude.{Ok, Err}
use Rattle.record_decoded.specs.declared.question.Question.{Question}
use Rattle.record_decoded.specs.declared.question.Question.TheVariants.{TableLength}
use Rattle.record_decoded.specs.Refusals.{question_number}
use Rattle.relation_chain_table.specs.Replies.{reply_of}
use Rattle.relation_links.specs.Linked.{linked_at}
use Rattle.relation_chain_table.specs.Squares.{mark_of, marked, MarksAre, via, closed_by, row_marks, square_marks}
use Rattle.relation_chain_table.specs.Paths.{Within}
use Rattle.relation_chain_table.proofs.RowLaws.{square_length}
use Rattle.relation_chain_table.proofs.PathLaws.{mark_is_closed}
use Rattle.relation_chain_table.proofs.LinkedLaws.{links_within, leads_here}

module _ (bytes table : List ℕ) where
  -- a record that is refused
  pub call_refused : (q : Question) → read_all bytes ≡ refuses (question_number q) → reply_of (Err q) table ≡ table_call bytes table
  unfolding table_call tabling table_reply
  call_refused q h = ap (table_reply table) (after_refuses (λ d. table_marks d table) h)

  -- a record that is accepted
  pub call_accepted : {e : model.Execution} → read_all bytes ≡ says e → table_reply table (table_marks e table) ≡ table_call bytes table
  unfolding table_call tabling
  call_accepted h = ap (table_reply table) (after_says (λ d. table_marks d table) h)

-- relations that agree below n have closures that agree
closed_same : (n : ℕ) (r s : ℕ → ℕ → Bool) → ((a b : ℕ) → a < n → b < n → r a b ≡ s a b)
    → (k : ℕ) → k ≤ n → (a b : ℕ) → a < n → b < n → closed_by k r a b ≡ closed_by k s a b
unfolding closed_by via
closed_same n r s f zero h a b p q = f a b p q
closed_same n r s f (suc k) h a b p q =
    let ih = closed_same n r s f k (omega arith) in
    cc (ih a b p q, ih a k p (omega arith), ih k b (omega arith) q)

for_same : {A B : Type 0} (f g : A → List B) (l : List A) → ((a : A) → Memᴰ a l → f a ≡ g a) → for l f ≡ for l g
unfolding for
for_same f g [] h = refl
for_same f g (a ∷ l) h = cc (h a (Memᴰ.head refl), for_same f g l (λ b m. h b (Memᴰ.tail m)))

-- the marks written from a closed square are the chain marks
marks_written_lem : (n : ℕ) (links : List Link) (m : List (List ℕ)) → Within n links → MarksAre n m (closed_by n (leads n links)) → square_marks m n n ≡ chain_marks n links
unfolding square_marks row_marks chain_marks
marks_written_lem n links m w holds =
    for_same (row_marks m n) (λ a. map (chain_mark n links a) (below n)) (below n)
    (λ a h. map_same (λ b. mark_of (marked m a b)) (chain_mark n links a) (below n)
    (λ b l. ap mark_of (holds a b (of_below n h) (of_below n l)) ∙ sym (mark_is_closed n links w a b)))

module _ (bytes : List ℕ) (x : Execution) (a : Accepted (execution_of bytes x)) where
  abbrev e : model.Execution
  e = execution_of bytes x

  module _ {t : Operations}
      (tabled : Tabled x.instructions t (for (instructions_of x.instructions) (operations_of x.processors)) (operation_count x.processors (instructions_of x.instructions))) where
    counts : t.count ≡ operations e
    counts = count_is bytes x t.count tabled.counts

    pub few : t.count ≤ 128
    few = omega (arith, tabled.counts, few_operations bytes x a)

    pub square_few : t.count * t.count ≤ 16384
    square_few = omega (arith, mul-le-mul_right t.count few, mul-le-mul_right 128 few)

    -- question 22, as the arrays count
    room_is : (table : List ℕ) → leb (operations e * operations e) (length table) ≡ leb (t.count * t.count) (length table)
    room_is table = ap (λ (n : ℕ). leb (n * n) (length table)) (sym counts)

    pub refuses_22 : (table : List ℕ) → length table < t.count * t.count → reply_of (Err TableLength) table ≡ table_reply table (table_marks e table)
    unfolding table_marks table_reply
    refuses_22 table h = ap (table_reply table) (asked_no 22 _ (room_is table ∙ lt-leb (t.count * t.count) (length table) h))

    module _ {marks : List (List ℕ)} (c : CompiledIn bytes x t marks) where
      pub owners_few : (o : ℕ) → o < t.count → get_or t.owners o 0 < 40
      owners_few o l = omega (arith, owner_there c o l, few_instructions bytes x a)

      -- the closed square
      module _ (links chains : List (List ℕ)) (filled : MarksAre t.count links (linked_at x.instructions t marks)) (closed : MarksAre t.count chains (closed_by t.count (marked links))) where
        holds : MarksAre (operations e) chains (closed_by (operations e) (leads (operations e) (links_of e (linked e))))
        holds = subst (λ (n : ℕ). MarksAre n chains (closed_by n (leads (operations e) (links_of e (linked e))))) counts
            (λ i j p q. closed i j p q
            ∙ closed_same t.count (marked links) (leads (operations e) (links_of e (linked e)))
            (λ i j p q. filled i j p q ∙ leads_here c a.consecutive i j p q) t.count (omega arith) i j p q)

        written : square_marks chains t.count t.count ≡ chain_marks (operations e) (links_of e (linked e))
        written =
            ap (λ (n : ℕ). square_marks chains n n) counts
            ∙ marks_written_lem (operations e) (links_of e (linked e)) chains (links_within e (linked e) a.consecutive) holds

        pub says_marks : (table now : List ℕ) → t.count * t.count ≤ length table → now ≡ square_marks chains t.count t.count ++ drop (t.count * t.count) table
            → reply_of (Ok tt) now ≡ table_reply table (table_marks e table)
        unfolding table_marks table_reply
        says_marks table now h made =
            ap (reply_of (Ok tt)) (made ∙ ap₂ (λ (l : List ℕ) (k : ℕ). l ++ drop k table) written (sym (square_length chains t.count t.count) ∙ ap length written))
            ∙ ap (table_reply table) (asked_yes 22 _ (room_is table ∙ le-leb (t.count * t.count) (length table) h))
