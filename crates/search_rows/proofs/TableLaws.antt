-- The table of rows, made one after the other.
use Prim.Native.Nat.{ℕ, ◌+◌, ◌*◌, ◌≤◌, ◌<◌}
use native.Mathlib.Omega.{arith}
use native.Mathlib.Decide.{ℕ_discrete, dec_lt}
use mathlib.Core.Path.{◌≡◌, refl, ap, ap₂, ◌∙◌, subst}
use mathlib.Core.List.{List}
use mathlib.Core.Logic.{◌⊎◌, inl, inr, ⊎_elim}
use lib.ListN.{length, get_or, set, length-set}
use lib.Seq.{get_or-set_same, get_or-set_other}
use Rattle.base.specs.Bits.{bit}
use Rattle.model.specs.Execution.{operations}
use Rattle.record_decoded.specs.declared.types.Execution.{Execution}
use Rattle.record_decoded.specs.Decoded.{execution_of}
use Rattle.relation_links.specs.declared.operations.Operations.{Operations}
use Rattle.relation_links.specs.Compiled.{CompiledIn}
use Rattle.search_admit.specs.Rows.{field, Bytes, RowOf, RowsMean}
use Rattle.search_sets.specs.Set.{holds}
use Rattle.search_rows.specs.Puts.{Put}

-- a row put in, one word after the other
pub put_none : {before row : List ℕ} {at : ℕ} → Put before row at 0 before
put_none = record { long = refl; new = λ f h. absurd (omega arith); old = λ i h. refl }

pub put_more : {before row : List ℕ} {at j : ℕ} {after : List ℕ} → Put before row at j after → at + j < length before → Put before row at (j + 1) (set after (at + j) (get_or row j 0))
put_more {before} {row} {at} {j} {after} inv room = record {
  long = length-set after (at + j) (get_or row j 0) ∙ inv.long;
  new = λ f h. go f h (ℕ_discrete f j);
  old = λ i h. get_or-set_other after (at + j) i (get_or row j 0) 0 (λ e. elsewhere i h e) ∙ inv.old i (⊎_elim (λ l. inl l) (λ l. inr (omega arith)) h);
}
  where
    go : (f : ℕ) → f < j + 1 → Dec (f ≡ j) → get_or (set after (at + j) (get_or row j 0)) (at + f) 0 ≡ get_or row f 0
    go f h (yes q) = rw q (get_or-set_same after (at + j) (get_or row j 0) 0 (omega (arith, inv.long)))
    go f h (no q) = get_or-set_other after (at + j) (at + f) (get_or row j 0) 0 (λ e. q (omega arith)) ∙ inv.new f (omega arith)

    elsewhere : (i : ℕ) → (i < at) ⊎ (at + (j + 1) ≤ i) → i ≡ at + j → ⊥
    elsewhere i (inl l) e = omega arith
    elsewhere i (inr l) e = omega arith

pub put_done : {before row : List ℕ} {at j : ℕ} {after : List ℕ} → Put before row at j after → j ≡ 21 → Put before row at 21 after
put_done {before} {row} {at} {j} {after} inv e = subst (λ (k : ℕ). Put before row at k after) e inv

-- the same row by another name
row_same : {bytes : List ℕ} {x : Execution} {t : Operations} {marks : List (List ℕ)} {o : ℕ} (row row' : ℕ → ℕ) → ((f : ℕ) → f < 21 → row' f ≡ row f) → RowOf x t marks o bytes row → RowOf x t marks o bytes row'
row_same row row' e r = record {
  preds_are = λ a l. ap₂ (λ (u v : ℕ). holds u v a) (e 9 (omega arith)) (e 10 (omega arith)) ∙ r.preds_are a l;
  partners_are = λ a l. ap₂ (λ (u v : ℕ). holds u v a) (e 2 (omega arith)) (e 3 (omega arith)) ∙ r.partners_are a l;
  awaited_are = λ a l. ap₂ (λ (u v : ℕ). holds u v a) (e 0 (omega arith)) (e 1 (omega arith)) ∙ r.awaited_are a l;
  bypasses_are = λ a l. ap₂ (λ (u v : ℕ). holds u v a) (e 11 (omega arith)) (e 12 (omega arith)) ∙ r.bypasses_are a l;
  writes_bits = λ h i g l. ap (λ (u : ℕ). bit u i) (e (5 + h) (omega arith)) ∙ r.writes_bits h i g l;
  writes_data = λ h i g l. ap (λ (u : ℕ). bit u i) (e (7 + h) (omega arith)) ∙ r.writes_data h i g l;
  writes_word = λ w. e 4 (omega arith) ∙ r.writes_word w;
  reads_bits = λ h i g l. ap (λ (u : ℕ). bit u i) (e (14 + h) (omega arith)) ∙ r.reads_bits h i g l;
  reads_data = λ h i g l. ap (λ (u : ℕ). bit u i) (e (16 + h) (omega arith)) ∙ r.reads_data h i g l;
  reads_visible = λ w. e 13 (omega arith) ∙ r.reads_visible w;
  own_is = e 18 (omega arith) ∙ r.own_is;
  local_is = e 19 (omega arith) ∙ r.local_is;
  read_is = e 20 (omega arith) ∙ r.read_is;
}

-- The invariant: the rows of the first o operations are in.
pub record Filled (bytes : List ℕ) (x : Execution) (t : Operations) (marks : List (List ℕ)) (n : ℕ) (rows : List ℕ) (o : ℕ) : Type 0 where
  pub few : o ≤ n
  pub long : length rows ≡ 2688
  pub rowed : (k : ℕ) → k < o → RowOf x t marks k bytes (λ f. field rows f k)

pub filled_none : {bytes : List ℕ} {x : Execution} {t : Operations} {marks : List (List ℕ)} {n : ℕ} {rows : List ℕ} → length rows ≡ 2688 → Filled bytes x t marks n rows 0
filled_none l = record { few = omega arith; long = l; rowed = λ k h. absurd (omega arith) }

pub filled_more : {bytes : List ℕ} {x : Execution} {t : Operations} {marks : List (List ℕ)} {n : ℕ} {rows : List ℕ} {o : ℕ} → Filled bytes x t marks n rows o → o < n → n ≤ 128 → (row : List ℕ)
    → RowOf x t marks o bytes (λ f. get_or row f 0) → {after : List ℕ} → Put rows row (21 * o) 21 after → Filled bytes x t marks n after (o + 1)
filled_more {bytes} {x} {t} {marks} {n} {rows} {o} inv l few row made {after} put = record {
  few = omega arith;
  long = put.long ∙ inv.long;
  rowed = λ k h. go k h (dec_lt k o);
}
  where
    go : (k : ℕ) → k < o + 1 → Dec (k < o) → RowOf x t marks k bytes (λ f. field after f k)
    go k h (yes m) = row_same (λ f. field rows f k) (λ f. field after f k) (λ f s. put.old (21 * k + f) (inl (omega arith))) (inv.rowed k m)
    go k h (no m) =
        let e : o ≡ k = omega arith in
        subst (λ (j : ℕ). RowOf x t marks j bytes (λ f. field after f j)) e (row_same (λ f. get_or row f 0) (λ f. field after f o) (λ f s. put.new f s) made)

pub filled : {bytes : List ℕ} {x : Execution} {t : Operations} {marks : List (List ℕ)} {n : ℕ} {rows : List ℕ} {o : ℕ} → Filled bytes x t marks n rows o → n ≤ o → CompiledIn bytes x t marks → n ≡ operations (execution_of bytes x)
    → Bytes x.instructions.bytes → Bytes bytes → RowsMean bytes x t marks rows
filled {bytes} {x} {t} {marks} {n} {rows} {o} inv h compiled count b c = record {
  compiled = compiled;
  rowed = λ k l. inv.rowed k (omega arith);
  whole = inv.long;
  data_bytes_lem = b;
  record_bytes = c;
}
