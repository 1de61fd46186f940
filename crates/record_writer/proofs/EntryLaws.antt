-- The entries of a processor, put into an array without its number.
use Prim.Native.Nat.{ℕ, zero, suc, ◌+◌, ◌*◌, ◌-◌, ◌≤◌, ◌<◌}
use native.Mathlib.Omega.{arith}
use mathlib.Core.Path.{◌≡◌, sym, ap, ◌∙◌, subst}
use mathlib.Core.Bool.{Bool, true, false, cond}
use mathlib.Core.List.{List, [], ◌∷◌, ◌++◌, append-nil, append_assoc}
use lib.ListN.{length, get_or, take, drop, length-append, length-drop, length-take}
use lib.Seq.{take_all, paste}
use lib.Dec.{eqb}
use Rattle.base.specs.Lists.{all, keep, for}
use Rattle.base.proofs.Bools.{and_parts}
use borrow.Author.Tests.{eqb-true}
use Rattle.model.specs.Sections.{section_entry_length, entries_up_to, entries_of, is_whole, all_whole, program_of}
use Rattle.record_sections.proofs.Entries.{length_range}
use Rattle.record_writer.specs.Puts.{Puts}
use Rattle.record_writer.proofs.WalkLaws.{own, own_of, own_starts, own_more, own_other, own_ends}
use Rattle.record_writer.proofs.PutLaws.{puts_none, puts_part, puts_both, puts_same}

-- The invariant of the walk: what is put and what is left make the whole, and there is room for what is left.
pub record Putting (before : List ℕ) (at : ℕ) (part : List ℕ) (p : ℕ) (out : List ℕ) (next : ℕ) (left : List (List ℕ)) : Type 0 where
  pub so_far : List ℕ
  pub whole : all is_whole left ≡ true
  pub put : Puts before at so_far out next
  pub decides : for (program_of part p) (drop 1) ≡ so_far ++ for (own_of p left) (drop 1)
  pub room : next + 19 * length (own_of p left) ≤ length out

pub putting_starts : {before : List ℕ} {at : ℕ} {part : List ℕ} {p : ℕ} {left : List (List ℕ)} → left ≡ entries_of part
    → all_whole part ≡ true → at + 19 * length (program_of part p) ≤ length before → Putting before at part p before at left
unfolding all_whole
putting_starts {before} {at} {part} {p} {left} e whole room =
    let own = own_starts part p ∙ ap (own_of p) (sym e) in
    record {
      so_far = [];
      whole = ap (all is_whole) e ∙ whole;
      put = puts_none (omega arith);
      decides = ap (λ (l : List (List ℕ)). for l (drop 1)) own;
      room = omega (arith, ap length own);
    }

module _ {before : List ℕ} {at : ℕ} {part : List ℕ} {p : ℕ} {out : List ℕ} {next : ℕ} {left after : List (List ℕ)} {entry : List ℕ}
    (inv : Putting before at part p out next left) (taken : left ≡ entry ∷ after) where
  parts : (is_whole entry ≡ true) × (all is_whole after ≡ true)
  unfolding all
  parts = and_parts (is_whole entry) (all is_whole after) (sym (ap (all is_whole) taken) ∙ inv.whole)

  -- how long the entry is
  pub entry_some : 12 ≤ length entry
  unfolding is_whole
  entry_some = omega (arith, eqb-true (length entry) (section_entry_length entry) parts.0, (length_range entry).0)

  entry_few : length entry ≤ 20
  unfolding is_whole
  entry_few = omega (arith, eqb-true (length entry) (section_entry_length entry) parts.0, (length_range entry).1)

  module _ (own : get_or entry 0 0 ≡ p) where
    more : own_of p left ≡ entry ∷ own_of p after
    more = ap (own_of p) taken ∙ own_more p entry after own

    pub putting_room : next + (length entry - 1) ≤ length out
    putting_room = omega (arith, inv.room, ap length more, entry_few)

    pub putting_more : {y : List ℕ} → y ≡ paste out next (drop 1 entry) (length entry - 1) → Putting before at part p y (next + (length entry - 1)) after
    unfolding for
    putting_more {y} e =
        let bytes = drop 1 entry in
        let n = length entry - 1 in
        let long : length bytes ≡ n = length-drop 1 entry in
        let copied : Puts out next bytes y (next + n) = puts_same (take_all n bytes (omega (arith, long))) (puts_part bytes n putting_room (omega (arith, long)) e) in
        record {
          so_far = inv.so_far ++ bytes;
          whole = parts.1;
          put = puts_both inv.put copied;
          decides =
              inv.decides ∙ ap (λ (l : List (List ℕ)). inv.so_far ++ for l (drop 1)) more ∙ sym (append_assoc inv.so_far bytes (for (own_of p after) (drop 1)));
          room = omega (arith, inv.room, ap length more, entry_few, copied.long);
        }

  pub putting_other : (get_or entry 0 0 ≡ p → ⊥) → Putting before at part p out next after
  putting_other h =
      let other : own_of p left ≡ own_of p after = ap (own_of p) taken ∙ own_other p entry after h in
      record {
        so_far = inv.so_far;
        whole = parts.1;
        put = inv.put;
        decides = inv.decides ∙ ap (λ (l : List (List ℕ)). inv.so_far ++ for l (drop 1)) other;
        room = omega (arith, inv.room, ap length other);
      }

pub putting_ends : {before : List ℕ} {at : ℕ} {part : List ℕ} {p : ℕ} {out : List ℕ} {next : ℕ} {left : List (List ℕ)}
    → Putting before at part p out next left → left ≡ [] → Puts before at (for (program_of part p) (drop 1)) out next
unfolding for
putting_ends {before} {at} {part} {p} inv e =
    puts_same
    (sym (inv.decides ∙ ap (λ (l : List (List ℕ)). inv.so_far ++ for l (drop 1)) (ap (own_of p) e ∙ own_ends p) ∙ append-nil inv.so_far))
    inv.put

-- no entry is longer than 19 bytes without its processor number
few_up_to : (p most : ℕ) (bytes : List ℕ)
    → length (for (keep (own p) (entries_up_to most bytes)) (drop 1)) ≤ 19 * length (keep (own p) (entries_up_to most bytes))
unfolding for keep entries_up_to
few_up_to p zero bytes = omega arith
few_up_to p (suc most) [] = omega arith
few_up_to p (suc most) (b ∷ bytes) =
    let n = section_entry_length (b ∷ bytes) in
    let entry = take n (b ∷ bytes) in
    more (own p entry) entry (keep (own p) (entries_up_to most (drop n (b ∷ bytes))))
    (omega (arith, length-take n (b ∷ bytes), (length_range (b ∷ bytes)).1, length-drop 1 entry))
    (few_up_to p most (drop n (b ∷ bytes)))
  where
    more : (c : Bool) (x : List ℕ) (xs : List (List ℕ)) → length (drop 1 x) ≤ 19 → length (for xs (drop 1)) ≤ 19 * length xs
        → length (for (cond c (x ∷ xs) xs) (drop 1)) ≤ 19 * length (cond c (x ∷ xs) xs)
    more true x xs h k = omega (arith, length-append (drop 1 x) (for xs (drop 1)))
    more false x xs h k = k

pub few_entry_bytes : (part : List ℕ) (p : ℕ) → length (for (program_of part p) (drop 1)) ≤ 19 * length (program_of part p)
unfolding program_of entries_of
few_entry_bytes part p = few_up_to p (length part) part
