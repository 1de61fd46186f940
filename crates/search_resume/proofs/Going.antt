-- A search on its way: what is left of it decides the whole.
use Prim.Native.Nat.{ℕ, suc, ◌+◌, ◌-◌, ◌≤◌, ◌<◌}
use native.Mathlib.Omega.{arith}
use mathlib.Core.Path.{◌≡◌, sym, ap, ◌∙◌, subst}
use mathlib.Core.Bool.{Bool, true}
use mathlib.Core.List.{List}
use lib.ListN.{length, take}
use lib.Seq.{length-take-le}
use Rattle.model.specs.Search.{Outcome, allowed, forbidden, unfinished, search_from}
use Rattle.search_admit.specs.Fits.{Tested}
use Rattle.search_walk.specs.declared.Level.{Level}
use Rattle.search_walk.specs.Walks.{Closed, Passes, Kept, Walked}
use Rattle.std.specs.Prelude.{Option, Some, None}
use Rattle.search_resume.specs.Replies.{onward}
use Rattle.search_resume.proofs.Onward.{onward_starts, onward_full, onward_more, onward_spent, onward_none}

-- what the search comes to, whatever test its rows stand for
abbrev pub Comes : ℕ → List ℕ → List ℕ → ℕ → Outcome → Type 0
Comes n rows given allowance o = (c : List ℕ → Bool) → Tested c n rows → Closed c → c given ≡ true → o ≡ search_from n c given allowance

-- The invariant: `made` steps have led to the first k entries.
pub record Going (n : ℕ) (rows given : List ℕ) (allowance : ℕ) (levels : List Level) (entries places words replaced : List ℕ) (k made : ℕ) : Type 0 where
  pub few : n ≤ 128
  pub room : k < n
  pub allows : made ≤ allowance
  pub whole : length entries ≡ 128
  pub long : length places ≡ 128
  pub wide : length words ≡ 128
  pub kept : Kept n rows entries places levels words replaced k
  pub rest : (c : List ℕ → Bool) → Tested c n rows → Closed c → c given ≡ true
      → Passes c n (take k entries) × (search_from n c given allowance ≡ onward made given (search_from n c (take k entries) (allowance - made)))

pub going_starts : {n : ℕ} {rows : List ℕ} {allowance : ℕ} {levels : List Level} {entries places words replaced : List ℕ} {k : ℕ} → n ≤ 128 → k < n → length entries ≡ 128
    → length places ≡ 128 → length words ≡ 128 → Kept n rows entries places levels words replaced k
    → Going n rows (take k entries) allowance levels entries places words replaced k 0
going_starts {n} {rows} {allowance} {levels} {entries} {k = k} f r w l v h = record {
  few = f;
  room = r;
  allows = omega arith;
  whole = w;
  long = l;
  wide = v;
  kept = h;
  rest = λ c tested closed passes. (
    (passes, h.placed.different),
    onward_starts n c closed (take k entries) allowance
        ∙ ap (λ (a : ℕ). onward 0 (take k entries) (search_from n c (take k entries) a)) (let z : allowance ≡ allowance - 0 = omega arith in z),
  );
}

module _ {n : ℕ} {rows given : List ℕ} {allowance : ℕ} {levels : List Level} {entries places words replaced : List ℕ} {k made : ℕ} (inv : Going n rows given allowance levels entries places words replaced k made)
    {r : Option ℕ} {entries' places' : List ℕ} {levels' : List Level} {words' replaced' : List ℕ} (walked : Walked n rows (take k entries) r entries' places' levels' words' replaced') where
  short : length (take k entries) < n
  short = omega (arith, inv.room, length-take-le k entries (omega (arith, inv.room, inv.few, inv.whole)))

  known : {a : Option ℕ} → r ≡ a → Walked n rows (take k entries) a entries' places' levels' words' replaced'
  known e = subst (λ (a : Option ℕ). Walked n rows (take k entries) a entries' places' levels' words' replaced') e walked

  -- nothing is left
  pub going_ends : r ≡ None → Comes n rows given allowance (record { verdict = forbidden; steps = made; position = given })
  going_ends e c tested closed passes =
      let (on, rest) = inv.rest c tested closed passes in
      sym (rest ∙ onward_none n c closed given (take k entries) on short made (allowance - made) ((known e).means c tested closed on.0))

  module _ (size : ℕ) (e : r ≡ Some size) where
    size_taken : length (take size entries') ≡ size
    size_taken = let (f, w, l, v, h) = (known e).ready in length-take-le size entries' (omega (arith, f, w, inv.few))

    pub going_whole : length entries' ≡ 128
    going_whole = (known e).ready.1

    -- the next prefix is full
    pub going_found : made < allowance → size ≡ n → Comes n rows given allowance (record { verdict = allowed; steps = made + 1; position = take size entries' })
    going_found l full c tested closed passes =
        let (on, rest) = inv.rest c tested closed passes in
        sym (rest
        ∙ ap (λ (a : ℕ). onward made given (search_from n c (take k entries) a)) (let z : allowance - made ≡ suc (allowance - made - 1) = omega arith in z)
        ∙ onward_full n c closed given (take k entries) on short (take size entries') made (allowance - made - 1) ((known e).means c tested closed on.0) (size_taken ∙ full)
        ∙ ap (λ (m : ℕ). record { verdict = allowed; steps = m; position = take size entries' }) (let z : suc made ≡ made + 1 = omega arith in z))

    -- it is not
    pub going_on : made < allowance → (size ≡ n → ⊥) → Going n rows given allowance levels' entries' places' words' replaced' size (made + 1)
    going_on l more =
        let (f, w, g, v, h) = (known e).ready in
        record {
          few = inv.few;
          room = omega (arith, f, more);
          allows = omega arith;
          whole = w;
          long = g;
          wide = v;
          kept = h;
          rest = λ c tested closed passes.
              let (on, rest) = inv.rest c tested closed passes in
              let next = (known e).means c tested closed on.0 in (
                next.passes,
                rest
                    ∙ ap (λ (a : ℕ). onward made given (search_from n c (take k entries) a)) (let z : allowance - made ≡ suc (allowance - (made + 1)) = omega arith in z)
                    ∙ onward_more n c closed given (take k entries) on short (take size entries') made (allowance - (made + 1)) next (omega (arith, f, more, size_taken))
                    ∙ ap (λ (m : ℕ). onward m given (search_from n c (take size entries') (allowance - (made + 1)))) (let z : suc made ≡ made + 1 = omega arith in z),
              );
        }

    -- no allowance is left
    pub going_spent : allowance ≤ made → Comes n rows given allowance (record { verdict = unfinished; steps = made; position = take k entries })
    going_spent l c tested closed passes =
        let (on, rest) = inv.rest c tested closed passes in
        sym (rest
        ∙ ap (λ (a : ℕ). onward made given (search_from n c (take k entries) a)) (let z : allowance - made ≡ 0 = omega arith in z)
        ∙ onward_spent n c closed given (take k entries) on short (take size entries') made ((known e).means c tested closed on.0))
