-- A byte of a load under other numbers: it is seen as it was.
use Prim.Native.Nat.{ℕ}
use mathlib.Core.Path.{◌≡◌, refl}
use mathlib.Core.Bool.{◌&&◌}
use mathlib.Core.List.{List, map, Memᴰ}
use Rattle.base.proofs.Lists.{of_keep}
use Rattle.model.specs.Rules.{before, Writer, Sight, sees, local, latest, byte_read, broken}
use Rattle.renumbered_marks.proofs.Carried.{before_carried, member_carried, latest_carried, BrokenAlike}
use Rattle.renumbered_marks.proofs.Carries.{Carries, table, any_carried, keep_carries, byte_carried}

abbrev pub carried : (ℕ → ℕ) → Writer → Writer
carried π w = record { own = w.own; lv = π w.lv; rv = π w.rv; wrote = w.wrote }

-- a sight under other numbers, with these writers
abbrev pub sight_with : (ℕ → ℕ) → Sight → List Writer → Sight
sight_with π s writers = record { reads = π s.reads; writers = writers; initial = s.initial; seen = s.seen }

-- where they are its writers under other numbers, in any order
module _ (π : ℕ → ℕ) (one : (a b : ℕ) → π a ≡ π b → a ≡ b) (s : Sight) (writers : List Writer) (c : Carries (carried π) s.writers writers)
    (lv_one : (w u : Writer) → Memᴰ w s.writers → Memᴰ u s.writers → w.lv ≡ u.lv → w.wrote ≡ u.wrote)
    (rv_one : (w u : Writer) → Memᴰ w s.writers → Memᴰ u s.writers → w.rv ≡ u.rv → w.wrote ≡ u.wrote) where
  local_carried : (xs : List ℕ) → local (map π xs) (sight_with π s writers) ≡ local xs s
  unfolding local
  local_carried xs = any_carried c
      (λ w. w.own && (before xs w.lv s.reads && before xs s.reads w.rv))
      (λ w. w.own && (before (map π xs) w.lv (π s.reads) && before (map π xs) (π s.reads) w.rv))
      (λ w m. rw (before_carried π one xs w.lv s.reads, before_carried π one xs s.reads w.rv))

  latest_read : (key : Writer → ℕ) → ((w : Writer) → key (carried π w) ≡ π (key w)) → {l m : List Writer} → Carries (carried π) l m
      → ((w u : Writer) → Memᴰ w l → Memᴰ u l → key w ≡ key u → w.wrote ≡ u.wrote) → (xs : List ℕ)
      → latest (table key (λ w. w.wrote) m) (π s.reads) s.initial (map π xs) ≡ latest (table key (λ w. w.wrote) l) s.reads s.initial xs
  latest_read key keys {l} {m} k key_one xs =
      latest_carried π one (table key (λ w. w.wrote) l) (table key (λ w. w.wrote) m) (byte_carried k π one key (λ w. w.wrote) keys (λ w. refl) key_one) s.reads s.initial xs

  read_carried : (xs : List ℕ) → byte_read (map π xs) (sight_with π s writers) ≡ byte_read xs s
  unfolding byte_read
  read_carried xs =
      rw (
        local_carried xs,
        latest_read (λ w. w.lv) (λ w. refl) (keep_carries c (λ w. w.own) (λ w. w.own) (λ w m. refl))
            (λ w u mw mu. lv_one w u (of_keep (λ w. w.own) s.writers mw).0 (of_keep (λ w. w.own) s.writers mu).0) xs,
        latest_read (λ w. w.rv) (λ w. refl) c rv_one xs,
      )

  pub sees_alike : BrokenAlike π (sees s) (sees (sight_with π s writers))
  unfolding broken
  sees_alike xs = rw (member_carried π one xs s.reads, read_carried xs)
