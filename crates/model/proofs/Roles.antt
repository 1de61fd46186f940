-- Which roles the operations of a kind have: R where it loads, LV and the RVs where it stores, F where it is a fence.
use Prim.Native.Nat.{ℕ, ◌<◌}
use mathlib.Core.Path.{◌≡◌, refl}
use mathlib.Core.Bool.{Bool, true, false, cond, ◌&&◌, false≢true}
use mathlib.Core.List.Memᴰ
use mathlib.Core.List.{[], map, Memᴰ}
use mathlib.Core.Logic.{⊎_elim}
use lib.Dec.{ltb}
use borrow.Author.Tests.{lt-ltb, ltb-true}
use Rattle.base.specs.Lists.{all, below}
use Rattle.base.proofs.Bools.{split, and_parts, and_both}
use Rattle.base.proofs.Lists.{all_member, in_below, of_below}
use Rattle.model.specs.Execution.{Kind, ld, ld_acq, st, st_rel, mf, sem_acq, sem_rel, kind_row, is_load, is_store, is_fence, Role, R, LV, F, RV, roles}

module _ (p : ℕ) where
  -- a kind has a role
  abbrev pub has_role : Kind → Role → Bool
  has_role k R = is_load k
  has_role k LV = is_store k
  has_role k F = is_fence k
  has_role k (RV q) = is_store k && ltb q p

  -- its operations before the RVs have such roles
  roles_before_remotes : (k : Kind) → all (has_role k) (kind_row k).before_remotes ≡ true
  unfolding all
  roles_before_remotes ld = refl
  roles_before_remotes ld_acq = refl
  roles_before_remotes st = refl
  roles_before_remotes st_rel = refl
  roles_before_remotes mf = refl
  roles_before_remotes sem_acq = refl
  roles_before_remotes sem_rel = refl

  remote_roles : (k : Kind) {r : Role} → Memᴰ r (cond (is_store k) (map RV (below p)) []) → has_role k r ≡ true
  remote_roles k {r} m = split (is_store k) (λ t. of_remote t (rw t at m)) (λ f. absurd (Memᴰ.not-nil (rw f at m)))
    where
      of_remote : is_store k ≡ true → Memᴰ r (map RV (below p)) → has_role k r ≡ true
      of_remote t n = let (q, mq, h) = Memᴰ.of_map RV (below p) n in rw (← h) (and_both t (lt-ltb q p (of_below p mq)))

  pub of_roles : (k : Kind) {r : Role} → Memᴰ r (roles p k) → has_role k r ≡ true
  unfolding roles
  of_roles k m = ⊎_elim (λ n. all_member (has_role k) n (roles_before_remotes k)) (remote_roles k) (Memᴰ.append_cases (kind_row k).before_remotes m)

  -- what follows for a role
  pub R_load : (k : Kind) → Memᴰ R (roles p k) → is_load k ≡ true
  R_load k m = of_roles k m

  pub LV_store : (k : Kind) → Memᴰ LV (roles p k) → is_store k ≡ true
  LV_store k m = of_roles k m

  pub RV_store : (q : ℕ) (k : Kind) → Memᴰ (RV q) (roles p k) → is_store k ≡ true
  RV_store q k m = (and_parts (is_store k) (ltb q p) (of_roles k m)).0

  pub RV_few : (q : ℕ) (k : Kind) → Memᴰ (RV q) (roles p k) → q < p
  RV_few q k m = ltb-true q p (and_parts (is_store k) (ltb q p) (of_roles k m)).1

  -- a kind has all of its roles
  before_remotes_lem : (k : Kind) {r : Role} → Memᴰ r (kind_row k).before_remotes → Memᴰ r (roles p k)
  unfolding roles
  before_remotes_lem k m = Memᴰ.append_left (cond (is_store k) (map RV (below p)) []) m

  pub R_role : (k : Kind) → is_load k ≡ true → Memᴰ R (roles p k)
  R_role k h = before_remotes_lem k (go k h)
    where
      go : (k : Kind) → is_load k ≡ true → Memᴰ R (kind_row k).before_remotes
      go ld h = Memᴰ.head refl
      go ld_acq h = Memᴰ.head refl
      go st h = absurd (false≢true h)
      go st_rel h = absurd (false≢true h)
      go mf h = absurd (false≢true h)
      go sem_acq h = Memᴰ.head refl
      go sem_rel h = Memᴰ.head refl

  pub LV_role : (k : Kind) → is_store k ≡ true → Memᴰ LV (roles p k)
  LV_role k h = before_remotes_lem k (go k h)
    where
      go : (k : Kind) → is_store k ≡ true → Memᴰ LV (kind_row k).before_remotes
      go ld h = absurd (false≢true h)
      go ld_acq h = absurd (false≢true h)
      go st h = Memᴰ.head refl
      go st_rel h = Memᴰ.head refl
      go mf h = absurd (false≢true h)
      go sem_acq h = Memᴰ.tail (Memᴰ.head refl)
      go sem_rel h = Memᴰ.tail (Memᴰ.head refl)

  pub RV_role : (k : Kind) (q : ℕ) → q < p → is_store k ≡ true → Memᴰ (RV q) (roles p k)
  unfolding roles
  RV_role k q l h = rw h (Memᴰ.append_right (kind_row k).before_remotes (Memᴰ.map RV (in_below p q l)))

-- a fence neither loads nor stores
pub load_no_fence : (k : Kind) → is_load k ≡ true → is_fence k ≡ false
load_no_fence ld h = refl
load_no_fence ld_acq h = refl
load_no_fence st h = refl
load_no_fence st_rel h = refl
load_no_fence mf h = absurd (false≢true h)
load_no_fence sem_acq h = refl
load_no_fence sem_rel h = refl

pub store_no_fence : (k : Kind) → is_store k ≡ true → is_fence k ≡ false
store_no_fence ld h = refl
store_no_fence ld_acq h = refl
store_no_fence st h = refl
store_no_fence st_rel h = refl
store_no_fence mf h = absurd (false≢true h)
store_no_fence sem_acq h = refl
store_no_fence sem_rel h = refl
