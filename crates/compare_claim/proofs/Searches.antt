-- A search that has come to its end says whether the record has a legal order; so the searches of equal records agree.
use Prim.Native.Nat.{ℕ, ◌<◌, ◌≤◌}
use native.Mathlib.Omega.{arith}
use native.Mathlib.Decide.{dec_lt}
use mathlib.Core.Path.{◌≡◌, refl, sym, ap, ◌∙◌}
use mathlib.Core.Bool.{true, false≢true}
use mathlib.Core.List.{List}
use mathlib.Core.Logic.{◌⊎◌, inl, inr, ◌↔◌}
use mathlib.Core.Option.{Option, none, some}
use lib.ListN.{length}
use Rattle.base.proofs.Bools.{clash}
use Rattle.model.specs.Execution.{Execution, operations}
use Rattle.model.specs.Search.{Verdict, allowed, forbidden, unfinished}
use Rattle.model.specs.Calls.{Answer, says, refuses, read_all, NoneLegal}
use Rattle.model.specs.Courses.{Call, Course, start, ended, course}
use Rattle.model.proofs.Accepted.{read_found}
use Rattle.search_claim.specs.PointThree.{total, CourseClaim}
use Rattle.search_claim.proofs.Whole.{point_three}

-- an answer that ends a search
ending : (a : Option (Answer Verdict)) → ended a ≡ true → (a ≡ some (says allowed)) ⊎ (a ≡ some (says forbidden))
ending none h = absurd (false≢true h)
ending (some (says allowed)) h = inl refl
ending (some (says forbidden)) h = inr refl
ending (some (says unfinished)) h = absurd (false≢true h)
ending (some (refuses q)) h = absurd (false≢true h)

-- what a search that has ended says of the record
pub record Says (bytes : List ℕ) (answer : Option (Answer Verdict)) : Type 0 where
  pub forbidden_when : (answer ≡ some (says forbidden)) ↔ NoneLegal bytes
  pub allowed_when : (answer ≡ some (says allowed)) ↔ (NoneLegal bytes → ⊥)

claim_says : {bytes : List ℕ} {e : Execution} {b : List ℕ} {t : Course} → CourseClaim bytes e b t → ended t.answer ≡ true → Says bytes t.answer
claim_says {bytes} {e} {b} {t} claim ends = record { forbidden_when = claim.forbidden_when called whole; allowed_when = claim.allowed_when called whole }
  where
    called : t.answer ≡ none → ⊥
    called h = clash ends (ap ended h)

    whole : total e ≤ t.sum
    whole = go (dec_lt t.sum (total e))
      where
        go : Dec (t.sum < total e) → total e ≤ t.sum
        go (yes l) = clash ends (ap ended ((claim.unfinished_when called).1 l))
        go (no l) = omega arith

pub search_says : (bytes : List ℕ) (e : Execution) → read_all bytes ≡ says e → (b : List ℕ) → operations e ≤ length b → (calls : List Call)
    → (course bytes calls (start b)).refused ≡ true → ended (course bytes calls (start b)).answer ≡ true → Says bytes (course bytes calls (start b)).answer
search_says bytes e h b room calls others ends = let (rest, read) = read_found bytes e h in claim_says (point_three bytes e rest read b room calls others) ends

-- two records of one mark
pub says_agree : (left right : List ℕ) (x y : Option (Answer Verdict)) → NoneLegal left ↔ NoneLegal right → Says left x → Says right y → ended x ≡ true → x ≡ y
says_agree left right x y mark s t h = go (ending x h)
  where
    go : (x ≡ some (says allowed)) ⊎ (x ≡ some (says forbidden)) → x ≡ y
    go (inl k) = k ∙ sym (t.allowed_when.1 (λ none. s.allowed_when.0 k (mark.1 none)))
    go (inr k) = k ∙ sym (t.forbidden_when.1 (mark.0 (s.forbidden_when.0 k)))
