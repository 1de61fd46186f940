-- Point 3 holds.
use Prim.Native.Nat.{ℕ}
use native.Mathlib.Omega.{arith}
use mathlib.Core.Path.{◌≡◌, refl, sym, ap, ◌∙◌, subst}
use mathlib.Core.Bool.{false}
use mathlib.Core.List.{List, []}
use mathlib.Core.Option.{Option, none, some}
use lib.ListN.{get_or}
use lib.Dec.{eqb}
use borrow.Author.Tests.{eqb-false}
use Rattle.model.specs.Execution.{Execution, operations}
use Rattle.model.specs.Questions.{found, read_record}
use Rattle.model.specs.Rules.{rules, keeps}
use Rattle.model.specs.Search.{Verdict, allowed, forbidden, unfinished, prefixes}
use Rattle.model.specs.Calls.{Answer, says, refuses}
use Rattle.model.specs.Courses.{Course, start, ended, course}
use Rattle.search_claim.specs.PointThree.{Left, total, CourseClaim, PointThree}
use Rattle.model.proofs.Legal.{consistent_ascend}
use Rattle.search_claim.proofs.Reach.{reach_number}
use Rattle.search_claim.proofs.Orders.{prefix_at, last_legal, none_legal}
use Rattle.search_claim.proofs.Calls.{Stage, new, midway, succeeded, exhausted, CourseInvariant, here, all_kept}

-- answers that differ in their code differ
abbrev code : Option (Answer Verdict) → ℕ
code none = 0
code (some (says unfinished)) = 1
code (some (says allowed)) = 2
code (some (says forbidden)) = 3
code (some (refuses q)) = 4

other_answer : {C : Type 0} {x y z : Option (Answer Verdict)} → x ≡ y → x ≡ z → eqb (code y) (code z) ≡ false → C
other_answer {y = y} {z} p q h = absurd (eqb-false (code y) (code z) h (ap code (sym p ∙ q)))

module _ (bytes : List ℕ) (e : Execution) (rest : List ℕ) (read : read_record bytes ≡ found e rest) (b : List ℕ) (t : Course) (k : CourseInvariant e b t) where
  -- the prefix of the enumeration that a course which has not ended leaves
  prefix_left : ended t.answer ≡ false → Left t (get_or (prefixes (operations e) (keeps (rules e))) t.sum [])
  prefix_left h =
      let (within, left) = here e t k.stage h in
      subst (Left t) (reach_number (operations e) (keeps (rules e)) (consistent_ascend e) t.sum within) left

  -- the claim, at each stage
  claims : Stage e t → CourseClaim bytes e b t
  claims (new a z left) = record {
    all_accepted = k.all_accepted;
    unfinished_when = λ called. absurd (called a);
    forbidden_when = λ called. absurd (called a);
    allowed_when = λ called. absurd (called a);
    steps_are = k.steps_are;
    unfinished_leaves = λ m. prefix_left (ap ended a);
    allowed_leaves = λ h. other_answer a h refl;
    forbidden_leaves = λ h. other_answer a h refl;
    nothing_called = λ h. left;
    buffer_length = k.buffer_length;
    buffer_bytes = k.buffer_bytes;
  }
  claims (midway a m left) = record {
    all_accepted = k.all_accepted;
    unfinished_when = λ called. (λ h. m, λ h. a);
    forbidden_when = λ called all. absurd (omega arith);
    allowed_when = λ called all. absurd (omega arith);
    steps_are = k.steps_are;
    unfinished_leaves = λ m. prefix_left (ap ended a);
    allowed_leaves = λ h. other_answer a h refl;
    forbidden_leaves = λ h. other_answer a h refl;
    nothing_called = λ h. other_answer a h refl;
    buffer_length = k.buffer_length;
    buffer_bytes = k.buffer_bytes;
  }
  claims (succeeded a all f left) = record {
    all_accepted = k.all_accepted;
    unfinished_when = λ called. (λ h. other_answer a h refl, λ m. absurd (omega arith));
    forbidden_when = λ called all. (λ h. other_answer a h refl, λ never. absurd (never (prefix_at e (total e)) (last_legal bytes e rest read f).0));
    allowed_when = λ called all. (λ h never. never (prefix_at e (total e)) (last_legal bytes e rest read f).0, λ h. a);
    steps_are = k.steps_are;
    unfinished_leaves = λ m. absurd (omega arith);
    allowed_leaves = λ h. (prefix_at e (total e), last_legal bytes e rest read f, left);
    forbidden_leaves = λ h. other_answer a h refl;
    nothing_called = λ h. other_answer a h refl;
    buffer_length = k.buffer_length;
    buffer_bytes = k.buffer_bytes;
  }
  claims (exhausted a all f left) = record {
    all_accepted = k.all_accepted;
    unfinished_when = λ called. (λ h. other_answer a h refl, λ m. absurd (omega arith));
    forbidden_when = λ called all. (λ h. none_legal bytes e rest read f, λ h. a);
    allowed_when = λ called all. (λ h. other_answer a h refl, λ one. absurd (one (none_legal bytes e rest read f)));
    steps_are = k.steps_are;
    unfinished_leaves = λ m. absurd (omega arith);
    allowed_leaves = λ h. other_answer a h refl;
    forbidden_leaves = λ h. left;
    nothing_called = λ h. other_answer a h refl;
    buffer_length = k.buffer_length;
    buffer_bytes = k.buffer_bytes;
  }

pub point_three : PointThree
point_three bytes e rest read b room calls others =
    let k = all_kept bytes e rest read b room calls others in
    claims bytes e rest read b (course bytes calls (start b)) k k.stage
