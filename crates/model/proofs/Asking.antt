-- What follows an answer, a refusal, and a question of a call's own.
use Prim.Native.Nat.{ℕ}
use mathlib.Core.Path.{◌≡◌}
use mathlib.Core.Bool.{Bool, true, false}
use Rattle.model.specs.Calls.{Answer, says, refuses, and_then, asks}

module _ {A B : Type 0} where
  pub after_says : {m : Answer A} {a : A} (f : A → Answer B) → m ≡ says a → f a ≡ and_then m f
  unfolding and_then
  after_says f h = rw h

  pub after_refuses : {m : Answer A} {q : ℕ} (f : A → Answer B) → m ≡ refuses q → refuses q ≡ and_then m f
  unfolding and_then
  after_refuses f h = rw h

module _ {B : Type 0} (q : ℕ) {b : Bool} (answer : Answer B) where
  pub asked_yes : b ≡ true → answer ≡ and_then (asks q b) (λ _. answer)
  unfolding and_then asks
  asked_yes h = rw h

  pub asked_no : b ≡ false → refuses q ≡ and_then (asks q b) (λ _. answer)
  unfolding and_then asks
  asked_no h = rw h
