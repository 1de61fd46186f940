-- The words passed are as recorded; the first that is not decides.
use Prim.Native.Nat.{◌≤◌}
use Rattle.base.proofs.Tests.{Passed}
use Rattle.search_admit.specs.Fits.{word_recorded}
use Rattle.search_admit.proofs.reads_words.Given as goal

abbrev pub invariant-loop-h : goal.invariant-loop-h
invariant-loop-h l = (l.n ≤ 2) × Passed l.n (word_recorded l.rows l.stand.lo l.stand.hi l.words l.x.0) l.h
