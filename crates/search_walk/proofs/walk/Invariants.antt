-- Each turn refuses a candidate or takes an entry away; the first candidate that is open and not refused is the answer.
use Prim.Native.Nat.{◌*◌, ◌-◌}
use Rattle.search_walk.proofs.Search.{Search}
use lib.ListN.{take}
use Rattle.search_walk.proofs.walk.Given as goal

abbrev pub invariant-loop : goal.invariant-loop
invariant-loop l =
    Search l.n l.rows (take l.size l.initial.position) l.size l.position l.places l.levels l.words l.replaced l.candidates l.k l.c (l.n * l.n - l.counter)
