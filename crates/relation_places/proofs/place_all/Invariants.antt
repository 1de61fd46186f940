-- Each turn places one entry; an entry that is no operation, or stands already, decides.
use Rattle.relation_places.proofs.PlaceLaws.{Placing_so_far}
use Rattle.relation_places.proofs.place_all.Given as goal

abbrev pub invariant-loop-k : goal.invariant-loop-k
invariant-loop-k l = Placing_so_far l.n l.order l.k l.places
