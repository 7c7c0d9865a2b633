-- The loop keeps `Following`: the places before have their keys.
use Rattle.lists.proofs.ListRows.{Following}
use Rattle.lists.proofs.places_follow.Given as goal

abbrev pub invariant-loop-i : goal.invariant-loop-i
invariant-loop-i l = Following l.table l.list l.last l.i
