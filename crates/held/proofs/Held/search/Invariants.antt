-- The loop keeps `Seeking`: none of those tested so far contains the request, the rest is left to search, and there are copies of
-- those tested.
use Rattle.rules.specs.Words.{num}
use Rattle.rules.specs.Table.{store}
use Rattle.held.proofs.Searching.{Seeking}
use Rattle.held.proofs.Held.search.Given as goal

abbrev pub invariant-loop-i : goal.invariant-loop-i
invariant-loop-i l = Seeking (store l.table.bytes.now) (num l.procedure) l.kind.0 l.request l.number l.self l.i
