-- The loop keeps `Seeking`: none of those tested so far contains the request, the rest is left to search, and there are copies of
-- those tested.
use Rattle.std.proofs.Common.{rules}
use Rattle.held.proofs.Searching.{seek-start, comparable, seek-later, seek_found, seek-end}
use Rattle.held.proofs.Held.search.Goals as goal

pub loop-i-init : goal.loop-i-init
loop-i-init c = seek-start c.requires.search_needs c.turn_to.ensures c.requires.reached

pub within-requires : goal.within-requires
within-requires c =
    comparable c.loop-i.invariant c.loop-i-test.true c.read_next.ensures (search rules) c.requires.search_needs

pub returns-then-within : goal.returns-then-within
returns-then-within c =
    seek_found c.loop-i.invariant c.loop-i-test.true c.read_next.ensures c.within.ensures c.if-within.true

pub loop-i-preserved : goal.loop-i-preserved
loop-i-preserved c =
    seek-later c.loop-i.invariant c.loop-i-test.true c.read_next.ensures c.within.ensures c.if-within.false

pub returns : goal.returns
returns c = seek-end c.loop-i.invariant c.loop-i-test.false
