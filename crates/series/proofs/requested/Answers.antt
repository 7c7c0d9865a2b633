-- The loop's invariant is `Counted`: the counts so far, and what is left of the requests.
use Rattle.series.proofs.Counted.{counted-below, counted-more, counted-all}
use Rattle.series.proofs.requested.Goals as goal

pub bounds-counts-from : goal.bounds-counts-from
bounds-counts-from c = rw c.from.ensures (counted-below c.in-Some.ensures.steps)

pub bounds-counts-from-in-loop-request : goal.bounds-counts-from-in-loop-request
bounds-counts-from-in-loop-request c = rw c.from.ensures (counted-below c.in-Some.ensures.steps)

pub loop-request-preserved : goal.loop-request-preserved
loop-request-preserved c = rw c.from.ensures (counted-more c.loop-request.invariant c.in-Some.ensures.steps)

pub returns : goal.returns
returns c = counted-all c.loop-request.invariant c.in-None.ensures.steps.0
