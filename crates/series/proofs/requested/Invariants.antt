-- The loop's invariant is `Counted`: the counts so far, and what is left of the requests.
use Rattle.series.proofs.Counted.{Counted}
use Rattle.series.proofs.requested.Given as goal

abbrev pub invariant-loop-request : goal.invariant-loop-request
invariant-loop-request l = Counted l.d l.request-iterator l.counts
